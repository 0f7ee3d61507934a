-- Where things are in a picture, in pixels. A column is 48 wide, and a row 24 high. The numbers of
-- the processes are above the first row, and again above each 40 rows more.
use Rattle.std.specs.Prelude.{ℕ, ◌+◌, ◌*◌, ◌-◌, ◌/◌, Bool, List, length, min, if◌then◌else◌, nat_lt}
use Rattle.tx_base.specs.declared.names.Pid.{Pid}
use Rattle.tx_picture.specs.Columns.{column_of}

-- the middle of the column of process p
abbrev pub x_of : List Pid → ℕ → ℕ
x_of columns p = 96 + 48 * column_of columns p

-- where the texts begin, to the right of the columns
abbrev pub words_left : List Pid → ℕ
words_left columns = 96 + 48 * min (length columns) 1000

-- whether there are so many columns that the texts are to their left too
abbrev pub is_wide : List Pid → Bool
is_wide columns = nat_lt 24 (length columns)

-- where the line to the texts begins, of a step whose mark is there
abbrev pub guide_left : List Pid → ℕ → ℕ
guide_left columns x = if is_wide columns then 72 else x

-- how often the numbers of the processes come again above a row
abbrev pub heads_above : ℕ → ℕ
heads_above row = (row - 1) / 40

-- the middle of a row; each of these lines of numbers is two rows high
abbrev pub y_of : ℕ → ℕ
y_of row = 52 + 24 * row + 48 * heads_above row

-- where they are above 40 rows, before which there are so many times 40
abbrev pub heads_y : ℕ → ℕ
heads_y before = 28 + 1008 * before
