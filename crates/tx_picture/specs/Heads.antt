-- The numbers of the processes above their columns, and their names.
use Rattle.std.specs.Prelude.{ℕ, zero, suc, ◌+◌, ◌*◌, List, [], ◌++◌, codes, Option, Some, None}
use Rattle.std.specs.Fmt.{decimal}
use Rattle.std.specs.List.{flat_map}
use Rattle.tx_base.specs.declared.names.Pid.{Pid}
use Rattle.tx_picture.specs.Captions.{name_of, short}
use Rattle.tx_picture.specs.Layout.{heads_y, x_of}
use Rattle.tx_picture.specs.Sheets.{Page}
use Rattle.tx_picture.specs.Svg.{titled_text, words_text}

-- a name, of which up to 8 bytes are shown
abbrev pub named_text : ℕ → ℕ → Option (List ℕ) → List ℕ
named_text x y None = []
named_text x y (Some name) = titled_text (codes "name") x y (short 8 name) name

-- the name of the process of a number that is there after the first k steps, in its column
abbrev pub name_text : Page → ℕ → ℕ → Pid → List ℕ
name_text page k y process =
    named_text (x_of page.columns process.0) y (name_of page.captioned process.0 k)

-- the number of a process, above its column or again in it, and the name that it has there: before
-- that line are so many times 40 rows
abbrev pub head_text : Page → ℕ → Pid → List ℕ
head_text page line process =
    words_text (codes "head") (x_of page.columns process.0) (heads_y line) (decimal process.0)
    ++ name_text page (page.before + 40 * line) (heads_y line + 10) process

-- a line of numbers, with what they are
abbrev pub heads_text : Page → ℕ → List ℕ
heads_text page line =
    words_text (codes "number") 64 (heads_y line) (codes "process")
    ++ flat_map (head_text page line) page.columns

-- so many of these lines, one above each 40 rows
abbrev pub heads_upto : Page → ℕ → List ℕ
heads_upto page zero = []
heads_upto page (suc count) = heads_upto page count ++ heads_text page count
