-- The lines that a text of any version means, from one of them on.
use Rattle.std.specs.Prelude.{◌≡◌, ℕ, ◌+◌, ◌-◌, ◌^◌, ◌<◌, min, List, [], length, is_some, slice_index_or, Option, Some, None}
use Rattle.tx_lines.specs.Schedule.{after_line, first_line}
use Rattle.tx_translate.specs.Lines.{plain_line}
use Rattle.tx_translate.specs.Meant.{own_line}
use Rattle.tx_translate.specs.OwnLines.{own_lines}
use Rattle.tx_translate.specs.Plain.{bare, is_third, line_in, numbers_from, plain_from}
use Rattle.tx_translate.specs.declared.meant_lines.MeantLines.{MeantLines}
use Rattle.tx_translate.specs.declared.meant_lines.OwnLine.{OwnLine}
use Rattle.tx_translate.specs.declared.stage.Stage.{Stage}

-- what follows the first line of a text
abbrev pub behind_by : Option (List ℕ) → List ℕ
behind_by None = []
behind_by (Some rest) = rest

abbrev pub behind : List ℕ → List ℕ
behind text = behind_by (after_line text)

-- what is meant by what is left of a text: itself where it is none of version 3
abbrev pub meant_by : Option Stage → List ℕ → List ℕ
meant_by None left = left
meant_by (Some stage) left = plain_from stage (own_lines left)

abbrev pub left_of : MeantLines → List ℕ
left_of lines = meant_by lines.stage lines.left.now

-- the line that a line means
abbrev pub line_by : Option Stage → List ℕ → List ℕ
line_by None line = line
line_by (Some stage) line = bare (plain_line stage line)

abbrev pub line_of : OwnLine → List ℕ
line_of line = line_by line.stage line.bytes.now

-- the line is the first that is left, and that is left after it
pub record IsNextLine (left : List ℕ) (line : OwnLine) (rest : List ℕ) : Type 0 where
  pub bytes : line_of line ≡ first_line left
  pub ended : line.is_ended ≡ is_some (after_line left)
  pub behind : rest ≡ behind left

-- some lines of a text of version 3 mean its meant lines from that number on; the first of them has
-- that own number
abbrev pub MeanFrom : List ℕ → ℕ → Stage → ℕ → List (List ℕ) → Type 0
MeanFrom text number stage own lines =
    (k : ℕ)
    → line_in text (number + k)
    ≡ slice_index_or (numbers_from stage own lines) k (own + length lines)

-- the own lines have their numbers in the text, where that one is meant first
abbrev pub AreOwnFrom : Option Stage → List ℕ → ℕ → MeantLines → Type 0
AreOwnFrom None text number lines = lines.number ≡ min number (2 ^ 64 - 1)
AreOwnFrom (Some stage) text number lines =
    MeanFrom text number stage lines.number (own_lines lines.left.now)
    × (lines.number + length lines.left.now < 2 ^ 64)

pub record OwnsFrom (text : List ℕ) (number : ℕ) (lines : MeantLines) : Type 0 where
  pub third : is_third text ≡ is_some lines.stage
  pub own : AreOwnFrom lines.stage text number lines

-- the line is the own line of that meant one, and those after it are of the meant ones after that
pub record OwnsNext (text : List ℕ) (number : ℕ) (line : OwnLine) (rest : MeantLines) : Type 0 where
  pub own : number < 2 ^ 64 → line.number ≡ own_line text number
  pub behind : OwnsFrom text (number + 1) rest
