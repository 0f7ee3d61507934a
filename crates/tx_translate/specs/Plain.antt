-- The text of version 2 that a text of version 3 means, and where its lines come from.
use Rattle.std.specs.Prelude.{◌≡◌, ℕ, ◌+◌, ◌-◌, Bool, false, ◌&&◌, List, [], ◌∷◌, ◌++◌, length, slice_index_or, nat_eq, codes, Option, Some, None, if◌then◌else◌}
use Rattle.std.specs.Str.{bytes_eq}
use Rattle.tx_translate.specs.Lines.{plain_line, stage_after}
use Rattle.tx_translate.specs.OwnLines.{own_lines}
use Rattle.tx_translate.specs.Words.{words_in}
use Rattle.tx_translate.specs.declared.plain.Plain.{Plain}
use Rattle.tx_translate.specs.declared.stage.Stage.{Stage}
use Rattle.tx_translate.specs.declared.stage.Stage.TheVariants.{Heading}

-- whether the first of some words is that word
abbrev pub begins_with : List ℕ → List (List ℕ) → Bool
begins_with word [] = false
begins_with word (first ∷ others) = bytes_eq first word

-- whether the words of a line are those of a header of version 3; where it has none, the lines
-- after it decide
abbrev pub is_header_or : Bool → List (List ℕ) → Bool
is_header_or later [] = later
is_header_or later (first ∷ others) =
    bytes_eq first (codes "txos") && begins_with (codes "3") others

-- whether the first line that has a word is a header of version 3
abbrev pub is_third_from : List (List ℕ) → Bool
is_third_from [] = false
is_third_from (line ∷ lines) = is_header_or (is_third_from lines) (words_in line)

abbrev pub is_third : List ℕ → Bool
is_third text = is_third_from (own_lines text)

-- a line without its end, where there is one
abbrev pub bare : Option (List ℕ) → List ℕ
bare None = []
bare (Some line) = line

-- a line with its end, where there is one
abbrev pub ended : Option (List ℕ) → List ℕ
ended None = []
ended (Some line) = line ++ 10 ∷ []

-- the lines that some lines mean
abbrev pub plain_from : Stage → List (List ℕ) → List ℕ
plain_from stage [] = []
plain_from stage (line ∷ lines) =
    ended (plain_line stage line) ++ plain_from (stage_after stage (words_in line)) lines

-- the text of version 2 that a text of version 3 means
abbrev pub plain_of : List ℕ → List ℕ
plain_of text = plain_from Heading (own_lines text)

-- the number of a line before others, where it means one
abbrev pub numbered : ℕ → Option (List ℕ) → List ℕ → List ℕ
numbered number None numbers = numbers
numbered number (Some line) numbers = number ∷ numbers

-- the numbers of the lines that mean one
abbrev pub numbers_from : Stage → ℕ → List (List ℕ) → List ℕ
numbers_from stage number [] = []
numbers_from stage number (line ∷ lines) =
    numbered number (plain_line stage line)
    (numbers_from (stage_after stage (words_in line)) (number + 1) lines)

abbrev pub numbers_of : List ℕ → List ℕ
numbers_of text = numbers_from Heading 1 (own_lines text)

-- the number of the line that means a line of the plain text, from 1; that after the last for what
-- comes after the last, and 0 for the text as a whole
abbrev pub line_among : List ℕ → ℕ → ℕ → ℕ
line_among numbers after number =
    if nat_eq number 0 then 0 else slice_index_or numbers (number - 1) after

abbrev pub line_in : List ℕ → ℕ → ℕ
line_in text number = line_among (numbers_of text) (length (own_lines text) + 1) number

-- the same, as a plain text knows it
abbrev pub own_line_of : Plain → ℕ → ℕ
own_line_of plain number = line_among plain.numbers.items plain.after number

-- the plain text of that text, which knows where its lines come from
pub record IsPlainOf (text : List ℕ) (plain : Plain) : Type 0 where
  pub bytes : plain.text.items ≡ plain_of text
  pub lines : (number : ℕ) → own_line_of plain number ≡ line_in text number
