-- Which kind a text is meant to be.
use Rattle.std.specs.Prelude.{ℕ, Bool, false, ◌&&◌, ◌||◌, List, [], ◌∷◌, Option, Some, None, nat_eq, codes, if◌then◌else◌}
use Rattle.std.specs.Str.{bytes_eq}
use Rattle.tx_check.specs.declared.kinds.Kind.{Kind}
use Rattle.tx_check.specs.declared.kinds.Kind.TheVariants.{Schedule, Walk, Program}
use Rattle.tx_lines.specs.Schedule.{first_line}
use Rattle.tx_lines.specs.Walks.{debug_line}
use Rattle.tx_lines.specs.Words.{first_word}
use Rattle.tx_lines.specs.declared.read.header.TextKind.{TextKind}
use Rattle.tx_lines.specs.declared.read.header.TextKind.TheVariants as texts

-- the word before the first space, or the whole line where there is no space
abbrev pub front_by : List ℕ → Option (List ℕ × List ℕ) → List ℕ
front_by line None = line
front_by line (Some parts) = parts.0

abbrev pub front_word : List ℕ → List ℕ
front_word line = front_by line (first_word line)

-- what follows the first space, and nothing where there is none
abbrev pub rest_by : Option (List ℕ × List ℕ) → List ℕ
rest_by None = []
rest_by (Some parts) = parts.1

abbrev pub rest_of : List ℕ → List ℕ
rest_of line = rest_by (first_word line)

-- whether a line begins with `txos`, a word, and `program`
abbrev pub is_program_head : List ℕ → Bool
is_program_head line =
    bytes_eq (front_word line) (codes "txos")
    && bytes_eq (front_word (rest_of (rest_of line))) (codes "program")

-- whether the first line of a text is the one before commands
abbrev pub begins_with_debug : List ℕ → Bool
begins_with_debug text = bytes_eq (first_line text) debug_line

-- whether a line after the first is
abbrev pub has_debug : List ℕ → Bool
has_debug [] = false
has_debug (byte ∷ bytes) = (nat_eq byte 10 && begins_with_debug bytes) || has_debug bytes

-- whether the line before commands is among some lines
abbrev pub debug_ahead : List ℕ → Bool
debug_ahead left = begins_with_debug left || has_debug left

-- the kind of a text: a program by its first line; else a schedule with commands where a line
-- `debug` follows; else a schedule
abbrev pub kind_of : List ℕ → Kind
kind_of text =
    if is_program_head (first_line text) then Program else if has_debug text then Walk else Schedule

-- the kind of header that such a text has
abbrev pub head_of : Kind → TextKind
head_of Program = texts.Program
head_of _ = texts.Schedule
