-- The names that the lines of a schedule give to processes: `name`, the number of a process, and
-- its name.
use Rattle.std.specs.Prelude.{ℕ, zero, suc, Bool, false, ◌&&◌, ◌||◌, List, [], ◌∷◌, length, nat_eq, nat_le, codes, Option, Some, None, is_some, option_map, if◌then◌else◌}
use Rattle.std.specs.Char.{is_ascii_alphanumeric}
use Rattle.std.specs.Fmt.{decimal}
use Rattle.std.specs.List.{list_all}
use Rattle.std.specs.Str.{bytes_eq}
use Rattle.tx_lines.specs.declared.read.header.TextKind.TheVariants.{Schedule, Program}
use Rattle.tx_translate.specs.Words.{words_in}
use Rattle.tx_translate.specs.declared.names.Naming.{Naming}
use Rattle.tx_translate.specs.declared.stage.Stage.{Stage}
use Rattle.tx_translate.specs.declared.stage.Stage.TheVariants.{Heading, Within}

-- a letter, a digit, `.`, `_`, `+` or `-`
abbrev pub is_name_byte : ℕ → Bool
is_name_byte byte =
    is_ascii_alphanumeric byte
    || (nat_eq byte 46 || (nat_eq byte 95 || (nat_eq byte 43 || nat_eq byte 45)))

-- 1 to 16 of these
abbrev pub is_name : List ℕ → Bool
is_name word = nat_le 1 (length word) && (nat_le (length word) 16 && list_all is_name_byte word)

-- the number from 1 to a last one that a word spells
abbrev pub process_upto : ℕ → List ℕ → Option ℕ
process_upto zero word = None
process_upto (suc n) word =
    if bytes_eq word (decimal (suc n)) then Some (suc n) else process_upto n word

-- the number of a process, 1 to 256, that a word spells
unfoldable pub process_in : List ℕ → Option ℕ
process_in word = process_upto 256 word

-- the process that two words give a name to, and the name
abbrev pub named_as : List ℕ → List ℕ → Option (ℕ × List ℕ)
named_as number name =
    if is_name name then option_map (λ process. (process, name)) (process_in number) else None

abbrev pub named_by : List (List ℕ) → Option (ℕ × List ℕ)
named_by [] = None
named_by (number ∷ []) = None
named_by (number ∷ name ∷ []) = named_as number name
named_by (number ∷ name ∷ more ∷ words) = None

-- the process that a line gives a name to, and the name, by its first word and those after it
abbrev pub naming_of : List ℕ → List (List ℕ) → Option (ℕ × List ℕ)
naming_of first others = if bytes_eq first (codes "name") then named_by others else None

abbrev pub naming_by : List (List ℕ) → Option (ℕ × List ℕ)
naming_by [] = None
naming_by (first ∷ others) = naming_of first others

abbrev pub naming_in : List ℕ → Option (ℕ × List ℕ)
naming_in line = naming_by (words_in line)

-- the same, as a naming knows it
abbrev pub named : Naming → ℕ × List ℕ
named naming = (naming.process.0, naming.name.now)

-- whether a line gives a name to a process at that stage of a text: after the header of a schedule
abbrev pub names_process : Stage → List ℕ → List (List ℕ) → Bool
names_process Heading first others = false
names_process (Within Program) first others = false
names_process (Within Schedule) first others = is_some (naming_of first others)
