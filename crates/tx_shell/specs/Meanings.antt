-- What a line means.
use Rattle.std.specs.Prelude.{ℕ, ◌+◌, ◌-◌, Bool, not, ◌&&◌, ◌||◌, List, [], ◌∷◌, ◌++◌, Option, None, Some, codes, drop, length, nat_lt, option_map, if◌then◌else◌}
use Rattle.std.specs.Fmt.{decimal}
use Rattle.std.specs.Str.{bytes_eq}
use Rattle.tx_lines.specs.Schedule.{first_line}
use Rattle.tx_lines.specs.declared.read.header.TextKind.TheVariants.{Schedule}
use Rattle.tx_translate.specs.Lines.{plain_line}
use Rattle.tx_translate.specs.Names.{naming_in}
use Rattle.tx_translate.specs.OwnLines.{without_return}
use Rattle.tx_translate.specs.Words.{columns_in, words_in}
use Rattle.tx_translate.specs.declared.stage.Stage.TheVariants.{Within}
use Rattle.tx_shell.specs.declared.lines.meanings.Words.{Words}
use Rattle.tx_shell.specs.declared.lines.meanings.Words.TheVariants.{Lent, Made}
use Rattle.tx_shell.specs.declared.lines.versions.TextVersion.{TextVersion}
use Rattle.tx_shell.specs.declared.lines.versions.TextVersion.TheVariants.{One, Two, Three}

-- a word, and the step after it where there is one
abbrev pub with_step : List ℕ → Option (List ℕ) → List ℕ
with_step word None = word
with_step word (Some step) = word ++ 32 ∷ step

-- the first of some things, or another where there are none
abbrev pub first_or : {A : Type 0} → A → List A → A
first_or other [] = other
first_or other (x ∷ xs) = x

-- the first word of a line
abbrev pub first_word : List ℕ → List ℕ
first_word line = first_or [] (words_in line)

-- what is left of a line after its first word
abbrev pub after_word : List ℕ → List ℕ
after_word line = drop (first_or 1 (columns_in line) - 1 + length (first_word line)) line

-- whether a word asks about the step after it
abbrev pub asks_of_step : List ℕ → Bool
asks_of_step word = bytes_eq word (codes "try") || bytes_eq word (codes "why")

-- the words that give a name to a process
abbrev pub naming_words : ℕ × List ℕ → List ℕ
naming_words named = codes "name " ++ (decimal named.0 ++ 32 ∷ named.1)

-- what a line means, or where it means none, which name it gives to a process
abbrev pub or_naming : Option (List ℕ) → Option (ℕ × List ℕ) → Option (List ℕ)
or_naming (Some words) naming = Some words
or_naming None naming = option_map naming_words naming

abbrev pub own_line : List ℕ → Option (List ℕ)
own_line line = or_naming (plain_line (Within Schedule) line) (naming_in line)

-- what a line of version 3 means among the steps of a text; where its first word asks about a step,
-- that is a line of its own. One that gives a name to a process means itself, and so does one of
-- too many bytes
abbrev pub third_line : List ℕ → Option (List ℕ)
third_line line =
    if not (nat_lt 512 (length line)) && asks_of_step (first_word line)
    then Some
    (with_step (first_word line)
    (plain_line (Within Schedule) (without_return (after_word line))))
    else own_line (without_return line)

-- what a line of a version spells, before other words for the same are looked at. A byte 10 would
-- end it
abbrev pub spelled_line : TextVersion → List ℕ → Option (List ℕ)
spelled_line One line = Some (first_line line)
spelled_line Two line = Some (first_line line)
spelled_line Three line = third_line (first_line line)

-- `exit` is another word for quit, and `?` for help
abbrev pub usual_words : List ℕ → List ℕ
usual_words words =
    if bytes_eq words (codes "exit")
    then codes "quit" else if bytes_eq words (codes "?") then codes "help"
    else words

-- what a line means among the steps of a text: itself, and in version 3 a line of version 2, or
-- nothing where it has no word
abbrev pub meant_line : TextVersion → List ℕ → Option (List ℕ)
meant_line version line = option_map usual_words (spelled_line version line)

-- the bytes that are meant
abbrev pub bytes_of : Words → List ℕ
bytes_of (Lent bytes) = bytes.now
bytes_of (Made bytes) = bytes.items
