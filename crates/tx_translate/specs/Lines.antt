-- The line of version 2 that a line of version 3 means.
use Rattle.std.specs.Prelude.{ℕ, ◌+◌, List, [], ◌∷◌, ◌++◌, length, nat_lt, codes, Option, Some, None, if◌then◌else◌}
use Rattle.std.specs.Str.{bytes_eq}
use Rattle.tx_lines.specs.declared.read.header.TextKind.{TextKind}
use Rattle.tx_lines.specs.declared.read.header.TextKind.TheVariants.{Schedule, Program}
use Rattle.tx_translate.specs.Names.{names_process}
use Rattle.tx_translate.specs.Roles.{plain_word, role_of}
use Rattle.tx_translate.specs.Words.{words_in}
use Rattle.tx_translate.specs.declared.stage.Stage.{Stage}
use Rattle.tx_translate.specs.declared.stage.Stage.TheVariants.{Heading, Within}

-- words, with a space before each
abbrev pub spaced : List (List ℕ) → List ℕ
spaced [] = []
spaced (word ∷ words) = 32 ∷ word ++ spaced words

-- the arguments of a call from a place on
abbrev pub plain_arguments : List ℕ → ℕ → List (List ℕ) → List (List ℕ)
plain_arguments name place [] = []
plain_arguments name place (word ∷ words) =
    plain_word (role_of name place) word ∷ plain_arguments name (place + 1) words

-- a call: its name, and its arguments
abbrev pub plain_call : List (List ℕ) → List (List ℕ)
plain_call [] = []
plain_call (name ∷ arguments) = name ∷ plain_arguments name 0 arguments

-- what follows the first word of a header: version 2 in place of the version
abbrev pub plain_version : List (List ℕ) → List (List ℕ)
plain_version [] = []
plain_version (version ∷ words) = codes "2" ∷ words

-- what follows the first word of a line: that word stays, as the name of a call in a program, and
-- as a process in a schedule
abbrev pub plain_others : Stage → List ℕ → List (List ℕ) → List (List ℕ)
plain_others Heading first others = plain_version others
plain_others (Within Program) first others = plain_arguments first 0 others
plain_others (Within Schedule) first others = plain_call others

-- the line of a word and the words after it
abbrev pub line_of_words : Stage → List ℕ → List (List ℕ) → List ℕ
line_of_words stage first others = first ++ spaced (plain_others stage first others)

-- the line of some words; nothing for none, and where they give a name to a process
abbrev pub plain_of_words : Stage → List (List ℕ) → Option (List ℕ)
plain_of_words stage [] = None
plain_of_words stage (first ∷ others) =
    if names_process stage first others then None else Some (line_of_words stage first others)

-- a line of version 2, or the line that means it where that became too long
abbrev pub short_or : List ℕ → Option (List ℕ) → Option (List ℕ)
short_or line None = None
short_or line (Some plain) = if nat_lt 512 (length plain) then Some line else Some plain

-- the line that a line means; nothing where it has no word or names a process. One that is too long
-- stays as it is: so it is too long for the reader of the plain text
abbrev pub plain_line : Stage → List ℕ → Option (List ℕ)
plain_line stage line =
    if nat_lt 512 (length line)
    then Some line
    else short_or line (plain_of_words stage (words_in line))

-- the kind of a text, by what follows the first word of its header
abbrev pub kind_of : List (List ℕ) → TextKind
kind_of [] = Schedule
kind_of (version ∷ []) = Schedule
kind_of (version ∷ kind ∷ words) = if bytes_eq kind (codes "program") then Program else Schedule

-- the stage of a text after a line of those words: the first line with a word is its header
abbrev pub stage_after : Stage → List (List ℕ) → Stage
stage_after Heading [] = Heading
stage_after Heading (first ∷ others) = Within (kind_of others)
stage_after (Within kind) words = Within kind
