-- The sets of signals: parts joined by commas, each a name or a number, in any order.
use Rattle.std.specs.Prelude.{ℕ, List, [], ◌∷◌, nat_eq, Option, Some, None, if◌then◌else◌}
use Rattle.tx_lines.specs.Sets.{bits_text}
use Rattle.tx_model.specs.SignalSets.{is_in_set, with_one_more}
use Rattle.tx_translate.specs.OwnLines.{with_byte}
use Rattle.tx_translate.specs.SignalNames.{signal_of}

-- the parts of a word between its commas
abbrev pub comma_parts : List ℕ → List (List ℕ)
comma_parts [] = [] ∷ []
comma_parts (byte ∷ bytes) =
    if nat_eq byte 44 then [] ∷ comma_parts bytes else with_byte byte (comma_parts bytes)

-- a set with one signal more; nothing where there is none, or the set has it
abbrev pub set_with : Option ℕ → Option ℕ → Option ℕ
set_with None signo = None
set_with (Some set) None = None
set_with (Some set) (Some signo) =
    if is_in_set set signo then None else Some (with_one_more set signo)

-- a set with the signals of some parts more
abbrev pub set_with_all : Option ℕ → List (List ℕ) → Option ℕ
set_with_all set [] = set
set_with_all set (part ∷ parts) = set_with_all (set_with set (signal_of part)) parts

-- the set of the signals that are the parts of a word; nothing where a part is none, or one occurs
-- twice
abbrev pub set_in : List ℕ → Option ℕ
set_in word = set_with_all (Some 0) (comma_parts word)

-- the numbers of a set, rising, in place of the word, where there is one
abbrev pub numbers_or : List ℕ → Option ℕ → List ℕ
numbers_or word None = word
numbers_or word (Some set) = bits_text set

-- a word with the numbers of its set, rising
abbrev pub plain_set : List ℕ → List ℕ
plain_set word = numbers_or word (set_in word)
