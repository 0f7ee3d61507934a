-- The names and the numbers of signals (POSIX.1-2017, XBD, signal.h).
use Rattle.std.specs.Prelude.{ℕ, List, [], ◌∷◌, ◌++◌, drop, take, codes, Option, Some, None, if◌then◌else◌}
use Rattle.std.specs.Fmt.{decimal}
use Rattle.std.specs.Str.{bytes_eq}
use Rattle.tx_model.specs.SignalSets.{standard_signals, realtime_signals}

-- a word without `SIG` before it, where it begins so
abbrev pub bare_name : List ℕ → List ℕ
bare_name word = if bytes_eq (take 3 word) (codes "SIG") then drop 3 word else word

-- the number of a name
abbrev pub number_of_name : List ℕ → Option ℕ
number_of_name name =
    if bytes_eq name (codes "HUP") then Some 1
    else if bytes_eq name (codes "INT") then Some 2
    else if bytes_eq name (codes "QUIT") then Some 3
    else if bytes_eq name (codes "ABRT") then Some 6
    else if bytes_eq name (codes "KILL") then Some 9
    else if bytes_eq name (codes "USR1") then Some 10
    else if bytes_eq name (codes "USR2") then Some 12
    else if bytes_eq name (codes "PIPE") then Some 13
    else if bytes_eq name (codes "ALRM") then Some 14
    else if bytes_eq name (codes "TERM") then Some 15
    else if bytes_eq name (codes "CHLD") then Some 17
    else None

-- the signal that a word names
abbrev pub named_signal : List ℕ → Option ℕ
named_signal word = number_of_name (bare_name word)

-- the first of some numbers that a word spells
abbrev pub number_among : List ℕ → List ℕ → Option ℕ
number_among [] word = None
number_among (number ∷ numbers) word =
    if bytes_eq word (decimal number) then Some number else number_among numbers word

-- the known signal whose number a word spells
abbrev pub numbered_signal : List ℕ → Option ℕ
numbered_signal word = number_among (standard_signals ++ realtime_signals) word

-- what was found first
abbrev pub or_else : Option ℕ → Option ℕ → Option ℕ
or_else (Some number) other = Some number
or_else None other = other

-- the signal that a word names or whose number it spells
abbrev pub signal_of : List ℕ → Option ℕ
signal_of word = or_else (named_signal word) (numbered_signal word)

-- the number of a signal in place of the word, where there is one
abbrev pub number_or : List ℕ → Option ℕ → List ℕ
number_or word None = word
number_or word (Some number) = decimal number

-- a word with the number for the name
abbrev pub plain_signal : List ℕ → List ℕ
plain_signal word = number_or word (named_signal word)
