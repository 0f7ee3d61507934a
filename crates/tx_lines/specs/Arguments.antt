-- The arguments of a call: what each is, its word, and whether a text can hold it.
use Rattle.std.specs.Prelude.{ℕ, ℤ, ◌<◌, ◌≤◌, ◌^◌, Bool, true, false, List, [], ◌∷◌, length, map, FitsSigned}
use Rattle.std.specs.Int.{w64}
use Rattle.std.specs.Fmt.{decimal, signed_decimal}
use Rattle.hex.specs.Hex.{IsBytes, encode_lower}
use Rattle.tx_base.specs.declared.signals.SigSet.{SigSet}
use Rattle.tx_lines.specs.ListedSets.{FitsSet}
use Rattle.tx_lines.specs.Sets.{set_text}
use Rattle.tx_lines.specs.Words.{joined}

-- an argument: a number, which a program may take from a slot; a point, which a program names by a
-- label; a number below a limit that is chosen as the call is made, so that a program leaves it
-- out; one of a few words; bytes; or a set of signals
pub data Argument : Type 0 where
  Number : ℤ → Argument
  Point : ℕ → Argument
  Chosen : ℕ → ℕ → Argument
  Word : List ℕ → Argument
  Bytes : List ℕ → Argument
  Signals : SigSet → Argument

-- the word of an argument
abbrev pub word_of : Argument → List ℕ
word_of (Number number) = signed_decimal number
word_of (Point point) = decimal point
word_of (Chosen limit number) = decimal number
word_of (Word word) = word
word_of (Bytes bytes) = encode_lower bytes
word_of (Signals set) = set_text set

-- an argument is one that a text can hold
abbrev pub FitsArgument : Argument → Type 0
FitsArgument (Number number) = FitsSigned w64 number
FitsArgument (Point point) = point < 2 ^ 32
FitsArgument (Chosen limit number) = number < limit
FitsArgument (Word word) = Unit {0}
FitsArgument (Bytes bytes) = IsBytes bytes × (0 < length bytes) × (length bytes ≤ 64)
FitsArgument (Signals set) = FitsSet set

-- so are all
abbrev pub AllFit : List Argument → Type 0
AllFit [] = Unit {0}
AllFit (argument ∷ arguments) = FitsArgument argument × AllFit arguments

-- whether a program spells an argument
abbrev pub is_spelled : Argument → Bool
is_spelled (Chosen limit number) = false
is_spelled _ = true

-- a name and its arguments, with a space before each
abbrev pub text_of : List ℕ × List Argument → List ℕ
text_of parts = joined parts.0 (map word_of parts.1)
