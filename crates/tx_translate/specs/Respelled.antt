-- Lines of a schedule that are spelled nearly as in version 2.
use Rattle.std.specs.Prelude.{◌≡◌, ℕ, ◌<◌, Bool, true, false, List, [], ◌∷◌, ◌++◌, nat_eq, option_map, Option, Some, None, pos, if◌then◌else◌}
use Rattle.arrayvec.specs.ArrayVec.{ArrayVec}
use Rattle.hex.specs.Hex.{encode_lower}
use Rattle.tx_base.specs.declared.names.Signo.{Signo}
use Rattle.tx_base.specs.declared.steps.Call.TheVariants as call
use Rattle.tx_base.specs.declared.steps.Step.TheVariants as steps
use Rattle.tx_base.specs.declared.steps.Step.{Step}
use Rattle.tx_lines.specs.Arguments.{FitsArgument, Argument}
use Rattle.tx_translate.specs.ByteWords.{plain_bytes}
use Rattle.tx_translate.specs.SignalNames.{named_signal}
use Rattle.tx_translate.specs.Words.{is_blank}

-- a byte of a word, with a space before it where blanks came before
abbrev pub spaced_byte : Bool → ℕ → List ℕ
spaced_byte true byte = 32 ∷ byte ∷ []
spaced_byte false byte = byte ∷ []

-- the words of a line from within one on, with a space between each two, whether or not blanks came
-- before; nothing where it may have a string
abbrev pub squeezed : Bool → List ℕ → Option (List ℕ)
squeezed gap [] = Some []
squeezed gap (byte ∷ bytes) =
    if is_blank byte then squeezed true bytes
    else if nat_eq byte 35 then Some []
    else if nat_eq byte 34 then None
    else option_map (λ text. spaced_byte gap byte ++ text) (squeezed false bytes)

-- a signal that the word names
abbrev pub IsNamed : List ℕ → ℕ → Type 0
IsNamed word signo = (named_signal word ≡ Some signo) × (signo < 64)

-- the second step is the first with what the word means in place of its last argument
abbrev pub IsRespelled : List ℕ → Step → Step → Type 0
IsRespelled word (steps.Call pid (call.Store address old)) step =
    (bytes : ArrayVec ℕ)
    × (step ≡ steps.Call pid (call.Store address bytes))
    × (plain_bytes word ≡ encode_lower bytes.items)
    × FitsArgument (Argument.Bytes bytes.items)
IsRespelled word (steps.Call pid (call.Kill target old)) step =
    (signo : ℕ) × (step ≡ steps.Call pid (call.Kill target (pos signo))) × IsNamed word signo
IsRespelled word (steps.Deliver pid old) step =
    (signo : Signo) × (step ≡ steps.Deliver pid signo) × IsNamed word signo.0
IsRespelled word before step = ⊥
