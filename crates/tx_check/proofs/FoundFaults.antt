-- What the readers find.
use Rattle.std.proofs.Common.{◌≡◌, ◌≢◌, ◌∙◌, ℕ, List, Option, Some, Result, Ok, Err, ap, refl, subst, sym}
use Rattle.std.specs.Result.{result_err}
use Rattle.tx_check.specs.Reads.{Finds, IsAtFault, IsRead}
use Rattle.tx_check.specs.declared.kinds.Kind.{Kind}
use Rattle.tx_lines.specs.Schedule.{FaultsBy}
use Rattle.tx_lines.specs.declared.faults.Fault.{Fault}
use Rattle.tx_lines.specs.declared.faults.Fault.TheVariants.{NotALine, NoLabel, TooLong, NoMemory}

in_text : (Is : Fault → Type 0) (fault : Fault) → FaultsBy Is fault → fault ≢ NoMemory → Is fault
in_text Is (NotALine line) is some = is
in_text Is (NoLabel line) is some = is
in_text Is (TooLong line) is some = is
in_text Is NoMemory is some = absurd (some refl)
in_text Is _ is some = absurd is

-- what a reader answers in place of the text is found in it, where memory was not refused
pub found : {T : Type 0} (Reads : Result T Fault → Type 0) (kind : Kind) (text : List ℕ) (result : Result T Fault) (answer : Option Fault) → ((whole : T) → Reads (Ok whole) → IsRead kind text)
    → ((fault : Fault) → Reads (Err fault) → FaultsBy (IsAtFault kind text) fault) → Reads result → answer ≡ result_err result → answer ≢ Some NoMemory → Finds kind text answer
found Reads kind text (Ok whole) answer read at_fault reads is some = subst (Finds kind text) (sym is) (read whole reads)
found Reads kind text (Err fault) answer read at_fault reads is some =
    subst (Finds kind text) (sym is) (in_text (IsAtFault kind text) fault (at_fault fault reads) (λ no. some (is ∙ ap Some no)))
