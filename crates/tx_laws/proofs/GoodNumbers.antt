-- An accepted step stands for an event whose numbers are in range.
use Rattle.std.proofs.Common.{◌≡◌, ℕ, false, Option, Some, None, refl}
use Rattle.tx_base.specs.declared.marks.Mark.{Mark}
use Rattle.tx_base.specs.declared.steps.Reply.{Reply}
use Rattle.tx_base.specs.declared.steps.Step.{Step}
use Rattle.tx_base.specs.declared.steps.Step.TheVariants.{Call as Calls, Deliver, KernelAbort}
use Rattle.tx_model.specs.Events.{Event}
use Rattle.tx_model.specs.Membership.{Table, Role, Outside, Within, Commits, Aborts, Kind, Ordinary, Forking, Beginning, Leaving, Aborting, kind_event, step_event, event_in}
use Rattle.tx_model.specs.Words.{kind_of, has_bad_number}
use Rattle.tx_model.specs.View.{View, first_reply, role_on, event_on}
use Rattle.tx_model.specs.Answer.{refusal, accepted_reply, answer, IsAccepted}
use Rattle.tx_laws.specs.WellFormed.{HasGoodNumbers}
use Rattle.tx_laws.proofs.Taken.{unless_accepted, unrefused}

kind_numbers : (t : Table) (width p : ℕ) (step : Step) → has_bad_number width step ≡ false → (k : Kind) (mark : Option Mark) → HasGoodNumbers width (kind_event t p step k mark)
kind_numbers t width p step g Ordinary mark = g
kind_numbers t width p step g (Forking c) mark = g
kind_numbers t width p step g (Beginning defers) None = tt
kind_numbers t width p step g (Beginning defers) (Some m) = tt
kind_numbers t width p step g Leaving None = tt
kind_numbers t width p step g Leaving (Some m) = tt
kind_numbers t width p step g Aborting None = tt
kind_numbers t width p step g Aborting (Some m) = tt

pub step_numbers : (t : Table) (width : ℕ) (step : Step) (r : Reply) → has_bad_number width step ≡ false → HasGoodNumbers width (step_event t step r)
step_numbers t width (Calls p call) r g = kind_numbers t width p.0 (Calls p call) g (kind_of call) (t.marks p.0)
step_numbers t width (Deliver p signo) r g = kind_numbers t width p.0 (Deliver p signo) g Ordinary (t.marks p.0)
step_numbers t width (KernelAbort s) r g = tt

pub role_numbers : (width : ℕ) (r : Role) (ev : Event) → HasGoodNumbers width ev → HasGoodNumbers width (event_in r ev)
role_numbers width Outside ev g = g
role_numbers width (Within s part) ev g = g
role_numbers width (Commits s) ev g = g
role_numbers width (Aborts s status) ev g = g

pub accepted_numbers : (V : View) (step : Step) → IsAccepted (answer V step) → has_bad_number V.table.width step ≡ false
unfolding answer
accepted_numbers V (Calls p call) a =
    (unrefused V p.0 (Calls p call) (unless_accepted (refusal V p.0 (Calls p call)) (accepted_reply V (Calls p call)) _ refl a).0).number
accepted_numbers V (Deliver p signo) a = refl
accepted_numbers V (KernelAbort s) a = refl

pub event_numbers : (V : View) (step : Step) → IsAccepted (answer V step) → HasGoodNumbers V.table.width (event_on V step)
event_numbers V step a =
    role_numbers V.table.width (role_on V step) (step_event V.table step (first_reply V step))
    (step_numbers V.table V.table.width step (first_reply V step) (accepted_numbers V step a))
