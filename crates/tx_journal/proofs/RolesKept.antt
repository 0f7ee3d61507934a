-- The recorded reply of a step says of it what its first reply said on the view before it.
use Rattle.std.proofs.Common.{◌≡◌, ℕ, Bool, true, Option, refl, arith}
use Rattle.tx_base.specs.declared.marks.Mark.{Mark}
use Rattle.tx_base.specs.declared.steps.Refusal.{Refusal}
use Rattle.tx_base.specs.declared.steps.Reply.{Reply}
use Rattle.tx_base.specs.declared.steps.Step.{Step}
use Rattle.tx_base.specs.declared.steps.Step.TheVariants.{Call as Calls, Deliver, KernelAbort}
use Rattle.tx_model.specs.Answer.{accepted_reply, answer, plain_reply, refusal, IsAccepted}
use Rattle.tx_model.specs.Words.{unless_refused, called_by_status, kind_of, kind_role, member_end_role, ordinary_role}
use Rattle.tx_model.specs.Events.{Event, Commit, effect, reply_of}
use Rattle.tx_model.specs.Membership.{Table, Kind, Ordinary, event, event_in, kind_event, role, says_ended}
use Rattle.tx_model.specs.State.{State}
use Rattle.tx_model.specs.View.{View, event_on, present, role_on}

-- the reply to a commit says that the process ended
commit_ends : (s : ℕ) (ev : Event) (S : State) → says_ended (reply_of (Commit s ev) S) ≡ true
unfolding reply_of effect
commit_ends s ev S = refl

end_kept : (k : ℕ) (S : State) (s : ℕ) (ev : Event) (b : Bool) → says_ended (reply_of ev S) ≡ true → says_ended (plain_reply k (member_end_role b s) (event_in (member_end_role b s) ev) S) ≡ true
end_kept k S s ev b h = grind (arith, commit_ends)

ordinary_kept : (k : ℕ) (S : State) (t : Table) (s p : ℕ) (ev : Event) (b : Bool) → says_ended (reply_of ev S) ≡ b →
    ordinary_role (says_ended (plain_reply k (ordinary_role b t s p) (event_in (ordinary_role b t s p) ev) S)) t s p ≡ ordinary_role b t s p
ordinary_kept k S t s p ev b h = grind (arith, end_kept)

kind_kept : (n : ℕ) (V : View) (p : ℕ) (step : Step) (k : Kind) (mark : Option Mark) →
    kind_role V.table p k (plain_reply n (kind_role V.table p k (reply_of (kind_event V.table p step k mark) (present V)) mark)
    (event_in (kind_role V.table p k (reply_of (kind_event V.table p step k mark) (present V)) mark) (kind_event V.table p step k mark)) (present V)) mark
    ≡ kind_role V.table p k (reply_of (kind_event V.table p step k mark) (present V)) mark
kind_kept n V p step k mark = grind (arith, ordinary_kept)

unless_accepted : (o : Option Refusal) (a r : Reply) → unless_refused o a ≡ r → IsAccepted r → a ≡ r
unless_accepted o a r e h = grind arith

-- the role and the event by the recorded reply are those on the view
pub record IsKept (V : View) (step : Step) (r : Reply) : Type 0 where
  pub role_is : role V.table step r ≡ role_on V step
  pub event_is : event V.table step r ≡ event_on V step

pub role_kept : (V : View) (step : Step) (r : Reply) → answer V step ≡ r → IsAccepted r → IsKept V step r
unfolding answer
role_kept V (Calls pid call) r e accepted =
    let same = unless_accepted (refusal V pid.0 (Calls pid call)) (accepted_reply V (Calls pid call)) r e accepted in grind (arith, same, kind_kept called_by_status V pid.0 (Calls pid call) (kind_of call) (V.table.marks pid.0))
role_kept V (Deliver pid signo) r e accepted =
    let same = unless_accepted (refusal V pid.0 (Deliver pid signo)) (accepted_reply V (Deliver pid signo)) r e accepted in grind (arith, same, kind_kept called_by_status V pid.0 (Deliver pid signo) Ordinary (V.table.marks pid.0))
role_kept V (KernelAbort s) r e accepted = grind arith
