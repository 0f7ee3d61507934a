-- What a step says of histories, and what an abort by the kernel does.
use Rattle.std.proofs.Common.{◌≡◌, ℕ, Bool, true, false, List, ◌∷◌, Result, Ok, Err, IfOk, if◌then◌else◌, refl, sym, ap, subst, ◌∙◌, inr}
use Rattle.tx_base.specs.declared.names.Pid.{Pid}
use Rattle.tx_base.specs.declared.steps.Accepted.{Accepted}
use Rattle.tx_base.specs.declared.steps.Refusal.{Refusal}
use Rattle.tx_base.specs.declared.steps.Refusal.TheVariants.{NoTransaction}
use Rattle.tx_base.specs.declared.steps.Reply.{Reply}
use Rattle.tx_base.specs.declared.steps.Reply.TheVariants.{Aborted, No}
use Rattle.tx_base.specs.declared.steps.Step.{Step}
use Rattle.tx_base.specs.declared.steps.Step.TheVariants.{KernelAbort}
use Rattle.tx_core.proofs.Reading.{width_read}
use Rattle.tx_core.specs.Laws.{MachineLaws}
use Rattle.tx_core.specs.Undo.{LeadsBack}
use Rattle.tx_core.specs.Machines.{IsMachine, IsWidth}
use Rattle.tx_content.specs.Content.{view_of}
use Rattle.tx_content.specs.declared.content.Content.{Content}
use Rattle.tx_content.specs.declared.inverse.Inverse.{Inverse}
use Rattle.tx_model.specs.Answer.{answer, IsAccepted, Lawful}
use Rattle.tx_model.specs.Membership.{is_live}
use Rattle.tx_model.specs.State.{State}
use Rattle.tx_model.specs.View.{View, kernel_status, next, view}
use Rattle.tx_step.specs.Steps.{IsStep, Takes}
use Rattle.tx_step.specs.declared.answered.Answered.{Answered}
use Rattle.tx_step.specs.declared.answered.Answered.TheVariants.{Aborted as AbortedWith}

-- one more entry of a history whose view the machine has
pub along : (laws : MachineLaws) (old new : Content) (step : Step) (reply : Reply) (inverse : Inverse) → IsStep old step reply inverse new → (start : State) (earlier : List Accepted) →
    Lawful start earlier → view_of old ≡ view start earlier → Lawful start (record { step = step; reply = reply } ∷ earlier) × (view_of new ≡ view start (record { step = step; reply = reply } ∷ earlier))
unfolding Lawful
along laws old new step reply inverse made start earlier lawful same =
    let law : Lawful start (record { step = step; reply = reply } ∷ earlier) = (lawful, ap (λ (V : View). answer V step) (sym same) ∙ made.answered, made.accepted) in
    (law, made.next ∙ ap (λ (V : View). next V step) same ∙ sym (laws.history start (record { step = step; reply = reply }) earlier law))

-- a step leaves as many process numbers as there were, so what it leaves is what a machine may keep
pub still_machine : (old new : Content) (step : Step) (reply : Reply) (inverse : Inverse) → IsMachine old → IsStep old step reply inverse new → IsMachine new
unfolding next
still_machine old new step reply inverse machine made = record {
  content = made.content;
  width = subst IsWidth (width_read old machine.content ∙ sym (width_read new made.content ∙ ap (λ (V : View). V.table.width) made.next)) machine.width;
}

-- the inverse leads back to where the step began
pub back_of : (old new : Content) (step : Step) (reply : Reply) (inverse : Inverse) → IsMachine old → IsStep old step reply inverse new → LeadsBack new inverse
back_of old new step reply inverse machine made = record { before = old; machine = machine; goes = made.goes; back = made.back }

-- the kernel's abort, where there is no such transaction and where there is one
pub dead_answer : (k : Content) (s : Pid) → (is_live (view_of k).table s.0 ≡ true → ⊥) → answer (view_of k) (KernelAbort s) ≡ No NoTransaction
unfolding answer
dead_answer k s dead = by (is_live (view_of k).table s.0) refl
  where
    by : (b : Bool) → is_live (view_of k).table s.0 ≡ b → (if b then Aborted (kernel_status (view_of k) s.0) else No NoTransaction) ≡ No NoTransaction
    by true e = absurd (dead e)
    by false e = refl

live_status : (k : Content) (s : Pid) (status : ℕ) → answer (view_of k) (KernelAbort s) ≡ Aborted status → status ≡ kernel_status (view_of k) s.0
unfolding answer
live_status k s status is = by (is_live (view_of k).table s.0) is
  where
    by : (b : Bool) → (if b then Aborted (kernel_status (view_of k) s.0) else No NoTransaction) ≡ Aborted status → status ≡ kernel_status (view_of k) s.0
    by true e = cc
    by false e = cc

pub kernel_step : (old new : Content) (s : Pid) (status : ℕ) (inverse : Inverse) → IsStep old (KernelAbort s) (Aborted status) inverse new → IsStep old (KernelAbort s) (Aborted (kernel_status (view_of old) s.0)) inverse new
kernel_step old new s status inverse made = subst (λ (n : ℕ). IsStep old (KernelAbort s) (Aborted n) inverse new) (live_status old s status made.answered) made

-- what a step says of histories, where it is accepted
pub step_along : (laws : MachineLaws) (old new : Content) (step : Step) (reply given : Reply) (inverse : Inverse) → IsStep old step reply inverse new → given ≡ reply → IsAccepted given → (start : State) (earlier : List Accepted) →
    Lawful start earlier → view_of old ≡ view start earlier → Lawful start (record { step = step; reply = given } ∷ earlier) × (view_of new ≡ view start (record { step = step; reply = given } ∷ earlier))
step_along laws old new step reply given inverse made same accepted start earlier lawful seen =
    subst (λ (r : Reply). Lawful start (record { step = step; reply = r } ∷ earlier) × (view_of new ≡ view start (record { step = step; reply = r } ∷ earlier))) (sym same)
    (along laws old new step reply inverse made start earlier lawful seen)

-- the kernel's abort of a machine that keeps k
module _ {E : Type 0} (laws : MachineLaws) (k old new : Content) (same : k ≡ old) (s : Pid) (status : ℕ) (inverse : Inverse) (made : IsStep k (KernelAbort s) (Aborted status) inverse new) (r : Result Inverse E) (ok : r ≡ Ok inverse) where
  kernel_made : IsStep old (KernelAbort s) (Aborted (kernel_status (view_of old) s.0)) inverse new
  kernel_made = subst (λ (x : Content). IsStep x (KernelAbort s) (Aborted (kernel_status (view_of x) s.0)) inverse new) same (kernel_step k new s status inverse made)

  pub kernel_ok : IfOk r (λ inverse. IsStep old (KernelAbort s) (Aborted (kernel_status (view_of old) s.0)) inverse new)
  kernel_ok = subst (λ (x : Result Inverse E). IfOk x (λ inverse. IsStep old (KernelAbort s) (Aborted (kernel_status (view_of old) s.0)) inverse new)) (sym ok) kernel_made

  pub kernel_along : IfOk r (λ inverse. (start : State) (earlier : List Accepted) → Lawful start earlier → view_of old ≡ view start earlier →
      Lawful start (record { step = KernelAbort s; reply = Aborted (kernel_status (view_of old) s.0) } ∷ earlier)
      × (view_of new ≡ view start (record { step = KernelAbort s; reply = Aborted (kernel_status (view_of old) s.0) } ∷ earlier)))
  kernel_along = subst (λ (x : Result Inverse E). IfOk x (λ inverse. (start : State) (earlier : List Accepted) → Lawful start earlier → view_of old ≡ view start earlier →
      Lawful start (record { step = KernelAbort s; reply = Aborted (kernel_status (view_of old) s.0) } ∷ earlier)
      × (view_of new ≡ view start (record { step = KernelAbort s; reply = Aborted (kernel_status (view_of old) s.0) } ∷ earlier)))) (sym ok)
      (along laws old new (KernelAbort s) (Aborted (kernel_status (view_of old) s.0)) inverse kernel_made)

-- and where it does nothing
pub kernel_err : {A E : Type 0} (P : A → Type 0) (r : Result A E) (e : E) → r ≡ Err e → IfOk r P
kernel_err P (Ok x) e is = cc
kernel_err P (Err x) e is = tt

-- as a step
pub kernel_takes : (k old new : Content) (step : Step) (s : Pid) (status : ℕ) (inverse : Inverse) → k ≡ old → step ≡ KernelAbort s → IsStep k (KernelAbort s) (Aborted status) inverse new →
    (r : Result Answered Refusal) → r ≡ Ok (AbortedWith status) → Takes old step r inverse new
kernel_takes k old new step s status inverse same is made r ok =
    subst (λ (x : Result Answered Refusal). Takes old step x inverse new) (sym ok)
    (subst (λ (x : Step). Takes old x (Ok (AbortedWith status)) inverse new) (sym is) (subst (λ (x : Content). IsStep x (KernelAbort s) (Aborted status) inverse new) same made))

pub kernel_none : (k old new : Content) (step : Step) (s : Pid) (inverse : Inverse) → k ≡ old → step ≡ KernelAbort s → new ≡ k → (is_live (view_of k).table s.0 ≡ true → ⊥) →
    (r : Result Answered Refusal) → r ≡ Err NoTransaction → Takes old step r inverse new
kernel_none k old new step s inverse same is none dead r err =
    subst (λ (x : Result Answered Refusal). Takes old step x inverse new) (sym err)
    (none ∙ same, inr ((λ j. answer (view_of (sym same j)) (is j)) ∙ dead_answer k s dead, λ e. cc))
