-- What an ending posts itself is answered by no error: it tells the parent, which is there.
use Rattle.std.proofs.Common.{◌≡◌, ◌≢◌, ℕ, Bool, true, false, List, [], ◌∷◌, ℤ, pos, Option, Some, None, is_some, if◌then◌else◌, ◌==◌, not, refl, sym, ap, ◌∙◌, subst, eq-eqb}
use Rattle.std.proofs.lemmas.Bool.{both_ways}
use Rattle.tx_base.specs.declared.steps.Call.TheVariants as call
use Rattle.tx_base.specs.declared.steps.Step.{Step}
use Rattle.tx_base.specs.declared.steps.Step.TheVariants.{Call as Calls, Deliver, KernelAbort}
use Rattle.tx_model.specs.State.{Process, State, Sending, with_writes}
use Rattle.tx_model.specs.Posts.{is_quiet, post_answer, post_answers}
use Rattle.tx_model.specs.Effects.{Inside, Effect, failed_sends, send_answers}
use Rattle.tx_model.specs.Processes.{Notice, NotTold, AtOnce, AtCommit, child_notice, notice_now, parent_notice}
use Rattle.tx_model.specs.Deliveries.{delivered_value, ends_by}
use Rattle.tx_model.specs.Answer.{is_running}
use Rattle.tx_model.specs.Events.{Do, process_of, effect, reply_of}
use Rattle.tx_model.specs.Membership.{says_ended}
use Rattle.tx_laws.specs.WellFormed.{IsWellFormed}
use Rattle.tx_laws.specs.Endings.{EndingsAreAnswered}
use Rattle.tx_laws.proofs.FormHistory.{arranged_of}
use Rattle.tx_laws.proofs.KeepsFormDeliveries.{other_than_first}
use Rattle.tx_laws.proofs.KeepsView.{running_some, reply_ends}
use Rattle.tx_laws.proofs.PlainWrites.{concludes_ended}
use Rattle.tx_laws.proofs.SaysEnded.{other_calls_say, exits_say, deliveries_say}
use Rattle.tx_laws.proofs.Standings.{parent_of, parent_is}
use Rattle.tx_laws.proofs.TableHistory.{not_own}
use Rattle.tx_laws.proofs.Turns.{Turn, Stays, Sends, Grows, Reaps, Ends, orphan_some, step_turn}

-- SIGCHLD is answered 0 by any process that is there
told_answer : (parent : ℕ) (x : Option Process) → is_some x ≡ true → post_answer (child_notice parent) x ≡ pos 0
told_answer parent None h = cc
told_answer parent (Some q) h = by (is_quiet (child_notice parent) q)
  where
    by : (b : Bool) → (if b then pos 0 else pos 0) ≡ pos 0
    by true = refl
    by false = refl

-- the parent is there when it is told
told_reaches : (way : Notice) (parent : ℕ) (T : State) → is_some (T.procs parent) ≡ true
    → failed_sends (notice_now way parent) (post_answers (notice_now way parent) T) ≡ []
unfolding post_answers
told_reaches NotTold parent T there = refl
told_reaches AtOnce parent T there = ap (λ (r : ℤ). failed_sends (child_notice parent ∷ []) (r ∷ [])) (told_answer parent (T.procs parent) there)
told_reaches (AtCommit s) parent T there = refl

-- an effect that ends its process, which is not process 1
turn_answered : (inside : Option Inside) (p : ℕ) (S : State) (me : Process) (f : Effect) → IsWellFormed S → S.procs p ≡ Some me → p ≢ 1 → concludes_ended f.conclusion ≡ true
    → Turn inside p S f → failed_sends f.sends (send_answers f S) ≡ []
turn_answered inside p S me f form here ne ends (Stays goes same held) = absurd (both_ways (concludes_ended f.conclusion) goes ends)
turn_answered inside p S me f form here ne ends (Sends goes i is m sender room same held) = absurd (both_ways (concludes_ended f.conclusion) goes ends)
turn_answered inside p S me f form here ne ends (Grows goes c free child others held) = absurd (both_ways (concludes_ended f.conclusion) goes ends)
turn_answered inside p S me f form here ne ends (Reaps goes t was now others held) = absurd (both_ways (concludes_ended f.conclusion) goes ends)
turn_answered inside p S me f form here ne ends (Ends is parent was now others sends told) =
    subst (λ (ms : List Sending). failed_sends ms (post_answers ms (with_writes f.writes S)) ≡ []) (sym sends)
    (told_reaches (parent_notice inside parent) parent (with_writes f.writes S) there)
  where
    same : me.parent ≡ parent
    same = let own : Some me.parent ≡ Some parent = sym (ap parent_of here) ∙ parent_is (S.procs p) parent true was in cc

    apart : parent ≢ p
    apart z = (form.placed p me here).other (same ∙ z)

    there : is_some ((with_writes f.writes S).procs parent) ≡ true
    there =
        orphan_some p (S.procs parent) ((with_writes f.writes S).procs parent) (others parent apart)
        (running_some (S.procs parent) (subst (λ (n : ℕ). is_running (S.procs n) ≡ true) same ((form.placed p me here).parent ne)))

-- process 1 does not end
ends_other : (S : State) (step : Step) (inside : Option Inside) (me : Process) → IsWellFormed S → S.procs (process_of step) ≡ Some me → me.status ≡ None
    → says_ended (reply_of (Do step inside) S) ≡ true → process_of step ≢ 1
unfolding effect
ends_other S (Calls pid (call.Exit status)) inside me form here runs ends z =
    both_ways (not (pid.0 == 1)) (ap (λ (b : Bool). not b) (eq-eqb pid.0 1 z)) (sym (exits_say S pid status inside me here runs) ∙ ends)
ends_other S (Calls pid c) inside me form here runs ends z =
    absurd (both_ways (says_ended (reply_of (Do (Calls pid c) inside) S)) (other_calls_say S pid c inside refl) ends)
ends_other S (Deliver pid signo) inside me form here runs ends z = by (delivered_value signo.0 me) refl (sym (deliveries_say S pid signo inside me here runs) ∙ ends) z
  where
    by : (value : Option ℤ) → delivered_value signo.0 me ≡ value → ends_by inside signo.0 me value ≡ true → pid.0 ≢ 1
    by None e h = cc
    by (Some value) e h = other_than_first S pid.0 me here runs (arranged_of S form) signo.0 value e
ends_other S (KernelAbort s) inside me form here runs ends z =
    absurd (both_ways (says_ended (reply_of (Do (KernelAbort s) inside) S)) (reply_ends (Do (KernelAbort s) inside) S) ends)

pub endings_answered : EndingsAreAnswered
unfolding effect
endings_answered S step inside me form here runs ends =
    turn_answered inside (process_of step) S me (effect (Do step inside) S) form here (ends_other S step inside me form here runs ends)
    (sym (reply_ends (Do step inside) S) ∙ ends) (step_turn inside S step (not_own S (process_of step) form))
