-- What a doomed transaction comes to.
use Rattle.std.proofs.Common.{◌≡◌, ℕ, Bool, true, false, not, Option, Some, if◌then◌else◌, refl, sym, ap, ◌∙◌, subst, eq-eqb}
use Rattle.tx_base.specs.declared.marks.Mark.{Mark}
use Rattle.tx_base.specs.declared.names.Pid.{Pid}
use Rattle.tx_base.specs.declared.names.Signo.{Signo}
use Rattle.tx_base.specs.declared.steps.Call.{Call}
use Rattle.tx_base.specs.declared.steps.Refusal.{Refusal}
use Rattle.tx_base.specs.declared.steps.Refusal.TheVariants.{NoProcess, NotRunning, BadNumber, NumberTaken, Doomed}
use Rattle.tx_base.specs.declared.steps.Reply.{Reply}
use Rattle.tx_base.specs.declared.steps.Reply.TheVariants.{Aborted}
use Rattle.tx_base.specs.declared.steps.Step.{Step}
use Rattle.tx_base.specs.declared.steps.Step.TheVariants.{Call as Calls, Deliver, KernelAbort}
use Rattle.tx_model.specs.Events.{Event, process_of}
use Rattle.tx_model.specs.Membership.{is_live, Progress, Role, Within}
use Rattle.tx_model.specs.View.{View, present, is_doomed, role_on, event_on, next}
use Rattle.tx_model.specs.Answer.{is_running, is_there, is_doomed_at, accepted_reply, answer, IsAccepted}
use Rattle.tx_model.specs.Words.{unless_refused, has_bad_number, has_number_in_use, next_by}

-- a step of a doomed transaction is refused, if not for a reason before that
too_late : (there running number taken doomed : Bool) (rest : Option Refusal) (r : Reply) → doomed ≡ true
    → IsAccepted (unless_refused (if not there then Some NoProcess else if not running then Some NotRunning else if number then Some BadNumber else if taken then Some NumberTaken else if doomed then Some Doomed else rest) r) → ⊥
too_late false running number taken doomed rest r e a = a
too_late true false number taken doomed rest r e a = a
too_late true true true taken doomed rest r e a = a
too_late true true false true doomed rest r e a = a
too_late true true false false true rest r e a = a
too_late true true false false false rest r e a = cc

module _ (V : View) (pid : Pid) (mark : Mark) (mine : V.table.marks pid.0 ≡ Some mark) (doomed : is_doomed V mark.starter.0 ≡ true) where
  doomed_there : is_doomed_at V (V.table.marks pid.0) ≡ true
  doomed_there = ap (is_doomed_at V) mine ∙ doomed

  pub doomed_call : (call : Call) → IsAccepted (answer V (Calls pid call)) → ⊥
  unfolding answer
  doomed_call call a =
      let step : Step = Calls pid call in
      too_late (is_there V pid.0) (is_running ((present V).procs pid.0)) (has_bad_number V.table.width step) (has_number_in_use (present V) step) (is_doomed_at V (V.table.marks pid.0)) _ (accepted_reply V step) doomed_there a

  pub doomed_delivery : (signo : Signo) → IsAccepted (answer V (Deliver pid signo)) → ⊥
  unfolding answer
  doomed_delivery signo a =
      let step : Step = Deliver pid signo in
      too_late (is_there V pid.0) (is_running ((present V).procs pid.0)) (has_bad_number V.table.width step) (has_number_in_use (present V) step) (is_doomed_at V (V.table.marks pid.0)) _ (accepted_reply V step) doomed_there a

-- the kernel's abort of a live transaction
pub abort_answer : (V : View) (starter : Pid) (doomed : Bool) → is_live V.table starter.0 ≡ true → is_doomed V starter.0 ≡ doomed → answer V (KernelAbort starter) ≡ Aborted (if doomed then 203 else 202)
unfolding answer
abort_answer V starter doomed live e = rw (live, e) refl

-- a step inside a transaction leaves the state without it as it was
within_doomed : (V : View) (ev : Event) (p s : ℕ) (part : Progress) → is_doomed (next_by (Within s part) ev p V) s ≡ is_doomed V s
within_doomed V ev p s part = rw (eq-eqb s s refl) refl

pub doomed_next : (V : View) (step : Step) (s : ℕ) (part : Progress) → role_on V step ≡ Within s part → is_doomed (next V step) s ≡ is_doomed V s
unfolding next
doomed_next V step s part e =
    subst (λ (r : Role). is_doomed (next_by r (event_on V step) (process_of step) V) s ≡ is_doomed V s) (sym e)
    (within_doomed V (event_on V step) (process_of step) s part)
