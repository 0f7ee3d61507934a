-- The plain kernel's events: it knows no reservation and no abort. Own rules.
use Rattle.std.specs.Prelude.{ℕ, List, [], ◌∷◌, ℤ, Option, is_some}
use Rattle.tx_base.specs.declared.steps.Step.{Step}
use Rattle.tx_base.specs.declared.steps.Step.TheVariants.{Call as Calls, Deliver, KernelAbort}
use Rattle.tx_base.specs.declared.steps.Refusal.TheVariants.{NoProcess, NotRunning, NoTransaction}
use Rattle.tx_base.specs.declared.steps.Reply.{Reply}
use Rattle.tx_base.specs.declared.steps.Reply.TheVariants.{Done}
use Rattle.tx_model.specs.State.{State, Object, Proc, Held, SetProc}
use Rattle.tx_model.specs.Effects.{Inside, Effect, Replies, idle, with_answer_if, send_answers, after_effect, concluding_reply, commit_effect}
use Rattle.tx_model.specs.Forms.{caller, effect_of, refuses, ◌or◌, ◌>>=◌, ◌when◌, ◌>>◌, Page, page}
use Rattle.tx_model.specs.Book.{page_of_call}
use Rattle.tx_model.specs.Deliveries.{delivery_page}

pub data Event : Type 0 where
  -- a step, inside a transaction or outside; a KernelAbort has a Note in its place
  Do : Step → Option Inside → Event
  -- the process is given an answer
  Note : ℕ → ℤ → Event
  -- it commits the transaction of this starter too
  Commit : ℕ → Event → Event

abbrev pub process_of : Step → ℕ
process_of (Calls p call) = p.0
process_of (Deliver p signo) = p.0
process_of (KernelAbort s) = s.0

abbrev pub page_of_step : Step → Page
page_of_step (Calls p call) = page_of_call call
page_of_step (Deliver p signo) = delivery_page signo.0
page_of_step (KernelAbort s) = page (λ c. refuses NoTransaction)

-- a process does nothing unless it runs
abbrev pub effect_at : Option Inside → ℕ → Page → State → Effect
effect_at inside p page S = do
  me ← S.procs p or idle NoProcess
  idle NotRunning when is_some me.status
  effect_of p me (page.outcome (caller inside p me S))

-- what it reads and writes, posts apart
abbrev pub objects_at : Option Inside → ℕ → Page → State → List Object
objects_at inside p page S = Proc p ∷ do
  me ← S.procs p or []
  page.names (caller inside p me S)

abbrev pub actor : Event → ℕ
actor (Do step inside) = process_of step
actor (Note p r) = p
actor (Commit s ev) = actor ev

abbrev pub step_effect : Step → Option Inside → State → Effect
step_effect (KernelAbort s) inside S = idle NoTransaction
step_effect step inside S = effect_at inside (process_of step) (page_of_step step) S

unfoldable pub effect : Event → State → Effect
effect (Do step inside) S = step_effect step inside S
effect (Note p r) S =
    record {
      writes = SetProc p (with_answer_if r (S.procs p)) ∷ [];
      sends = [];
      conclusion = Replies (Done r);
    }
effect (Commit s ev) S = commit_effect s (effect ev S) S

unfoldable pub objects : Event → State → List Object
objects (Do step inside) S = objects_at inside (process_of step) (page_of_step step) S
objects (Note p r) S = Proc p ∷ []
objects (Commit s ev) S = Held s ∷ objects ev S

unfoldable pub after : Event → State → State
after ev S = after_effect (effect ev S) (send_answers (effect ev S) S) S

unfoldable pub reply_of : Event → State → Reply
reply_of ev S =
    concluding_reply (effect ev S).conclusion (effect ev S).sends (send_answers (effect ev S) S)

-- the newest event first
unfoldable pub run : State → List Event → State
run S [] = S
run S (ev ∷ evs) = after ev (run S evs)
