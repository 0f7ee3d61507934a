-- What the plan of a whole step must be: the writes of the rule, its post, and the answer.
use Rattle.std.specs.Prelude.{◌≡◌, ℕ, List, [], ◌∷◌, ◌++◌, Option}
use Rattle.tx_base.specs.Slots.{slot_at}
use Rattle.tx_base.specs.declared.names.Pid.{Pid}
use Rattle.tx_change.specs.Counts.{CountsAgree}
use Rattle.tx_change.specs.Exchange.{applied as exchanged_in, AreNamed}
use Rattle.tx_change.specs.Laws.{BringPlaces}
use Rattle.tx_change.specs.States.{state_of}
use Rattle.tx_change.specs.declared.change.Change.{Change}
use Rattle.tx_change.specs.declared.parts.Parts.{Parts}
use Rattle.tx_kernel.specs.Actors.{inside_of, CountsHeld}
use Rattle.tx_kernel.specs.Plans.{AreAmong, HasSignal, held_after, memory_in, reply_of, sent_at_once}
use Rattle.tx_kernel.specs.declared.actor.Actor.{Actor}
use Rattle.tx_kernel.specs.declared.inside.Inside.{Inside}
use Rattle.tx_kernel.specs.declared.planned.Outcome.{Outcome}
use Rattle.tx_kernel.specs.declared.planned.Sends.{Sends}
use Rattle.tx_kernel.specs.declared.planned.Sends.TheVariants.{Nothing, AtOnce, AtCommit}
use Rattle.tx_model.specs.Effects.{Effect, after_effect, concluding_reply, send_answers}
use Rattle.tx_model.specs.State.{Object, Proc, Sending, State}
use Rattle.tx_proc.specs.Parts.{process_in}

-- the process that a signal is posted to with the step
abbrev pub target_objects : Sends → List Object
target_objects Nothing = []
target_objects (AtOnce m) = Proc m.target.0 ∷ []
target_objects (AtCommit m) = []

-- these parts, and what else a step of the process comes to, are the effect's with its post made;
-- bytes are shown of its memory then
pub record GivesStep (inside : Option Inside) (pid : Pid) (before after : Parts) (outcome : Outcome)
    (sends : Sends) (held : ℕ → List Sending) (effect : Effect) : Type 0 where
  pub state :
      after_effect effect (send_answers effect (state_of held before)) (state_of held before)
      ≡ state_of (held_after (inside_of inside) sends held) after
  pub sent : effect.sends ≡ sent_at_once sends
  pub reply :
      concluding_reply effect.conclusion effect.sends (send_answers effect (state_of held before))
      ≡ reply_of (memory_in (process_in (slot_at after.procs pid.0))) outcome

-- a log that now ends in a plan of a whole step
pub record PlansStep (actor : Actor) (before now : List Change) (outcome : Outcome) (sends : Sends)
    (rule : State → Effect) (objects : State → List Object) : Type 0 where
  pub plan : List Change
  pub added : now ≡ before ++ plan
  pub named : AreNamed actor.parts.now plan
  pub counts : CountsAgree (exchanged_in actor.parts.now plan)
  pub brings : BringPlaces plan
  pub gives : (held : ℕ → List Sending) → CountsHeld actor.inside held →
      GivesStep actor.inside actor.pid actor.parts.now (exchanged_in actor.parts.now plan) outcome
      sends held (rule (state_of held actor.parts.now))
  pub signal : HasSignal sends
  pub among : (held : ℕ → List Sending)
      → AreAmong
      (Proc actor.pid.0 ∷ objects (state_of held actor.parts.now) ++ target_objects sends)
      plan
