-- What a call that sends a signal comes to.
use Rattle.std.specs.Prelude.{◌≡◌, ℕ, ℤ, List, length, [], ◌∷◌, ◌++◌, pos, Option, Some, None}
use Rattle.tx_base.specs.declared.names.Sending.{Sending}
use Rattle.tx_change.specs.States.{state_of}
use Rattle.tx_change.specs.declared.change.Change.{Change}
use Rattle.tx_kernel.specs.Actors.{CountsHeld, effect_by, inside_of, me_of}
use Rattle.tx_kernel.specs.Plans.{held_after, sending_of, sent_at_once}
use Rattle.tx_kernel.specs.Steps.{PlansStep}
use Rattle.tx_kernel.specs.declared.actor.Actor.{Actor}
use Rattle.tx_kernel.specs.declared.planned.Outcome.{Outcome}
use Rattle.tx_kernel.specs.declared.sends.Send.{Send}
use Rattle.tx_kernel.specs.declared.sends.Send.TheVariants.{Answers, Posts, Holds}
use Rattle.tx_kernel.specs.declared.planned.Sends.{Sends}
use Rattle.tx_kernel.specs.declared.planned.Sends.TheVariants.{Nothing, AtOnce, AtCommit}
use Rattle.tx_model.specs.Effects.{Effect, Inside}
use Rattle.tx_model.specs.Words.{before_sends}
use Rattle.tx_model.specs.Forms.{Rule, answers, changes, posts}
use Rattle.tx_model.specs.Processes.{pid_of}
use Rattle.tx_model.specs.Book.{sendable, sending_from}
use Rattle.tx_model.specs.State.{Object, Sending as TheSending, State, Write, SetHeld}

-- what is handed out is held
abbrev pub holds_more : Option Inside → TheSending → State → List Write
holds_more None m S = []
holds_more (Some inside) m S = SetHeld inside.starter (S.held inside.starter ++ m ∷ []) ∷ []

-- what a call that sends this comes to
abbrev pub sent : Send → Rule
sent (Answers ret) c = answers ret
sent (Posts m) c = posts (sending_of m)
sent (Holds m) c = changes (pos 0) c.process (holds_more c.inside (sending_of m) c.state)

-- the signal is what a sigqueue hands out, at its line
pub record IsHandedOut (actor : Actor) (m : Sending) (target signo value : ℤ) : Type 0 where
  pub signal : sendable signo ≡ Some m.signo.0
  pub number : pid_of (length actor.parts.now.procs) target ≡ Some m.target.0
  pub sending : sending_of m ≡ sending_from (me_of actor) m.target.0 m.signo.0 value

-- the signal that it sends
abbrev pub sends_by : Send → Sends
sends_by (Answers ret) = Nothing
sends_by (Posts m) = AtOnce m
sends_by (Holds m) = AtCommit m

-- the signal is what the rule sends: what is posted with it, and what the transactions hold once it
-- has written
pub record IsSentBy (actor : Actor) (sends : Sends) (rule : State → Effect) : Type 0 where
  pub at_once : (held : ℕ → List TheSending) → CountsHeld actor.inside held
      → (rule (state_of held actor.parts.now)).sends ≡ sent_at_once sends
  pub handed_out : (held : ℕ → List TheSending) → CountsHeld actor.inside held →
      (before_sends (rule (state_of held actor.parts.now)) (state_of held actor.parts.now)).held
      ≡ held_after (inside_of actor.inside) sends held

-- a log that now ends in a post, with its answer as that of the process: for every rule that posts
-- this
pub record PlansPosted (actor : Actor) (before now : List Change) (m : Sending) (outcome : Outcome)
    : Type 0 where
  pub plans : (rule : State → Effect) (objects : State → List Object) →
      ((held : ℕ → List TheSending) → CountsHeld actor.inside held
      → rule (state_of held actor.parts.now)
      ≡ effect_by actor (sent (Posts m)) (state_of held actor.parts.now)) →
      PlansStep actor before now outcome (AtOnce m) rule objects
