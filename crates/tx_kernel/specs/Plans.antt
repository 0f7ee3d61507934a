-- What a plan must be: changes that make of the state what the rule's effect makes of it before its
-- posts.
use Rattle.std.specs.Prelude.{◌≡◌, ◌⊎◌, ◌<◌, ℕ, true, false, List, [], ◌∷◌, ◌++◌, length, Option, Some, None}
use Rattle.tx_base.specs.declared.names.Sending.{Sending}
use Rattle.tx_base.specs.declared.steps.Refusal.{Refusal}
use Rattle.tx_base.specs.declared.steps.Refusal.TheVariants.{NoMemory, BadNumber}
use Rattle.tx_base.specs.declared.steps.Reply.{Reply}
use Rattle.tx_base.specs.declared.steps.Reply.TheVariants as reply
use Rattle.tx_base.specs.Slots.{slot_at}
use Rattle.tx_change.specs.Counts.{CountsAgree}
use Rattle.tx_change.specs.Exchange.{applied, object_of, AreNamed}
use Rattle.tx_change.specs.Laws.{BringPlaces}
use Rattle.tx_change.specs.States.{state_of}
use Rattle.tx_change.specs.declared.change.Change.{Change}
use Rattle.tx_change.specs.declared.parts.Parts.{Parts}
use Rattle.tx_kernel.specs.Actors.{inside_of, me_of, CountsHeld}
use Rattle.tx_kernel.specs.Posts.{IsSeen}
use Rattle.tx_kernel.specs.declared.actor.Actor.{Actor}
use Rattle.tx_kernel.specs.declared.inside.Inside.{Inside as InsideOf}
use Rattle.tx_kernel.specs.declared.planned.Outcome.{Outcome}
use Rattle.tx_kernel.specs.declared.planned.Outcome.TheVariants.{Done, Ended, Out}
use Rattle.tx_kernel.specs.declared.planned.Planned.{Planned}
use Rattle.tx_kernel.specs.declared.planned.Sends.{Sends}
use Rattle.tx_kernel.specs.declared.planned.Sends.TheVariants.{Nothing, AtOnce, AtCommit}
use Rattle.tx_model.specs.Answer.{Choice, is_bad_choice}
use Rattle.tx_model.specs.Effects.{Conclusion, Replies, Effect, Inside, idle}
use Rattle.tx_model.specs.Words.{before_sends}
use Rattle.tx_model.specs.Memory.{Memory, bytes_from, no_memory}
use Rattle.tx_proc.specs.Parts.{process_in}
use Rattle.tx_model.specs.State.{Object, Proc, Process, Sender, Sending as TheSending, State, has_object, put_at}

-- a step with this answer, which sends nothing
abbrev pub quiet : Outcome → Planned
quiet outcome = record { outcome = outcome; sends = Nothing }

-- the reply, of a process with this memory
abbrev pub reply_of : Memory → Outcome → Reply
reply_of memory (Done r) = reply.Done r
reply_of memory Ended = reply.Ended
reply_of memory (Out shown) =
    reply.Out (record { items = bytes_from memory shown.address shown.count })

-- the memory of a process, if there is one
abbrev pub memory_in : Option Process → Memory
memory_in None = no_memory
memory_in (Some q) = q.memory

-- the memory stays if bytes of it are shown
abbrev pub KeepsShown : Outcome → Memory → Memory → Type 0
KeepsShown (Done r) memory after = Unit {0}
KeepsShown Ended memory after = Unit {0}
KeepsShown (Out shown) memory after = after ≡ memory

abbrev pub conclusion_of : Process → Outcome → Conclusion
conclusion_of me outcome = Replies (reply_of me.memory outcome)

abbrev pub sender_of : Option (ℕ × ℕ) → Option Sender
sender_of None = None
sender_of (Some ids) = Some (record { real = ids.0; effective = ids.1 })

-- the signal on its way, as the definitions have it
abbrev pub sending_of : Sending → TheSending
sending_of m =
    record { target = m.target.0; signo = m.signo.0; value = m.value; from = sender_of m.from }

-- what is posted with the step
abbrev pub sent_at_once : Sends → List TheSending
sent_at_once Nothing = []
sent_at_once (AtOnce m) = sending_of m ∷ []
sent_at_once (AtCommit m) = []

-- what the transactions hold then
abbrev pub held_after : Option Inside → Sends → (ℕ → List TheSending) → ℕ → List TheSending
held_after None sends held = held
held_after (Some inside) Nothing held = held
held_after (Some inside) (AtOnce m) held = held
held_after (Some inside) (AtCommit m) held =
    put_at held inside.starter (held inside.starter ++ sending_of m ∷ [])

-- these parts, and what else the step comes to, are the effect's
pub record Gives (actor : Actor) (after : Parts) (planned : Planned) (held : ℕ → List TheSending)
    (effect : Effect) : Type 0 where
  pub state :
      before_sends effect (state_of held actor.parts.now)
      ≡ state_of (held_after (inside_of actor.inside) planned.sends held) after
  pub sends : effect.sends ≡ sent_at_once planned.sends
  pub conclusion : effect.conclusion ≡ conclusion_of (me_of actor) planned.outcome

-- each change names one of the objects
abbrev pub AreAmong : List Object → List Change → Type 0
AreAmong objects [] = Unit {0}
AreAmong objects (change ∷ changes) =
    (has_object (object_of change) objects ≡ true) × AreAmong objects changes

-- the number of the signal that is posted is below 64
abbrev pub HasSignal : Sends → Type 0
HasSignal Nothing = Unit {0}
HasSignal (AtOnce m) = m.signo.0 < 64
HasSignal (AtCommit m) = Unit {0}

-- a signal that is posted with a plan has a number below 64, and the changes leave what a post sees
-- of its target
abbrev pub LeavesTarget : Parts → Sends → Parts → Type 0
LeavesTarget parts Nothing after = Unit {0}
LeavesTarget parts (AtOnce m) after =
    (m.signo.0 < 64)
    × IsSeen (slot_at parts.procs m.target.0) (process_in (slot_at after.procs m.target.0))
LeavesTarget parts (AtCommit m) after = Unit {0}

-- a log that now ends in a plan of the rule
pub record Plans (actor : Actor) (before now : List Change) (planned : Planned)
    (rule : State → Effect) (objects : State → List Object) : Type 0 where
  pub plan : List Change
  pub added : now ≡ before ++ plan
  pub named : AreNamed actor.parts.now plan
  pub counts : CountsAgree (applied actor.parts.now plan)
  pub brings : BringPlaces plan
  pub gives : (held : ℕ → List TheSending) → CountsHeld actor.inside held →
      Gives actor (applied actor.parts.now plan) planned held (rule (state_of held actor.parts.now))
  pub shown :
      KeepsShown planned.outcome (me_of actor).memory
      (memory_in (process_in (slot_at (applied actor.parts.now plan).procs actor.pid.0)))
  pub seen : LeavesTarget actor.parts.now planned.sends (applied actor.parts.now plan)
  pub among : (held : ℕ → List TheSending)
      → AreAmong (Proc actor.pid.0 ∷ objects (state_of held actor.parts.now)) plan

-- a log that now has more at its end
pub record Extends (before now : List Change) : Type 0 where
  pub more : List Change
  pub added : now ≡ before ++ more

-- a growth of memory was refused, or the rule refuses the step
abbrev pub IsRefused : Parts → Option InsideOf → Refusal → (State → Effect) → Type 0
IsRefused parts inside why rule =
    (why ≡ NoMemory)
    ⊎ ((held : ℕ → List TheSending) → CountsHeld inside held
    → rule (state_of held parts) ≡ idle why)

abbrev pub RefusedBy : Actor → Refusal → (State → Effect) → Type 0
RefusedBy actor why rule = IsRefused actor.parts.now actor.inside why rule

-- a number that the call chooses is out of range, or one number is chosen twice
abbrev pub ChoosesBadly : Parts → Refusal → Choice → Type 0
ChoosesBadly parts why choice =
    (why ≡ BadNumber) × (is_bad_choice (length parts.procs) choice ≡ true)

abbrev pub IsBadChoice : Actor → Refusal → Choice → Type 0
IsBadChoice actor why choice = ChoosesBadly actor.parts.now why choice

-- the numbers that a call chooses are in range, and no number is chosen twice
abbrev pub IsGoodChoice : Actor → Choice → Type 0
IsGoodChoice actor choice = is_bad_choice (length actor.parts.now.procs) choice ≡ false
