-- What a process is asked to do, as an event; the plan of an event, and what the event comes to on
-- the parts.
use Rattle.std.specs.Prelude.{◌≡◌, ◌⊎◌, ℕ, List, ◌++◌, Option, drop, take, length}
use Rattle.tx_base.specs.declared.names.Pid.{Pid}
use Rattle.tx_base.specs.declared.steps.Refusal.{Refusal}
use Rattle.tx_base.specs.declared.steps.Step.TheVariants.{Call as Calls, Deliver}
use Rattle.tx_change.specs.Counts.{CountsAgree}
use Rattle.tx_change.specs.Exchange.{AreNamed, applied, exchanged, undone}
use Rattle.tx_change.specs.Laws.{BringPlaces, HaveAllPlaces}
use Rattle.tx_change.specs.States.{state_of}
use Rattle.tx_change.specs.declared.change.Change.{Change}
use Rattle.tx_change.specs.declared.parts.Parts.{Parts}
use Rattle.tx_kernel.specs.Actors.{CountsHeld, IsActor, inside_of}
use Rattle.tx_kernel.specs.Plans.{AreAmong, ChoosesBadly, HasSignal, IsRefused}
use Rattle.tx_kernel.specs.Steps.{GivesStep, target_objects}
use Rattle.tx_kernel.specs.declared.events.Act.{Act}
use Rattle.tx_kernel.specs.declared.events.Act.TheVariants.{Call, Delivery, Answer}
use Rattle.tx_kernel.specs.declared.actor.Actor.{Actor}
use Rattle.tx_kernel.specs.declared.inside.Inside.{Inside}
use Rattle.tx_kernel.specs.declared.planned.Planned.{Planned}
use Rattle.tx_model.specs.Effects.{Inside as TheInside}
use Rattle.tx_model.specs.Forms.{Choice, ChoosesNothing, Page}
use Rattle.tx_model.specs.Events.{Event, Do, Note, Commit, effect, objects, effect_at, page_of_step}
use Rattle.tx_model.specs.State.{Sending}

-- the event in which the process of a number does what it is asked
abbrev pub event_of : Option TheInside → Pid → Act → Event
event_of inside pid (Call call) = Do (Calls pid call.now) inside
event_of inside pid (Delivery signo) = Do (Deliver pid signo) inside
event_of inside pid (Answer ret) = Note pid.0 ret

-- a log that now ends in the plan of an event of the process
pub record PlansEvent (actor : Actor) (before now : List Change) (planned : Planned) (event : Event)
    : Type 0 where
  pub plan : List Change
  pub added : now ≡ before ++ plan
  pub named : AreNamed actor.parts.now plan
  pub counts : CountsAgree (applied actor.parts.now plan)
  pub brings : BringPlaces plan
  pub gives : (held : ℕ → List Sending) → CountsHeld actor.inside held →
      GivesStep actor.inside actor.pid actor.parts.now (applied actor.parts.now plan)
      planned.outcome planned.sends held (effect event (state_of held actor.parts.now))
  pub signal : HasSignal planned.sends
  pub among : (held : ℕ → List Sending)
      → AreAmong (objects event (state_of held actor.parts.now) ++ target_objects planned.sends)
      plan

-- the parts, the log and what else the step comes to are the event's: the log ends in what leads
-- back, which names the event's objects
pub record Makes (before : Parts) (pid : Pid) (inside : Option Inside) (event : Event)
    (log now : List Change) (after : Parts) (planned : Planned) : Type 0 where
  pub kept : List Change
  pub added : now ≡ log ++ kept
  pub named : AreNamed after kept
  pub back : undone after kept ≡ before
  pub counts : CountsAgree after
  pub places : HaveAllPlaces after
  pub brings : BringPlaces kept
  pub gives : (held : ℕ → List Sending) → CountsHeld inside held →
      GivesStep inside pid before after planned.outcome planned.sends held
      (effect event (state_of held before))
  pub signal : HasSignal planned.sends
  pub among : (held : ℕ → List Sending)
      → AreAmong (objects event (state_of held before) ++ target_objects planned.sends) kept

-- the plan of an event, once exchanged, makes the event
abbrev pub PlansAreMade : Type 0
PlansAreMade =
    (actor : Actor) (event : Event) (log between now : List Change) (after : Parts)
    (planned : Planned)
    → IsActor actor →
    PlansEvent actor log between planned event →
    after ≡ applied actor.parts.now (drop (length log) between)
    → now ≡ take (length log) between ++ exchanged actor.parts.now (drop (length log) between) →
    Makes actor.parts.now actor.pid actor.inside event log now after planned

-- nothing is done, and why: a growth of memory was refused, or the rule refuses the step
abbrev pub RefusesPage : Parts → Pid → Option Inside → Page → Refusal → Type 0
RefusesPage before pid inside page why =
    IsRefused before inside why (effect_at (inside_of inside) pid.0 page)

-- the numbers that an event chooses
abbrev pub choice_of : Event → Choice
choice_of (Do step inside) = (page_of_step step).chooses
choice_of (Note p ret) = ChoosesNothing
choice_of (Commit s event) = ChoosesNothing

-- nothing is planned of an event, and why: a growth of memory was refused, its rule refuses it, or
-- it chooses a bad number
abbrev pub RefusesEvent : Parts → Option Inside → Event → Refusal → Type 0
RefusesEvent before inside event why =
    IsRefused before inside why (effect event) ⊎ ChoosesBadly before why (choice_of event)
