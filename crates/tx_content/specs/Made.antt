-- What a step makes of the content, by its role.
use Rattle.std.specs.Prelude.{◌≡◌, ◌⊎◌, ◌++◌, ℕ, true, List, Option, Some, None, length, take, drop}
use Rattle.tx_base.specs.Slots.{slot_at}
use Rattle.tx_base.specs.declared.names.Pid.{Pid}
use Rattle.tx_change.specs.Exchange.{applied, exchanged}
use Rattle.tx_change.specs.declared.change.Change.{Change}
use Rattle.tx_change.specs.declared.parts.Parts.{Parts}
use Rattle.tx_base.specs.declared.steps.Refusal.{Refusal}
use Rattle.tx_base.specs.declared.steps.Refusal.TheVariants.{NoMemory}
use Rattle.tx_kernel.specs.Acts.{Makes, choice_of}
use Rattle.tx_kernel.specs.Plans.{AreAmong, ChoosesBadly, memory_in, reply_of as reply_with}
use Rattle.tx_kernel.specs.declared.inside.Inside.{Inside}
use Rattle.tx_kernel.specs.declared.planned.Outcome.{Outcome}
use Rattle.tx_kernel.specs.declared.planned.Planned.{Planned}
use Rattle.tx_laws.specs.Commuting.{named_by}
use Rattle.tx_content.specs.Content.{content_of, now_of, owner_at, IsShaped}
use Rattle.tx_reserve.specs.Reservations.{unless}
use Rattle.tx_txn.specs.Content.{is_named}
use Rattle.tx_content.specs.Inverses.{changes_of, GoesWith, Undoes}
use Rattle.tx_content.specs.Redone.{EndsWhole}
use Rattle.tx_content.specs.declared.content.Content.{Content}
use Rattle.tx_content.specs.declared.inverse.Inverse.{Inverse}
use Rattle.tx_model.specs.Effects.{idle}
use Rattle.tx_model.specs.Events.{Event, effect, objects, reply_of}
use Rattle.tx_model.specs.Membership.{Role, Outside, Within, Commits, Aborts}
use Rattle.tx_model.specs.State.{Object, has_object}
use Rattle.tx_proc.specs.Parts.{process_in}
use Rattle.tx_proc.specs.declared.proc.Proc.{Proc}
use Rattle.tx_txn.specs.Steps.{next_content, Logs}

-- nobody else owns anything that the event reads and writes
abbrev pub IsUnowned : Content → Option ℕ → Event → Type 0
IsUnowned k own event =
    (o : Object) → has_object o (objects event (now_of k)) ≡ true → unless own (owner_at k o) ≡ None

-- the process exists and runs
abbrev pub IsRunning : Option Proc → Type 0
IsRunning None = ⊥
IsRunning (Some proc) = proc.status ≡ None

-- the plan at the end of a log is one of the event: once exchanged, the event is made
abbrev pub IsPlanned : Parts → Pid → Option Inside → Event → List Change → List Change → Planned
    → Type 0
IsPlanned parts pid inside event before between planned = (after : Parts) (now : List Change) →
    after ≡ applied parts (drop (length before) between)
    → now ≡ take (length before) between ++ exchanged parts (drop (length before) between) →
    Makes parts pid inside event before now after planned

-- the changes are of what the event names, or for an abort, of what its transaction owns
abbrev pub AreLocal : Role → Event → Content → List Change → Type 0
AreLocal Outside event k changes = AreAmong (named_by event (now_of k)) changes
AreLocal (Within s progress) event k changes = AreAmong (named_by event (now_of k)) changes
AreLocal (Commits s) event k changes = AreAmong (named_by event (now_of k)) changes
AreLocal (Aborts s status) event k changes =
    (o : Object) → is_named o changes ≡ true → owner_at k o ≡ Some s

-- a step of this role was made: the content is the next one, and the inverse leads back
pub record IsMade (old : Content) (role : Role) (event : Event) (process : ℕ) (new : Content)
    (inverse : Inverse) : Type 0 where
  pub records : List Change
  pub logs : Logs role event records (content_of old)
  pub next : content_of new ≡ next_content role event process records (content_of old)
  pub shaped : IsShaped new
  pub goes : GoesWith new inverse
  pub back : Undoes new inverse old
  pub local : AreLocal role event old (changes_of new inverse)
  pub whole : EndsWhole new inverse

-- why a step was not made: want of memory, the rule of its event, or a bad number that it chooses
abbrev pub RefusesStep : Content → Event → Refusal → Type 0
RefusesStep k event why =
    (why ≡ NoMemory)
    ⊎ (effect event (now_of k) ≡ idle why)
    ⊎ ChoosesBadly k.parts why (choice_of event)

-- the outcome gives the reply of the event; bytes that it shows are of the memory that the process
-- has now
abbrev pub Answers : Content → Event → Pid → Content → Outcome → Type 0
Answers old event pid new outcome =
    reply_of event (now_of old)
    ≡ reply_with (memory_in (process_in (slot_at new.parts.procs pid.0))) outcome
