-- The process that makes a step, and the transaction in which it makes it.
use Rattle.std.specs.Prelude.{◌≡◌, ℕ, ◌≤◌, List, [], Option, Some, None, length}
use Rattle.tx_base.specs.Slots.{slot_at}
use Rattle.tx_change.specs.Counts.{CountsAgree}
use Rattle.tx_change.specs.Exchange.{IsPid, sizes_of}
use Rattle.tx_change.specs.Laws.{HaveAllPlaces}
use Rattle.tx_change.specs.States.{state_of}
use Rattle.tx_change.specs.declared.parts.Parts.{Parts}
use Rattle.tx_laws.specs.WellFormed.{IsWellFormed}
use Rattle.tx_kernel.specs.declared.actor.Actor.{Actor}
use Rattle.tx_kernel.specs.declared.inside.Inside.{Inside}
use Rattle.tx_model.specs.Effects.{Effect, Inside as TheInside}
use Rattle.tx_model.specs.Forms.{Caller, Rule, effect_of}
use Rattle.tx_model.specs.Membership.{is_of}
use Rattle.tx_model.specs.Book.{member_sends}
use Rattle.tx_model.specs.State.{Object, Process, Sending, State}
use Rattle.tx_proc.specs.Parts.{process_of}

-- the transaction, as the definitions have it
abbrev pub transaction_of : Inside → TheInside
transaction_of inside = record {
  starter = inside.starter.0;
  members = λ n. is_of inside.starter.0 (slot_at inside.marks.now n);
  defers = inside.defers;
}

abbrev pub inside_of : Option Inside → Option TheInside
inside_of None = None
inside_of (Some inside) = Some (transaction_of inside)

-- the number of held sends is how many members handed out
abbrev pub CountsHeld : Option Inside → (ℕ → List Sending) → Type 0
CountsHeld None held = Unit {0}
CountsHeld (Some inside) held = member_sends (held inside.starter.0) ≡ inside.held

-- the counts of names are right, each process has its places, and the state is well formed, as is
-- every state that a history leads to
pub record IsWhole (parts : Parts) : Type 0 where
  pub counts : CountsAgree parts
  pub places : HaveAllPlaces parts
  pub few : length parts.procs ≤ 256
  pub formed : IsWellFormed (state_of (λ starter. []) parts)

-- the process is the one of its number, and runs
pub record IsActor (actor : Actor) : Type 0 where
  pub whole : IsWhole actor.parts.now
  pub number : IsPid (sizes_of actor.parts.now) actor.pid.0
  pub there : slot_at actor.parts.now.procs actor.pid.0 ≡ Some actor.proc.now
  pub runs : actor.proc.now.status ≡ None

-- the process, as the definitions have it
abbrev pub me_of : Actor → Process
me_of actor = process_of actor.proc.now

-- the process as the caller of the rules, in a state
abbrev pub caller_of : Actor → State → Caller
caller_of actor S =
    record {
      number = actor.pid.0;
      process = me_of actor;
      inside = inside_of actor.inside;
      state = S;
    }

-- what a rule does for it, and what its call names besides its process
abbrev pub effect_by : Actor → Rule → State → Effect
effect_by actor rule S = effect_of actor.pid.0 (me_of actor) (rule (caller_of actor S))

abbrev pub names_by : Actor → (Caller → List Object) → State → List Object
names_by actor names S = names (caller_of actor S)
