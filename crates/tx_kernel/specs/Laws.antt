-- The laws that the proofs of plans use, and those of their states.
use Rattle.std.specs.Prelude.{◌≡◌, ◌≤◌, ℕ, [], Option, true}
use Rattle.tx_base.specs.declared.steps.Call.{Call}
use Rattle.tx_change.specs.Counts.{CountsAgree}
use Rattle.tx_change.specs.Laws.{HaveAllPlaces}
use Rattle.tx_change.specs.States.{state_of}
use Rattle.tx_change.specs.declared.parts.Parts.{Parts}
use Rattle.tx_kernel.specs.Actors.{IsWhole}
use Rattle.tx_kernel.specs.Calls.{sends_nothing}
use Rattle.tx_model.specs.Effects.{Inside}
use Rattle.tx_model.specs.State.{Process, State, boot_state}
use Rattle.tx_model.specs.Words.{call_effect}
use Rattle.tx_change.specs.Counts.{CountsElsewhere, CountsNameless, CountsPlanned, CountsReplaced, CountsWithOthers, PlansAreNamed, RoomForName, RoomForNames, SlotInTurn}
use Rattle.tx_change.specs.Laws.{AppliedAppended, ApplyThenRevert, BackIsWrite, ChangedAppended, ChangesStateInTurn, ExchangedBring, ExchangedStayNamed, ExchangesBack, FrontIsRead, NamedAppended, PartsReplaceProcess, PlacesStay, SizesStay}

-- what changes make of the state, of the counts of names and of the places of processes
pub record PlanLaws : Type 0 where
  pub changes : ChangesStateInTurn
  pub process : PartsReplaceProcess
  pub applied : AppliedAppended
  pub changed : ChangedAppended
  pub named : NamedAppended
  pub places : PlacesStay
  pub taken : ExchangedBring
  pub plans : PlansAreNamed
  pub call : CountsPlanned
  pub replaced : CountsReplaced
  pub others : CountsWithOthers
  pub elsewhere : CountsElsewhere
  pub room : RoomForName
  pub rooms : RoomForNames
  pub front : FrontIsRead
  pub back : BackIsWrite
  pub sizes : SizesStay
  pub nameless : CountsNameless
  pub again : ExchangesBack
  pub reverts : ApplyThenRevert
  pub stays : ExchangedStayNamed
  pub slots : SlotInTurn

-- parts as at boot are whole
abbrev pub BootedAreWhole : Type 0
BootedAreWhole =
    (width count : ℕ) (parts : Parts) → 1 ≤ count → count ≤ width → width ≤ 256
    → state_of (λ starter. []) parts ≡ boot_state width count → HaveAllPlaces parts
    → CountsAgree parts →
    IsWhole parts

-- a call other than a kill, a sigqueue, an exit and a write sends nothing
abbrev pub QuietCallsSendNothing : Type 0
QuietCallsSendNothing =
    (inside : Option Inside) (p : ℕ) (called : Call) (me : Process) (S : State)
    → sends_nothing called ≡ true → (call_effect inside p called me S).sends ≡ []
