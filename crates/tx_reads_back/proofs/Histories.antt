-- The views of lawful histories.
use Rattle.std.proofs.Common.{ℕ, List}
use Rattle.tx_base.specs.declared.steps.Accepted.{Accepted}
use Rattle.tx_model.specs.Answer.{Lawful}
use Rattle.tx_model.specs.History.{Starters, nobody, table_of, without}
use Rattle.tx_model.specs.State.{State, boot_state}
use Rattle.tx_model.specs.View.{view}
use Rattle.tx_laws.specs.Laws.{BootedIsWellFormed, LawfulViewIsSound}
use Rattle.tx_laws.specs.WellFormed.{IsWellFormed}
use Rattle.tx_laws.specs.WellFormedTable.{HoldsNothing, IsWellFormedWith}
use Rattle.tx_reads_back.specs.StateTexts.{HistoriesAreOfKernel}

pub histories_of_kernel : LawfulViewIsSound → BootedIsWellFormed → ((width count : ℕ) → HoldsNothing (boot_state width count)) →
    ((start : State) (history : List Accepted) (left_out : Starters) → IsWellFormed start → Lawful start history → IsWellFormed (without start left_out history)) →
    ((start : State) (history : List Accepted) → IsWellFormed start → HoldsNothing start → Lawful start history → IsWellFormedWith (table_of start history) (without start nobody history)) →
    HistoriesAreOfKernel
unfolding view
histories_of_kernel sound booted_form holds_nothing form table_form width count history some fits lawful typed =
    let start : State = boot_state width count in
    let formed : IsWellFormed start = booted_form width count some fits in
    let is = sound start history lawful in
    record {
      width = is.width nobody;
      members = is.bounded;
      formed = form start history nobody formed lawful;
      table = table_form start history formed (holds_nothing width count) lawful;
      typed = typed;
    }
