-- The content of a kernel as it is booted.
use Rattle.std.proofs.Common.{ℕ, ◌≤◌, sym, subst}
use Rattle.tx_step.specs.Contents.{BootedIsContent}
use Rattle.tx_laws.specs.LawsOfTable.{EmptyViewIsWellFormed}
use Rattle.tx_laws.specs.WellFormed.{IsWellFormed}
use Rattle.tx_laws.specs.WellFormedTable.{HoldsNothing, IsWellFormedView}
use Rattle.tx_model.specs.Events.{run}
use Rattle.tx_model.specs.History.{survivors, without}
use Rattle.tx_model.specs.State.{boot_state}
use Rattle.tx_model.specs.View.{View, view}

pub booted_content : ((width count : ℕ) → 1 ≤ count → count ≤ width → IsWellFormed (boot_state width count)) → ((width count : ℕ) → HoldsNothing (boot_state width count)) → EmptyViewIsWellFormed → BootedIsContent
unfolding view without survivors run
booted_content formed nothing start k width count low high shaped kept same = record {
  shaped = shaped;
  kept = kept;
  formed = λ left_out. subst (λ (V : View). IsWellFormed (V.without left_out)) (sym same) (formed width count low high);
  view = subst IsWellFormedView (sym same) (start (boot_state width count) (nothing width count));
}
