use Rattle.std.proofs.Common.{w64, rules}
use Rattle.std.proofs.lemmas.Int.{to_z-of_z}
use Rattle.std.specs.Prelude.{FitsSigned}
use Rattle.tx_model.specs.State.{Proc}
use Rattle.tx_reserve.proofs.Rows.{adds_one, waits_one, waits_none}
use Rattle.tx_reserve.proofs.footprints.add_waitpid.Goals as goal

pub returns-in-Some : goal.returns-in-Some
returns-in-Some c =
    let fits_number : FitsSigned w64 c.args.number = search rules in
    λ held. waits_one _ c.in-Some.child.0 (simp (to_z-of_z w64 c.args.number fits_number) at c.in-Some.ensures) (adds_one _ _ (Proc c.in-Some.child.0) c.insert.ensures)

pub returns-in_default : goal.returns-in_default
returns-in_default c =
    let fits_number : FitsSigned w64 c.args.number = search rules in
    λ held. waits_none c.args.set.now _ (simp (to_z-of_z w64 c.args.number fits_number) at c.in_default.ensures)
