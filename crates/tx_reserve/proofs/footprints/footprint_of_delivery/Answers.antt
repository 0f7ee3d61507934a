use Rattle.std.proofs.Common.{[], ◌∷◌, Option, ap, sym}
use Rattle.tx_model.specs.Footprints.{delivery_row_at}
use Rattle.tx_proc.specs.Parts.{process_in}
use Rattle.tx_proc.specs.declared.proc.Proc.{Proc as TheProc}
use Rattle.tx_change.specs.States.{state_of}
use Rattle.tx_kernel.specs.Actors.{me_of}
use Rattle.tx_model.specs.Footprints.{delivery_row, footprint}
use Rattle.tx_model.specs.State.{Proc}
use Rattle.tx_reserve.specs.Footprints.{table_at}
use Rattle.tx_reserve.proofs.Rows.{adds_one, adds_both, adds_same, set_of}
use Rattle.tx_reserve.proofs.footprints.footprint_of_delivery.Goals as goal

pub returns : goal.returns
unfolding footprint
returns c = λ held goes.
    let t = table_at c.args.actor.now c.args.marks.now in
    let p = c.args.actor.now.pid.0 in
    let S = state_of held c.args.actor.now.parts.now in
    set_of c.args.set.now _ c.requires.empty
    (adds_same (Proc p ∷ delivery_row t p c.args.signo.0 (me_of c.args.actor.now) S) _ (ap (λ (x : Option TheProc). Proc p ∷ delivery_row_at t p c.args.signo.0 (process_in x) S) (sym c.requires.actor.there))
    (adds_both (Proc p ∷ []) (delivery_row t p c.args.signo.0 (me_of c.args.actor.now) S) (adds_one _ _ (Proc p) c.insert.ensures) (c.add_delivery.ensures held goes)))
