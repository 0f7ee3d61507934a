use Rattle.std.proofs.Common.{[], ◌∷◌, refl, sym}
use Rattle.std.specs.Option.{option_copied}
use Rattle.tx_base.specs.Slots.{slot_at}
use Rattle.tx_base.specs.declared.names.Pid.{Pid}
use Rattle.tx_change.specs.States.{state_of}
use Rattle.tx_change.specs.declared.parts.Parts.{Parts}
use Rattle.tx_model.specs.Footprints.{footprint}
use Rattle.tx_model.specs.State.{Proc}
use Rattle.tx_reserve.specs.Footprints.{GoesBy, IsSetOf, table_of}
use Rattle.tx_reserve.proofs.AnyStep.{found_by, held_by, missing_named}
use Rattle.tx_reserve.proofs.Rows.{adds_one, adds_same, set_of}
use Rattle.tx_reserve.proofs.step_footprint.put_step.Goals as goal

pub returns-in-Some : goal.returns-in-Some
returns-in-Some c = λ all holds.
    let marks = c.args.marks.now in
    let step = c.args.step.now in
    let found = c.in-Some.ensures in
    found_by (λ (parts : Parts) (pid : Pid). IsSetOf c.put_row.new.set (footprint (table_of parts marks) step (state_of all parts))) found.parts found.number
    (c.put_row.ensures all (found_by (λ (parts : Parts) (pid : Pid). GoesBy (table_of parts marks) pid.0 (slot_at marks pid.0) (option_copied c.last_by.result) all)
    (sym found.parts) (sym found.number) (c.last_by.ensures all (held_by marks c.args.pid step c.args.held.now all c.requires.own holds))))

pub returns-in-None : goal.returns-in-None
returns-in-None c = λ all holds.
    let t = table_of c.args.parts.now c.args.marks.now in
    let p = c.args.pid in
    let S = state_of all c.args.parts.now in
    set_of c.args.set.now _ c.requires.empty
    (adds_same (Proc p.0 ∷ []) _ (missing_named t p c.args.step.now S c.requires.own (rw (c.in-None.ensures.none refl) refl))
    (adds_one _ _ (Proc p.0) c.insert.ensures))
