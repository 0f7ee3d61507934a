use Rattle.tx_base.specs.Slots.{slot_at}
use Rattle.tx_step.proofs.TwoFaces.{faces_told}
use Rattle.tx_step.specs.declared.faces.Faces.{Faces}
use Rattle.tx_proc.specs.Parts.{process_in}
use Rattle.tx_step.proofs.faces.Faces.of.Goals as goal

pub returns : goal.returns
returns c =
    let faces : Faces = record { present = c.face_of.result; kept = c.face.result } in
    faces_told c.args.pid.0 faces (process_in (slot_at c.args.parts.now.procs c.args.pid.0)) c.args.kept.now c.face_of.ensures.face c.face_of.ensures.queued c.face.ensures
