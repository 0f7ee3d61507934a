use Rattle.std.proofs.Common.{true, false, lt-ltb, le-ltb, refl, sym, ◌∙◌}
use Rattle.std.specs.Prelude.{nat_lt}
use Rattle.tx_base.specs.declared.limits.TheConstants.{QUEUED}
use Rattle.tx_step.proofs.TwoFaces.{face_after, reach_told, reaches_at}
use Rattle.tx_kernel.specs.Plans.{sending_of}
use Rattle.tx_step.proofs.faces.after.Goals as goal
use Rattle.tx_step.proofs.faces.after.Goals.{else-is_realtime-via-then-is_realtime+then-face-lt-QUEUED+else-reaches, else-is_realtime-via-then-is_realtime+else-face-lt-QUEUED, else-is_realtime-via-else-is_realtime}

pub returns-then-reaches : goal.returns-then-reaches
returns-then-reaches c =
    let m = sending_of c.args.sending.now in
    face_after m c.args.face true true true
    (sym (reach_told c.args.face m c.reaches.result c.reaches.ensures) ∙ c.if-reaches.true)
    (sym c.is_realtime.ensures.number ∙ c.if-is_realtime.true)
    (lt-ltb c.args.face.queued QUEUED c.if-face-lt-QUEUED.true)

pub returns-else-is_realtime : goal.returns-else-is_realtime
returns-else-is_realtime c =
    let m = sending_of c.args.sending.now in
    let reaches = reaches_at m c.args.face in
    let realtime = c.is_realtime.ensures.number in
    elim c.else-is_realtime.branch [
      | else-is_realtime-via-then-is_realtime+then-face-lt-QUEUED+else-reaches w ↦
          face_after m c.args.face false true true (sym (reach_told c.args.face m w.reaches.result w.reaches.ensures) ∙ w.if-reaches.false) (sym realtime ∙ w.if-is_realtime.true) (lt-ltb c.args.face.queued QUEUED w.if-face-lt-QUEUED.true)
      | else-is_realtime-via-then-is_realtime+else-face-lt-QUEUED w ↦
          face_after m c.args.face reaches true false refl (sym realtime ∙ w.if-is_realtime.true) (le-ltb c.args.face.queued QUEUED w.if-face-lt-QUEUED.false)
      | else-is_realtime-via-else-is_realtime w ↦
          face_after m c.args.face reaches false (nat_lt c.args.face.queued QUEUED) refl (sym realtime ∙ w.if-is_realtime.false) refl
    ]
