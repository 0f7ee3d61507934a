use Rattle.std.proofs.Common.{◌≡◌, Option, sym, subst}
use Rattle.tx_step.proofs.TwoFaces.{answer_told}
use Rattle.tx_step.proofs.faces.answer.Goals as goal
use Rattle.tx_step.specs.Faces.{face_as, queued_at}
use Rattle.tx_kernel.specs.Plans.{sending_of}
use Rattle.tx_kernel.specs.declared.posts.Face.{Face}
use Rattle.tx_signal.specs.Parts.{answer_of}
use Rattle.tx_txn.specs.Faces.{answer_at}
use Rattle.std.proofs.Common.{option_map}

pub returns-in-Some : goal.returns-in-Some
returns-in-Some c =
    subst (λ (x : Option Face). answer_of c.answer.result ≡ answer_at (sending_of c.args.sending.now) (option_map face_as x) (queued_at x)) (sym c.in-Some.is)
    (answer_told c.in-Some.face (sending_of c.args.sending.now) c.answer.result c.answer.ensures)
