use Rattle.tx_txn.proofs.Posted.{pending_received, face_received, answer_received, queued_received}
use Rattle.tx_txn.proofs.laws.posts_by_faces.Goals as goal

pub returns-clause-pending : goal.returns-clause-pending
returns-clause-pending c = pending_received

pub returns-clause-face : goal.returns-clause-face
returns-clause-face c = face_received

pub returns-clause-answer : goal.returns-clause-answer
returns-clause-answer c = answer_received

pub returns-clause-queued : goal.returns-clause-queued
returns-clause-queued c = queued_received
