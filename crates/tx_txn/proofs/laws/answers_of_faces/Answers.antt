use Rattle.tx_txn.proofs.Answered.{doom_pending, two_answers_faces, in_way_faces, starter_in_way_faces}
use Rattle.tx_txn.proofs.laws.answers_of_faces.Goals as goal

pub returns-clause-doom : goal.returns-clause-doom
returns-clause-doom c = λ content starter txn kept. doom_pending c.role_laws.ensures content kept starter txn

pub returns-clause-two_answers : goal.returns-clause-two_answers
returns-clause-two_answers c = λ content event starter txn kept. two_answers_faces c.role_laws.ensures content kept event starter txn

pub returns-clause-in_way : goal.returns-clause-in_way
returns-clause-in_way c = λ content event starter kept. in_way_faces c.role_laws.ensures content kept event starter

pub returns-clause-starter_in_way : goal.returns-clause-starter_in_way
returns-clause-starter_in_way c = λ content event kept. starter_in_way_faces c.role_laws.ensures content kept event
