use Rattle.tx_journal.proofs.NotesKept.{note_along}
use Rattle.tx_journal.proofs.retrace.Retrace.next.Goals as goal

pub returns-clause-note : goal.returns-clause-note
returns-clause-note c = note_along c.self.inside.content c.args.self.now c.args.step.now c.in-Some.note c.self.view_is c.in-Some.ensures
