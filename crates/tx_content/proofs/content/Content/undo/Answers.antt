use Rattle.std.proofs.Common.{subst}
use Rattle.tx_content.specs.Inverses.{Undoes}
use Rattle.tx_content.specs.declared.inverse.Inverse.{Inverse}
use Rattle.tx_content.proofs.content.Content.undo.Goals as goal

pub returns-in-Inside : goal.returns-in-Inside
returns-in-Inside c = λ before undoes. c.undo_inside.ensures before (subst (λ (inverse : Inverse). Undoes c.args.self.now inverse before) c.in-Inside.is undoes)

pub returns-in-Begun : goal.returns-in-Begun
returns-in-Begun c = λ before undoes. c.undo_begun.ensures before (subst (λ (inverse : Inverse). Undoes c.args.self.now inverse before) c.in-Begun.is undoes)

pub returns-in-Committed : goal.returns-in-Committed
returns-in-Committed c = λ before undoes. c.undo_committed.ensures before (subst (λ (inverse : Inverse). Undoes c.args.self.now inverse before) c.in-Committed.is undoes)

pub returns-in-Aborted : goal.returns-in-Aborted
returns-in-Aborted c = λ before undoes. c.undo_aborted.ensures before (subst (λ (inverse : Inverse). Undoes c.args.self.now inverse before) c.in-Aborted.is undoes)
