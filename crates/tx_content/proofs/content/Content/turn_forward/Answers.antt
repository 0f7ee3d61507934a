use Rattle.std.proofs.Common.{subst}
use Rattle.tx_content.specs.Crossings.{undone_of}
use Rattle.tx_content.specs.Redone.{Redoes}
use Rattle.tx_content.specs.declared.crossing.Turn.{Turn}
use Rattle.tx_content.proofs.content.Content.turn_forward.Goals as goal

pub returns-in-Inside-clause-made : goal.returns-in-Inside-clause-made
returns-in-Inside-clause-made c = λ after inverse redoes.
    c.redo_member.ensures.made after inverse (subst (λ (it : Turn). Redoes c.args.self.now (undone_of it) c.args.stack.now.items after inverse) c.in-Inside.is redoes)

pub returns-in-Inside-clause-inverse : goal.returns-in-Inside-clause-inverse
returns-in-Inside-clause-inverse c = λ after inverse redoes.
    c.redo_member.ensures.inverse after inverse (subst (λ (it : Turn). Redoes c.args.self.now (undone_of it) c.args.stack.now.items after inverse) c.in-Inside.is redoes)
