use Rattle.std.proofs.Common.{subst}
use Rattle.tx_content.specs.Crossings.{inverse_of}
use Rattle.tx_content.specs.Inverses.{Undoes}
use Rattle.tx_content.specs.declared.crossing.Turn.{Turn}
use Rattle.tx_content.proofs.content.Content.turn_back.Goals as goal

pub returns-in-Outside-clause-again : goal.returns-in-Outside-clause-again
returns-in-Outside-clause-again c = λ shaped before undoes.
    c.take_log_back.ensures.again before c.args.stack.now.items (subst (λ (it : Turn). Undoes c.args.self.now (inverse_of it) before) c.in-Outside.is undoes)

pub returns-in-Inside-clause-before : goal.returns-in-Inside-clause-before
returns-in-Inside-clause-before c = λ before undoes.
    c.take_member_back-none.ensures.before before (subst (λ (it : Turn). Undoes c.args.self.now (inverse_of it) before) c.in-Inside.is undoes)
