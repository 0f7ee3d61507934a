use Rattle.std.proofs.Common.{ap}
use Rattle.tx_content.specs.CrossingFacts.{back_of}
use Rattle.tx_content.specs.Crossings.{inverse_at, inverse_of}
use Rattle.tx_content.specs.Inverses.{Undoes}
use Rattle.tx_content.proofs.content.Content.take_back.Goals as goal

pub returns-in-Turn-clause-before : goal.returns-in-Turn-clause-before
returns-in-Turn-clause-before c = λ before undoes.
    c.turn_back.ensures.before before (back_of (λ it. Undoes c.args.self.now it before) c.args.crossing.now (inverse_of c.in-Turn.turn) (ap inverse_at c.in-Turn.is) undoes)

pub returns-in-Turn-clause-again : goal.returns-in-Turn-clause-again
returns-in-Turn-clause-again c = λ shaped whole before shaped_before undoes.
    c.turn_back.ensures.again shaped before (back_of (λ it. Undoes c.args.self.now it before) c.args.crossing.now (inverse_of c.in-Turn.turn) (ap inverse_at c.in-Turn.is) undoes)
