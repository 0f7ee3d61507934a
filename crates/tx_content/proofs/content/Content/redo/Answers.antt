use Rattle.std.proofs.Common.{Some, ap}
use Rattle.std.proofs.lemmas.Result.{on_ok_weaker}
use Rattle.tx_content.proofs.CommittedMade.{back_made}
use Rattle.tx_content.specs.CrossingFacts.{forward_of}
use Rattle.tx_content.specs.Crossings.{undone_at, undone_of}
use Rattle.tx_content.specs.Redone.{IsTakenBack, Redoes}
use Rattle.tx_content.specs.declared.content.Content.{Content}
use Rattle.tx_content.specs.declared.crossing.Crossing.TheVariants.{Turn as Turning}
use Rattle.tx_content.specs.declared.inverse.Inverse.{Inverse}
use Rattle.tx_content.proofs.content.Content.redo.Goals as goal

pub returns-in-Turn-clause-made : goal.returns-in-Turn-clause-made
returns-in-Turn-clause-made c = λ after inverse redoes.
    c.turn_forward.ensures.made after inverse
    (forward_of (λ it. Redoes c.args.self.now it c.args.stack.now.items after inverse) c.args.crossing.now (undone_of c.in-Turn.turn) (ap undone_at c.in-Turn.is) redoes)

pub returns-in-Turn-clause-back : goal.returns-in-Turn-clause-back
returns-in-Turn-clause-back c = λ shaped after rest back.
    let k : Content = c.args.self.now in
    let here = forward_of (λ it. IsTakenBack k it c.args.stack.now.items after rest) c.args.crossing.now (undone_of c.in-Turn.turn) (ap undone_at c.in-Turn.is) back in
    back_made c.turn_forward.result k c.turn_forward.new.self after (Turning c.turn_forward.new.turn) here.inverse
    (c.turn_forward.ensures.made after here.inverse here.redoes) (on_ok_weaker c.turn_forward.result (ap (λ (it : Inverse). Some it)) (c.turn_forward.ensures.inverse after here.inverse here.redoes)) (here.goes, here.back, here.whole)
