use Rattle.std.proofs.Common.{sym, ap, ◌∙◌}
use Rattle.std.proofs.lemmas.Result.{on_ok_weaker}
use Rattle.tx_content.proofs.CommittedMade.{back_made, back_same}
use Rattle.tx_content.specs.CrossingFacts.{forward_of}
use Rattle.tx_content.specs.Crossings.{inverse_at, undone_at}
use Rattle.tx_content.specs.Redone.{IsTakenBack, Redoes}
use Rattle.tx_content.specs.declared.crossing.Crossing.TheVariants.{Forward}
use Rattle.tx_content.specs.declared.undone.Undone.{Undone}
use Rattle.tx_content.specs.declared.undone.Undone.TheVariants as taken
use Rattle.tx_content.proofs.content.Content.make_again.Goals as goal

pub returns-in-Inside-clause-made : goal.returns-in-Inside-clause-made
returns-in-Inside-clause-made c = λ after inverse redoes.
    c.redo_inside.ensures.made after inverse (forward_of (λ it. Redoes c.args.self.now it c.args.stack.now.items after inverse) c.args.crossing.now (taken.Inside c.in-Inside.step c.in-Inside.held) (ap undone_at (sym c.replace.ensures.value ∙ c.in-Forward.is ∙ ap (λ (undone : Undone). Forward undone) c.in-Inside.is)) redoes)

pub returns-in-Inside-clause-back : goal.returns-in-Inside-clause-back
returns-in-Inside-clause-back c = λ shaped after rest back.
    let here = forward_of (λ it. IsTakenBack c.args.self.now it c.args.stack.now.items after rest) c.args.crossing.now (taken.Inside c.in-Inside.step c.in-Inside.held) (ap undone_at (sym c.replace.ensures.value ∙ c.in-Forward.is ∙ ap (λ (undone : Undone). Forward undone) c.in-Inside.is)) back in
    back_made c.redo_inside.result c.args.self.now c.redo_inside.new.self after c.redo_inside.new.crossing here.inverse
    (c.redo_inside.ensures.made after here.inverse here.redoes) (on_ok_weaker c.redo_inside.result (ap inverse_at) (c.redo_inside.ensures.inverse after here.inverse here.redoes)) (here.goes, here.back, here.whole)

pub returns-in-Committed-clause-made : goal.returns-in-Committed-clause-made
returns-in-Committed-clause-made c = λ after inverse redoes.
    c.redo_committed.ensures.made after inverse (forward_of (λ it. Redoes c.args.self.now it c.args.stack.now.items after inverse) c.args.crossing.now (taken.Committed c.in-Committed.starter c.in-Committed.count c.in-Committed.held) (ap undone_at (sym c.replace.ensures.value ∙ c.in-Forward.is ∙ ap (λ (undone : Undone). Forward undone) c.in-Committed.is)) redoes)

pub returns-in-Aborted-clause-made : goal.returns-in-Aborted-clause-made
returns-in-Aborted-clause-made c = λ after inverse redoes.
    c.redo_aborted.ensures.made after inverse (forward_of (λ it. Redoes c.args.self.now it c.args.stack.now.items after inverse) c.args.crossing.now (taken.Aborted c.in-Aborted.starter c.in-Aborted.stands c.in-Aborted.members) (ap undone_at (sym c.replace.ensures.value ∙ c.in-Forward.is ∙ ap (λ (undone : Undone). Forward undone) c.in-Aborted.is)) redoes)

pub returns-in-Aborted-clause-back : goal.returns-in-Aborted-clause-back
returns-in-Aborted-clause-back c = λ shaped after rest back.
    let here = forward_of (λ it. IsTakenBack c.args.self.now it c.args.stack.now.items after rest) c.args.crossing.now (taken.Aborted c.in-Aborted.starter c.in-Aborted.stands c.in-Aborted.members) (ap undone_at (sym c.replace.ensures.value ∙ c.in-Forward.is ∙ ap (λ (undone : Undone). Forward undone) c.in-Aborted.is)) back in
    back_same c.args.self.now c.redo_aborted.new.self after c.redo_aborted.new.crossing here.inverse
    (c.redo_aborted.ensures.made after here.inverse here.redoes) (ap inverse_at (c.redo_aborted.ensures.inverse after here.inverse here.redoes)) (here.goes, here.back, here.whole)
