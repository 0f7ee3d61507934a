use Rattle.std.proofs.Common.{sym, ap, ◌∙◌}
use Rattle.tx_content.specs.Content.{IsShaped}
use Rattle.tx_content.specs.CrossingFacts.{back_of, forward_so}
use Rattle.tx_content.specs.Crossings.{inverse_at, HoldsBack}
use Rattle.tx_content.specs.Inverses.{Undoes}
use Rattle.tx_content.specs.Redone.{EndsWhole, IsTakenBack}
use Rattle.tx_content.specs.declared.content.Content.{Content}
use Rattle.tx_content.specs.declared.crossing.Crossing.TheVariants.{Back}
use Rattle.tx_content.specs.declared.inverse.Inverse.{Inverse}
use Rattle.tx_content.specs.declared.inverse.Inverse.TheVariants.{Aborted, Begun, Committed, Inside}
use Rattle.tx_content.proofs.content.Content.take_whole_back.Goals as goal

pub returns-in-Inside-clause-before : goal.returns-in-Inside-clause-before
returns-in-Inside-clause-before c = λ before undoes.
    c.take_back_inside.ensures.before before (back_of (λ it. Undoes c.args.self.now it before) c.args.crossing.now (Inside c.in-Inside.step c.in-Inside.held)
    (ap inverse_at (sym c.replace.ensures.value ∙ c.in-Back.is ∙ ap (λ (inverse : Inverse). Back inverse) c.in-Inside.is)) undoes)

pub returns-in-Begun-clause-before : goal.returns-in-Begun-clause-before
returns-in-Begun-clause-before c = λ before undoes.
    c.take_back_begun.ensures.before before (back_of (λ it. Undoes c.args.self.now it before) c.args.crossing.now (Begun c.in-Begun.starter)
    (ap inverse_at (sym c.replace.ensures.value ∙ c.in-Back.is ∙ ap (λ (inverse : Inverse). Back inverse) c.in-Begun.is)) undoes)

pub returns-in-Committed-clause-before : goal.returns-in-Committed-clause-before
returns-in-Committed-clause-before c = λ before undoes.
    c.take_back_committed.ensures.before before (back_of (λ it. Undoes c.args.self.now it before) c.args.crossing.now (Committed c.in-Committed.boxed c.in-Committed.count c.in-Committed.held)
    (ap inverse_at (sym c.replace.ensures.value ∙ c.in-Back.is ∙ ap (λ (inverse : Inverse). Back inverse) c.in-Committed.is)) undoes)

pub returns-in-Committed-clause-again : goal.returns-in-Committed-clause-again
returns-in-Committed-clause-again c =
    let k : Content = c.args.self.now in
    let inverse : Inverse = Committed c.in-Committed.boxed c.in-Committed.count c.in-Committed.held in
    let is = ap inverse_at (sym c.replace.ensures.value ∙ c.in-Back.is ∙ ap (λ (inverse : Inverse). Back inverse) c.in-Committed.is) in
    forward_so
    (λ undone. IsShaped k → EndsWhole k inverse → (before : Content) → IsShaped before → Undoes k inverse before → IsTakenBack before undone c.take_back_committed.new.stack.items k c.args.stack.now.items)
    (λ undone. IsShaped k → HoldsBack c.args.crossing.now (EndsWhole k) → (before : Content) → IsShaped before → HoldsBack c.args.crossing.now (λ it. Undoes k it before) →
    IsTakenBack before undone c.take_back_committed.new.stack.items k c.args.stack.now.items)
    c.take_back_committed.new.crossing
    (λ undone again shaped whole before shaped_before undoes. again shaped (back_of (EndsWhole k) c.args.crossing.now inverse is whole) before shaped_before (back_of (λ it. Undoes k it before) c.args.crossing.now inverse is undoes))
    c.take_back_committed.ensures.again

pub returns-in-Aborted-clause-before : goal.returns-in-Aborted-clause-before
returns-in-Aborted-clause-before c = λ before undoes.
    c.take_back_aborted.ensures.before before (back_of (λ it. Undoes c.args.self.now it before) c.args.crossing.now (Aborted c.in-Aborted.boxed c.in-Aborted.stood)
    (ap inverse_at (sym c.replace.ensures.value ∙ c.in-Back.is ∙ ap (λ (inverse : Inverse). Back inverse) c.in-Aborted.is)) undoes)
