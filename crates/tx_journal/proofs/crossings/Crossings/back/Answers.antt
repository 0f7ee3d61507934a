use Rattle.std.proofs.Common.{◌≡◌, ◌+◌, set, rules, refl, ap, subst, ◌∙◌, arith}
use Rattle.std.specs.Prelude.{vec_capacity}
use Rattle.tx_journal.proofs.Turned.{back_parted, goes_back, holds_back}
use Rattle.tx_journal.specs.Crossings.{crossed_in, Crossed, GoesBack}
use Rattle.std.proofs.lemmas.Grind.{common_steps}
use Rattle.tx_journal.proofs.crossings.Crossings.back.Goals as goal

pub take_back-requires-clause-leads : goal.take_back-requires-clause-leads
take_back-requires-clause-leads c = grind (arith, common_steps, holds_back)

pub invariant_of-self : goal.invariant_of-self
invariant_of-self c = grind (arith, common_steps, back_parted)

pub returns-then-moved-capacity-clause-back : goal.returns-then-moved-capacity-clause-back
returns-then-moved-capacity-clause-back c = λ rest i parts.
    let newest : c.in-Some.last + 1 ≡ c.self.inside.made = search rules in
    subst (λ (old : Crossed). GoesBack c.args.machine.now old c.take_back.new.self
    (crossed_in (set c.self.inside.places.items c.in-Some.last c.take_back.new.crossing) c.in-Some.last c.take_back.new.stack.items (vec_capacity c.self.inside.places)) rest i) c.self.view_is
    (goes_back c.self.inside.places.items c.self.inside.made c.self.invariant c.in-Some.last newest _ c.index_mut-crossing.result.now c.take_back.new.crossing c.index_mut-crossing.ensures.value refl
    c.args.machine.now c.take_back.new.self c.self.inside.stack.items c.take_back.new.stack.items (vec_capacity c.self.inside.places) c.take_back.ensures.before c.take_back.ensures.again
    rest i (ap (λ (crossed : Crossed). crossed.inverses) c.self.view_is ∙ parts))
