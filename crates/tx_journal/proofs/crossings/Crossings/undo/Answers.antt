use Rattle.std.proofs.Common.{◌≡◌, ◌≢◌, ◌-◌, [], Some, None, sym, ap, subst, ◌∙◌, arith}
use Rattle.std.specs.Prelude.{vec_capacity}
use Rattle.tx_core.specs.Undo.{LeadsBack}
use Rattle.tx_journal.proofs.Turned.{goes_undone, popped_back, popped_parted, popped_undone}
use Rattle.tx_journal.specs.Crossings.{crossed_in, inverses_in, Crossed, GoesBack}
use Rattle.tx_content.specs.CrossingFacts.{back_of, is_back}
use Rattle.std.proofs.lemmas.Grind.{common_steps}
use Rattle.tx_journal.proofs.crossings.Crossings.undo.Goals as goal

pub invariant_of-self-in_default-into_inverse : goal.invariant_of-self-in_default-into_inverse
invariant_of-self-in_default-into_inverse c =
    let none = ap (λ (crossed : Crossed). crossed.undone) c.self.view_is ∙ c.requires.none in
    let some : inverses_in c.self.inside.places.items c.self.inside.made ≢ [] = λ empty. c.requires.some (sym (ap (λ (crossed : Crossed). crossed.inverses) c.self.view_is) ∙ empty) in
    let back = is_back (LeadsBack c.args.machine.now) c.in-Some.crossing
    (popped_back c.self.inside.places.items c.self.inside.made c.self.invariant c.pop.new.self.items c.in-Some.crossing none c.in-Some.ensures.items some
    (LeadsBack c.args.machine.now) (λ rest i parts. c.requires.leads rest i (sym (ap (λ (crossed : Crossed). crossed.inverses) c.self.view_is) ∙ parts))) in
    absurd (let none_there : Some back.0 ≡ None = sym back.1 ∙ sym c.into_inverse.ensures ∙ c.in_default-into_inverse.is in cc)

pub returns-in_default-into_inverse-clause-back : goal.returns-in_default-into_inverse-clause-back
returns-in_default-into_inverse-clause-back c =
    let none = ap (λ (crossed : Crossed). crossed.undone) c.self.view_is ∙ c.requires.none in
    let some : inverses_in c.self.inside.places.items c.self.inside.made ≢ [] = λ empty. c.requires.some (sym (ap (λ (crossed : Crossed). crossed.inverses) c.self.view_is) ∙ empty) in
    let back = is_back (LeadsBack c.args.machine.now) c.in-Some.crossing
    (popped_back c.self.inside.places.items c.self.inside.made c.self.invariant c.pop.new.self.items c.in-Some.crossing none c.in-Some.ensures.items some
    (LeadsBack c.args.machine.now) (λ rest i parts. c.requires.leads rest i (sym (ap (λ (crossed : Crossed). crossed.inverses) c.self.view_is) ∙ parts))) in
    absurd (let none_there : Some back.0 ≡ None = sym back.1 ∙ sym c.into_inverse.ensures ∙ c.in_default-into_inverse.is in cc)

pub undo-requires : goal.undo-requires
undo-requires c =
    let none = ap (λ (crossed : Crossed). crossed.undone) c.self.view_is ∙ c.requires.none in
    let some : inverses_in c.self.inside.places.items c.self.inside.made ≢ [] = λ empty. c.requires.some (sym (ap (λ (crossed : Crossed). crossed.inverses) c.self.view_is) ∙ empty) in
    back_of (LeadsBack c.args.machine.now) c.in-Some.crossing c.in-Some-into_inverse.inverse (sym c.into_inverse.ensures ∙ c.in-Some-into_inverse.is)
    (popped_back c.self.inside.places.items c.self.inside.made c.self.invariant c.pop.new.self.items c.in-Some.crossing none c.in-Some.ensures.items some
    (LeadsBack c.args.machine.now) (λ rest i parts. c.requires.leads rest i (sym (ap (λ (crossed : Crossed). crossed.inverses) c.self.view_is) ∙ parts)))

pub invariant_of-self-2 : goal.invariant_of-self-2
invariant_of-self-2 c = grind (arith, common_steps, popped_parted)

pub returns-clause-back : goal.returns-clause-back
returns-clause-back c = λ rest i parts.
    let none = ap (λ (crossed : Crossed). crossed.undone) c.self.view_is ∙ c.requires.none in
    let some : inverses_in c.self.inside.places.items c.self.inside.made ≢ [] = λ empty. c.requires.some (sym (ap (λ (crossed : Crossed). crossed.inverses) c.self.view_is) ∙ empty) in
    subst (λ (old : Crossed). GoesBack c.args.machine.now old c.undo.new.self (crossed_in c.pop.new.self.items (c.self.inside.made - 1) c.self.inside.stack.items (vec_capacity c.pop.new.self)) rest i) c.self.view_is
    (goes_undone c.self.inside.places.items c.self.inside.made c.self.invariant c.pop.new.self.items c.in-Some.crossing none c.in-Some.ensures.items some
    c.args.machine.now c.undo.new.self c.in-Some-into_inverse.inverse c.self.inside.stack.items (vec_capacity c.self.inside.places) (vec_capacity c.pop.new.self) c.pop.ensures.capacity (sym c.into_inverse.ensures ∙ c.in-Some-into_inverse.is) c.undo.ensures
    rest i (ap (λ (crossed : Crossed). crossed.inverses) c.self.view_is ∙ parts))

pub returns-clause-none : goal.returns-clause-none
returns-clause-none c = grind (arith, common_steps, popped_undone)
