use Rattle.std.proofs.Common.{◌≡◌, ◌+◌, List, [], set, refl, sym, ap, subst, ◌∙◌}
use Rattle.std.specs.Prelude.{vec_capacity}
use Rattle.tx_change.specs.declared.change.Change.{Change}
use Rattle.tx_core.specs.Undo.{LeadsBack, LeadsOn}
use Rattle.tx_journal.proofs.Places.{head_there}
use Rattle.tx_journal.proofs.Turned.{forward_parted, goes_forward, holds_forward}
use Rattle.tx_journal.specs.Crossings.{crossed_in, undone_in, Crossed, GoesForward}
use Rattle.tx_journal.proofs.crossings.Crossings.forward.Goals as goal

pub redo-requires : goal.redo-requires
redo-requires c =
    let some = λ (empty : undone_in c.self.inside.places.items c.self.inside.made ≡ []). c.requires.kept (sym (ap (λ (crossed : Crossed). crossed.undone) c.self.view_is) ∙ empty) in
    let first = head_there (undone_in c.self.inside.places.items c.self.inside.made) some in
    holds_forward c.self.inside.places.items c.self.inside.made c.self.invariant c.index_mut-crossing.result.now c.index_mut-crossing.ensures.value first.0 first.1 first.2
    (λ undone. LeadsOn c.args.machine.now undone c.self.inside.stack.items)
    (subst (λ (stack : List Change). LeadsOn c.args.machine.now first.0 stack) (sym (ap (λ (crossed : Crossed). crossed.stack) c.self.view_is))
    (c.requires.leads first.0 first.1 (sym (ap (λ (crossed : Crossed). crossed.undone) c.self.view_is) ∙ first.2)))

pub invariant_of-self-2 : goal.invariant_of-self-2
invariant_of-self-2 c =
    let some = λ (empty : undone_in c.self.inside.places.items c.self.inside.made ≡ []). c.requires.kept (sym (ap (λ (crossed : Crossed). crossed.undone) c.self.view_is) ∙ empty) in
    let first = head_there (undone_in c.self.inside.places.items c.self.inside.made) some in
    forward_parted c.self.inside.places.items c.self.inside.made c.self.invariant c.index_mut-crossing.result.now c.index_mut-crossing.ensures.value first.0 first.1 first.2 _ c.redo.new.crossing refl
    (LeadsBack c.redo.new.self) c.in_ok-redo.ensures.back

pub returns-clause-forward : goal.returns-clause-forward
returns-clause-forward c = λ undone rest parts.
    subst
    (λ (old : Crossed). GoesForward c.args.machine.now old c.redo.new.self
    (crossed_in (set c.self.inside.places.items c.self.inside.made c.redo.new.crossing) (c.self.inside.made + 1) c.redo.new.stack.items (vec_capacity c.self.inside.places)) undone rest)
    c.self.view_is
    (goes_forward c.self.inside.places.items c.self.inside.made c.self.invariant c.index_mut-crossing.result.now c.index_mut-crossing.ensures.value undone rest (ap (λ (crossed : Crossed). crossed.undone) c.self.view_is ∙ parts) _ c.redo.new.crossing refl
    c.args.machine.now c.redo.new.self c.self.inside.stack.items c.redo.new.stack.items (vec_capacity c.self.inside.places)
    c.in_ok-redo.ensures.made c.in_ok-redo.ensures.undoes c.in_ok-redo.ensures.back c.in_ok-redo.ensures.whole c.in_ok-redo.ensures.stack)
