use Rattle.std.proofs.Common.{subst, sym}
use Rattle.tx_core.proofs.MadeAgain.{ends_whole, goes_again, leads_back, machine_after, made_again, takes_back, undoes_it}
use Rattle.tx_core.specs.Undo.{LeadsOn}
use Rattle.tx_content.specs.Crossings.{HoldsForward}
use Rattle.tx_content.specs.declared.content.Content.{Content}
use Rattle.tx_core.proofs.machine.Machine.redo.Goals as goal

pub redo-requires : goal.redo-requires
redo-requires c =
    goes_again c.self.inside.content c.args.crossing.now c.args.stack.now.items (subst (λ (k : Content). HoldsForward c.args.crossing.now (λ undone. LeadsOn k undone c.args.stack.now.items)) (sym c.self.view_is) c.requires)

pub invariant_of-self : goal.invariant_of-self
invariant_of-self c =
    machine_after c.self.inside.content c.redo.new.self c.args.crossing.now c.args.stack.now.items c.redo.result c.self.invariant
    (subst (λ (k : Content). HoldsForward c.args.crossing.now (λ undone. LeadsOn k undone c.args.stack.now.items)) (sym c.self.view_is) c.requires) c.redo.ensures.made c.redo.ensures.err

pub returns-clause-made : goal.returns-clause-made
returns-clause-made c = rw (← c.self.view_is) (made_again c.self.inside.content c.redo.new.self c.args.crossing.now c.args.stack.now.items c.redo.result c.redo.ensures.made)

pub returns-clause-undoes : goal.returns-clause-undoes
returns-clause-undoes c =
    let leads = subst (λ (k : Content). HoldsForward c.args.crossing.now (λ undone. LeadsOn k undone c.args.stack.now.items)) (sym c.self.view_is) c.requires in
    rw (← c.self.view_is) (undoes_it c.self.inside.content c.redo.new.self c.redo.new.crossing c.redo.result
    (takes_back c.self.inside.content c.redo.new.self c.args.crossing.now c.redo.new.crossing c.args.stack.now.items c.redo.result c.self.invariant leads c.redo.ensures.back))

pub returns-clause-back : goal.returns-clause-back
returns-clause-back c =
    let leads = subst (λ (k : Content). HoldsForward c.args.crossing.now (λ undone. LeadsOn k undone c.args.stack.now.items)) (sym c.self.view_is) c.requires in
    leads_back c.self.inside.content c.redo.new.self c.redo.new.crossing c.redo.result c.self.invariant
    (takes_back c.self.inside.content c.redo.new.self c.args.crossing.now c.redo.new.crossing c.args.stack.now.items c.redo.result c.self.invariant leads c.redo.ensures.back)

pub returns-clause-whole : goal.returns-clause-whole
returns-clause-whole c =
    let leads = subst (λ (k : Content). HoldsForward c.args.crossing.now (λ undone. LeadsOn k undone c.args.stack.now.items)) (sym c.self.view_is) c.requires in
    ends_whole c.self.inside.content c.redo.new.self c.redo.new.crossing c.redo.result
    (takes_back c.self.inside.content c.redo.new.self c.args.crossing.now c.redo.new.crossing c.args.stack.now.items c.redo.result c.self.invariant leads c.redo.ensures.back)
