use Rattle.std.proofs.Common.{ap, ◌∙◌, arith}
use Rattle.tx_journal.proofs.Turned.{more_inverses, more_parted, more_undone}
use Rattle.tx_journal.specs.Crossings.{Crossed}
use Rattle.std.proofs.lemmas.Grind.{common_steps}
use Rattle.tx_journal.proofs.crossings.Crossings.push.Goals as goal

pub invariant_of-self : goal.invariant_of-self
invariant_of-self c =
    let none = ap (λ (crossed : Crossed). crossed.undone) c.self.view_is ∙ c.requires.none in
    more_parted c.self.inside.places.items c.self.inside.made c.self.invariant c.push_reserved.new.self.items c.from.result c.args.inverse none c.from.ensures c.push_reserved.ensures.items

pub returns-clause-inverses : goal.returns-clause-inverses
returns-clause-inverses c = grind (arith, common_steps, more_inverses)

pub returns-clause-undone : goal.returns-clause-undone
returns-clause-undone c = grind (arith, common_steps, more_undone)
