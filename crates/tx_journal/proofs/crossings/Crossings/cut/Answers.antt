use Rattle.std.proofs.Common.{ap, ◌∙◌}
use Rattle.tx_journal.proofs.Turned.{cut_inverses, cut_parted, cut_undone}
use Rattle.tx_journal.specs.Crossings.{Crossed}
use Rattle.tx_journal.proofs.crossings.Crossings.cut.Goals as goal

pub invariant_of-self : goal.invariant_of-self
invariant_of-self c = cut_parted c.self.inside.places.items c.self.inside.made c.self.invariant c.truncate.new.self.items c.truncate.ensures.items

pub returns-clause-inverses : goal.returns-clause-inverses
returns-clause-inverses c =
    cut_inverses c.self.inside.places.items c.self.inside.made c.self.invariant c.truncate.new.self.items c.truncate.ensures.items ∙ ap (λ (crossed : Crossed). crossed.inverses) c.self.view_is

pub returns-clause-undone : goal.returns-clause-undone
returns-clause-undone c = cut_undone c.self.inside.places.items c.self.inside.made c.self.invariant c.truncate.new.self.items c.truncate.ensures.items
