use Rattle.std.proofs.Common.{sym, ◌∙◌}
use Rattle.tx_content.proofs.LiveCounts.{none_gone, one_gone}
use Rattle.tx_content.proofs.table.TxnTable.take.Goals as goal

pub invariant_of-self : goal.invariant_of-self
invariant_of-self c =
    one_gone c.self.inside.slots c.take-taken.new.self c.args.starter.0 c.take-taken.result c.self.inside.live c.requires.low (rw c.self.view_is c.requires.high) c.self.invariant
    c.take-taken.ensures.emptied c.take-taken.ensures.taken (sym c.is_some.ensures ∙ c.if-is_some.true)

pub invariant_of-self-else-is_some : goal.invariant_of-self-else-is_some
invariant_of-self-else-is_some c =
    none_gone c.self.inside.slots c.take-taken.new.self c.args.starter.0 c.take-taken.result c.self.inside.live c.requires.low (rw c.self.view_is c.requires.high) c.self.invariant
    c.take-taken.ensures.emptied c.take-taken.ensures.taken (sym c.is_some.ensures ∙ c.if-is_some.false)
