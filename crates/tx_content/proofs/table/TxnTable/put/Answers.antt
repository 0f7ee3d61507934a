use Rattle.std.proofs.Common.{is_some, not, sym, ap, ◌∙◌, arith, refl}
use Rattle.tx_content.proofs.LiveCounts.{copied_some, count_fits, one_came, one_replaced}
use Rattle.tx_content.proofs.table.TxnTable.put.Goals as goal
use Rattle.tx_content.proofs.table.TxnTable.put.Goals.{then-is_none, else-is_none}

pub overflow_add-self : goal.overflow_add-self
overflow_add-self c =
    let fits = count_fits c.self.inside.slots in
    let count = c.self.invariant.count in
    let few = c.self.invariant.few in
    omega (arith, fits, count, few)

pub invariant_of-self : goal.invariant_of-self
invariant_of-self c =
    let there = sym (ap is_some c.get.ensures) ∙ copied_some c.get.result ∙ c.is_none.ensures in
    elim c.if-is_none.branch [
      | then-is_none w ↦ rw w.self-inside-is
          (one_came c.self.inside.slots _ c.args.starter.0 c.args.boxed c.self.inside.live c.requires.low (rw c.self.view_is c.requires.high) c.self.invariant
          (c.put.ensures ∙ rw w.self-inside-is refl) (there ∙ ap not w.if-is_none.true))
      | else-is_none w ↦ rw w.self-inside-is
          (one_replaced c.self.inside.slots _ c.args.starter.0 c.args.boxed c.self.inside.live c.requires.low (rw c.self.view_is c.requires.high) c.self.invariant
          (c.put.ensures ∙ rw w.self-inside-is refl) (there ∙ ap not w.if-is_none.false))
    ]
