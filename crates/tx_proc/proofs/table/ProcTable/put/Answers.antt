use Rattle.std.proofs.Common.{refl, None, Some, ap}
use Rattle.tx_base.specs.Slots.{with_slot}
use Rattle.tx_proc.proofs.Counted.{counted_with}
use Rattle.tx_proc.proofs.table.ProcTable.put.Goals as goal

pub invariant_of-self : goal.invariant_of-self
invariant_of-self c =
    counted_with c.self.inside.slots.items (with_slot c.self.inside.slots.items c.args.pid.0 (Some c.args.boxed)) c.args.pid.0 None (Some c.args.boxed) None (Some c.parent-parent.result) c.self.inside.children c.recount.new.self
    c.requires.low (rw c.self.view_is c.requires.high) c.self.invariant refl (rw c.self.view_is c.requires.free) refl (ap Some c.parent-parent.ensures) c.recount.ensures
