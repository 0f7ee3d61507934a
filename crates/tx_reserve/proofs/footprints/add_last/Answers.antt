use Rattle.std.proofs.Common.{[], sym}
use Rattle.tx_base.specs.Slots.{slot_at}
use Rattle.tx_reserve.specs.Footprints.{table_at}
use Rattle.tx_reserve.proofs.Rows.{adds_none, adds_same, commit_none, commit_some}
use Rattle.tx_reserve.proofs.footprints.add_last.Goals as goal

pub returns-in_default : goal.returns-in_default
returns-in_default c = λ held goes. adds_same [] _ (sym (commit_none (table_at c.args.actor.now c.args.marks.now) c.args.actor.now.pid.0 (slot_at c.args.marks.now c.args.actor.now.pid.0) held c.args.actor.now.parts.now _ (rw c.in_default.is at goes))) (adds_none c.args.set.now)

pub returns : goal.returns
returns c = λ held goes. commit_some (table_at c.args.actor.now c.args.marks.now) c.args.actor.now.pid.0 (slot_at c.args.marks.now c.args.actor.now.pid.0) held c.args.actor.now.parts.now _ c.in-Some.sends.now (rw c.in-Some.is at goes) c.add_sends.ensures c.add_notified.ensures
