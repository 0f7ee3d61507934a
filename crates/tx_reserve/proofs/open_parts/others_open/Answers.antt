use Rattle.std.proofs.Common.{refl, arith}
use Rattle.tx_model.specs.Membership.{others_open}
use Rattle.tx_reserve.specs.Footprints.{table_of}
use Rattle.tx_reserve.proofs.AnyStep.{either_else, either_then, one_more}
use Rattle.tx_reserve.proofs.open_parts.others_open.Goals as goal
use Rattle.tx_reserve.proofs.open_parts.others_open.Goals.{then-is_other_open, else-is_other_open}

pub loop-below-init : goal.loop-below-init
unfolding others_open
loop-below-init c = refl

pub loop-below-preserved : goal.loop-below-preserved
loop-below-preserved c =
    one_more (table_of c.args.parts.now c.args.marks.now) c.args.starter.0 c.args.pid.0 c.loop-below.below c.loop-below.is_any c.if-is_other_open.is_any c.is_other_open.result
    (omega arith) c.loop-below.invariant c.is_other_open.ensures
    (elim c.if-is_other_open.branch [
      | then-is_other_open w ↦ either_then c.loop-below.is_any c.if-is_other_open.is_any c.is_other_open.result w.if-is_other_open.true w.is_any-is
      | else-is_other_open w ↦ either_else c.loop-below.is_any c.if-is_other_open.is_any c.is_other_open.result w.if-is_other_open.false w.is_any-is
    ])
