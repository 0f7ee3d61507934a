use Rattle.std.proofs.Common.{slice_index_or}
use Rattle.tx_base.specs.declared.signals.Action.TheVariants.{Usual}
use Rattle.tx_model.specs.State.{booted_process}
use Rattle.tx_json.specs.Signals.{action_item}
use Rattle.tx_json.specs.EachLaws.{upto_none, upto_more}
use Rattle.tx_json.proofs.signals.put_actions.Goals as goal

pub loop-number-init : goal.loop-number-init
loop-number-init c = upto_none (λ signo. action_item signo (slice_index_or c.args.actions.now signo Usual)) c.begin_list.new.writer

pub loop-number-preserved : goal.loop-number-preserved
loop-number-preserved c =
    let line = rw (c.get.ensures (booted_process 1)) at c.in_ok-put_action.ensures in
    upto_more (λ signo. action_item signo (slice_index_or c.args.actions.now signo Usual)) c.loop-number.number c.begin_list.new.writer c.loop-number.writer c.put_action.new.writer c.loop-number.invariant line
