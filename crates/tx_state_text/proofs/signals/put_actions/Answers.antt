use Rattle.std.proofs.Common.{slice_index_or, string_bytes}
use Rattle.tx_base.specs.declared.signals.Action.TheVariants.{Usual}
use Rattle.tx_model.specs.State.{booted_process}
use Rattle.tx_state_text.specs.Signals.{action_line}
use Rattle.tx_state_text.specs.EachLaws.{upto_none, upto_more}
use Rattle.tx_state_text.proofs.signals.put_actions.Goals as goal

pub loop-number-init : goal.loop-number-init
loop-number-init c = upto_none (λ signo. action_line signo (slice_index_or c.args.actions.now signo Usual)) (string_bytes c.args.text.now)

pub loop-number-preserved : goal.loop-number-preserved
loop-number-preserved c =
    let line = rw (c.get.ensures (booted_process 1)) at c.in_ok-put_action_line.ensures in
    upto_more (λ signo. action_line signo (slice_index_or c.args.actions.now signo Usual)) c.loop-number.number (string_bytes c.args.text.now) (string_bytes c.loop-number.text) (string_bytes c.put_action_line.new.text) c.loop-number.invariant line
