use Rattle.tx_base.specs.Signals.{bits_of}
use Rattle.tx_json.specs.Lists.{signal_item}
use Rattle.tx_json.specs.EachLaws.{upto_none, upto_more}
use Rattle.tx_json.proofs.lists.put_set.Goals as goal

pub loop-number-init : goal.loop-number-init
loop-number-init c = upto_none (λ signo. signal_item (bits_of c.args.set) signo) c.begin_list.new.writer

pub loop-number-preserved : goal.loop-number-preserved
loop-number-preserved c =
    let line = c.in_ok-put_signal.ensures in
    upto_more (λ signo. signal_item (bits_of c.args.set) signo) c.loop-number.number c.begin_list.new.writer c.loop-number.writer c.put_signal.new.writer c.loop-number.invariant line
