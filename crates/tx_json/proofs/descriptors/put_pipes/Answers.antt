use Rattle.tx_change.specs.Exchange.{pipe_at}
use Rattle.tx_json.specs.Descriptors.{pipe_item}
use Rattle.tx_json.specs.EachLaws.{upto_none, upto_more}
use Rattle.tx_json.proofs.descriptors.put_pipes.Goals as goal

pub loop-number-init : goal.loop-number-init
loop-number-init c = upto_none (λ number. pipe_item number (pipe_at c.args.pipes.now number)) c.begin_list.new.writer

pub loop-number-preserved : goal.loop-number-preserved
loop-number-preserved c =
    let line = rw c.get.ensures at c.in_ok-put_pipe.ensures in
    upto_more (λ number. pipe_item number (pipe_at c.args.pipes.now number)) c.loop-number.number c.begin_list.new.writer c.loop-number.writer c.put_pipe.new.writer c.loop-number.invariant line
