use Rattle.std.proofs.Common.{string_bytes}
use Rattle.tx_change.specs.Exchange.{pipe_at}
use Rattle.tx_state_text.specs.Descriptors.{pipe_line}
use Rattle.tx_state_text.specs.EachLaws.{upto_none, upto_more}
use Rattle.tx_state_text.proofs.descriptors.put_pipes.Goals as goal

pub loop-number-init : goal.loop-number-init
loop-number-init c = upto_none (λ number. pipe_line number (pipe_at c.args.pipes.now number)) (string_bytes c.args.text.now)

pub loop-number-preserved : goal.loop-number-preserved
loop-number-preserved c =
    let line = rw c.get.ensures at c.in_ok-put_pipe_line.ensures in
    upto_more (λ number. pipe_line number (pipe_at c.args.pipes.now number)) c.loop-number.number (string_bytes c.args.text.now) (string_bytes c.loop-number.text) (string_bytes c.put_pipe_line.new.text) c.loop-number.invariant line
