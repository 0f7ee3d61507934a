use Rattle.std.proofs.Common.{string_bytes, slice_index_or, None}
use Rattle.tx_state_text.specs.Descriptors.{fd_line}
use Rattle.tx_state_text.specs.EachLaws.{upto_none, upto_more}
use Rattle.tx_state_text.proofs.descriptors.put_fds.Goals as goal

pub loop-fd-init : goal.loop-fd-init
loop-fd-init c = upto_none (λ fd. fd_line fd (slice_index_or c.args.table.now fd None)) (string_bytes c.args.text.now)

pub loop-fd-preserved : goal.loop-fd-preserved
loop-fd-preserved c =
    let line = rw c.get.ensures at c.in_ok-put_fd_line.ensures in
    upto_more (λ fd. fd_line fd (slice_index_or c.args.table.now fd None)) c.loop-fd.fd (string_bytes c.args.text.now) (string_bytes c.loop-fd.text) (string_bytes c.put_fd_line.new.text) c.loop-fd.invariant line
