use Rattle.std.proofs.Common.{slice_index_or, None}
use Rattle.tx_json.specs.Descriptors.{fd_item}
use Rattle.tx_json.specs.EachLaws.{upto_none, upto_more}
use Rattle.tx_json.proofs.descriptors.put_fds.Goals as goal

pub loop-fd-init : goal.loop-fd-init
loop-fd-init c = upto_none (λ fd. fd_item fd (slice_index_or c.args.table.now fd None)) c.begin_list.new.writer

pub loop-fd-preserved : goal.loop-fd-preserved
loop-fd-preserved c =
    let line = rw c.get.ensures at c.in_ok-put_fd.ensures in
    upto_more (λ fd. fd_item fd (slice_index_or c.args.table.now fd None)) c.loop-fd.fd c.begin_list.new.writer c.loop-fd.writer c.put_fd.new.writer c.loop-fd.invariant line
