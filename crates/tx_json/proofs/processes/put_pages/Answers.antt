use Rattle.tx_model.specs.Memory.{page_at}
use Rattle.tx_json.specs.Processes.{page_item}
use Rattle.tx_json.specs.EachLaws.{upto_none, upto_more}
use Rattle.tx_json.proofs.processes.put_pages.Goals as goal

pub loop-number-init : goal.loop-number-init
loop-number-init c = upto_none (λ number. page_item number (page_at c.args.space.now number)) c.begin_list.new.writer

pub loop-number-preserved : goal.loop-number-preserved
loop-number-preserved c =
    let line = rw c.page.ensures at c.in_ok-put_page.ensures in
    upto_more (λ number. page_item number (page_at c.args.space.now number)) c.loop-number.number c.begin_list.new.writer c.loop-number.writer c.put_page.new.writer c.loop-number.invariant line
