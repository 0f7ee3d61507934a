use Rattle.std.proofs.Common.{string_bytes}
use Rattle.tx_model.specs.Memory.{page_at}
use Rattle.tx_state_text.specs.Processes.{page_line}
use Rattle.tx_state_text.specs.EachLaws.{upto_none, upto_more}
use Rattle.tx_state_text.proofs.processes.put_pages.Goals as goal

pub loop-number-init : goal.loop-number-init
loop-number-init c = upto_none (λ number. page_line number (page_at c.args.space.now number)) (string_bytes c.args.text.now)

pub loop-number-preserved : goal.loop-number-preserved
loop-number-preserved c =
    let line = rw c.page.ensures at c.in_ok-put_page_line.ensures in
    upto_more (λ number. page_line number (page_at c.args.space.now number)) c.loop-number.number (string_bytes c.args.text.now) (string_bytes c.loop-number.text) (string_bytes c.put_page_line.new.text) c.loop-number.invariant line
