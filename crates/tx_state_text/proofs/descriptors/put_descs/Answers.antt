use Rattle.std.proofs.Common.{string_bytes}
use Rattle.tx_desc.specs.Descriptions.{description_at}
use Rattle.tx_state_text.specs.Descriptors.{desc_line}
use Rattle.tx_state_text.specs.EachLaws.{upto_none, upto_more}
use Rattle.tx_state_text.proofs.descriptors.put_descs.Goals as goal

pub loop-number-init : goal.loop-number-init
loop-number-init c = upto_none (λ number. desc_line number (description_at c.args.descs.now number)) (string_bytes c.args.text.now)

pub loop-number-preserved : goal.loop-number-preserved
loop-number-preserved c =
    let line = rw c.get.ensures at c.in_ok-put_desc_line.ensures in
    upto_more (λ number. desc_line number (description_at c.args.descs.now number)) c.loop-number.number (string_bytes c.args.text.now) (string_bytes c.loop-number.text) (string_bytes c.put_desc_line.new.text) c.loop-number.invariant line
