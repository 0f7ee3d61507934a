use Rattle.tx_desc.specs.Descriptions.{description_at}
use Rattle.tx_json.specs.Descriptors.{desc_item}
use Rattle.tx_json.specs.EachLaws.{upto_none, upto_more}
use Rattle.tx_json.proofs.descriptors.put_descs.Goals as goal

pub loop-number-init : goal.loop-number-init
loop-number-init c = upto_none (λ number. desc_item number (description_at c.args.descs.now number)) c.begin_list.new.writer

pub loop-number-preserved : goal.loop-number-preserved
loop-number-preserved c =
    let line = rw c.get.ensures at c.in_ok-put_desc.ensures in
    upto_more (λ number. desc_item number (description_at c.args.descs.now number)) c.loop-number.number c.begin_list.new.writer c.loop-number.writer c.put_desc.new.writer c.loop-number.invariant line
