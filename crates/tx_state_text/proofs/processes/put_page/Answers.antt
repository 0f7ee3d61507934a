use Rattle.std.proofs.Common.{string_bytes, slice_index}
use Rattle.tx_state_text.specs.Processes.{byte_text}
use Rattle.tx_state_text.specs.EachLaws.{upto_none, upto_more}
use Rattle.tx_state_text.proofs.processes.put_page.Goals as goal

pub loop-offset-init : goal.loop-offset-init
loop-offset-init c = upto_none (λ offset. byte_text offset (slice_index c.bytes-bytes.result.now offset)) (string_bytes c.write.new.self)

pub loop-offset-preserved : goal.loop-offset-preserved
loop-offset-preserved c = upto_more (λ offset. byte_text offset (slice_index c.bytes-bytes.result.now offset)) c.loop-offset.offset (string_bytes c.write.new.self) (string_bytes c.loop-offset.text) (string_bytes c.put_byte_at.new.text) c.loop-offset.invariant c.in_ok-put_byte_at.ensures
