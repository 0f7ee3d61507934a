use Rattle.std.proofs.Common.{◌≡◌, ◌++◌, string_bytes, slice_index}
use Rattle.tx_state_text.specs.Each.{upto}
use Rattle.tx_state_text.specs.Processes.{byte_text}
use Rattle.tx_state_text.proofs.processes.put_page.Given as goal

abbrev pub invariant-loop-offset : goal.invariant-loop-offset
invariant-loop-offset l = string_bytes l.text ≡ string_bytes l.initial.text ++ upto (λ offset. byte_text offset (slice_index l.bytes offset)) l.offset
