use Rattle.std.proofs.Common.{◌≡◌, ◌++◌, string_bytes}
use Rattle.tx_desc.specs.Descriptions.{description_at}
use Rattle.tx_state_text.specs.Descriptors.{desc_line}
use Rattle.tx_state_text.specs.Each.{upto}
use Rattle.tx_state_text.proofs.descriptors.put_descs.Given as goal

abbrev pub invariant-loop-number : goal.invariant-loop-number
invariant-loop-number l = string_bytes l.text ≡ string_bytes l.initial.text ++ upto (λ number. desc_line number (description_at l.descs number)) l.number
