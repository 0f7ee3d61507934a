use Rattle.std.proofs.Common.{◌≡◌, ◌++◌}
use Rattle.tx_json.specs.Each.{upto}
use Rattle.tx_desc.specs.Descriptions.{description_at}
use Rattle.tx_json.specs.Descriptors.{desc_item}
use Rattle.tx_json.proofs.descriptors.put_descs.Given as goal

abbrev pub invariant-loop-number : goal.invariant-loop-number
invariant-loop-number l = l.writer ≡ l.initial.writer ++ upto (λ number. desc_item number (description_at l.descs number)) l.number
