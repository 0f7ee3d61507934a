use Rattle.std.proofs.Common.{◌&&◌, option_map}
use Rattle.tx_core.proofs.LeastNumbers.{NoneBelow}
use Rattle.tx_core.specs.Free.{desc_number}
use Rattle.tx_content.specs.Content.{view_of}
use Rattle.tx_model.specs.FreeNumbers.{is_free_description, is_other_than}
use Rattle.tx_core.proofs.free.least_description.Given as goal

abbrev pub invariant-loop-number : goal.invariant-loop-number
invariant-loop-number l = NoneBelow (λ n. is_free_description (view_of l.content) l.pid.0 n && is_other_than (option_map desc_number l.other) n) l.number
