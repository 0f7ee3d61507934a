use Rattle.std.proofs.Common.{List, length, map, sym, ap, ◌∙◌}
use Rattle.tx_base.specs.declared.names.Sending.{Sending}
use Rattle.tx_kernel.specs.Plans.{sending_of}
use Rattle.tx_model.specs.Book.{member_sends}
use Rattle.tx_txn.proofs.outbox.Outbox.new.Goals as goal

pub invariant_of-result : goal.invariant_of-result
unfolding member_sends
invariant_of-result c = (ap length c.new-2.ensures.items ∙ sym (ap length c.new.ensures.items), ap (λ (ms : List Sending). member_sends (map sending_of ms)) (sym c.new.ensures.items))
