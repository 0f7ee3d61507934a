use Rattle.std.proofs.Common.{List, length, map, sym, ap, ◌∙◌}
use Rattle.tx_base.specs.declared.names.Sending.{Sending}
use Rattle.tx_kernel.specs.Plans.{sending_of}
use Rattle.tx_model.specs.Book.{member_sends}
use Rattle.tx_txn.proofs.outbox.Outbox.clear.Goals as goal

pub invariant_of-self : goal.invariant_of-self
unfolding member_sends
invariant_of-self c = (ap length c.clear-2.ensures.items ∙ sym (ap length c.clear.ensures.items), ap (λ (ms : List Sending). member_sends (map sending_of ms)) (sym c.clear.ensures.items))
