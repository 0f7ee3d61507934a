use Rattle.std.proofs.Common.{List, map, ap, ◌∙◌, arith, rules}
use Rattle.tx_base.specs.declared.names.Sending.{Sending}
use Rattle.tx_kernel.specs.Plans.{sending_of}
use Rattle.tx_model.specs.Book.{member_sends}
use Rattle.tx_txn.proofs.Senders.{sent_more}
use Rattle.tx_txn.proofs.outbox.Outbox.forget_last.Goals as goal

pub overflow_sub-self : goal.overflow_sub-self
overflow_sub-self c =
    let all = c.self.invariant.1 ∙ ap (λ (ms : List Sending). member_sends (map sending_of ms)) c.in_ok-sending.ensures.items ∙ sent_more c.pop.new.self.items c.in_ok-sending.sending in
    omega (arith, all, c.senders.ensures)

pub invariant_of-self-2 : goal.invariant_of-self-2
invariant_of-self-2 c =
    let all = c.self.invariant.1 ∙ ap (λ (ms : List Sending). member_sends (map sending_of ms)) c.in_ok-sending.ensures.items ∙ sent_more c.pop.new.self.items c.in_ok-sending.sending in
    (search rules, omega (arith, all, c.senders.ensures))
