use Rattle.std.proofs.Common.{List, map, ap, ◌∙◌, arith, rules}
use Rattle.tx_base.specs.declared.names.Sending.{Sending}
use Rattle.tx_kernel.specs.Plans.{sender_of, sending_of}
use Rattle.tx_model.specs.Book.{member_sends}
use Rattle.tx_txn.proofs.Senders.{sender_le, sent_few, sent_more}
use Rattle.tx_txn.proofs.outbox.Outbox.hold.Goals as goal

pub overflow_add-self : goal.overflow_add-self
overflow_add-self c =
    let few = sent_few c.self.inside.sendings.items in
    let one = sender_le (sender_of c.args.sending.from) in
    let held = c.self.inside.sendings in
    let longer = c.push-2.new.self in
    omega (arith, few, one, c.senders.ensures, c.self.invariant.1, held.ok.0, c.in-Ok.ensures.len, longer.ok.1, longer.small)

pub invariant_of-self-2 : goal.invariant_of-self-2
invariant_of-self-2 c =
    let all = ap (λ (ms : List Sending). member_sends (map sending_of ms)) c.in-Ok.ensures.items ∙ sent_more c.self.inside.sendings.items c.args.sending in
    (search rules, omega (arith, all, c.senders.ensures, c.self.invariant.1))
