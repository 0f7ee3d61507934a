use Rattle.std.proofs.Common.{◌≡◌, Option, refl, sym, subst, ◌∙◌}
use Rattle.tx_kernel.specs.Plans.{sending_of}
use Rattle.tx_content.proofs.KeptPosted.{absent_posted, gone, slot_posted, slot_back}
use Rattle.tx_content.specs.Inverses.{unposted_at, unposted_if}
use Rattle.tx_txn.specs.declared.kept.Unpost.{Unpost}
use Rattle.tx_content.proofs.kept_posts.post_kept.Goals as goal

pub returns-then-is_none-clause-posted : goal.returns-then-is_none-clause-posted
returns-then-is_none-clause-posted c = absent_posted c.args.txns.now (sending_of c.args.sending.now) (sym c.get.ensures ∙ gone c.get.result c.if-is_none.ensures)

pub returns-in_err-unpost-clause-posted : goal.returns-in_err-unpost-clause-posted
returns-in_err-unpost-clause-posted c =
    slot_posted c.args.txns.now _ (sending_of c.args.sending.now) c.value_mut.result.now c.post_boxed.new.boxed c.value_mut.ensures.value c.post_boxed.ensures.posted refl

pub returns-clause-posted : goal.returns-clause-posted
returns-clause-posted c =
    slot_posted c.args.txns.now _ (sending_of c.args.sending.now) c.value_mut.result.now c.post_boxed.new.boxed c.value_mut.ensures.value c.post_boxed.ensures.posted refl

pub returns-clause-back : goal.returns-clause-back
returns-clause-back c =
    slot_back c.args.txns.now _ c.args.sending.now.target.0 c.value_mut.result.now c.post_boxed.new.boxed (unposted_at c.in_ok-unpost.unpost) c.value_mut.ensures.value
    (subst (λ (r : Option Unpost). unposted_if r c.post_boxed.new.boxed ≡ c.value_mut.result.now) c.in_ok-unpost.was c.post_boxed.ensures.back) refl
