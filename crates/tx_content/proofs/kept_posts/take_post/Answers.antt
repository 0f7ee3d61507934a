use Rattle.std.proofs.Common.{refl}
use Rattle.tx_content.proofs.KeptPosted.{slot_back}
use Rattle.tx_content.specs.Redone.{reposted_at}
use Rattle.tx_content.proofs.kept_posts.take_post.Goals as goal

pub returns-clause-again : goal.returns-clause-again
returns-clause-again c =
    slot_back c.args.txns.now _ c.args.post.starter.0 c.value_mut.result.now c.unpost_boxed-posted.new.boxed (reposted_at c.unpost_boxed-posted.result) c.value_mut.ensures.value
    c.unpost_boxed-posted.ensures.again refl
