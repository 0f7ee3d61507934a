use Rattle.std.proofs.Common.{sym, subst}
use Rattle.tx_kernel.specs.Plans.{sent_at_once}
use Rattle.tx_kernel.specs.declared.planned.Sends.{Sends}
use Rattle.tx_content.proofs.KeptPosted.{none_posted}
use Rattle.tx_content.specs.KeptPosts.{PostsKept}
use Rattle.tx_content.proofs.kept_posts.post_sends.Goals as goal

pub returns-in-Nothing-clause-posted : goal.returns-in-Nothing-clause-posted
returns-in-Nothing-clause-posted c =
    subst (λ (sends : Sends). PostsKept c.args.txns.now c.args.txns.now (sent_at_once sends)) (sym c.in-Nothing.is) (none_posted c.args.txns.now)

pub returns-in-AtCommit-clause-posted : goal.returns-in-AtCommit-clause-posted
returns-in-AtCommit-clause-posted c =
    subst (λ (sends : Sends). PostsKept c.args.txns.now c.args.txns.now (sent_at_once sends)) (sym c.in-AtCommit.is) (none_posted c.args.txns.now)
