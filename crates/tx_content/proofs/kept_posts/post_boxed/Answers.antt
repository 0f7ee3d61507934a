use Rattle.tx_kernel.specs.Plans.{sending_of}
use Rattle.tx_content.proofs.KeptPosted.{boxed_posted, boxed_unposted}
use Rattle.tx_content.proofs.kept_posts.post_boxed.Goals as goal

pub returns-clause-posted : goal.returns-clause-posted
returns-clause-posted c = boxed_posted c.args.boxed.now c.deref_mut.result.now c.post.new.self (sending_of c.args.sending.now) c.deref_mut.ensures.value c.post.ensures.pending c.post.ensures.ids

pub returns-clause-back : goal.returns-clause-back
returns-clause-back c = boxed_unposted c.args.boxed.now c.deref_mut.result.now c.post.new.self c.post.result c.deref_mut.ensures.value c.post.ensures.back c.post.ensures.ids
