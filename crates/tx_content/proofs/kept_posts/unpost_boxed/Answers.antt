use Rattle.tx_content.proofs.KeptPosted.{boxed_reposted}
use Rattle.tx_content.proofs.kept_posts.unpost_boxed.Goals as goal

pub returns-clause-again : goal.returns-clause-again
returns-clause-again c = boxed_reposted c.args.boxed.now c.deref_mut.result.now c.unpost.new.self c.unpost.result c.deref_mut.ensures.value c.unpost.ensures.again c.unpost.ensures.ids
