use Rattle.std.proofs.Common.{sym, subst}
use Rattle.tx_content.specs.Content.{content_of}
use Rattle.tx_content.specs.declared.content.Content.{Content}
use Rattle.tx_txn.specs.Content.{IsKept}
use Rattle.tx_content.proofs.content.Content.make_outside.Goals as goal

pub make_logged-requires-clause-kept : goal.make_logged-requires-clause-kept
make_logged-requires-clause-kept c = subst (λ (k : Content). IsKept (content_of k)) (sym c.put_fresh.ensures.content) c.requires.kept
