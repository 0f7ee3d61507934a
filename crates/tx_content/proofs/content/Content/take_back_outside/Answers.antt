use Rattle.std.proofs.Common.{◌≡◌, List, Option, ap, ◌∙◌}
use Rattle.tx_content.proofs.OutsideAgain.{outside_again}
use Rattle.tx_content.specs.Inverses.{unposted_in}
use Rattle.tx_content.specs.declared.content.BoxedTxn.{BoxedTxn}
use Rattle.tx_content.specs.declared.content.Content.{Content}
use Rattle.tx_content.proofs.content.Content.take_back_outside.Goals as goal

pub returns-clause-again : goal.returns-clause-again
returns-clause-again c = λ before stack.
    let same : c.take_log_back.new.self.txns ≡ c.args.self.now.txns = ap (λ (k : Content). k.txns) c.take_log_back.ensures.before in
    outside_again c.laws.ensures c.args.self.now c.args.log c.take_log_back.new.log c.args.post c.take_post_if-post.result c.take_post_if-post.new.txns stack c.requires
    c.take_log_back.ensures.log (c.take_post_if-post.ensures.taken ∙ ap (λ (txns : List (Option BoxedTxn)). unposted_in c.args.post txns) same) c.take_post_if-post.ensures.post (c.take_post_if-post.ensures.again ∙ same) before
