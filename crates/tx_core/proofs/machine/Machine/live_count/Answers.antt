use Rattle.std.proofs.Common.{ap, arith, ◌∙◌}
use Rattle.tx_content.specs.Content.{view_of}
use Rattle.tx_content.specs.declared.content.Content.{Content}
use Rattle.tx_core.proofs.LivesCounted.{lives_counted}
use Rattle.tx_core.specs.Lives.{lives}
use Rattle.tx_core.proofs.machine.Machine.live_count.Goals as goal

pub returns-clause-count : goal.returns-clause-count
returns-clause-count c =
    c.live_count.ensures.count ∙ lives_counted c.self.inside.content c.self.invariant.content ∙ ap (λ (k : Content). lives (view_of k).table) c.self.view_is

pub returns-clause-few : goal.returns-clause-few
returns-clause-few c =
    let count = c.live_count.ensures.few in
    let long = c.self.invariant.content.shaped.txns in
    let few = c.self.invariant.content.shaped.few in
    omega (arith, count, long, few)
