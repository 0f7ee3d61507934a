use Rattle.tx_desc.specs.Descriptions.{end_for}
use Rattle.tx_waits.proofs.Gathered.{below_more, below_none}
use Rattle.tx_waits.specs.Holders.{named_holders}
use Rattle.tx_content.specs.Content.{view_of}
use Rattle.tx_waits.proofs.holders.side_holders.Goals as goal
use Rattle.std.proofs.Common.{[], ◌∙◌}

pub loop-number-preserved : goal.loop-number-preserved
loop-number-preserved c =
    below_more (named_holders (view_of c.args.machine.now) c.args.step.now (end_for c.args.side)) c.loop-number.number [] c.loop-number.found.items
    c.add_named.new.found.items c.loop-number.invariant c.in_ok-add_named.ensures

pub loop-number-init : goal.loop-number-init
loop-number-init c = c.new-found.ensures.items ∙ below_none (named_holders (view_of c.args.machine.now) c.args.step.now (end_for c.args.side)) []
