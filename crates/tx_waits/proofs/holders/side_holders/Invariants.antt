use Rattle.std.proofs.Common.{◌≡◌}
use Rattle.tx_desc.specs.Descriptions.{end_for}
use Rattle.tx_waits.specs.Holders.{each_below, named_holders}
use Rattle.tx_content.specs.Content.{view_of}
use Rattle.tx_waits.proofs.holders.side_holders.Given as goal

abbrev pub invariant-loop-number : goal.invariant-loop-number
invariant-loop-number l = l.found.items ≡ each_below (named_holders (view_of l.machine) l.step (end_for l.side)) l.number
