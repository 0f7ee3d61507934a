use Rattle.std.proofs.Common.{◌≡◌, ◌+◌, ◌≤◌}
use Rattle.tx_model.specs.Memory.{all_good}
use Rattle.tx_pages.specs.Access.{test_of}
use Rattle.tx_pages.proofs.space.Space.is_good_at.Given as goal

abbrev pub invariant-loop-left : goal.invariant-loop-left
invariant-loop-left l = record {
  same : all_good (test_of l.access) l.self l.address l.left ≡ all_good (test_of l.access) l.self l.start l.count;
  sum : l.address + l.left ≡ l.start + l.count;
  inside : l.address ≤ 1024;
}

abbrev pub decreases-loop-left : goal.decreases-loop-left
decreases-loop-left l = l.left
