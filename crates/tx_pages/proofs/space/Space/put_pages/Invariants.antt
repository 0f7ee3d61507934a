use Rattle.std.proofs.Common.{◌≡◌, drop, length}
use Rattle.tx_pages.specs.Outcomes.{with_pages, AreNumbered}
use Rattle.tx_pages.proofs.space.Space.put_pages.Given as goal

abbrev pub invariant-loop-i : goal.invariant-loop-i
invariant-loop-i l = record {
  same : with_pages l.self (drop l.i l.pages.items) ≡ with_pages l.initial.self l.initial.pages.items;
  numbers : AreNumbered (drop l.i l.pages.items);
  count : length l.pages.items ≡ l.i-end;
}
