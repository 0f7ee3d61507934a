use Rattle.std.proofs.Common.{◌≡◌, ◌<◌, ◌≤◌, ◌+◌, ◌*◌, ℕ, length}
use Rattle.tx_model.specs.Memory.{page_at, put_bytes}
use Rattle.tx_pages.specs.Outcomes.{with_pages, AreNumbered}
use Rattle.tx_pages.proofs.space.Space.plan_good_store.Given as goal

abbrev pub invariant-loop-rest : goal.invariant-loop-rest
invariant-loop-rest l = record {
  same : put_bytes (with_pages l.self l.pages.items) (l.number * 64 + l.offset) l.rest ≡ put_bytes l.self l.start l.bytes;
  fresh : (k : ℕ) → l.number ≤ k → page_at (with_pages l.self l.pages.items) k ≡ page_at l.self k;
  numbers : AreNumbered l.pages.items;
  sized : length l.self ≡ 16;
  inside : l.number * 64 + l.offset + length l.rest ≤ 1024;
  offset : l.offset < 64;
}

abbrev pub decreases-loop-rest : goal.decreases-loop-rest
decreases-loop-rest l = length l.rest
