use Rattle.std.proofs.Common.{◌≡◌, ℕ, ◌<◌, ◌≤◌, get_or, length, None}
use Rattle.tx_pages.proofs.space.Space.share.Given as goal

abbrev pub invariant-loop-i : goal.invariant-loop-i
invariant-loop-i l = record {
  sized : length l.self-inside.pages ≡ 16;
  there : (k : ℕ) → k < l.i → get_or l.self-inside.pages k None ≡ get_or l.from k None;
  rest : (k : ℕ) → l.i ≤ k → get_or l.self-inside.pages k None ≡ None;
}
