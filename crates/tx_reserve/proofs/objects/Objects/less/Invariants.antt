use Rattle.std.proofs.Common.{◌≡◌, ℕ, ◌^◌, ◌<◌, ◌≤◌, bit_and, w32, get_or, length}
use Rattle.std.specs.Int.{bit_not}
use Rattle.tx_reserve.proofs.objects.Objects.less.Given as goal

abbrev pub invariant-loop-i : goal.invariant-loop-i
invariant-loop-i l = record {
  sized : length l.words ≡ 11;
  fits : (k : ℕ) → k < l.i → get_or l.other.words k 0 < 2 ^ 32;
  done : (k : ℕ) → k < l.i → get_or l.words k 0 ≡ bit_and (get_or l.self.words k 0) (bit_not w32 (get_or l.other.words k 0));
  ahead : (k : ℕ) → l.i ≤ k → get_or l.words k 0 ≡ get_or l.self.words k 0;
}
