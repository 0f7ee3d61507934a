-- Facts on sets of signals as numbers.
use Rattle.std.proofs.Common.{◌≡◌, ℕ, ◌-◌, ◌*◌, ◌^◌, ◌<◌, ◌≤◌, false, eqb, bit_and, ap, sym, arith, pow_pos}
use Rattle.std.specs.Int.{bit_at}
use Rattle.std.proofs.lemmas.Nat.{and-not, and_comm, and_le_l}
use Rattle.std.proofs.lemmas.Nat.Bits.{and_pow, bit_at-lt, bit_at_above}
use Rattle.bitflags.specs.Sets.{without}
use Rattle.tx_model.specs.SignalSets.{is_in_set, set_difference, without_one, maskable}

scaled : (b p : ℕ) → b < 2 → 0 < p → eqb (b * p) p ≡ eqb b 1
scaled b p small positive = grind arith

positive_power : (n : ℕ) → 0 < 2 ^ n
positive_power n = omega (arith, pow_pos)

-- the set has the bit of a signal exactly where it contains the set of it
pub contains-single : (set signo : ℕ) → eqb (bit_and set (2 ^ signo)) (2 ^ signo) ≡ is_in_set set signo
contains-single set signo =
    rw and_pow (scaled (bit_at set signo) (2 ^ signo) (bit_at-lt set signo) (positive_power signo))

-- a number over 63 is in no set of 64 bits
pub not_in_set : (set signo : ℕ) → set < 2 ^ 64 → 64 ≤ signo → false ≡ is_in_set set signo
not_in_set set signo fits above = sym (ap (λ b. eqb b 1) (bit_at_above set 64 signo fits above))

-- the bits that are left, as a difference
pub without-less : (set other : ℕ) → set < 2 ^ 64 → other < 2 ^ 64 → without 64 set other ≡ set_difference set other
without-less set other fits others =
    let parts = and-not 64 other set others fits in
    let turned = and_comm set (2 ^ 64 - 1 - other) in
    let same = and_comm set other in
    omega arith

not_one : (b : ℕ) → b < 2 → eqb b 1 ≡ false → b ≡ 0
not_one b small other = grind arith

sub_nothing : (n p : ℕ) → n - 0 * p ≡ n
sub_nothing n p = grind arith

-- what is not there is not taken out
pub without_one-absent : (set signo : ℕ) → is_in_set set signo ≡ false → set ≡ without_one set signo
without_one-absent set signo absent =
    let none = not_one (bit_at set signo) (bit_at-lt set signo) absent in
    rw and_pow (rw none (sym (sub_nothing set (2 ^ signo))))

pub without_one-above : (set signo : ℕ) → set < 2 ^ 64 → 64 ≤ signo → set ≡ without_one set signo
without_one-above set signo fits above = without_one-absent set signo (sym (not_in_set set signo fits above))

-- SIGKILL and the numbers that are not known leave a set of 64 bits
pub without-maskable : (set : ℕ) → set < 2 ^ 64 → without 64 (bit_and set 1095216854606) 512 ≡ maskable set
without-maskable set fits =
    let smaller = and_le_l set 1095216854606 in
    without-less (bit_and set 1095216854606) 512 (omega arith) (omega arith)
