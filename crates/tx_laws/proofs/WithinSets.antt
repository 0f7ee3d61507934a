-- What the sets of signals of a process hold.
use Rattle.std.proofs.Common.{◌≡◌, ◌≢◌, ℕ, List, [], ◌∷◌, ◌+◌, ◌*◌, ◌%◌, ◌^◌, ◌<◌, ◌≤◌, ◌⊎◌, min, max, Bool, true, false, ◌||◌, ◌==◌, bit_and, bit_or, refl, sym, ap, ◌∙◌, inl, inr, eq-eqb, eqb-true, arith}
use Rattle.std.specs.Int.{bit_at}
use Rattle.std.specs.Int.Bits.{bit_xor, xor_add_and}
use Rattle.std.proofs.lemmas.Bool.{both_ways}
use Rattle.std.proofs.lemmas.Nat.{and_le_l}
use Rattle.std.proofs.lemmas.Nat.Bits.{bit_at-lt, bit_at_and, bit_at_or, bit_at_xor, bit_at-pow_same, bit_at-pow_other, bit_at-zero, same_from_bits}
use Rattle.tx_model.specs.SignalSets.{standard_signals, realtime_signals, kill_signo, is_one_of, is_realtime, is_known, is_in_set, with_one_more, set_difference, set_of, maskable}
use Rattle.tx_laws.specs.WellFormed.{IsMask}

-- a set by its bits
in_set : (set signo : ℕ) → bit_at set signo ≡ 1 → is_in_set set signo ≡ true
in_set set signo h = eq-eqb (bit_at set signo) 1 h

pub bit_in : (set signo : ℕ) → is_in_set set signo ≡ true → bit_at set signo ≡ 1
bit_in set signo h = eqb-true (bit_at set signo) 1 h

not_in_set : (set signo : ℕ) → bit_at set signo ≡ 0 → is_in_set set signo ≡ false
not_in_set set signo h = ap (λ (bit : ℕ). bit == 1) h

pub either_true : (a b : Bool) → (a ≡ true) ⊎ (b ≡ true) → (a || b) ≡ true
either_true true b h = refl
either_true false true h = refl
either_true false false h = elim h [ inl e ↦ e | inr e ↦ e ]

pub false_unless : (b : Bool) → (b ≡ true → ⊥) → b ≡ false
false_unless true h = absurd (h refl)
false_unless false h = refl

min_below : (a b : ℕ) → min a (min a b) ≡ min a b
min_below a b = omega arith

-- a difference is an exclusive or with a part
part_of_part : (set other : ℕ) → bit_and set (bit_and set other) ≡ bit_and set other
part_of_part set other = same_from_bits (bit_and set (bit_and set other)) (bit_and set other) (λ i.
    bit_at_and set (bit_and set other) i ∙ ap (λ (b : ℕ). min (bit_at set i) b) (bit_at_and set other i)
    ∙ min_below (bit_at set i) (bit_at other i) ∙ sym (bit_at_and set other i))

less_xor : (set other : ℕ) → set_difference set other ≡ bit_xor set (bit_and set other)
less_xor set other =
    let sum : bit_xor set (bit_and set other) + bit_and set (bit_and set other) * 2 ≡ set + bit_and set other = xor_add_and set (bit_and set other) in
    let part : bit_and set (bit_and set other) ≡ bit_and set other = part_of_part set other in
    let fewer : bit_and set other ≤ set = and_le_l set other in
    omega arith

only_one : (a b : ℕ) → a < 2 → b < 2 → (a + min a b) % 2 ≡ 1 → (a ≡ 1) × (b ≡ 0)
only_one a b h k e = (omega arith, omega arith)

-- what is in a difference is in the first set, and not in the second
pub in_less : (set other signo : ℕ) → is_in_set (set_difference set other) signo ≡ true → (is_in_set set signo ≡ true) × (bit_at other signo ≡ 0)
in_less set other signo h =
    let bit : bit_at (set_difference set other) signo ≡ 1 = bit_in (set_difference set other) signo h in
    let mixed : bit_at (set_difference set other) signo ≡ (bit_at set signo + min (bit_at set signo) (bit_at other signo)) % 2 =
    ap (λ (n : ℕ). bit_at n signo) (less_xor set other) ∙ bit_at_xor set (bit_and set other) signo
    ∙ ap (λ (b : ℕ). (bit_at set signo + b) % 2) (bit_at_and set other signo) in
    let r = only_one (bit_at set signo) (bit_at other signo) (bit_at-lt set signo) (bit_at-lt other signo) (sym mixed ∙ bit) in
    (in_set set signo r.0, r.1)

one_of_two : (a b : ℕ) → a < 2 → max a b ≡ 1 → (a ≡ 1) ⊎ (b ≡ 1)
one_of_two a b h e = by (a == 1) refl
  where
    by : (c : Bool) → (a == 1) ≡ c → (a ≡ 1) ⊎ (b ≡ 1)
    by true z = inl (eqb-true a 1 z)
    by false z = let other : a ≢ 1 = λ y. both_ways (a == 1) z (eq-eqb a 1 y) in inr (omega arith)

-- what is in a union is in one of both
pub in_either : (set other signo : ℕ) → is_in_set (bit_or set other) signo ≡ true → (is_in_set set signo ≡ true) ⊎ (is_in_set other signo ≡ true)
in_either set other signo h =
    let bit : max (bit_at set signo) (bit_at other signo) ≡ 1 = sym (bit_at_or set other signo) ∙ bit_in (bit_or set other) signo h in
    elim (one_of_two (bit_at set signo) (bit_at other signo) (bit_at-lt set signo) bit) [
      | inl e ↦ inl (in_set set signo e)
      | inr e ↦ inr (in_set other signo e)
    ]

one_of_both : (a b : ℕ) → a < 2 → min a b ≡ 1 → b < 2 → (a ≡ 1) × (b ≡ 1)
one_of_both a b h e k = (omega arith, omega arith)

-- what is in an intersection is in both
pub in_both : (set other signo : ℕ) → is_in_set (bit_and set other) signo ≡ true → (is_in_set set signo ≡ true) × (is_in_set other signo ≡ true)
in_both set other signo h =
    let bit : min (bit_at set signo) (bit_at other signo) ≡ 1 = sym (bit_at_and set other signo) ∙ bit_in (bit_and set other) signo h in
    let r = one_of_both (bit_at set signo) (bit_at other signo) (bit_at-lt set signo) bit (bit_at-lt other signo) in
    (in_set set signo r.0, in_set other signo r.1)

-- the only signal of a set of one
pub in_single : (signo n : ℕ) → is_in_set (2 ^ signo) n ≡ true → n ≡ signo
in_single signo n h = by (n == signo) refl
  where
    by : (b : Bool) → (n == signo) ≡ b → n ≡ signo
    by true e = eqb-true n signo e
    by false e =
        let zero : bit_at (2 ^ signo) n ≡ 0 = bit_at-pow_other signo n (λ z. both_ways (n == signo) e (eq-eqb n signo z)) in
        let one : bit_at (2 ^ signo) n ≡ 1 = bit_in (2 ^ signo) n h in
        absurd (omega arith)

-- what is in a set with one more
pub in_one_more : (set signo n : ℕ) → is_in_set (with_one_more set signo) n ≡ true → (is_in_set set n ≡ true) ⊎ (n ≡ signo)
in_one_more set signo n h = elim (in_either set (2 ^ signo) n h) [ inl e ↦ inl e | inr e ↦ inr (in_single signo n e) ]

-- what is in a set of numbers is one of them
in_set_of : (signos : List ℕ) (n : ℕ) → is_in_set (set_of signos) n ≡ true → is_one_of signos n ≡ true
in_set_of [] n h = absurd (both_ways (is_in_set 0 n) (not_in_set 0 n (bit_at-zero n)) h)
in_set_of (signo ∷ signos) n h = elim (in_one_more (set_of signos) signo n h) [
  | inl e ↦ either_true (signo == n) (is_one_of signos n) (inr (in_set_of signos n e))
  | inr e ↦ either_true (signo == n) (is_one_of signos n) (inl (eq-eqb signo n (sym e)))
]

-- a set with no more signals than a mask is one
pub smaller_mask : (set mask : ℕ) → ((n : ℕ) → is_in_set set n ≡ true → is_in_set mask n ≡ true) → IsMask mask → IsMask set
smaller_mask set mask part k = record {
  known = λ n h. k.known n (part n h);
  kill = false_unless (is_in_set set kill_signo) (λ h. both_ways (is_in_set mask kill_signo) k.kill (part kill_signo h));
}

-- what may be in a mask
pub maskable_mask : (set : ℕ) → IsMask (maskable set)
maskable_mask set = record { known = known; kill = false_unless (is_in_set (maskable set) kill_signo) kill }
  where
    every : ℕ
    every = bit_or (set_of standard_signals) (set_of realtime_signals)

    known : (n : ℕ) → is_in_set (maskable set) n ≡ true → is_known n ≡ true
    known n h =
        let both : is_in_set (bit_and set every) n ≡ true = (in_less (bit_and set every) (2 ^ kill_signo) n h).0 in
        elim (in_either (set_of standard_signals) (set_of realtime_signals) n (in_both set every n both).1) [
          | inl e ↦ either_true (is_one_of standard_signals n) (is_realtime n) (inl (in_set_of standard_signals n e))
          | inr e ↦ either_true (is_one_of standard_signals n) (is_realtime n) (inr (in_set_of realtime_signals n e))
        ]

    kill : is_in_set (maskable set) kill_signo ≡ true → ⊥
    kill h =
        let none : bit_at (2 ^ kill_signo) kill_signo ≡ 0 = (in_less (bit_and set every) (2 ^ kill_signo) kill_signo h).1 in
        let one : bit_at (2 ^ kill_signo) kill_signo ≡ 1 = bit_at-pow_same kill_signo in
        omega arith

-- the mask while a caught signal is handled
pub caught_mask : (mask set signo : ℕ) → is_known signo ≡ true → signo ≢ kill_signo → IsMask mask → IsMask set → IsMask (with_one_more (bit_or mask set) signo)
caught_mask mask set signo right other k l = record { known = known; kill = false_unless (is_in_set (with_one_more (bit_or mask set) signo) kill_signo) kill }
  where
    known : (n : ℕ) → is_in_set (with_one_more (bit_or mask set) signo) n ≡ true → is_known n ≡ true
    known n h = elim (in_one_more (bit_or mask set) signo n h) [
      | inl e ↦ elim (in_either mask set n e) [ inl z ↦ k.known n z | inr z ↦ l.known n z ]
      | inr e ↦ ap is_known e ∙ right
    ]

    kill : is_in_set (with_one_more (bit_or mask set) signo) kill_signo ≡ true → ⊥
    kill h = elim (in_one_more (bit_or mask set) signo kill_signo h) [
      | inl e ↦ elim (in_either mask set kill_signo e) [
        | inl z ↦ both_ways (is_in_set mask kill_signo) k.kill z
        | inr z ↦ both_ways (is_in_set set kill_signo) l.kill z
      ]
      | inr e ↦ other (sym e)
    ]

pub empty_set : (n : ℕ) → is_in_set 0 n ≡ false
empty_set n = not_in_set 0 n (bit_at-zero n)

pub empty_mask : IsMask 0
empty_mask = record { known = λ n h. absurd (both_ways (is_in_set 0 n) (empty_set n) h); kill = empty_set kill_signo }
