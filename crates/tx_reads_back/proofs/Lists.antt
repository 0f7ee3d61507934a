-- Lists of numbers, and sets of signals, in a text.
use Rattle.std.proofs.Common.{◌≡◌, ℕ, ◌<◌, ◌^◌, Bool, true, false, ◌&&◌, ◌||◌, ◌==◌, List, [], ◌∷◌, ◌++◌, drop, get_or, length, refl, sym, ap, ◌∙◌, arith, append_assoc}
use Rattle.std.specs.Prelude.{nat_lt}
use Rattle.std.specs.Int.{bit_at}
use Rattle.std.specs.List.{filter}
use Rattle.std.specs.Fmt.{decimal}
use Rattle.std.proofs.lemmas.Bool.{both_ways}
use Rattle.std.proofs.lemmas.Bool.Decides.{nat_tests}
use Rattle.std.proofs.lemmas.Fmt.{decimal_nonempty, digits_decimal}
use Rattle.std.proofs.lemmas.List.{get_or_append_left}
use Rattle.std.proofs.lemmas.Nat.Bits.{bit_at-lt, same_from_bits}
use Rattle.std.proofs.lemmas.Str.Parse.{digit_at}
use Rattle.tx_lines.specs.NumberFacts.{own}
use Rattle.tx_lines.specs.SetFacts.{members_rise}
use Rattle.tx_lines.specs.Lists.{list_text, more_text}
use Rattle.tx_lines.specs.ListedSets.{AreRising}
use Rattle.tx_lines.specs.Sets.{bits_text, members}
use Rattle.tx_model.specs.SignalSets.{is_in_set, is_known, is_one_of, realtime_signals, standard_signals}
use Rattle.tx_reads_back.proofs.Fronts.{in_number, number_unique, Stops}

-- a number is one of two lists together where it is one of either
pub one_of_both : (xs ys : List ℕ) (k : ℕ) → is_one_of (xs ++ ys) k ≡ (is_one_of xs k || is_one_of ys k)
one_of_both [] ys k = refl
one_of_both (x ∷ xs) ys k = grind (arith, one_of_both xs ys k)

-- a digit, a sign or a comma
abbrev pub in_list : ℕ → Bool
in_list byte = nat_lt 43 byte && nat_lt byte 58

-- each is a number of 64 bits
abbrev pub AreSmall : List ℕ → Type 0
AreSmall [] = Unit {0}
AreSmall (n ∷ ns) = (n < 2 ^ 64) × AreSmall ns

no_number : (byte : ℕ) → in_list byte ≡ false → in_number byte ≡ false
no_number byte none = grind (arith, nat_tests)

number_stops : (r : List ℕ) → Stops in_list r → Stops in_number r
number_stops r stops = grind (arith, no_number)

more_stops : (ns r : List ℕ) → Stops in_list r → Stops in_number (more_text ns ++ r)
more_stops [] r stops = number_stops r stops
more_stops (n ∷ ns) r stops = refl

no_more : (r t : List ℕ) → Stops in_list r → r ≡ 44 ∷ t → ⊥
no_more r t stops e = grind (arith, both_ways)

more_unique : (ns ms r s : List ℕ) → AreSmall ns → AreSmall ms → Stops in_list r → Stops in_list s → more_text ns ++ r ≡ more_text ms ++ s → (ns ≡ ms) × (r ≡ s)
more_unique [] [] r s n_small m_small at_r at_s e = (refl, e)
more_unique [] (m ∷ ms) r s n_small m_small at_r at_s e = absurd (no_more r ((decimal m ++ more_text ms) ++ s) at_r e)
more_unique (n ∷ ns) [] r s n_small m_small at_r at_s e = absurd (no_more s ((decimal n ++ more_text ns) ++ r) at_s (sym e))
more_unique (n ∷ ns) (m ∷ ms) r s n_small m_small at_r at_s e =
    let cut : decimal n ++ (more_text ns ++ r) ≡ decimal m ++ (more_text ms ++ s) =
    sym (append_assoc (decimal n) (more_text ns) r) ∙ ap (drop 1) e ∙ append_assoc (decimal m) (more_text ms) s in
    let first = number_unique n m (more_text ns ++ r) (more_text ms ++ s) n_small.0 m_small.0 (more_stops ns r at_r) (more_stops ms s at_s) cut in
    let rest = more_unique ns ms r s n_small.1 m_small.1 at_r at_s first.1 in
    ((λ j. first.0 j ∷ rest.0 j), rest.1)

-- a number begins with no sign
no_sign : (n : ℕ) (r s : List ℕ) → n < 2 ^ 64 → 45 ∷ r ≡ decimal n ++ s → ⊥
no_sign n r s small e =
    let some : 0 < length (decimal n) = decimal_nonempty n small in
    let digit = digit_at (decimal n) 0 (digits_decimal own n small) some in
    let first : 45 ≡ get_or (decimal n) 0 0 = ap (λ (bytes : List ℕ). get_or bytes 0 0) e ∙ get_or_append_left (decimal n) s 0 0 some in
    omega (arith, digit.0)

pub list_unique : (ns ms r s : List ℕ) → AreSmall ns → AreSmall ms → Stops in_list r → Stops in_list s → list_text ns ++ r ≡ list_text ms ++ s → (ns ≡ ms) × (r ≡ s)
list_unique [] [] r s n_small m_small at_r at_s e = (refl, ap (drop 1) e)
list_unique [] (m ∷ ms) r s n_small m_small at_r at_s e = absurd (no_sign m r (more_text ms ++ s) m_small.0 (e ∙ append_assoc (decimal m) (more_text ms) s))
list_unique (n ∷ ns) [] r s n_small m_small at_r at_s e = absurd (no_sign n s (more_text ns ++ r) n_small.0 (sym e ∙ append_assoc (decimal n) (more_text ns) r))
list_unique (n ∷ ns) (m ∷ ms) r s n_small m_small at_r at_s e =
    more_unique (n ∷ ns) (m ∷ ms) r s n_small m_small at_r at_s (ap (λ (bytes : List ℕ). 44 ∷ bytes) e)

rising_small : (above : ℕ) (ns : List ℕ) → AreRising above ns → AreSmall ns
rising_small above [] rising = tt
rising_small above (n ∷ ns) rising = let small : n < 2 ^ 8 = rising.1 in (omega arith, rising_small n ns rising.3)

-- what is kept of a list passes, and what passes is kept
passes : (p : ℕ → Bool) (xs : List ℕ) (k : ℕ) → is_one_of (filter p xs) k ≡ true → p k ≡ true
passes p [] k h = absurd (both_ways false refl h)
passes p (x ∷ xs) k h = grind (arith, nat_tests, passes p xs k)

kept : (p : ℕ → Bool) (xs : List ℕ) (k : ℕ) → is_one_of xs k ≡ true → p k ≡ true → is_one_of (filter p xs) k ≡ true
kept p [] k h is = h
kept p (x ∷ xs) k h is = grind (arith, nat_tests, kept p xs k)

-- a set of known signals
abbrev pub IsKnownSet : ℕ → Type 0
IsKnownSet set = (signo : ℕ) → is_in_set set signo ≡ true → is_known signo ≡ true

all_below : List ℕ → Bool
all_below [] = true
all_below (n ∷ ns) = nat_lt n 40 && all_below ns

one_below : (ns : List ℕ) (k : ℕ) → all_below ns ≡ true → is_one_of ns k ≡ true → k < 40
unfolding all_below
one_below [] k below is = absurd (both_ways false refl is)
one_below (n ∷ ns) k below is = grind (arith, nat_tests, one_below ns k)

-- the number of a known signal is small
pub known_small : (signo : ℕ) → is_known signo ≡ true → signo < 40
unfolding all_below
known_small signo known = one_below (standard_signals ++ realtime_signals) signo refl (one_of_both standard_signals realtime_signals signo ∙ known)

-- lists of those that pass determine the test
pub same_test : (p q : ℕ → Bool) (xs : List ℕ) (k : ℕ) → filter p xs ≡ filter q xs → is_one_of xs k ≡ true → p k ≡ q k
same_test p q xs k same among = grind (arith, passes p xs k, passes q xs k, kept p xs k among, kept q xs k among)

pub same_bit : (a b : ℕ) → a < 2 → b < 2 → (a == 1) ≡ (b == 1) → a ≡ b
same_bit a b x y e = grind (arith, nat_tests)

same_set : (set other : ℕ) → IsKnownSet set → IsKnownSet other → members set ≡ members other → set ≡ other
unfolding members
same_set set other known known' same = same_from_bits set other (λ i. same_bit (bit_at set i) (bit_at other i) (bit_at-lt set i) (bit_at-lt other i) (each i))
  where
    at : (i : ℕ) → is_known i ≡ true → is_in_set set i ≡ is_in_set other i
    at i is = same_test (is_in_set set) (is_in_set other) (standard_signals ++ realtime_signals) i same (one_of_both standard_signals realtime_signals i ∙ is)

    each : (i : ℕ) → is_in_set set i ≡ is_in_set other i
    each i = grind (arith, known i, known' i, at i)

-- a set ends where no number and no comma follows
pub set_unique : (set other : ℕ) (r s : List ℕ) → IsKnownSet set → IsKnownSet other → Stops in_list r → Stops in_list s → bits_text set ++ r ≡ bits_text other ++ s → (set ≡ other) × (r ≡ s)
set_unique set other r s known known' at_r at_s e =
    let unique = list_unique (members set) (members other) r s (rising_small 0 (members set) (members_rise set)) (rising_small 0 (members other) (members_rise other)) at_r at_s e in
    (same_set set other known known' unique.0, unique.1)
