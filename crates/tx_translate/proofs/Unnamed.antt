-- Words that name no signal, and numbers that spell one.
use Rattle.std.proofs.Common.{◌≡◌, ◌≢◌, ℕ, ◌<◌, ◌||◌, ◌==◌, Bool, true, false, nat_lt, List, [], ◌∷◌, ◌++◌, codes, Some, None, refl, ap, sym, ◌∙◌, arith, take, get_or, ltb-true, inl, inr}
use Rattle.std.proofs.lemmas.Bool.{both_ways, ne_eqb}
use Rattle.std.proofs.lemmas.Bool.Decides.{eqb_tells}
use Rattle.std.proofs.lemmas.Fmt.{decimal_injective}
use Rattle.std.proofs.lemmas.Slice.Eq.{bytes_eq-Decides}
use Rattle.std.specs.Fmt.{decimal}
use Rattle.std.specs.List.{list_all}
use Rattle.std.specs.Str.{bytes_eq}
use Rattle.tx_model.specs.SignalSets.{is_known, is_one_of, realtime_signals, standard_signals}
use Rattle.tx_translate.specs.SignalNames.{bare_name, named_signal, number_among, number_of_name, numbered_signal, plain_signal, signal_of}
use Rattle.tx_translate.proofs.Bytes.{high_decimal, low_decimal, IsLow}
use Rattle.tx_translate.proofs.Tests.{and_parts, or_regrouped, two_ways}

pub differ : (left right : List ℕ) → left ≢ right → bytes_eq left right ≡ false
differ left right apart =
    elim (two_ways (bytes_eq left right)) [
      | inl h ↦ absurd (apart ((bytes_eq-Decides left right).0 h))
      | inr h ↦ h
    ]

other_first : (byte first : ℕ) (bytes others : List ℕ) → byte ≢ first → bytes_eq (byte ∷ bytes) (first ∷ others) ≡ false
other_first byte first bytes others apart = differ (byte ∷ bytes) (first ∷ others) (λ e. apart (ap (λ (t : List ℕ). get_or t 0 0) e))

-- no name begins with a byte below `A`
unnamed : (byte : ℕ) (bytes : List ℕ) → byte < 65 → number_of_name (byte ∷ bytes) ≡ None
unnamed byte bytes low =
    let a = ne_eqb byte 72 (λ e. omega arith) in
    let b = ne_eqb byte 73 (λ e. omega arith) in
    let c = ne_eqb byte 81 (λ e. omega arith) in
    let d = ne_eqb byte 65 (λ e. omega arith) in
    let f = ne_eqb byte 75 (λ e. omega arith) in
    let g = ne_eqb byte 85 (λ e. omega arith) in
    let h = ne_eqb byte 80 (λ e. omega arith) in
    let i = ne_eqb byte 84 (λ e. omega arith) in
    let j = ne_eqb byte 67 (λ e. omega arith) in
    simp (a, b, c, d, f, g, h, i, j)

bare_low : (byte : ℕ) (bytes : List ℕ) → byte < 65 → bare_name (byte ∷ bytes) ≡ byte ∷ bytes
bare_low byte bytes low =
    let other = other_first byte 83 (take 2 bytes) (73 ∷ 71 ∷ []) (λ e. omega arith) in
    rw other refl

pub low_unnamed : (word : List ℕ) → IsLow 58 word → named_signal word ≡ None
low_unnamed word low =
    let below : low.byte < 58 = low.below in
    ap named_signal low.parts ∙ ap number_of_name (bare_low low.byte low.bytes (omega arith)) ∙ unnamed low.byte low.bytes (omega arith)

-- a word that names no signal stays
pub low_signal : (word : List ℕ) → IsLow 58 word → plain_signal word ≡ word
low_signal word low = rw (low_unnamed word low) refl

abbrev are_small : List ℕ → Bool
are_small numbers = list_all (λ m. nat_lt m 64) numbers

-- a number is found among others by its spelling
among : (numbers : List ℕ) (n : ℕ) → are_small numbers ≡ true → n < 64 → is_one_of numbers n ≡ true → number_among numbers (decimal n) ≡ Some n
among [] n small less here = absurd (both_ways false refl here)
among (m ∷ numbers) n small less here =
    let parts = and_parts (nat_lt m 64) (are_small numbers) small in
    let below : m < 64 = ltb-true m 64 parts.0 in
    elim (eqb_tells m n) [
      | inl h ↦ let same = (bytes_eq-Decides (decimal n) (decimal m)).1 (ap decimal (sym h.1)) in rw same (ap Some h.1)
      | inr h ↦ let other = differ (decimal n) (decimal m) (λ e. h.1 (sym (decimal_injective n m (omega arith) (omega arith) e))) in
          let later : is_one_of numbers n ≡ true = rw h.0 at here in
          rw other (among numbers n parts.1 less later)
    ]

small_among : (numbers : List ℕ) (n : ℕ) → are_small numbers ≡ true → is_one_of numbers n ≡ true → n < 64
small_among [] n small here = absurd (both_ways false refl here)
small_among (m ∷ numbers) n small here =
    let parts = and_parts (nat_lt m 64) (are_small numbers) small in
    let below : m < 64 = ltb-true m 64 parts.0 in
    elim (eqb_tells m n) [
      | inl h ↦ let same : m ≡ n = h.1 in omega arith
      | inr h ↦ let later : is_one_of numbers n ≡ true = rw h.0 at here in small_among numbers n parts.1 later
    ]

-- `-` is no number
dash_among : (numbers : List ℕ) → are_small numbers ≡ true → number_among numbers (codes "-") ≡ None
dash_among [] small = refl
dash_among (m ∷ numbers) small =
    let parts = and_parts (nat_lt m 64) (are_small numbers) small in
    let below : m < 64 = ltb-true m 64 parts.0 in
    let digits = high_decimal m (omega arith) in
    let above : 47 < digits.byte = digits.above in
    let other = differ (codes "-") (decimal m) (λ e. let bad : 45 ≡ digits.byte = ap (λ (t : List ℕ). get_or t 0 0) (e ∙ digits.parts) in omega arith) in
    rw other (dash_among numbers parts.1)

one_of_both : (xs ys : List ℕ) (k : ℕ) → is_one_of (xs ++ ys) k ≡ (is_one_of xs k || is_one_of ys k)
one_of_both [] ys k = refl
one_of_both (x ∷ xs) ys k = ap (λ (b : Bool). x == k || b) (one_of_both xs ys k) ∙ sym (or_regrouped (x == k) (is_one_of xs k) (is_one_of ys k))

known_among : (n : ℕ) → is_known n ≡ true → is_one_of (standard_signals ++ realtime_signals) n ≡ true
known_among n known = one_of_both standard_signals realtime_signals n ∙ known

-- the number of a known signal spells it
pub known_spelled : (n : ℕ) → n < 64 → is_known n ≡ true → signal_of (decimal n) ≡ Some n
known_spelled n small known =
    let word : IsLow 58 (decimal n) = low_decimal n (omega arith) in
    let found : numbered_signal (decimal n) ≡ Some n = among (standard_signals ++ realtime_signals) n refl small (known_among n known) in
    rw (low_unnamed (decimal n) word) found

pub known_small : (n : ℕ) → is_known n ≡ true → n < 64
known_small n known = small_among (standard_signals ++ realtime_signals) n refl (known_among n known)

pub dash_unspelled : signal_of (codes "-") ≡ None
dash_unspelled =
    let none = low_unnamed (codes "-") (record { byte = 45; bytes = []; parts = refl; below = omega arith }) in
    rw none (dash_among (standard_signals ++ realtime_signals) refl)
