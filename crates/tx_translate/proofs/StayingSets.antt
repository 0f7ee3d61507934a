-- The spelling of a set in version 2 means that set.
use Rattle.std.proofs.Common.{◌≡◌, ℕ, ◌<◌, ◌^◌, max, Bool, false, ◌||◌, ◌==◌, cond, List, [], ◌∷◌, ◌++◌, map, Option, Some, None, refl, ap, sym, ◌∙◌, arith, inl, inr, eq-eqb}
use Rattle.std.proofs.lemmas.Bool.{ne_eqb}
use Rattle.std.proofs.lemmas.Bool.Decides.{eqb_tells}
use Rattle.std.proofs.lemmas.List.{append-nil}
use Rattle.std.proofs.lemmas.Nat.Bits.{bit_at_or, bit_at-lt, bit_at-pow_same, bit_at-pow_other, bit_at-zero}
use Rattle.std.specs.Fmt.{decimal}
use Rattle.std.specs.Int.{bit_at}
use Rattle.std.specs.List.{filter}
use Rattle.tx_base.specs.Signals.{bits_of}
use Rattle.tx_base.specs.declared.signals.SigSet.{SigSet}
use Rattle.tx_model.specs.SignalSets.{is_in_set, is_one_of, realtime_signals, set_of, standard_signals, with_one_more}
use Rattle.tx_lines.specs.ListedSets.{AreRising, FitsSet}
use Rattle.tx_lines.specs.Lists.{list_text, more_text}
use Rattle.tx_lines.specs.SetFacts.{members_rise}
use Rattle.tx_lines.specs.Sets.{members, set_text}
use Rattle.tx_translate.specs.OwnLines.{with_byte}
use Rattle.tx_translate.specs.Sets.{comma_parts, numbers_or, plain_set, set_in, set_with, set_with_all}
use Rattle.tx_translate.proofs.Bytes.{digits_within, AreWithin}
use Rattle.tx_translate.proofs.Unnamed.{dash_unspelled, known_small, known_spelled}
use Rattle.tx_translate.proofs.Tests.{or_false, or_regrouped, or_true, or_turned}

-- words with no comma are parts
part_before : (word rest : List ℕ) → AreWithin 47 58 word → comma_parts (word ++ 44 ∷ rest) ≡ word ∷ comma_parts rest
part_before [] rest are = refl
part_before (byte ∷ bytes) rest are =
    let above : 47 < byte = are.0 in
    let other = ne_eqb byte 44 (λ e. omega arith) in
    rw other (ap (with_byte byte) (part_before bytes rest are.2))

part_alone : (word : List ℕ) → AreWithin 47 58 word → comma_parts word ≡ word ∷ []
part_alone [] are = refl
part_alone (byte ∷ bytes) are =
    let above : 47 < byte = are.0 in
    let other = ne_eqb byte 44 (λ e. omega arith) in
    rw other (ap (with_byte byte) (part_alone bytes are.2))

listed_parts : (above n : ℕ) (ns : List ℕ) → AreRising above (n ∷ ns) → comma_parts (decimal n ++ more_text ns) ≡ map decimal (n ∷ ns)
listed_parts above n [] rising =
    let small : n < 2 ^ 8 = rising.1 in
    ap comma_parts (append-nil (decimal n)) ∙ part_alone (decimal n) (digits_within n (omega arith))
listed_parts above n (m ∷ ns) rising =
    let small : n < 2 ^ 8 = rising.1 in
    part_before (decimal n) (decimal m ++ more_text ns) (digits_within n (omega arith)) ∙ ap (λ (ws : List (List ℕ)). decimal n ∷ ws) (listed_parts n m ns rising.3)

-- what one signal more does to a set
more_in : (set n k : ℕ) → is_in_set (with_one_more set n) k ≡ (is_in_set set k || n == k)
more_in set n k =
    elim (eqb_tells n k) [
      | inl h ↦
          let here : bit_at (2 ^ n) k ≡ 1 = ap (bit_at (2 ^ n)) (sym h.1) ∙ bit_at-pow_same n in
          let less : bit_at set k < 2 = bit_at-lt set k in
          let one : bit_at (with_one_more set n) k ≡ 1 = bit_at_or set (2 ^ n) k ∙ ap (max (bit_at set k)) here ∙ omega arith in
          rw h.0 (eq-eqb (bit_at (with_one_more set n) k) 1 one ∙ sym (or_true (is_in_set set k)))
      | inr h ↦
          let none : bit_at (2 ^ n) k ≡ 0 = bit_at-pow_other n k (λ e. h.1 (sym e)) in
          let same : bit_at (with_one_more set n) k ≡ bit_at set k = bit_at_or set (2 ^ n) k ∙ ap (max (bit_at set k)) none ∙ omega arith in
          rw h.0 (ap (λ (b : ℕ). b == 1) same ∙ sym (or_false (is_in_set set k)))
    ]

-- a set with some signals more
abbrev with_more : ℕ → List ℕ → ℕ
with_more set [] = set
with_more set (n ∷ ns) = with_more (with_one_more set n) ns

all_in : (set : ℕ) (ns : List ℕ) (k : ℕ) → is_in_set (with_more set ns) k ≡ (is_in_set set k || is_one_of ns k)
all_in set [] k = sym (or_false (is_in_set set k))
all_in set (n ∷ ns) k = all_in (with_one_more set n) ns k ∙ ap (λ (b : Bool). b || is_one_of ns k) (more_in set n k) ∙ or_regrouped (is_in_set set k) (n == k) (is_one_of ns k)

in_set_of : (ns : List ℕ) (k : ℕ) → is_in_set (set_of ns) k ≡ is_one_of ns k
in_set_of [] k = ap (λ (b : ℕ). b == 1) (bit_at-zero k)
in_set_of (n ∷ ns) k = more_in (set_of ns) n k ∙ ap (λ (b : Bool). b || n == k) (in_set_of ns k) ∙ or_turned (is_one_of ns k) (n == k)

-- signals that rise are put into a set one after another
rising_set : (set above : ℕ) (ns : List ℕ) → AreRising above ns → ((k : ℕ) → above < k → is_in_set set k ≡ false) → set_with_all (Some set) (map decimal ns) ≡ Some (with_more set ns)
rising_set set above [] rising none = refl
rising_set set above (n ∷ ns) rising none =
    let first : above < n = rising.0 in
    let small : n < 64 = known_small n rising.2 in
    let found = known_spelled n small rising.2 in
    let absent = none n first in
    let later : (k : ℕ) → n < k → is_in_set (with_one_more set n) k ≡ false = λ k past.
    more_in set n k ∙ ap (λ (b : Bool). b || n == k) (none k (omega arith)) ∙ ne_eqb n k (λ e. omega arith) in
    ap (λ (signo : Option ℕ). set_with_all (set_with (Some set) signo) (map decimal ns)) found
    ∙ ap (λ (b : Bool). set_with_all (cond b None (Some (with_one_more set n))) (map decimal ns)) absent
    ∙ rising_set (with_one_more set n) n ns rising.3 later

none_in_0 : (k : ℕ) → is_in_set 0 k ≡ false
none_in_0 k = ap (λ (b : ℕ). b == 1) (bit_at-zero k)

filter_same : (p q : ℕ → Bool) (xs : List ℕ) → ((k : ℕ) → p k ≡ q k) → filter p xs ≡ filter q xs
filter_same p q [] same = refl
filter_same p q (x ∷ xs) same = ap (λ (b : Bool). cond b (x ∷ filter p xs) (filter p xs)) (same x) ∙ ap (λ (ys : List ℕ). cond (q x) (x ∷ ys) ys) (filter_same p q xs same)

same_members : (set other : ℕ) → ((k : ℕ) → is_in_set set k ≡ is_in_set other k) → members set ≡ members other
unfolding members
same_members set other same = filter_same (is_in_set set) (is_in_set other) (standard_signals ++ realtime_signals) same

-- the set of the spelling of the members of a set
listed_set : (bits : ℕ) (ns : List ℕ) → members bits ≡ ns → bits ≡ set_of ns → AreRising 0 ns → plain_set (list_text ns) ≡ list_text ns
listed_set bits [] are fits rising = rw dash_unspelled refl
listed_set bits (n ∷ ns) are fits rising =
    let parts = listed_parts 0 n ns rising in
    let found : set_in (list_text (n ∷ ns)) ≡ Some (with_more 0 (n ∷ ns)) = ap (set_with_all (Some 0)) parts ∙ rising_set 0 0 (n ∷ ns) rising (λ k past. none_in_0 k) in
    let same : members (with_more 0 (n ∷ ns)) ≡ members bits = same_members (with_more 0 (n ∷ ns)) bits (λ k.
    all_in 0 (n ∷ ns) k
    ∙ ap (λ (b : Bool). b || is_one_of (n ∷ ns) k) (none_in_0 k)
    ∙ sym (in_set_of (n ∷ ns) k)
    ∙ ap (λ (set : ℕ). is_in_set set k) (sym fits)) in
    ap (numbers_or (list_text (n ∷ ns))) found ∙ ap list_text (same ∙ are)

-- the spelling of a set means that set
pub set_stays : (set : SigSet) → FitsSet set → plain_set (set_text set) ≡ set_text set
set_stays set fits = listed_set (bits_of set) (members (bits_of set)) refl fits (members_rise (bits_of set))
