-- Lists of signals that rise, and the sets of them.
use Rattle.std.proofs.Common.{◌≡◌, ℕ, ◌<◌, ◌^◌, ◌⊎◌, max, Bool, true, false, cond, ◌||◌, ◌==◌, List, [], ◌∷◌, ◌++◌, Some, None, codes, refl, sym, ap, ◌∙◌, inl, inr, eq-eqb, eqb-true, get_or, length, subst, arith}
use Rattle.std.specs.List.{filter}
use Rattle.std.specs.Int.{bit_at}
use Rattle.std.specs.Fmt.{decimal}
use Rattle.std.specs.Char.{digit_value}
use Rattle.std.specs.Str.Parse.{AllDigits}
use Rattle.std.proofs.lemmas.Bool.{both_ways, ne_eqb}
use Rattle.std.proofs.lemmas.Bool.Decides.{eqb_tells}
use Rattle.std.proofs.lemmas.Fmt.{decimal_is_IsNumeral, decimal_nonempty}
use Rattle.std.proofs.lemmas.List.{append-nil}
use Rattle.std.proofs.lemmas.Nat.Bits.{bit_at_or, bit_at-lt, bit_at-pow_same, bit_at-pow_other, bit_at-zero}
use Rattle.tx_base.specs.Signals.{bits_of, set_of_bits}
use Rattle.tx_base.specs.declared.signals.SigSet.{SigSet}
use Rattle.tx_model.specs.SignalSets.{standard_signals, realtime_signals, is_in_set, is_known, is_one_of, set_of, with_one_more}
use Rattle.tx_lines.specs.Lists.{list_text, more_text}
use Rattle.tx_lines.specs.Sets.{members, set_text}
use Rattle.tx_lines.specs.ListedSets.{AreListed, AreRising, FitsSet}
use Rattle.tx_lines.specs.SetFacts.{all_rising, members_rise}
use Rattle.tx_lines.specs.Words.{parts_at}
use Rattle.tx_lines.proofs.FirstWord.{free_decimal, parts_at-free, parts_at-word, same_parts, split_parts}

or_cases : (a b : Bool) → (a || b) ≡ true → (a ≡ true) ⊎ (b ≡ true)
or_cases true b h = inl refl
or_cases false b h = inr h

or_right : (a b : Bool) → b ≡ true → (a || b) ≡ true
or_right true b h = refl
or_right false b h = h

or_left : (a b : Bool) → a ≡ true → (a || b) ≡ true
or_left true b h = refl
or_left false b h = absurd (both_ways false refl h)

not_true : (b : Bool) → (b ≡ true → ⊥) → b ≡ false
not_true true h = absurd (h refl)
not_true false h = refl

-- each is above the number
above_all : (above : ℕ) (signos : List ℕ) (k : ℕ) → AreRising above signos → is_one_of signos k ≡ true → above < k
above_all above [] k rising h = absurd (both_ways false refl h)
above_all above (signo ∷ signos) k rising h =
    let first : above < signo = rising.0 in
    elim (or_cases (signo == k) (is_one_of signos k) h) [
      | inl e ↦ let same : signo ≡ k = eqb-true signo k e in omega arith
      | inr e ↦ let rest : signo < k = above_all signo signos k rising.3 e in omega arith
    ]

-- a set of numbers has those
in_set_of : (signos : List ℕ) (k : ℕ) → is_in_set (set_of signos) k ≡ is_one_of signos k
in_set_of [] k = ap (λ (b : ℕ). b == 1) (bit_at-zero k)
in_set_of (signo ∷ signos) k =
    elim (eqb_tells signo k) [
      | inl h ↦
          let here : bit_at (2 ^ signo) k ≡ 1 = ap (λ (i : ℕ). bit_at (2 ^ signo) i) (sym h.1) ∙ bit_at-pow_same signo in
          let bit : bit_at (with_one_more (set_of signos) signo) k ≡ max (bit_at (set_of signos) k) 1 = bit_at_or (set_of signos) (2 ^ signo) k ∙ ap (λ (b : ℕ). max (bit_at (set_of signos) k) b) here in
          let one : bit_at (with_one_more (set_of signos) signo) k ≡ 1 = bit ∙ at_most_one (bit_at (set_of signos) k) (small (set_of signos) k) in
          eq-eqb (bit_at (with_one_more (set_of signos) signo) k) 1 one ∙ sym (or_left (signo == k) (is_one_of signos k) h.0)
      | inr h ↦
          let none : bit_at (2 ^ signo) k ≡ 0 = bit_at-pow_other signo k (λ e. h.1 (sym e)) in
          let bit : bit_at (with_one_more (set_of signos) signo) k ≡ bit_at (set_of signos) k = bit_at_or (set_of signos) (2 ^ signo) k ∙ ap (λ (b : ℕ). max (bit_at (set_of signos) k) b) none ∙ max_none (bit_at (set_of signos) k) in
          ap (λ (b : ℕ). b == 1) bit ∙ in_set_of signos k ∙ sym (ap (λ (b : Bool). b || is_one_of signos k) h.0)
    ]
  where
    at_most_one : (b : ℕ) → b < 2 → max b 1 ≡ 1
    at_most_one b h = omega arith

    max_none : (b : ℕ) → max b 0 ≡ b
    max_none b = omega arith

    small : (set i : ℕ) → bit_at set i < 2
    small set i = bit_at-lt set i

filter_same : (p q : ℕ → Bool) (xs : List ℕ) → ((k : ℕ) → is_one_of xs k ≡ true → p k ≡ q k) → filter p xs ≡ filter q xs
filter_same p q [] same = refl
filter_same p q (x ∷ xs) same =
    let here : p x ≡ q x = same x (or_left (x == x) (is_one_of xs x) (eq-eqb x x refl)) in
    let rest : filter p xs ≡ filter q xs = filter_same p q xs (λ k h. same k (or_right (x == k) (is_one_of xs k) h)) in
    ap (λ (b : Bool). cond b (x ∷ filter p xs) (filter p xs)) here ∙ ap (λ (ys : List ℕ). cond (q x) (x ∷ ys) ys) rest

-- of numbers that rise, those among others that rise are these
kept : (above : ℕ) (xs ns : List ℕ) → AreRising above xs → AreRising above ns → ((k : ℕ) → is_one_of ns k ≡ true → is_one_of xs k ≡ true) → filter (is_one_of ns) xs ≡ ns
kept above [] [] rx rn sub = refl
kept above [] (n ∷ ns) rx rn sub = absurd (both_ways false refl (sub n (or_left (n == n) (is_one_of ns n) (eq-eqb n n refl))))
kept above (x ∷ xs) [] rx rn sub = kept x xs [] rx.3 tt (λ k h. absurd (both_ways false refl h))
kept above (x ∷ xs) (n ∷ ns) rx rn sub =
    elim (eqb_tells n x) [
      | inl h ↦
          let later : (k : ℕ) → is_one_of xs k ≡ true → is_one_of (n ∷ ns) k ≡ is_one_of ns k = λ k inside.
          (let past : x < k = above_all x xs k rx.3 inside in
          let same : n ≡ x = h.1 in
          ap (λ (b : Bool). b || is_one_of ns k) (ne_eqb n k (λ e. omega arith))) in
          let fewer : (k : ℕ) → is_one_of ns k ≡ true → is_one_of xs k ≡ true = λ k inside.
          (let past : n < k = above_all n ns k rn.3 inside in
          let same : n ≡ x = h.1 in
          elim (or_cases (x == k) (is_one_of xs k) (sub k (or_right (n == k) (is_one_of ns k) inside))) [
            | inl e ↦ let bad : x ≡ k = eqb-true x k e in absurd (omega arith)
            | inr e ↦ e
          ]) in
          let rising : AreRising x ns = subst (λ (a : ℕ). AreRising a ns) h.1 rn.3 in
          let there : is_one_of (n ∷ ns) x ≡ true = or_left (n == x) (is_one_of ns x) h.0 in
          ap (λ (b : Bool). cond b (x ∷ filter (is_one_of (n ∷ ns)) xs) (filter (is_one_of (n ∷ ns)) xs)) there
          ∙ ap (λ (ys : List ℕ). x ∷ ys) (filter_same (is_one_of (n ∷ ns)) (is_one_of ns) xs later ∙ kept x xs ns rx.3 rising fewer)
          ∙ ap (λ (m : ℕ). m ∷ ns) (sym h.1)
      | inr h ↦
          let inside : is_one_of xs n ≡ true = elim (or_cases (x == n) (is_one_of xs n) (sub n (or_left (n == n) (is_one_of ns n) (eq-eqb n n refl)))) [
            | inl e ↦ absurd (h.1 (sym (eqb-true x n e)))
            | inr e ↦ e
          ] in
          let past : x < n = above_all x xs n rx.3 inside in
          let rising : AreRising x (n ∷ ns) = (past, rn.1, rn.2, rn.3) in
          let absent : is_one_of (n ∷ ns) x ≡ false = not_true (is_one_of (n ∷ ns) x) (λ e. let bad : x < x = above_all x (n ∷ ns) x rising e in omega arith) in
          let fewer : (k : ℕ) → is_one_of (n ∷ ns) k ≡ true → is_one_of xs k ≡ true = λ k e.
          (let over : x < k = above_all x (n ∷ ns) k rising e in
          elim (or_cases (x == k) (is_one_of xs k) (sub k e)) [
            | inl f ↦ let bad : x ≡ k = eqb-true x k f in absurd (omega arith)
            | inr f ↦ f
          ]) in
          ap (λ (b : Bool). cond b (x ∷ filter (is_one_of (n ∷ ns)) xs) (filter (is_one_of (n ∷ ns)) xs)) absent ∙ kept x xs (n ∷ ns) rx.3 rising fewer
    ]

one_of_both : (xs ys : List ℕ) (k : ℕ) → is_one_of (xs ++ ys) k ≡ (is_one_of xs k || is_one_of ys k)
one_of_both [] ys k = refl
one_of_both (x ∷ xs) ys k = ap (λ (b : Bool). x == k || b) (one_of_both xs ys k) ∙ either (x == k) (is_one_of xs k) (is_one_of ys k)
  where
    either : (a b c : Bool) → (a || (b || c)) ≡ ((a || b) || c)
    either true b c = refl
    either false b c = refl

all_known : (above : ℕ) (signos : List ℕ) (k : ℕ) → AreRising above signos → is_one_of signos k ≡ true → is_known k ≡ true
all_known above [] k rising h = absurd (both_ways false refl h)
all_known above (signo ∷ signos) k rising h =
    elim (or_cases (signo == k) (is_one_of signos k) h) [
      | inl e ↦ subst (λ (n : ℕ). is_known n ≡ true) (eqb-true signo k e) rising.2
      | inr e ↦ all_known signo signos k rising.3 e
    ]

-- the members of the set of signals that rise are these
pub members_of : (signos : List ℕ) → AreRising 0 signos → members (set_of signos) ≡ signos
unfolding members
members_of signos rising =
    filter_same (λ signo. is_in_set (set_of signos) signo) (is_one_of signos) (standard_signals ++ realtime_signals) (λ k inside. in_set_of signos k)
    ∙ kept 0 (standard_signals ++ realtime_signals) signos all_rising rising
    (λ k inside. one_of_both standard_signals realtime_signals k ∙ all_known 0 signos k rising inside)

-- a list of two or more has a comma after the first
pub listed_split : (above : ℕ) (list word rest : List ℕ) (n : ℕ) (ns : List ℕ) → AreListed above list n ns → Some (word, rest) ≡ parts_at 44 list
    → (m : ℕ) × (ms : List ℕ) × (ns ≡ m ∷ ms) × (word ≡ decimal n) × AreListed n rest m ms
listed_split above list word rest n [] listed parts =
    let small : n < 2 ^ 8 = listed.rising.1 in
    let whole : list ≡ decimal n = listed.text ∙ append-nil (decimal n) in
    let none : parts_at 44 list ≡ None = ap (parts_at 44) whole ∙ parts_at-free 44 (decimal n) (free_decimal n (omega arith)).1 in
    absurd (cc)
listed_split above list word rest n (m ∷ ms) listed parts =
    let small : n < 2 ^ 8 = listed.rising.1 in
    let same = same_parts (word, rest) (decimal n, decimal m ++ more_text ms) (parts ∙ ap (parts_at 44) listed.text ∙ parts_at-word 44 (decimal n) (decimal m ++ more_text ms) (free_decimal n (omega arith)).1) in
    (m, ms, refl, same.0, record { rising = listed.rising.3; text = same.1 })

-- a list without a comma has one
pub listed_alone : (above : ℕ) (list : List ℕ) (n : ℕ) (ns : List ℕ) → AreListed above list n ns → None ≡ parts_at 44 list → (ns ≡ []) × (list ≡ decimal n)
listed_alone above list n [] listed parts = (refl, listed.text ∙ append-nil (decimal n))
listed_alone above list n (m ∷ ms) listed parts =
    let small : n < 2 ^ 8 = listed.rising.1 in
    let some : parts_at 44 list ≡ Some (decimal n, decimal m ++ more_text ms) = ap (parts_at 44) listed.text ∙ parts_at-word 44 (decimal n) (decimal m ++ more_text ms) (free_decimal n (omega arith)).1 in
    absurd (cc)

-- one signal more before a list
pub listed_more : (above : ℕ) (list word rest : List ℕ) (n m : ℕ) (ms : List ℕ) → Some (word, rest) ≡ parts_at 44 list → word ≡ decimal n → above < n → n < 2 ^ 8 → is_known n ≡ true → AreListed n rest m ms
    → AreListed above list n (m ∷ ms)
listed_more above list word rest n m ms parts spelled rises small known listed = record {
  rising = (rises, small, known, listed.rising);
  text = split_parts 44 list word rest (sym parts) ∙ ap (λ (w : List ℕ). w ++ 44 ∷ rest) spelled ∙ ap (λ (r : List ℕ). decimal n ++ 44 ∷ r) listed.text;
}

-- a set with one signal more
pub one_more : (set others : SigSet) (signo n : ℕ) (ns : List ℕ) → bits_of set ≡ with_one_more (bits_of others) signo → signo ≡ n → bits_of others ≡ set_of ns → bits_of set ≡ set_of (n ∷ ns)
one_more set others signo n ns made same has = made ∙ ap (λ (s : ℕ). with_one_more (bits_of others) s) same ∙ ap (λ (b : ℕ). with_one_more b n) has

-- a set by its bits
pub same_set : (set : SigSet) (bits : ℕ) → bits_of set ≡ bits → Some set ≡ Some (set_of_bits bits)
same_set set bits same = ap (λ (b : ℕ). Some (set_of_bits b)) same

-- no number is spelled by a dash
no_dash_digits : (digits rest : List ℕ) → AllDigits 10 digits → 0 < length digits → codes "-" ≡ digits ++ rest → ⊥
no_dash_digits [] rest are some e = omega arith
no_dash_digits (digit ∷ digits) rest are some e =
    let first : 45 ≡ digit = ap (λ (b : List ℕ). get_or b 0 0) e in
    let at : digit_value 45 < 10 = subst (λ (b : ℕ). digit_value b < 10) (sym first) are.0 in
    omega arith

no_dash : (n : ℕ) (rest : List ℕ) → n < 2 ^ 8 → codes "-" ≡ decimal n ++ rest → ⊥
no_dash n rest small e = no_dash_digits (decimal n) rest (decimal_is_IsNumeral n (omega arith)).0.1 (decimal_nonempty n (omega arith)) e

-- the set of a list of two or more
pub set_more : (set others : SigSet) (signo n m : ℕ) (ns ms : List ℕ) → bits_of set ≡ with_one_more (bits_of others) signo → signo ≡ n → ns ≡ m ∷ ms
    → Some others ≡ Some (set_of_bits (set_of (m ∷ ms))) → Some set ≡ Some (set_of_bits (set_of (n ∷ ns)))
set_more set others signo n m ns ms made same more rest =
    let has : others ≡ set_of_bits (set_of (m ∷ ms)) = cc in
    same_set set (set_of (n ∷ ns)) (one_more set others signo n ns made same (ap bits_of has ∙ ap set_of (sym more)))

-- the empty set
pub empty_text : (set : SigSet) → bits_of set ≡ 0 → (codes "-" ≡ set_text set) × FitsSet set
unfolding members
empty_text set none =
    let nobody : members (bits_of set) ≡ [] = ap members none in
    (ap list_text (sym nobody), none ∙ ap set_of (sym nobody))

-- where a set's text is that of none, it is empty
pub empty_of : (set : SigSet) → FitsSet set → codes "-" ≡ set_text set → bits_of set ≡ 0
empty_of set fits e = by (members (bits_of set)) fits e (members_rise (bits_of set))
  where
    by : (ns : List ℕ) → bits_of set ≡ set_of ns → codes "-" ≡ list_text ns → AreRising 0 ns → bits_of set ≡ 0
    by [] fits e rising = fits
    by (n ∷ ns) fits e rising = absurd (no_dash n (more_text ns) rising.1 e)

-- the members of a set whose text is not that of none, as its text lists them
pub listed_of : (set : SigSet) (word : List ℕ) → FitsSet set → word ≡ set_text set → (word ≡ codes "-" → ⊥) → (n : ℕ) × (ns : List ℕ) × AreListed 0 word n ns × (set_of_bits (set_of (n ∷ ns)) ≡ set)
listed_of set word fits e some = by (members (bits_of set)) fits e (members_rise (bits_of set))
  where
    by : (ns : List ℕ) → bits_of set ≡ set_of ns → word ≡ list_text ns → AreRising 0 ns → (m : ℕ) × (ms : List ℕ) × AreListed 0 word m ms × (set_of_bits (set_of (m ∷ ms)) ≡ set)
    by [] fits e rising = absurd (some e)
    by (n ∷ ns) fits e rising = (n, ns, record { rising = rising; text = e }, ap set_of_bits (sym fits))

-- what is listed is the text of its set
pub listed_text : (set : SigSet) (word : List ℕ) (n : ℕ) (ns : List ℕ) → AreListed 0 word n ns → bits_of set ≡ set_of (n ∷ ns) → (word ≡ set_text set) × FitsSet set
listed_text set word n ns listed has =
    let back : members (bits_of set) ≡ n ∷ ns = ap members has ∙ members_of (n ∷ ns) listed.rising in
    (listed.text ∙ ap list_text (sym back), has ∙ ap set_of (sym back))
