-- Words without a space, and without the marks that begin a slot's or a label's word.
use Rattle.std.proofs.Common.{◌≡◌, ℕ, zero, suc, ◌<◌, ◌^◌, ◌/◌, ◌%◌, Bool, true, false, not, ◌&&◌, List, [], ◌∷◌, ◌++◌, codes, get_or, nat_eq, refl, inl, inr, arith}
use Rattle.std.proofs.lemmas.Bool.{both_ways}
use Rattle.std.proofs.lemmas.Bool.Decides.{eqb_tells}
use Rattle.std.proofs.lemmas.Fmt.{decimal_is_IsNumeral}
use Rattle.std.specs.Char.{digit_value}
use Rattle.std.specs.Fmt.{decimal, signed_decimal}
use Rattle.std.specs.Int.{w64}
use Rattle.std.specs.Prelude.{ℤ, pos, negsuc, FitsSigned}
use Rattle.hex.specs.Hex.{encode_lower, encode_with, lower_digits}
use Rattle.tx_base.specs.Signals.{bits_of}
use Rattle.tx_base.specs.declared.signals.SigSet.{SigSet}
use Rattle.tx_lines.specs.ListedSets.{AreRising}
use Rattle.tx_lines.specs.Lists.{list_text, more_text}
use Rattle.tx_lines.specs.Sets.{members, set_text}
use Rattle.tx_lines.proofs.FirstWord.{free_digits, IsFree}
use Rattle.tx_lines.specs.SetFacts.{members_rise}
use Rattle.tx_lines.specs.NumberFacts.{mag_small}

-- it has neither a space, nor a dollar, nor an at sign
pub record IsPlain (word : List ℕ) : Type 0 where
  pub space : IsFree 32 word
  pub dollar : IsFree 36 word
  pub at_sign : IsFree 64 word

unfoldable pub is_free : ℕ → List ℕ → Bool
is_free mark [] = true
is_free mark (byte ∷ bytes) = not (nat_eq byte mark) && is_free mark bytes

unfoldable pub is_plain : List ℕ → Bool
is_plain word = is_free 32 word && (is_free 36 word && is_free 64 word)

pub and_parts : (a b : Bool) → (a && b) ≡ true → (a ≡ true) × (b ≡ true)
and_parts true b h = (refl, h)
and_parts false b h = absurd (both_ways false refl h)

free : (mark : ℕ) (word : List ℕ) → is_free mark word ≡ true → IsFree mark word
unfolding is_free IsFree
free mark [] holds = tt
free mark (byte ∷ bytes) holds =
    let parts = and_parts (not (nat_eq byte mark)) (is_free mark bytes) holds in
    elim (eqb_tells byte mark) [
      | inl h ↦ let bad : false ≡ true = rw h.0 at parts.0 in absurd (both_ways false refl bad)
      | inr h ↦ (h.1, free mark bytes parts.1)
    ]

-- a word that is written out
pub plain : (word : List ℕ) → is_plain word ≡ true → IsPlain word
unfolding is_plain
plain word holds =
    let first = and_parts (is_free 32 word) (is_free 36 word && is_free 64 word) holds in
    let others = and_parts (is_free 36 word) (is_free 64 word) first.1 in
    record { space = free 32 word first.0; dollar = free 36 word others.0; at_sign = free 64 word others.1 }

free_decimal : (mark : ℕ) → (digit_value mark < 10 → ⊥) → (n : ℕ) → n < 2 ^ 64 → IsFree mark (decimal n)
free_decimal mark other n small = free_digits mark other (decimal n) (decimal_is_IsNumeral n (omega arith)).0.1

pub plain_decimal : (n : ℕ) → n < 2 ^ 64 → IsPlain (decimal n)
plain_decimal n small = record {
  space = free_decimal 32 (λ h. omega arith) n small;
  dollar = free_decimal 36 (λ h. omega arith) n small;
  at_sign = free_decimal 64 (λ h. omega arith) n small;
}

free_after : (mark byte : ℕ) (bytes : List ℕ) → (byte ≡ mark → ⊥) → IsFree mark bytes → IsFree mark (byte ∷ bytes)
unfolding IsFree
free_after mark byte bytes other rest = (other, rest)

-- one byte more at the front
plain_after : (byte : ℕ) (bytes : List ℕ) → (byte ≡ 32 → ⊥) → (byte ≡ 36 → ⊥) → (byte ≡ 64 → ⊥) → IsPlain bytes → IsPlain (byte ∷ bytes)
plain_after byte bytes space dollar at_sign rest = record {
  space = free_after 32 byte bytes space rest.space;
  dollar = free_after 36 byte bytes dollar rest.dollar;
  at_sign = free_after 64 byte bytes at_sign rest.at_sign;
}

pub plain_signed : (z : ℤ) → FitsSigned w64 z → IsPlain (signed_decimal z)
plain_signed (pos n) fits = plain_decimal n (omega (arith, mag_small (pos n) fits))
plain_signed (negsuc n) fits =
    plain_after 45 (decimal (suc n)) (λ e. omega (arith, e)) (λ e. omega (arith, e)) (λ e. omega (arith, e)) (plain_decimal (suc n) (omega (arith, mag_small (negsuc n) fits)))

free_append : (mark : ℕ) (word rest : List ℕ) → IsFree mark word → IsFree mark rest → IsFree mark (word ++ rest)
unfolding IsFree
free_append mark [] rest first second = second
free_append mark (byte ∷ word) rest first second = (first.0, free_append mark word rest first.1 second)

plain_append : (word rest : List ℕ) → IsPlain word → IsPlain rest → IsPlain (word ++ rest)
plain_append word rest first second = record {
  space = free_append 32 word rest first.space second.space;
  dollar = free_append 36 word rest first.dollar second.dollar;
  at_sign = free_append 64 word rest first.at_sign second.at_sign;
}

free_at : (mark : ℕ) (bytes : List ℕ) (at : ℕ) → IsFree mark bytes → (0 ≡ mark → ⊥) → get_or bytes at 0 ≡ mark → ⊥
unfolding IsFree
free_at mark [] at none other here = other here
free_at mark (byte ∷ bytes) zero none other here = none.0 here
free_at mark (byte ∷ bytes) (suc at) none other here = free_at mark bytes at none.1 other here

free_hex : (mark : ℕ) → IsFree mark lower_digits → (0 ≡ mark → ⊥) → (bytes : List ℕ) → IsFree mark (encode_lower bytes)
unfolding IsFree encode_with
free_hex mark none other [] = tt
free_hex mark none other (byte ∷ bytes) =
    (free_at mark lower_digits (byte / 16) none other, (free_at mark lower_digits (byte % 16) none other, free_hex mark none other bytes))

pub plain_hex : (bytes : List ℕ) → IsPlain (encode_lower bytes)
unfolding is_plain is_free
plain_hex bytes =
    let digits = plain lower_digits refl in
    record {
      space = free_hex 32 digits.space (λ e. omega (arith, e)) bytes;
      dollar = free_hex 36 digits.dollar (λ e. omega (arith, e)) bytes;
      at_sign = free_hex 64 digits.at_sign (λ e. omega (arith, e)) bytes;
    }

plain_more : (above : ℕ) (signos : List ℕ) → AreRising above signos → IsPlain (more_text signos)
unfolding is_plain is_free
plain_more above [] rising = plain [] refl
plain_more above (signo ∷ signos) rising =
    let small : signo < 2 ^ 8 = rising.1 in
    plain_after 44 (decimal signo ++ more_text signos) (λ e. omega (arith, e)) (λ e. omega (arith, e)) (λ e. omega (arith, e))
    (plain_append (decimal signo) (more_text signos) (plain_decimal signo (omega arith)) (plain_more signo signos rising.3))

plain_list : (signos : List ℕ) → AreRising 0 signos → IsPlain (list_text signos)
unfolding is_plain is_free
plain_list [] rising = plain (codes "-") refl
plain_list (signo ∷ signos) rising =
    let small : signo < 2 ^ 8 = rising.1 in
    plain_append (decimal signo) (more_text signos) (plain_decimal signo (omega arith)) (plain_more signo signos rising.3)

pub plain_set : (set : SigSet) → IsPlain (set_text set)
plain_set set = plain_list (members (bits_of set)) (members_rise (bits_of set))
