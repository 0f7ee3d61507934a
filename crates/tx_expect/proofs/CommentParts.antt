-- The comment of a line, byte by byte.
use Rattle.std.proofs.Common.{◌≡◌, ◌≢◌, ℕ, Bool, true, false, not, ◌⊎◌, List, ◌∷◌, nat_eq, refl, inl, inr}
use Rattle.std.proofs.lemmas.Bool.Decides.{eqb_tells}
use Rattle.tx_expect.specs.Comments.{comment_from}
use Rattle.tx_translate.specs.Words.{is_blank}
use Rattle.tx_translate.specs.declared.reading.Reading.{Reading}
use Rattle.tx_translate.specs.declared.reading.Reading.TheVariants.{Between, InWord, InString, AfterBackslash}

-- where reading is outside of strings
abbrev pub outside : Bool → Reading
outside true = InWord
outside false = Between

-- and within one
abbrev pub within : Bool → Reading
within true = AfterBackslash
within false = InString

unequal : (a b : ℕ) → a ≢ b → nat_eq a b ≡ false
unequal a b other = elim (eqb_tells a b) [ inl same ↦ absurd (other same.1) | inr differ ↦ differ.0 ]

two_ways : (test : Bool) → (test ≡ true) ⊎ (test ≡ false)
two_ways true = inl refl
two_ways false = inr refl

-- one byte more, which is neither `#` nor `"`
pub plain_byte : (in_word : Bool) (byte : ℕ) (rest : List ℕ) → byte ≢ 35 → byte ≢ 34
    → comment_from (outside in_word) (byte ∷ rest) ≡ comment_from (outside (not (is_blank byte))) rest
plain_byte true byte rest mark quote =
    elim (two_ways (is_blank byte)) [
      | inl blank ↦ rw blank refl
      | inr other ↦ let m = unequal byte 35 mark in rw (other, m) refl
    ]
plain_byte false byte rest mark quote =
    elim (two_ways (is_blank byte)) [
      | inl blank ↦ rw blank refl
      | inr other ↦ let m = unequal byte 35 mark in let q = unequal byte 34 quote in rw (other, m, q) refl
    ]
