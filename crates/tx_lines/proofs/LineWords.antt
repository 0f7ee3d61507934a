-- The words of a line, one after another.
use Rattle.std.proofs.Common.{◌≡◌, ℕ, suc, ◌+◌, ◌<◌, ◌≤◌, ◌==◌, true, false, nat_le, List, [], ◌∷◌, ◌++◌, Option, Some, None, length, length-append, refl, ap, sym, ◌∙◌, inl, inr, arith}
use Rattle.std.proofs.lemmas.Bool.{le-leb}
use Rattle.std.proofs.lemmas.Bool.Decides.{eqb_tells, nat_tests}
use Rattle.tx_lines.proofs.FirstWord.{parts_front, same_parts, split_parts}
use Rattle.tx_lines.specs.Instructions.{plain_as, plain_word, spelling_of, with_byte, words_of}
use Rattle.tx_lines.specs.declared.instructions.Spelling.{Spelling}
use Rattle.tx_lines.specs.declared.instructions.Spelling.TheVariants.{Plain, Slot, Label}
use Rattle.tx_lines.specs.Words.{parts_at, with_front}

-- a text with a space has the word before it, and the words after it
pub words_split : (text a b : List ℕ) → parts_at 32 text ≡ Some (a, b) → words_of text ≡ (a, (words_of b).0 ∷ (words_of b).1)
words_split [] a b e = absurd (cc)
words_split (byte ∷ bytes) a b e =
    elim (eqb_tells byte 32) [
      | inl h ↦ let here : Some ([], bytes) ≡ Some (a, b) = rw h.0 at e in
          let same = same_parts ([], bytes) (a, b) here in
          rw h.0 (ap (λ (w : List ℕ). ([], (words_of w).0 ∷ (words_of w).1)) same.1 ∙ ap (λ (w : List ℕ). (w, (words_of b).0 ∷ (words_of b).1)) same.0)
      | inr h ↦ let on : with_front byte (parts_at 32 bytes) ≡ Some (a, b) = rw h.0 at e in
          let parts = parts_front byte (parts_at 32 bytes) a b on in
          rw h.0 (ap (with_byte byte) (words_split bytes parts.0 b parts.2) ∙ ap (λ (w : List ℕ). (w, (words_of b).0 ∷ (words_of b).1)) (sym parts.1))
    ]

no_front : (byte : ℕ) (found : Option (List ℕ × List ℕ)) → with_front byte found ≡ None → found ≡ None
no_front byte None e = refl
no_front byte (Some parts) e = absurd (cc)

-- a text without a space is one word
pub words_whole : (text : List ℕ) → parts_at 32 text ≡ None → words_of text ≡ (text, [])
words_whole [] e = refl
words_whole (byte ∷ bytes) e =
    elim (eqb_tells byte 32) [
      | inl h ↦ let here : Some ([], bytes) ≡ None = rw h.0 at e in absurd (cc)
      | inr h ↦ let on : with_front byte (parts_at 32 bytes) ≡ None = rw h.0 at e in
          rw h.0 (ap (with_byte byte) (words_whole bytes (no_front byte (parts_at 32 bytes) on)))
    ]

pub split_length : (text a b : List ℕ) → parts_at 32 text ≡ Some (a, b) → length text ≡ length a + 1 + length b
split_length text a b e = omega (arith, ap length (split_parts 32 text a b e), length-append a (32 ∷ b))

plain_as_short : (spelling : Spelling) (byte : ℕ) (bytes : List ℕ) → length (plain_as spelling (byte ∷ bytes)) ≤ length (byte ∷ bytes)
plain_as_short Plain byte bytes = omega arith
plain_as_short (Slot slot) byte bytes = omega arith
plain_as_short (Label name) byte bytes = omega arith

-- the plain form of a word is no longer
pub plain_short : (word : List ℕ) → length (plain_word word) ≤ length word
plain_short [] = omega arith
plain_short (byte ∷ bytes) = plain_as_short (spelling_of (byte ∷ bytes)) byte bytes

-- one word more
pub count_more : {A : Type 0} (old : List A) (x : A) (new : List A) (others : ℕ) → new ≡ old ++ x ∷ [] → nat_le (length new + 1 + others) 4 ≡ nat_le (length old + 1 + suc others) 4
count_more old x new others pushed =
    let size : length new + 1 + others ≡ length old + 1 + suc others = omega (arith, ap length pushed, length-append old (x ∷ [])) in
    ap (λ (n : ℕ). nat_le n 4) size

pub not_full : (n : ℕ) → n ≤ 4 → false ≡ (n == 4) → n < 4
not_full n few more = grind (arith, nat_tests)

pub count_last : (n : ℕ) → n ≤ 4 → false ≡ (n == 4) → true ≡ nat_le (n + 1 + 0) 4
count_last n few more = sym (le-leb (n + 1 + 0) 4 (grind (arith, nat_tests)))
