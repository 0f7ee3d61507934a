-- What is said of a word, byte by byte.
use Rattle.std.proofs.Common.{◌≡◌, ◌≢◌, ◌∙◌, ◌<◌, ◌≤◌, ◌+◌, ℕ, List, [], ◌∷◌, ◌++◌, length, take, drop, map, ap, subst, refl, codes, Bool, true, false, ◌||◌, nat_eq, nat_lt, if◌then◌else◌, sym, add-one, append_assoc, arith, slice_index_or, inl, inr}
use Rattle.std.proofs.Math.Seq.{take-suc}
use Rattle.std.proofs.lemmas.Bool.Decides.{eqb_tells}
use Rattle.std.proofs.lemmas.List.{map-append, take-append-drop}
use Rattle.std.proofs.lemmas.Bool.{both_ways, ne_eqb}
use Rattle.std.specs.Char.{is_ascii_graphic}
use Rattle.tx_check.proofs.InLine.{in_line_more}
use Rattle.tx_check.specs.Speaking.{said_word, shown, IsByteAt}
use Rattle.tx_check.specs.Diagnostics.{is_no_end, IsInLine}
use Rattle.tx_translate.specs.OwnLines.{without_return}

-- one byte more
pub more_shown : (bytes : List ℕ) (at : ℕ) (old text : List ℕ) (byte : ℕ) (new : List ℕ) → at < length bytes → text ≡ old ++ map shown (take at bytes) → byte ≡ shown (slice_index_or bytes at 0) → new ≡ text ++ byte ∷ []
    → new ≡ old ++ map shown (take (at + 1) bytes)
more_shown bytes at old text byte new below is same pushed =
    let whole : map shown (take (at + 1) bytes) ≡ map shown (take at bytes) ++ (byte ∷ []) =
    rw add-one (ap (map shown) (take-suc bytes at 0 below) ∙ map-append shown (take at bytes) (slice_index_or bytes at 0 ∷ []) ∙ ap (λ (b : ℕ). map shown (take at bytes) ++ (b ∷ [])) (sym same)) in
    pushed ∙ ap (λ (t : List ℕ). t ++ byte ∷ []) is ∙ append_assoc old (map shown (take at bytes)) (byte ∷ []) ∙ ap (λ (t : List ℕ). old ++ t) (sym whole)

by_test : (test : Bool) (byte : ℕ) → (test ≡ true → is_no_end byte ≡ true) → is_no_end (if test then byte else 63) ≡ true
by_test true byte so = so refl
by_test false byte so = refl

no_end : (byte : ℕ) → (nat_eq byte 32 || is_ascii_graphic byte) ≡ true → is_no_end byte ≡ true
no_end byte is = rw (ne_eqb byte 10 (λ e. both_ways false refl (subst (λ (b : ℕ). (nat_eq b 32 || is_ascii_graphic b) ≡ true) e is))) refl

pub shown_in_line : (bytes : List ℕ) → IsInLine (map shown bytes)
shown_in_line [] = refl
shown_in_line (byte ∷ bytes) = rw (by_test (nat_eq byte 32 || is_ascii_graphic byte) byte (no_end byte), shown_in_line bytes) refl

by_length : (test : Bool) (long short : List ℕ) → IsInLine long → IsInLine short → IsInLine (if test then long else short)
by_length true long short first second = first
by_length false long short first second = second

-- what is said of a word is in one line
pub word_in_line : (word : List ℕ) → IsInLine (said_word word)
word_in_line word = by_length (nat_lt 48 (length word)) (map shown (take 48 word) ++ codes "..") (map shown word)
    (in_line_more (map shown (take 48 word)) (codes "..") _ (shown_in_line (take 48 word)) refl refl) (shown_in_line word)

-- a line is its front and what follows
pub parts_of : (line front left : List ℕ) (count : ℕ) → front ≡ take count line → left ≡ drop count line → line ≡ front ++ left
parts_of line front left count is rest = rw (is, rest) (sym (take-append-drop count line))

-- a line that has a byte begins with it
pub first_byte : (line : List ℕ) → 1 ≤ length line → IsByteAt line 1 (slice_index_or line 0 0)
first_byte [] some = absurd (omega (arith, some))
first_byte (byte ∷ bytes) some = record { front = []; rest = bytes; parts = refl; at = refl }

-- a line that ends with a return, and one that does not
pub before_return : (front : List ℕ) → without_return (front ++ 13 ∷ []) ≡ front
before_return [] = refl
before_return (byte ∷ []) = refl
before_return (byte ∷ next ∷ bytes) = ap (λ (t : List ℕ). byte ∷ t) (before_return (next ∷ bytes))

pub no_return : (line : List ℕ) → ((front : List ℕ) → line ≢ front ++ 13 ∷ []) → without_return line ≡ line
no_return [] none = refl
no_return (byte ∷ []) none =
    elim (eqb_tells byte 13) [
      | inl h ↦ absurd (none [] (ap (λ (b : ℕ). b ∷ []) h.1))
      | inr h ↦ rw h.0 refl
    ]
no_return (byte ∷ next ∷ bytes) none =
    ap (λ (t : List ℕ). byte ∷ t) (no_return (next ∷ bytes) (λ front e. none (byte ∷ front) (ap (λ (t : List ℕ). byte ∷ t) e)))
