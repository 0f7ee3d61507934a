-- How two states differ, by pieces that cover their changes.
use Rattle.std.proofs.Common.{◌≡◌, ◌≤◌, ◌<◌, ◌+◌, ◌||◌, ◌⊎◌, arith, inl, inr, ℕ, zero, suc, min, Bool, true, false, List, [], ◌∷◌, ◌++◌, drop, length, map, if◌then◌else◌, refl, sym, ap, ap₂, ◌∙◌, append_assoc}
use Rattle.std.proofs.lemmas.List.{append-nil}
use Rattle.std.proofs.lemmas.Slice.Eq.{bytes_eq-Decides}
use Rattle.std.proofs.Math.ListN.{drop_of_length-le}
use Rattle.std.specs.List.{filter}
use Rattle.std.specs.Prelude.{bytes_eq, codes}
use Rattle.std.specs.Str.Lines.{lines}
use Rattle.tx_journal.specs.Pieces.{piece_text}
use Rattle.tx_journal.specs.Reach.{CoverChanges}
use Rattle.tx_journal.specs.Rows.{lines_of, state_pieces}
use Rattle.tx_journal.specs.declared.pieces.Piece.{Piece}
use Rattle.tx_model.specs.View.{View}
use Rattle.tx_shell.specs.Differences.{all_differing, differing, has_line, left_over, less_line, marked, piece_differing, views_differing}
use Rattle.tx_state_text.specs.Each.{each_text}

same_line : (line : List ℕ) → bytes_eq line line ≡ true
same_line line = (bytes_eq-Decides line line).1 refl

-- a text does not differ from itself
none_left : (found : List (List ℕ)) → left_over found found ≡ []
unfolding left_over
none_left [] = refl
none_left (line ∷ more) =
    ap₂ (λ (has : Bool) (others : List (List ℕ)). if has then left_over more others else line ∷ left_over more (line ∷ more))
    (ap (λ (b : Bool). b || has_line line more) (same_line line)) (ap (λ (b : Bool). if b then more else line ∷ less_line line more) (same_line line))
    ∙ none_left more

none_differs : (text : List ℕ) → differing text text ≡ []
none_differs text = ap (λ (left : List (List ℕ)). marked (codes "- ") left ++ marked (codes "+ ") left) (none_left (lines text))

-- pieces of which nothing is said can be left out
chosen_say : (chosen : Piece → Bool) (say : Piece → List ℕ) → ((piece : Piece) → chosen piece ≡ false → say piece ≡ []) → (found : List Piece) → each_text say (filter chosen found) ≡ each_text say found
chosen_say chosen say silent [] = refl
chosen_say chosen say silent (piece ∷ found) = by (chosen_say chosen say silent found) (chosen piece) refl
  where
    by : each_text say (filter chosen found) ≡ each_text say found → (b : Bool) → chosen piece ≡ b → each_text say (if b then piece ∷ filter chosen found else filter chosen found) ≡ say piece ++ each_text say found
    by rest true is = ap (λ (t : List ℕ). say piece ++ t) rest
    by rest false is = rest ∙ ap (λ (t : List ℕ). t ++ each_text say found) (sym (silent piece is))

pub pairs_say : (V W : View) (found : List Piece) → all_differing (lines_of found V) (lines_of found W) ≡ each_text (piece_differing V W) found
pairs_say V W [] = refl
pairs_say V W (piece ∷ found) = ap (λ (t : List ℕ). piece_differing V W piece ++ t) (pairs_say V W found)

covered_differ : (V W : View) (found : List Piece) → CoverChanges V W found → all_differing (lines_of found V) (lines_of found W) ≡ views_differing V W
covered_differ V W found cover =
    pairs_say V W found
    ∙ ap (each_text (piece_differing V W)) cover.are
    ∙ chosen_say cover.chosen (piece_differing V W) (λ piece same. ap (λ (t : List ℕ). differing (piece_text piece V) t) (sym (cover.others piece same)) ∙ none_differs (piece_text piece V)) (state_pieces V.table.width)

-- where their lines are put down so, they say how the states differ
pub views_said : (V W now : View) (found one two : List Piece) (before after : List (List ℕ)) (none report : List ℕ) → CoverChanges V W found → one ≡ found → two ≡ found → now ≡ V → before ≡ lines_of one now → after ≡ lines_of two W →
    none ≡ [] → report ≡ none ++ all_differing before after → report ≡ views_differing V W
views_said V W now found one two before after none report cover first second seen was is blank put =
    put
    ∙ (λ i. blank i ++ all_differing (was i) (is i))
    ∙ (λ i. all_differing (lines_of (first i) (seen i)) (lines_of (second i) W))
    ∙ covered_differ V W found cover

up_to : (n limit : ℕ) → (n ≤ limit) ⊎ (limit < n)
up_to zero limit = inl (omega arith)
up_to (suc n) zero = inr (omega arith)
up_to (suc n) (suc limit) = elim (up_to n limit) [ inl h ↦ inl (omega (arith, h)) | inr h ↦ inr (omega (arith, h)) ]

pub one_past : (one other end i : ℕ) → end ≡ min one other → end ≤ i → (one ≤ i) ⊎ (other ≤ i)
one_past one other end i is past = elim (up_to one i) [ inl h ↦ inl h | inr h ↦ inr (omega (arith, is, past, h)) ]

module _ {A : Type 0} (bytes : A → List ℕ) where
  -- how the first i texts differ is after what there was before
  abbrev pub DifferSoFar : List A → List A → List ℕ → List ℕ → ℕ → Type 0
  DifferSoFar before after old text i = old ++ all_differing (map bytes before) (map bytes after) ≡ text ++ all_differing (map bytes (drop i before)) (map bytes (drop i after))

  pub pair_more : (before after : List A) (old text more : List ℕ) (i : ℕ) (one other : A) → DifferSoFar before after old text i → drop i before ≡ one ∷ drop (i + 1) before → drop i after ≡ other ∷ drop (i + 1) after →
      more ≡ text ++ differing (bytes one) (bytes other) → DifferSoFar before after old more (i + 1)
  pair_more before after old text more i one other so first second put =
      so
      ∙ (λ j. text ++ all_differing (map bytes (first j)) (map bytes (second j)))
      ∙ sym (append_assoc text (differing (bytes one) (bytes other)) (all_differing (map bytes (drop (i + 1) before)) (map bytes (drop (i + 1) after))))
      ∙ ap (λ (t : List ℕ). t ++ all_differing (map bytes (drop (i + 1) before)) (map bytes (drop (i + 1) after))) (sym put)

  none_after : (texts : List (List ℕ)) → all_differing texts [] ≡ []
  none_after [] = refl
  none_after (text ∷ texts) = refl

  pub pairs_said : (before after : List A) (old text : List ℕ) (i : ℕ) → DifferSoFar before after old text i → (length before ≤ i) ⊎ (length after ≤ i) → text ≡ old ++ all_differing (map bytes before) (map bytes after)
  pairs_said before after old text i so past = sym (so ∙ ap (λ (t : List ℕ). text ++ t) (by past) ∙ append-nil text)
    where
      by : (length before ≤ i) ⊎ (length after ≤ i) → all_differing (map bytes (drop i before)) (map bytes (drop i after)) ≡ []
      by (inl short) = ap (λ (xs : List A). all_differing (map bytes xs) (map bytes (drop i after))) (drop_of_length-le before short)
      by (inr short) = ap (λ (xs : List A). all_differing (map bytes (drop i before)) (map bytes xs)) (drop_of_length-le after short) ∙ none_after (map bytes (drop i before))
