-- Lines of one word, each with the number of what it shows.
use Rattle.std.proofs.Common.{◌≡◌, ℕ, ◌<◌, ◌≤◌, ◌^◌, List, ◌∷◌, ◌++◌, Option, Some, None, get_or, length, refl, sym, ap, ◌∙◌, arith, append_assoc, subst}
use Rattle.std.specs.Prelude.{All}
use Rattle.std.specs.Fmt.{decimal}
use Rattle.std.proofs.lemmas.List.{ext_get_or}
use Rattle.tx_state_text.specs.Each.{upto}
use Rattle.tx_reads_back.proofs.Numbered.{numbered, numbered_unique, Determines}
use Rattle.tx_reads_back.proofs.Ranks.{rank}
use Rattle.tx_reads_back.proofs.Upto.{keeps_upto}

-- what there is has a line, whose rest determines it; what is not there has none
pub record AreLines {A B : Type 0} (k : ℕ) (word : List ℕ) (line : ℕ → A → List ℕ) (rest : A → Option (List ℕ)) (seen : A → B) (Good : A → Type 0) : Type 0 where
  pub ranked : (t : List ℕ) → rank (word ++ t) ≡ k
  pub spelled : (number : ℕ) (x : A) → line number x ≡ numbered word 32 number (rest x)
  pub unique : (x y : A) (R S : List ℕ) → Good x → Good y → k ≤ rank R → k ≤ rank S → Determines (rest x) (rest y) R S (seen x ≡ seen y)

-- a text does not begin with a word of a lower rank
pub no_word : (k : ℕ) (word R t : List ℕ) → ((t : List ℕ) → rank (word ++ t) ≡ k) → k < rank R → R ≡ word ++ t → ⊥
no_word k word R t ranked r e = omega (arith, ap rank e, ranked t)

-- a text does not begin with one because there is a line in front
pub numbered_rank : (k : ℕ) (word : List ℕ) → ((t : List ℕ) → rank (word ++ t) ≡ k) → (number : ℕ) (x : Option (List ℕ)) (line R : List ℕ) → line ≡ numbered word 32 number x →
    k ≤ rank R → k ≤ rank (line ++ R)
numbered_rank k word ranked number None line R spelled r = subst (λ (t : List ℕ). k ≤ rank (t ++ R)) (sym spelled) r
numbered_rank k word ranked number (Some t) line R spelled r =
    let at : rank (line ++ R) ≡ k = ap (λ (t : List ℕ). rank (t ++ R)) spelled ∙ ap rank (append_assoc word (decimal number ++ 32 ∷ t) R) ∙ ranked ((decimal number ++ 32 ∷ t) ++ R) in
    omega arith

module _ {A B : Type 0} {k : ℕ} {word : List ℕ} {line : ℕ → A → List ℕ} {rest : A → Option (List ℕ)} {seen : A → B} {Good : A → Type 0}
    (are : AreLines k word line rest seen Good) where
  pub line_rank : (number : ℕ) (x : A) (R : List ℕ) → k ≤ rank R → k ≤ rank (line number x ++ R)
  line_rank number x R = numbered_rank k word are.ranked number (rest x) (line number x) R (are.spelled number x)

  module _ (number : ℕ → ℕ) (apart : (i j : ℕ) → number i ≡ number j → i ≡ j) (limit : ℕ) (small : (i : ℕ) → i < limit → number i < 2 ^ 64) where
    pub lines_unique : (xs ys : ℕ → A) (R S : List ℕ) → ((i : ℕ) → i < limit → Good (xs i)) → ((i : ℕ) → i < limit → Good (ys i)) → k < rank R → k < rank S →
        upto (λ i. line (number i) (xs i)) limit ++ R ≡ upto (λ i. line (number i) (ys i)) limit ++ S → ((i : ℕ) → i < limit → seen (xs i) ≡ seen (ys i)) × (R ≡ S)
    lines_unique xs ys R S x_good y_good r s e =
        numbered_unique word 32 refl number apart (λ t. k ≤ rank t) (λ t. omega (arith, are.ranked t)) limit small (λ i. rest (xs i)) (λ i. rest (ys i)) (λ i. seen (xs i) ≡ seen (ys i))
        (λ i R S inside r s. are.unique (xs i) (ys i) R S (x_good i inside) (y_good i inside) r s)
        (λ i. line (number i) (xs i)) (λ i. line (number i) (ys i)) R S (λ i. are.spelled (number i) (xs i)) (λ i. are.spelled (number i) (ys i)) (omega arith) (omega arith)
        (λ t. no_word k word R t are.ranked r) (λ t. no_word k word S t are.ranked s) e

    pub lines_rank : (xs : ℕ → A) (R : List ℕ) → k ≤ rank R → k ≤ rank (upto (λ i. line (number i) (xs i)) limit ++ R)
    lines_rank xs R r = keeps_upto (λ t. k ≤ rank t) (λ i. line (number i) (xs i)) (λ i t so. line_rank (number i) (xs i) t so) limit R r

-- of the items of a list, by their places in it
module _ {A : Type 0} {k : ℕ} {word : List ℕ} {line : ℕ → A → List ℕ} {rest : A → Option (List ℕ)} {Good : A → Type 0} (are : AreLines k word line rest (λ x. x) Good)
    (limit : ℕ) (small : limit < 2 ^ 16) (d : A) where
  pub list_unique : (xs ys : List A) (R S : List ℕ) → length xs ≡ limit → length ys ≡ limit → All Good xs → All Good ys → k < rank R → k < rank S →
      upto (λ i. line i (get_or xs i d)) limit ++ R ≡ upto (λ i. line i (get_or ys i d)) limit ++ S → (xs ≡ ys) × (R ≡ S)
  list_unique xs ys R S x_count y_count x_good y_good r s e =
      let unique = lines_unique are (λ i. i) (λ i j same. same) limit (λ i inside. omega arith) (λ i. get_or xs i d) (λ i. get_or ys i d) R S
      (λ i inside. x_good i d (omega arith)) (λ i inside. y_good i d (omega arith)) r s e in
      (ext_get_or d xs ys (x_count ∙ sym y_count) (λ i below. unique.0 i (omega arith)), unique.1)

  pub list_rank : (xs : List A) (R : List ℕ) → k ≤ rank R → k ≤ rank (upto (λ i. line i (get_or xs i d)) limit ++ R)
  list_rank xs R r = lines_rank are (λ i. i) (λ i j same. same) limit (λ i inside. omega arith) (λ i. get_or xs i d) R r
