-- Lines that carry their numbers, where not each number has one.
use Rattle.std.proofs.Common.{◌≡◌, ℕ, zero, suc, ◌<◌, ◌≤◌, ◌^◌, false, List, [], ◌∷◌, ◌++◌, Option, Some, None, drop, sym, ap, ◌∙◌, arith, inl, inr, append_assoc, subst}
use Rattle.std.proofs.lemmas.Bool.{cases_lt}
use Rattle.std.proofs.lemmas.List.{append_cancel_left}
use Rattle.std.specs.Fmt.{decimal}
use Rattle.tx_state_text.specs.Each.{upto}
use Rattle.tx_reads_back.proofs.Fronts.{in_number, number_unique}

-- a line after its number, with what follows, determines what is there
abbrev pub Determines : Option (List ℕ) → Option (List ℕ) → List ℕ → List ℕ → Type 0 → Type 0
Determines None None R S Same = Same
Determines None (Some u) R S Same = Unit {0}
Determines (Some t) None R S Same = Unit {0}
Determines (Some t) (Some u) R S Same = t ++ R ≡ u ++ S → Same × (R ≡ S)

-- a line: the word, the number, the mark, and the rest; or none
abbrev pub numbered : List ℕ → ℕ → ℕ → Option (List ℕ) → List ℕ
numbered word mark number None = []
numbered word mark number (Some rest) = word ++ (decimal number ++ mark ∷ rest)

module _ (word : List ℕ) (mark : ℕ) (marks : in_number mark ≡ false) (number : ℕ → ℕ) (apart : (i j : ℕ) → number i ≡ number j → i ≡ j)
    (Follows : List ℕ → Type 0) (follows : (t : List ℕ) → Follows (word ++ t)) (limit : ℕ) (small : (i : ℕ) → i < limit → number i < 2 ^ 64) where
  -- a text that begins with no line of a lower number
  pub NotYet : ℕ → List ℕ → Type 0
  NotYet n R = (i : ℕ) (t : List ℕ) → i < n → R ≡ numbered word mark (number i) (Some t) → ⊥

  with_rest : (i : ℕ) (t R : List ℕ) → numbered word mark (number i) (Some t) ++ R ≡ numbered word mark (number i) (Some (t ++ R))
  with_rest i t R = append_assoc word (decimal (number i) ++ mark ∷ t) R ∙ ap (λ (bytes : List ℕ). word ++ bytes) (append_assoc (decimal (number i)) (mark ∷ t) R)

  same_number : (i j : ℕ) (t u : List ℕ) → i < limit → j < limit → numbered word mark (number i) (Some t) ≡ numbered word mark (number j) (Some u) → (i ≡ j) × (t ≡ u)
  same_number i j t u i_in j_in e =
      let cut : decimal (number i) ++ mark ∷ t ≡ decimal (number j) ++ mark ∷ u = append_cancel_left word (decimal (number i) ++ mark ∷ t) (decimal (number j) ++ mark ∷ u) e in
      let unique = number_unique (number i) (number j) (mark ∷ t) (mark ∷ u) (small i i_in) (small j j_in) marks marks cut in
      (apart i j unique.0, ap (drop 1) unique.1)

  next_not_yet : (n : ℕ) (x : Option (List ℕ)) (R : List ℕ) → n < limit → NotYet (suc n) R → NotYet n (numbered word mark (number n) x ++ R)
  unfolding NotYet
  next_not_yet n x R inside not_yet = grind (arith, same_number, with_rest)

  next_follows : (n : ℕ) (x : Option (List ℕ)) (R : List ℕ) → Follows R → Follows (numbered word mark (number n) x ++ R)
  next_follows n x R so = grind (arith, with_rest)

  one : (n : ℕ) (x y : Option (List ℕ)) (R S : List ℕ) (Same : Type 0) → n < limit → NotYet (suc n) R → NotYet (suc n) S → Determines x y R S Same →
      numbered word mark (number n) x ++ R ≡ numbered word mark (number n) y ++ S → Same × (R ≡ S)
  unfolding NotYet
  one n x y R S Same inside r s determines e = grind (arith, same_number, with_rest)

  module _ (xs ys : ℕ → Option (List ℕ)) (Same : ℕ → Type 0)
      (determines : (i : ℕ) (R S : List ℕ) → i < limit → Follows R → Follows S → Determines (xs i) (ys i) R S (Same i)) where
    up_to : (n : ℕ) (R S : List ℕ) → n ≤ limit → Follows R → Follows S → NotYet n R → NotYet n S →
        upto (λ i. numbered word mark (number i) (xs i)) n ++ R ≡ upto (λ i. numbered word mark (number i) (ys i)) n ++ S → ((i : ℕ) → i < n → Same i) × (R ≡ S)
    unfolding upto
    up_to zero R S inside fr fs r s e = ((λ i below. absurd (omega arith)), e)
    up_to (suc n) R S inside fr fs r s e =
        let x : List ℕ = numbered word mark (number n) (xs n) in
        let y : List ℕ = numbered word mark (number n) (ys n) in
        let before : (t : ℕ → Option (List ℕ)) → List ℕ = λ t. upto (λ i. numbered word mark (number i) (t i)) n in
        let parts : before xs ++ (x ++ R) ≡ before ys ++ (y ++ S) = sym (append_assoc (before xs) x R) ∙ e ∙ append_assoc (before ys) y S in
        let so = up_to n (x ++ R) (y ++ S) (omega arith) (next_follows n (xs n) R fr) (next_follows n (ys n) S fs)
        (next_not_yet n (xs n) R (omega arith) r) (next_not_yet n (ys n) S (omega arith) s) parts in
        let last = one n (xs n) (ys n) R S (Same n) (omega arith) r s (determines n R S (omega arith) fr fs) so.1 in (
          (λ i below. elim (cases_lt i n) [
            | inl lower ↦ so.0 i lower
            | inr upper ↦ let here : n ≡ i = omega arith in subst Same here last.0
          ]),
          last.1,
        )

    -- of two texts with lines for numbers below a limit, each line determines what is there, and so does what follows
    pub numbered_unique : (f g : ℕ → List ℕ) (R S : List ℕ) → ((i : ℕ) → f i ≡ numbered word mark (number i) (xs i)) → ((i : ℕ) → g i ≡ numbered word mark (number i) (ys i)) →
        Follows R → Follows S → ((t : List ℕ) → R ≡ word ++ t → ⊥) → ((t : List ℕ) → S ≡ word ++ t → ⊥) →
        upto f limit ++ R ≡ upto g limit ++ S → ((i : ℕ) → i < limit → Same i) × (R ≡ S)
    unfolding NotYet
    numbered_unique f g R S fs gs fr fol r s e =
        let left : upto f limit ≡ upto (λ i. numbered word mark (number i) (xs i)) limit = λ j. upto (λ i. fs i j) limit in
        let right : upto g limit ≡ upto (λ i. numbered word mark (number i) (ys i)) limit = λ j. upto (λ i. gs i j) limit in
        up_to limit R S (omega arith) fr fol (λ i t below e. r (decimal (number i) ++ mark ∷ t) e) (λ i t below e. s (decimal (number i) ++ mark ∷ t) e)
        (ap (λ (t : List ℕ). t ++ R) (sym left) ∙ e ∙ ap (λ (t : List ℕ). t ++ S) right)
