-- Items one after another, and lines that may be left out.
use Rattle.std.proofs.Common.{◌≡◌, ℕ, suc, ◌<◌, ◌≤◌, Bool, true, false, if◌then◌else◌, List, [], ◌∷◌, ◌++◌, map, refl, sym, ap, ◌∙◌, arith, append_assoc, subst}
use Rattle.std.specs.Prelude.{All}
use Rattle.std.proofs.lemmas.List.{map-id}
use Rattle.tx_state_text.specs.Each.{each_text}
use Rattle.tx_reads_back.proofs.Ranks.{rank}

-- items of which each says what it is, where another or the end follows
pub record AreItems {A B : Type 0} (text : A → List ℕ) (seen : A → B) (Good : A → Type 0) (Follows Ends : List ℕ → Type 0) : Type 0 where
  pub unique : (x y : A) (R S : List ℕ) → Good x → Good y → Follows R → Follows S → text x ++ R ≡ text y ++ S → (seen x ≡ seen y) × (R ≡ S)
  pub follows : (x : A) (R : List ℕ) → Follows (text x ++ R)
  pub ends : (R : List ℕ) → Ends R → Follows R
  pub no_end : (x : A) (R S : List ℕ) → Ends S → text x ++ R ≡ S → ⊥

module _ {A B : Type 0} {text : A → List ℕ} {seen : A → B} {Good : A → Type 0} {Follows Ends : List ℕ → Type 0} (are : AreItems text seen Good Follows Ends) where
  pub items_follow : (xs : List A) (R : List ℕ) → Ends R → Follows (each_text text xs ++ R)
  items_follow [] R end = are.ends R end
  items_follow (x ∷ xs) R end = subst Follows (sym (append_assoc (text x) (each_text text xs) R)) (are.follows x (each_text text xs ++ R))

  pub items_unique : (xs ys : List A) (R S : List ℕ) → All Good xs → All Good ys → Ends R → Ends S → each_text text xs ++ R ≡ each_text text ys ++ S → (map seen xs ≡ map seen ys) × (R ≡ S)
  items_unique [] [] R S x_good y_good at_R at_S e = (refl, e)
  items_unique [] (y ∷ ys) R S x_good y_good at_R at_S e = absurd (are.no_end y (each_text text ys ++ S) R at_R (sym (append_assoc (text y) (each_text text ys) S) ∙ sym e))
  items_unique (x ∷ xs) [] R S x_good y_good at_R at_S e = absurd (are.no_end x (each_text text xs ++ R) S at_S (sym (append_assoc (text x) (each_text text xs) R) ∙ e))
  items_unique (x ∷ xs) (y ∷ ys) R S x_good y_good at_R at_S e =
      let first = are.unique x y (each_text text xs ++ R) (each_text text ys ++ S) (x_good 0 x (omega arith)) (y_good 0 y (omega arith)) (items_follow xs R at_R) (items_follow ys S at_S)
      (sym (append_assoc (text x) (each_text text xs) R) ∙ e ∙ append_assoc (text y) (each_text text ys) S) in
      let rest = items_unique xs ys R S (λ i d below. x_good (suc i) d (omega arith)) (λ i d below. y_good (suc i) d (omega arith)) at_R at_S first.1 in
      ((λ j. first.0 j ∷ rest.0 j), rest.1)

-- the same where an item says all of it
pub all_unique : {A : Type 0} {text : A → List ℕ} {Good : A → Type 0} {Follows Ends : List ℕ → Type 0} → AreItems text (λ x. x) Good Follows Ends →
    (xs ys : List A) (R S : List ℕ) → All Good xs → All Good ys → Ends R → Ends S → each_text text xs ++ R ≡ each_text text ys ++ S → (xs ≡ ys) × (R ≡ S)
all_unique are xs ys R S x_good y_good at_R at_S e =
    let unique = items_unique are xs ys R S x_good y_good at_R at_S e in
    (sym (map-id xs) ∙ unique.0 ∙ map-id ys, unique.1)

-- a line that is left out where there is nothing to say
pub optional_unique : (k : ℕ) (Same : Type 0) (c d : Bool) (a b R S : List ℕ) → ((t : List ℕ) → rank (a ++ t) ≡ k) → ((t : List ℕ) → rank (b ++ t) ≡ k) → k < rank R → k < rank S →
    (c ≡ true → d ≡ true → Same) → (c ≡ false → d ≡ false → a ++ R ≡ b ++ S → Same × (R ≡ S)) →
    (if c then [] else a) ++ R ≡ (if d then [] else b) ++ S → Same × (R ≡ S)
optional_unique k Same true true a b R S at_a at_b r s none some e = (none refl refl, e)
optional_unique k Same true false a b R S at_a at_b r s none some e = absurd (omega (arith, ap rank e, at_b S))
optional_unique k Same false true a b R S at_a at_b r s none some e = absurd (omega (arith, ap rank e, at_a R))
optional_unique k Same false false a b R S at_a at_b r s none some e = some refl refl e

pub optional_rank : (k : ℕ) (c : Bool) (a R : List ℕ) → ((t : List ℕ) → rank (a ++ t) ≡ k) → k ≤ rank R → k ≤ rank ((if c then [] else a) ++ R)
optional_rank k true a R at_a r = r
optional_rank k false a R at_a r = omega (arith, at_a R)

pub rank_front : (k : ℕ) (a t R : List ℕ) → k ≤ rank (a ++ (t ++ R)) → k ≤ rank ((a ++ t) ++ R)
rank_front k a t R r = subst (λ (bytes : List ℕ). k ≤ rank bytes) (sym (append_assoc a t R)) r
