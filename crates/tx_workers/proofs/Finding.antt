-- A search through a list, place by place.
use Rattle.std.proofs.Common.{◌≡◌, ℕ, ◌+◌, ◌<◌, ◌≤◌, zero, suc, Bool, true, false, cond, List, ◌∷◌, drop, length, get_or, Option, Some, None, nat_lt, refl, sym, ap, ◌∙◌, add-one, arith, drop-cons}
use Rattle.std.proofs.Math.ListN.{drop_of_length-le}
use Rattle.std.proofs.lemmas.Bool.{ltb-true, ltb-false}
use Rattle.std.specs.List.{find}

-- what is found from a place on, by what is there
found_at : {A : Type 0} (test : A → Bool) (xs : List A) (i : ℕ) (d : A) → i < length xs
    → find test (drop i xs) ≡ cond (test (get_or xs i d)) (Some (get_or xs i d)) (find test (drop (i + 1) xs))
found_at test xs i d inside = ap (find test) (drop-cons xs i d inside ∙ ap (λ (n : ℕ). get_or xs i d ∷ drop n xs) (sym (add-one i)))

pub found_here : {A : Type 0} (test : A → Bool) (xs : List A) (i : ℕ) (d : A) (found : Option A) → found ≡ find test (drop i xs) → i < length xs → test (get_or xs i d) ≡ true
    → Some (get_or xs i d) ≡ found
found_here test xs i d found so inside passes =
    sym (so ∙ found_at test xs i d inside ∙ ap (λ (b : Bool). cond b (Some (get_or xs i d)) (find test (drop (i + 1) xs))) passes)

pub found_later : {A : Type 0} (test : A → Bool) (xs : List A) (i : ℕ) (d : A) (found : Option A) → found ≡ find test (drop i xs) → i < length xs → test (get_or xs i d) ≡ false
    → found ≡ find test (drop (i + 1) xs)
found_later test xs i d found so inside fails =
    so ∙ found_at test xs i d inside ∙ ap (λ (b : Bool). cond b (Some (get_or xs i d)) (find test (drop (i + 1) xs))) fails

pub found_nowhere : {A : Type 0} (test : A → Bool) (xs : List A) (i : ℕ) (found : Option A) → found ≡ find test (drop i xs) → length xs ≤ i → None ≡ found
found_nowhere test xs i found so past = sym (so ∙ ap (find test) (drop_of_length-le xs past))

-- over so many places, at none of which it is found
pub found_over : {A : Type 0} (test : A → Bool) (xs : List A) (i k : ℕ) (d : A) (found : Option A) → found ≡ find test (drop i xs)
    → ((j : ℕ) → j < k → i + j < length xs → test (get_or xs (i + j) d) ≡ false) → found ≡ find test (drop (i + k) xs)
found_over test xs i zero d found so fails = let same : i ≡ i + 0 = omega arith in so ∙ ap (λ (n : ℕ). find test (drop n xs)) same
found_over test xs i (suc k) d found so fails =
    let before : found ≡ find test (drop (i + k) xs) = found_over test xs i k d found so (λ j less inside. fails j (omega (arith, less)) inside) in
    let next : i + k + 1 ≡ i + suc k = omega arith in
    by before next (nat_lt (i + k) (length xs)) refl
  where
    by : found ≡ find test (drop (i + k) xs) → i + k + 1 ≡ i + suc k → (b : Bool) → nat_lt (i + k) (length xs) ≡ b → found ≡ find test (drop (i + suc k) xs)
    by before next true inside =
        found_later test xs (i + k) d found before (ltb-true (i + k) (length xs) inside) (fails k (omega arith) (ltb-true (i + k) (length xs) inside))
        ∙ ap (λ (n : ℕ). find test (drop n xs)) next
    by before next false past =
        let none : length xs ≤ i + k = ltb-false (i + k) (length xs) past in
        let later : length xs ≤ i + suc k = omega (arith, none) in
        before ∙ ap (find test) (drop_of_length-le xs none ∙ sym (drop_of_length-le xs later))
