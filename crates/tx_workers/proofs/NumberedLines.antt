-- The lines of some things, by their numbers, as far as they are appended.
use Rattle.std.proofs.Common.{◌≡◌, ℕ, suc, ◌+◌, ◌≤◌, List, ◌∷◌, ◌++◌, drop, length, Some, sym, ap, ◌∙◌, add-one, append_assoc, drop-cons}
use Rattle.std.proofs.lemmas.List.{append-nil}
use Rattle.std.proofs.lemmas.Option.{get_or_from_slice_get, slice_get_within}
use Rattle.std.proofs.Math.ListN.{drop_of_length-le}
use Rattle.std.specs.Prelude.{slice_get}
use Rattle.tx_workers.specs.RunText.{numbered}

-- the lines of the first i things are after what there was before
abbrev pub NumberedSoFar : {A : Type 0} → (ℕ → A → List ℕ) → List A → List ℕ → List ℕ → ℕ → Type 0
NumberedSoFar line items before text i = before ++ numbered line 1 items ≡ text ++ numbered line (i + 1) (drop i items)

pub one_numbered_more : {A : Type 0} (line : ℕ → A → List ℕ) (items : List A) (before text more : List ℕ) (i : ℕ) (item : A) → NumberedSoFar line items before text i
    → slice_get items i ≡ Some item → more ≡ text ++ line (i + 1) item → NumberedSoFar line items before more (i + 1)
one_numbered_more {A} line items before text more i item so there put =
    let rest : List ℕ = numbered line (i + 1 + 1) (drop (i + 1) items) in
    let cut : drop i items ≡ item ∷ drop (i + 1) items =
    drop-cons items i item (slice_get_within items i item there)
    ∙ ap (λ (x : A). x ∷ drop (suc i) items) (get_or_from_slice_get items i item item there)
    ∙ ap (λ (n : ℕ). item ∷ drop n items) (sym (add-one i)) in
    so
    ∙ ap (λ (xs : List A). text ++ numbered line (i + 1) xs) cut
    ∙ sym (append_assoc text (line (i + 1) item) rest)
    ∙ ap (λ (t : List ℕ). t ++ rest) (sym put)

pub all_numbered : {A : Type 0} (line : ℕ → A → List ℕ) (items : List A) (before text : List ℕ) (i : ℕ) → NumberedSoFar line items before text i → length items ≤ i
    → text ≡ before ++ numbered line 1 items
all_numbered {A} line items before text i so past =
    sym (so ∙ ap (λ (xs : List A). text ++ numbered line (i + 1) xs) (drop_of_length-le items past) ∙ append-nil text)
