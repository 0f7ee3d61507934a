-- What there is of each number below a limit, one number more.
use Rattle.std.proofs.Common.{◌≡◌, ℕ, ◌+◌, List, ◌++◌, refl, ap, ◌∙◌, sym, add-one, append_assoc}
use Rattle.std.proofs.lemmas.List.{append-nil}
use Rattle.tx_waits.specs.Holders.{each_below}

pub below_none : {A : Type 0} → (some : ℕ → List A) (before : List A) → before ≡ before ++ each_below some 0
unfolding each_below
below_none some before = sym (append-nil before)

pub below_more : {A : Type 0} → (some : ℕ → List A) (i : ℕ) (before now after : List A) → now ≡ before ++ each_below some i → after ≡ now ++ some i → after ≡ before ++ each_below some (i + 1)
unfolding each_below
below_more some i before now after so_far more =
    let one : each_below some (i + 1) ≡ each_below some i ++ some i = rw add-one refl in
    more ∙ ap (λ t. t ++ some i) so_far ∙ append_assoc before (each_below some i) (some i) ∙ ap (λ t. before ++ t) (sym one)
