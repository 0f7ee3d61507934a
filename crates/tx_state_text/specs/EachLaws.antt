-- The first laws of texts one after another: one number more.
use Rattle.std.proofs.Common.{◌≡◌, ℕ, ◌+◌, List, ◌++◌, refl, ap, ◌∙◌, sym, add-one, append_assoc}
use Rattle.std.proofs.lemmas.List.{append-nil}
use Rattle.tx_state_text.specs.Each.{upto}

pub upto_none : (text : ℕ → List ℕ) (before : List ℕ) → before ≡ before ++ upto text 0
unfolding upto
upto_none text before = sym (append-nil before)

pub upto_more : (text : ℕ → List ℕ) (i : ℕ) (before now after : List ℕ)
    → now ≡ before ++ upto text i → after ≡ now ++ text i → after ≡ before ++ upto text (i + 1)
unfolding upto
upto_more text i before now after so_far more =
    let one : upto text (i + 1) ≡ upto text i ++ text i = rw add-one refl in
    more
    ∙ ap (λ (t : List ℕ). t ++ text i) so_far
    ∙ append_assoc before (upto text i) (text i)
    ∙ ap (λ (t : List ℕ). before ++ t) (sym one)
