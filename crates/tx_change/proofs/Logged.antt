-- Logs, one old part more or less.
use Rattle.std.proofs.Common.{◌≡◌, ℕ, ◌-◌, List, [], ◌∷◌, ◌++◌, drop, length, ap, sym, ◌∙◌, arith, append_assoc, length-append}
use Rattle.std.proofs.lemmas.List.{drop_at}
use Rattle.tx_change.specs.declared.change.Change.{Change}
use Rattle.tx_change.specs.Exchange.{Sizes, IsWithin, AreWithin}

-- a log whose last few are gone, and one more
pub one_back : (all rest : List Change) (last : Change) (k : ℕ) → (rest ++ last ∷ []) ++ drop k all ≡ all → length (rest ++ last ∷ []) ≡ k →
    (drop (k - 1) all ≡ last ∷ drop k all) × (rest ++ drop (k - 1) all ≡ all) × (length rest ≡ k - 1)
one_back all rest last k whole long =
    let few : length rest ≡ k - 1 = omega (arith, length-append {A = Change}, long) in
    let split : all ≡ rest ++ (last ∷ drop k all) = sym whole ∙ append_assoc rest (last ∷ []) (drop k all) in
    let back : drop (k - 1) all ≡ last ∷ drop k all = ap (drop (k - 1)) split ∙ drop_at rest (last ∷ drop k all) (k - 1) few in
    (back, ap (λ (xs : List Change). rest ++ xs) back ∙ sym split, few)

pub named_last : (sizes : Sizes) (front : List Change) (change : Change) (behind : List Change) → AreWithin sizes ((front ++ change ∷ []) ++ behind) → IsWithin sizes change
named_last sizes [] change behind named = named.0
named_last sizes (first ∷ front) change behind named = named_last sizes front change behind named.1
