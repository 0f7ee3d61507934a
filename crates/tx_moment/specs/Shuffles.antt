-- Two lists merged into one, each in its order. Own rules.
use Rattle.std.specs.Prelude.{◌≡◌, List, [], ◌∷◌, ◌⊎◌}
use Rattle.tx_base.specs.declared.steps.Accepted.{Accepted}

-- the list has the members of both lists, each in its order, and no others
unfoldable pub IsShuffle : List Accepted → List Accepted → List Accepted → Type 0
IsShuffle xs ys [] = (xs ≡ []) × (ys ≡ [])
IsShuffle xs ys (e ∷ h) =
    ((rest : List Accepted) × (xs ≡ e ∷ rest) × IsShuffle rest ys h)
    ⊎ ((rest : List Accepted) × (ys ≡ e ∷ rest) × IsShuffle xs rest h)
