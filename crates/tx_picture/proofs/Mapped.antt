-- A list that a loop changes item by item.
use Rattle.std.proofs.Common.{◌≡◌, ℕ, ◌+◌, ◌<◌, List, ◌++◌, map, take, drop, get_or, length, ap, ◌∙◌, arith}
use Rattle.std.proofs.Math.ListN.{set}
use Rattle.std.proofs.lemmas.List.{get_or_default}
use Rattle.std.proofs.lemmas.List.Edits.{map_over_more}

-- one item more, which is what the function makes of it
pub mapped_more : {A : Type 0} (f : A → A) (items now : List A) (i : ℕ) (d made : A) → i < length items → length now ≡ length items → now ≡ map f (take i items) ++ drop i items
    → made ≡ f (get_or now i d) → set now i made ≡ map f (take (i + 1) items) ++ drop (i + 1) items
mapped_more f items now i d made inside long so_far is =
    let within : i < length now = omega (arith, long) in
    ap (set now i) is ∙ map_over_more f items now i (get_or now i d) inside so_far (get_or_default now i d (get_or now i d) within)
