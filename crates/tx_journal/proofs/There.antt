-- What leads over the entry of a place.
use Rattle.std.proofs.Common.{◌≡◌, ℕ, ◌<◌, ◌≤◌, List, Option, Some, None, length, map, option_map, take, get_or, slice_get, arith, subst, sym, ap, ◌∙◌}
use Rattle.std.proofs.lemmas.List.{get_or-take, length-take-le}
use Rattle.std.proofs.lemmas.Option.{slice_get-get_or, slice_get-map, slice_get_past}
use Rattle.tx_journal.proofs.Places.{lead_all}
use Rattle.tx_journal.specs.Crossings.{inverses_in, IsParted}
use Rattle.tx_content.specs.Crossings.{inverse_at}
use Rattle.tx_content.specs.declared.crossing.Crossing.{Crossing}

some_same : {A : Type 0} (x y : Option A) → option_map Some x ≡ Some y → x ≡ y
some_same x y same = grind arith

led_at : {C A : Type 0} (at : C → Option A) (places : List C) (made : ℕ) (xs : List A) (i : ℕ) (c : C) → map at (take made places) ≡ map Some xs → length (take made places) ≡ made → i < made → c ≡ get_or places i c → slice_get xs i ≡ at c
led_at at places made xs i c lead long inside is =
    let found : slice_get (take made places) i ≡ Some c = slice_get-get_or (take made places) i c (subst (λ (n : ℕ). i < n) (sym long) inside) ∙ ap Some (get_or-take made places i c inside ∙ sym is) in
    some_same (slice_get xs i) (at c)
    (sym (slice_get-map Some xs i) ∙ ap (λ ys. slice_get ys i) (sym lead) ∙ slice_get-map at (take made places) i ∙ ap (option_map at) found)

-- what takes the entry of a place back that is made
pub inverse_there : (places : List Crossing) (made : ℕ) → IsParted places made → (i : ℕ) (c : Crossing) → i < made → c ≡ get_or places i c → slice_get (inverses_in places made) i ≡ inverse_at c
inverse_there places made is i c inside there =
    let all = is.long in
    let long : length (take made places) ≡ made = length-take-le made places (omega (arith, all)) in
    led_at inverse_at places made (inverses_in places made) i c (lead_all inverse_at (take made places) (is.count ∙ sym long)) long inside there

pub none_there : (places : List Crossing) (made : ℕ) → IsParted places made → (i : ℕ) → made ≤ i → slice_get (inverses_in places made) i ≡ None
none_there places made is i past = slice_get_past (inverses_in places made) i (subst (λ (n : ℕ). n ≤ i) (sym is.count) past)
