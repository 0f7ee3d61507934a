-- What each item stands for, one after another.
use Rattle.std.proofs.Common.{◌≡◌, List, [], ◌∷◌, ◌++◌, map, refl, ap}
use Rattle.json.specs.Token.{Token}
use Rattle.tx_json.specs.Each.{each_tokens}

-- the tokens of what each item stands for
pub each_map : {A B : Type 0} (tokens : B → List Token) (f : A → B) (items : List A) → each_tokens (λ item. tokens (f item)) items ≡ each_tokens tokens (map f items)
each_map tokens f [] = refl
each_map tokens f (item ∷ items) = ap (λ (t : List Token). tokens (f item) ++ t) (each_map tokens f items)
