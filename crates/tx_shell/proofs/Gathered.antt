-- What there is of each number below a limit, one number more.
use Rattle.std.proofs.Common.{◌≡◌, ℕ, zero, suc, ◌+◌, ◌<◌, List, [], ◌∷◌, ◌++◌, take, get_or, length, map, refl, ap, ◌∙◌, sym, arith, add-one, append_assoc}
use Rattle.std.proofs.lemmas.List.{append-nil}
use Rattle.json.specs.Token.{Token}
use Rattle.tx_json.specs.Each.{each_tokens}
use Rattle.tx_waits.specs.Holders.{each_below}
use Rattle.tx_state_text.specs.Each.{each_text}

-- the texts of items, one item more
each_suc : {A : Type 0} (text : A → List ℕ) (items : List A) (i : ℕ) (d : A) → i < length items → each_text text (take (suc i) items) ≡ each_text text (take i items) ++ text (get_or items i d)
each_suc text [] i d inside = absurd (omega arith)
each_suc text (item ∷ items) zero d inside = append-nil (text item)
each_suc text (item ∷ items) (suc i) d inside =
    ap (λ (t : List ℕ). text item ++ t) (each_suc text items i d (omega arith)) ∙ sym (append_assoc (text item) (each_text text (take i items)) (text (get_or items i d)))

pub each_more : {A : Type 0} (text : A → List ℕ) (items : List A) (i : ℕ) (d : A) (before now after : List ℕ) → i < length items →
    now ≡ before ++ each_text text (take i items) → after ≡ now ++ text (get_or items i d) → after ≡ before ++ each_text text (take (i + 1) items)
each_more text items i d before now after inside so_far more =
    let one : each_text text (take (i + 1) items) ≡ each_text text (take i items) ++ text (get_or items i d) = rw add-one (each_suc text items i d inside) in
    more ∙ ap (λ (t : List ℕ). t ++ text (get_or items i d)) so_far ∙ append_assoc before (each_text text (take i items)) (text (get_or items i d)) ∙ ap (λ (t : List ℕ). before ++ t) (sym one)

-- what each item means
pub text_map : {A B : Type 0} (text : B → List ℕ) (f : A → B) (items : List A) → each_text (λ item. text (f item)) items ≡ each_text text (map f items)
text_map text f [] = refl
text_map text f (item ∷ items) = ap (λ (t : List ℕ). text (f item) ++ t) (text_map text f items)

pub tokens_map : {A B : Type 0} (tokens : B → List Token) (f : A → B) (items : List A) → each_tokens (λ item. tokens (f item)) items ≡ each_tokens tokens (map f items)
tokens_map tokens f [] = refl
tokens_map tokens f (item ∷ items) = ap (λ (t : List Token). tokens (f item) ++ t) (tokens_map tokens f items)
