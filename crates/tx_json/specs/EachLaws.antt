-- The first laws of tokens one after another: one number or one item more.
use Rattle.std.proofs.Common.{◌≡◌, ℕ, zero, suc, ◌+◌, ◌<◌, List, [], ◌∷◌, ◌++◌, take, get_or, length, refl, ap, ◌∙◌, sym, arith, add-one, append_assoc}
use Rattle.std.proofs.lemmas.List.{append-nil}
use Rattle.json.specs.Token.{Token}
use Rattle.tx_json.specs.Each.{each_tokens, upto}

pub upto_none : (tokens : ℕ → List Token) (before : List Token) → before ≡ before ++ upto tokens 0
unfolding upto
upto_none tokens before = sym (append-nil before)

pub upto_more : (tokens : ℕ → List Token) (i : ℕ) (before now after : List Token)
    → now ≡ before ++ upto tokens i → after ≡ now ++ tokens i
    → after ≡ before ++ upto tokens (i + 1)
unfolding upto
upto_more tokens i before now after so_far more =
    let one : upto tokens (i + 1) ≡ upto tokens i ++ tokens i = rw add-one refl in
    more
    ∙ ap (λ (t : List Token). t ++ tokens i) so_far
    ∙ append_assoc before (upto tokens i) (tokens i)
    ∙ ap (λ (t : List Token). before ++ t) (sym one)

each_suc : {A : Type 0} (tokens : A → List Token) (items : List A) (i : ℕ) (d : A)
    → i < length items
    → each_tokens tokens (take (suc i) items)
    ≡ each_tokens tokens (take i items) ++ tokens (get_or items i d)
each_suc tokens [] i d inside = absurd (omega arith)
each_suc tokens (item ∷ items) zero d inside = append-nil (tokens item)
each_suc tokens (item ∷ items) (suc i) d inside =
    ap (λ (t : List Token). tokens item ++ t) (each_suc tokens items i d (omega arith))
    ∙ sym
    (append_assoc (tokens item) (each_tokens tokens (take i items))
    (tokens (get_or items i d)))

pub each_more :
    {A : Type 0} (tokens : A → List Token) (items : List A) (i : ℕ) (d : A)
    (before now after : List Token)
    → i < length items →
    now ≡ before ++ each_tokens tokens (take i items) → after ≡ now ++ tokens (get_or items i d)
    → after ≡ before ++ each_tokens tokens (take (i + 1) items)
each_more tokens items i d before now after inside so_far more =
    let one :
    each_tokens tokens (take (i + 1) items)
    ≡ each_tokens tokens (take i items) ++ tokens (get_or items i d) =
    rw add-one (each_suc tokens items i d inside) in
    more
    ∙ ap (λ (t : List Token). t ++ tokens (get_or items i d)) so_far
    ∙ append_assoc before (each_tokens tokens (take i items)) (tokens (get_or items i d))
    ∙ ap (λ (t : List Token). before ++ t) (sym one)
