-- One item more of a list that a loop goes over.
use Rattle.std.proofs.Common.{◌≡◌, Result, Ok, Err, OnOk, ℕ, zero, suc, ◌+◌, ◌<◌, ◌≤◌, List, [], ◌∷◌, ◌++◌, take, get_or, length, ap, ◌∙◌, sym, arith, add-one, append_assoc}
use Rattle.std.proofs.lemmas.List.{append-nil, take_all}
use Rattle.std.proofs.lemmas.List.Sums.{fold_more}
use Rattle.std.specs.List.{flat_map, fold}

each_suc : {A : Type 0} (text : A → List ℕ) (items : List A) (i : ℕ) (d : A) → i < length items → flat_map text (take (suc i) items) ≡ flat_map text (take i items) ++ text (get_or items i d)
each_suc text [] i d inside = absurd (omega arith)
each_suc text (item ∷ items) zero d inside = append-nil (text item)
each_suc text (item ∷ items) (suc i) d inside =
    ap (λ (t : List ℕ). text item ++ t) (each_suc text items i d (omega arith)) ∙ sym (append_assoc (text item) (flat_map text (take i items)) (text (get_or items i d)))

-- the text of one item more is appended
pub each_more : {A : Type 0} (text : A → List ℕ) (items : List A) (i : ℕ) (d : A) (before now after : List ℕ) → i < length items → now ≡ before ++ flat_map text (take i items)
    → after ≡ now ++ text (get_or items i d) → after ≡ before ++ flat_map text (take (i + 1) items)
each_more text items i d before now after inside so_far more =
    let one : flat_map text (take (i + 1) items) ≡ flat_map text (take i items) ++ text (get_or items i d) = rw add-one (each_suc text items i d inside) in
    more ∙ ap (λ (t : List ℕ). t ++ text (get_or items i d)) so_far ∙ append_assoc before (flat_map text (take i items)) (text (get_or items i d)) ∙ ap (λ (t : List ℕ). before ++ t) (sym one)

-- all are there
pub each_whole : {A : Type 0} (text : A → List ℕ) (items : List A) (i : ℕ) (before now : List ℕ) → length items ≤ i → now ≡ before ++ flat_map text (take i items) → now ≡ before ++ flat_map text items
each_whole text items i before now done so_far = so_far ∙ ap (λ (part : List _). before ++ flat_map text part) (take_all i items done)

-- one item more is folded in
pub folded_more : {A B : Type 0} (f : B → A → B) (start : B) (items : List A) (i : ℕ) (d : A) (now after : B) → i < length items → now ≡ fold f start (take i items) → after ≡ f now (get_or items i d)
    → after ≡ fold f start (take (i + 1) items)
folded_more f start items i d now after inside so_far more = more ∙ ap (λ (x : _). f x (get_or items i d)) so_far ∙ sym (fold_more f start items i d inside)

-- all are folded in
pub folded_whole : {A B : Type 0} (f : B → A → B) (start : B) (items : List A) (i : ℕ) (now : B) → length items ≤ i → now ≡ fold f start (take i items) → now ≡ fold f start items
folded_whole f start items i now done so_far = so_far ∙ ap (fold f start) (take_all i items done)

-- what holds where the last text was appended
pub appended : {A E : Type 0} (result : Result A E) (P Q : Type 0) → (P → Q) → OnOk result P → OnOk result Q
appended (Ok value) P Q more is = more is
appended (Err error) P Q more is = tt

pub appended_thrice : (old a b d first second third : List ℕ) → first ≡ old ++ a → second ≡ first ++ b → third ≡ second ++ d → third ≡ old ++ (a ++ (b ++ d))
appended_thrice old a b d first second third one two three =
    three ∙ ap (λ (t : List ℕ). t ++ d) (two ∙ ap (λ (t : List ℕ). t ++ b) one) ∙ append_assoc (old ++ a) b d ∙ append_assoc old a (b ++ d)
