-- The first laws of a list of numbers as text: one number more, and its end.
use Rattle.std.proofs.Common.{◌≡◌, ℕ, Bool, true, false, cond, if◌then◌else◌, List, [], ◌∷◌, ◌++◌, codes, refl, sym, ap, ◌∙◌, append_assoc}
use Rattle.std.proofs.lemmas.List.{append-nil}
use Rattle.std.specs.Fmt.{decimal}
use Rattle.tx_lines.specs.Lists.{list_text, member_text, more_text, some_after}

-- numbers joined by commas, or nothing for none
abbrev pub joined : List ℕ → List ℕ
joined [] = []
joined (n ∷ ns) = decimal n ++ more_text ns

-- whether there is a number
abbrev pub some_in : List ℕ → Bool
some_in [] = false
some_in (n ∷ ns) = true

more_push : (ns : List ℕ) (n : ℕ) → more_text (ns ++ n ∷ []) ≡ more_text ns ++ 44 ∷ decimal n
more_push [] n = ap (λ (t : List ℕ). 44 ∷ t) (append-nil (decimal n))
more_push (m ∷ ms) n =
    ap (λ (t : List ℕ). 44 ∷ (decimal m ++ t)) (more_push ms n)
    ∙ ap (λ (t : List ℕ). 44 ∷ t) (sym (append_assoc (decimal m) (more_text ms) (44 ∷ decimal n)))

joined_push : (ns : List ℕ) (n : ℕ)
    → joined (ns ++ n ∷ []) ≡ joined ns ++ member_text (some_in ns) true n
joined_push [] n = append-nil (decimal n)
joined_push (m ∷ ms) n =
    ap (λ (t : List ℕ). decimal m ++ t) (more_push ms n)
    ∙ sym (append_assoc (decimal m) (more_text ms) (44 ∷ decimal n))

some_push : (ns : List ℕ) (n : ℕ) → some_in (ns ++ n ∷ []) ≡ true
some_push [] n = refl
some_push (m ∷ ms) n = refl

pub one_looked : (ns : List ℕ) (n : ℕ) (is : Bool) →
    (joined (ns ++ cond is (n ∷ []) []) ≡ joined ns ++ member_text (some_in ns) is n)
    × (some_in (ns ++ cond is (n ∷ []) []) ≡ some_after (some_in ns) is)
one_looked ns n true = (joined_push ns n, some_push ns n)
one_looked ns n false =
    (ap joined (append-nil ns) ∙ sym (append-nil (joined ns)), ap some_in (append-nil ns))

pub list_end : (ns : List ℕ) → joined ns ++ (if some_in ns then [] else codes "-") ≡ list_text ns
list_end [] = refl
list_end (n ∷ ns) = append-nil (decimal n ++ more_text ns)
