-- The processes that forks make, and those that names are for, one more and all.
use Rattle.std.proofs.Common.{◌≡◌, ◌⊎◌, inl, inr, ℕ, suc, ◌+◌, ◌<◌, ◌≤◌, List, [], ◌∷◌, ◌++◌, drop, get_or, length, map, min, ap, ◌∙◌, sym, refl, arith, add-one, append_assoc, drop-cons}
use Rattle.std.proofs.lemmas.Bool.Decides.{nat_tests}
use Rattle.std.proofs.lemmas.List.{append-nil, length-map}
use Rattle.std.proofs.Math.ListN.{drop_of_length-le, get_or-map}
use Rattle.tx_base.specs.declared.steps.Reply.{Reply}
use Rattle.tx_base.specs.declared.steps.Step.{Step}
use Rattle.tx_picture.specs.Names.{birth_by, births_from, life_of, lives_from, with_life}
use Rattle.tx_picture.specs.Ties.{tie_of}
use Rattle.tx_picture.specs.declared.births.Birth.{Birth}
use Rattle.tx_picture.specs.declared.lives.Life.{Life}
use Rattle.tx_translate.specs.Written.{name_at, NameAt}
use Rattle.tx_translate.specs.declared.written.Named.{Named}

-- Births

pub birth_more : (steps : List Step) (replies : List Reply) (i : ℕ) (step : Step) (reply : Reply) (whole before after : List Birth) → i < length steps → i < length replies
    → whole ≡ before ++ births_from (i + 1) (drop i steps) (drop i replies) → after ≡ before ++ birth_by (i + 1) (tie_of (get_or steps i step) (get_or replies i reply))
    → whole ≡ after ++ births_from (i + 1 + 1) (drop (i + 1) steps) (drop (i + 1) replies)
birth_more steps replies i step reply whole before after inside within so_far more =
    let s = get_or steps i step in
    let r = get_or replies i reply in
    let rest = births_from (i + 1 + 1) (drop (i + 1) steps) (drop (i + 1) replies) in
    let first : drop i steps ≡ s ∷ drop (i + 1) steps = drop-cons steps i step inside ∙ ap (λ (n : ℕ). s ∷ drop n steps) (sym (add-one i)) in
    let second : drop i replies ≡ r ∷ drop (i + 1) replies = drop-cons replies i reply within ∙ ap (λ (n : ℕ). r ∷ drop n replies) (sym (add-one i)) in
    so_far ∙ ap (λ (left : List Step). before ++ births_from (i + 1) left (drop i replies)) first
    ∙ ap (λ (left : List Reply). before ++ births_from (i + 1) (s ∷ drop (i + 1) steps) left) second
    ∙ sym (append_assoc before (birth_by (i + 1) (tie_of s r)) rest) ∙ ap (λ (found : List Birth). found ++ rest) (sym more)

no_step : (number : ℕ) (steps : List Step) (replies : List Reply) → steps ≡ [] → births_from number steps replies ≡ []
no_step number steps replies none = ap (λ (left : List Step). births_from number left replies) none

no_reply : (number : ℕ) (steps : List Step) → births_from number steps [] ≡ []
no_reply number [] = refl
no_reply number (step ∷ steps) = refl

short_of : (a b i : ℕ) → min a b ≤ i → (a ≤ i) ⊎ (b ≤ i)
short_of a b i done = grind (arith, nat_tests)

-- no step is left, or no answer
pub births_whole : (steps : List Step) (replies : List Reply) (i : ℕ) (whole now : List Birth) → min (length steps) (length replies) ≤ i
    → whole ≡ now ++ births_from (i + 1) (drop i steps) (drop i replies) → now ≡ whole
births_whole steps replies i whole now done so_far =
    let rest = births_from (i + 1) (drop i steps) (drop i replies) in
    let none : rest ≡ [] =
    elim (short_of (length steps) (length replies) i done) [
      | inl few ↦ no_step (i + 1) (drop i steps) (drop i replies) (drop_of_length-le steps few)
      | inr few ↦ ap (births_from (i + 1) (drop i steps)) (drop_of_length-le replies few) ∙ no_reply (i + 1) (drop i steps)
    ] in
    sym (so_far ∙ ap (λ (left : List Birth). now ++ left) none ∙ append-nil now)

-- Lives

pub no_life : (start : ℕ) (births : List Birth) (names : List Named) → [] ≡ lives_from start births (length names) (drop (length names) (map name_at names))
no_life start births names =
    let long = length-map names name_at in
    let all : length (map name_at names) ≤ length names = omega (arith, long) in
    ap (lives_from start births (length names)) (sym (drop_of_length-le (map name_at names) all))

pub life_more : (start : ℕ) (births : List Birth) (names : List Named) (left old : ℕ) (d : Named) (before after : List Life) → old ≡ left + 1 → old ≤ length names
    → before ≡ lives_from start births old (drop old (map name_at names)) → after ≡ with_life before (life_of start births left (name_at (get_or names left d)))
    → after ≡ lives_from start births left (drop left (map name_at names))
life_more start births names left old d before after next inside so_far more =
    let given = map name_at names in
    let name = name_at (get_or names left d) in
    let long = length-map names name_at in
    let within : left < length given = omega (arith, next, long) in
    let first : drop left given ≡ name ∷ drop (left + 1) given =
    drop-cons given left (name_at d) within ∙ ap (λ (n : NameAt). n ∷ drop (suc left) given) (get_or-map name_at names left d) ∙ ap (λ (n : ℕ). name ∷ drop n given) (sym (add-one left)) in
    more ∙ ap (λ (lives : List Life). with_life lives (life_of start births left name)) (so_far ∙ ap (λ (n : ℕ). lives_from start births n (drop n given)) next)
    ∙ ap (lives_from start births left) (sym first)
