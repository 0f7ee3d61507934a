-- The lines that are left over, as far as they are found.
use Rattle.std.proofs.Common.{◌≡◌, ◌≤◌, ◌+◌, ◌||◌, ℕ, suc, Bool, true, false, cond, List, [], ◌∷◌, ◌++◌, Some, None, Bor, arith, drop, length, map, if◌then◌else◌, refl, sym, ap, subst, ◌∙◌, append_assoc}
use Rattle.std.proofs.lemmas.Iterator.Adapters.{position_from-zero}
use Rattle.std.proofs.lemmas.List.{append-nil}
use Rattle.std.proofs.Math.ListN.{drop_of_length-le}
use Rattle.std.specs.List.{position, position_from, remove}
use Rattle.std.specs.Prelude.{bytes_eq}
use Rattle.tx_shell.specs.Differences.{has_line, left_over, less_line, marked}

-- what borrows of lines lead to
abbrev pub spelled : List (Bor (List ℕ)) → List (List ℕ)
spelled borrows = map (λ (line : Bor (List ℕ)). line.now) borrows

less_none : (line : List ℕ) (others : List (List ℕ)) → has_line line others ≡ false → less_line line others ≡ others
less_none line [] none = refl
less_none line (other ∷ others) none = by (less_none line others) (bytes_eq other line) refl
  where
    by : (has_line line others ≡ false → less_line line others ≡ others) → (b : Bool) → bytes_eq other line ≡ b → (if b then others else other ∷ less_line line others) ≡ other ∷ others
    by less true is = let bad : true ≡ false = sym (ap (λ (b : Bool). b || has_line line others) is) ∙ none in absurd (cc)
    by less false is = ap (λ (more : List (List ℕ)). other ∷ more) (less (sym (ap (λ (b : Bool). b || has_line line others) is) ∙ none))

-- the place is that of the first that is the line
pub record IsPlace (line : List ℕ) (others : List (Bor (List ℕ))) (place : ℕ) : Type 0 where
  pub has : has_line line (spelled others) ≡ true
  pub less : less_line line (spelled others) ≡ spelled (remove others place)

module _ (line : List ℕ) where
  abbrev pub is_it : Bor (List ℕ) → Bool
  is_it other = bytes_eq other.now line

  none_from : (n : ℕ) (others : List (Bor (List ℕ))) → position_from is_it n others ≡ None → has_line line (spelled others) ≡ false
  none_from n [] none = refl
  none_from n (other ∷ others) none = by (none_from (n + 1) others) (is_it other) refl
    where
      by : (position_from is_it (n + 1) others ≡ None → has_line line (spelled others) ≡ false) → (b : Bool) → is_it other ≡ b → has_line line (spelled (other ∷ others)) ≡ false
      by later true is = let bad : Some n ≡ None = sym (ap (λ (b : Bool). cond b (Some n) (position_from is_it (n + 1) others)) is) ∙ none in absurd (cc)
      by later false is =
          ap (λ (b : Bool). b || has_line line (spelled others)) is
          ∙ later (sym (ap (λ (b : Bool). cond b (Some n) (position_from is_it (n + 1) others)) is) ∙ none)

  found_from : (n : ℕ) (others : List (Bor (List ℕ))) (place : ℕ) → position_from is_it n others ≡ Some place → (k : ℕ) × (place ≡ n + k) × IsPlace line others k
  found_from n [] place found = absurd (cc)
  found_from n (other ∷ others) place found = by (found_from (n + 1) others place) (is_it other) refl
    where
      by : (position_from is_it (n + 1) others ≡ Some place → (k : ℕ) × (place ≡ n + 1 + k) × IsPlace line others k) → (b : Bool) → is_it other ≡ b → (k : ℕ) × (place ≡ n + k) × IsPlace line (other ∷ others) k
      by later true is =
          let same : Some n ≡ Some place = sym (ap (λ (b : Bool). cond b (Some n) (position_from is_it (n + 1) others)) is) ∙ found in
          let here : n ≡ place = cc in (
            0,
            omega (arith, here),
            record {
              has = ap (λ (b : Bool). b || has_line line (spelled others)) is;
              less = ap (λ (b : Bool). if b then spelled others else other.now ∷ less_line line (spelled others)) is;
            },
          )
      by later false is =
          let there = later (sym (ap (λ (b : Bool). cond b (Some n) (position_from is_it (n + 1) others)) is) ∙ found) in
          let at : place ≡ n + 1 + there.0 = there.1 in (
            suc there.0,
            omega (arith, at),
            record {
              has = ap (λ (b : Bool). b || has_line line (spelled others)) is ∙ there.2.has;
              less =
                  ap (λ (b : Bool). if b then spelled others else other.now ∷ less_line line (spelled others)) is
                  ∙ ap (λ (more : List (List ℕ)). other.now ∷ more) there.2.less;
            },
          )

  pub no_place : (others : List (Bor (List ℕ))) → position is_it others ≡ None → (has_line line (spelled others) ≡ false) × (less_line line (spelled others) ≡ spelled others)
  no_place others none =
      let not_there = none_from 0 others (sym (position_from-zero is_it others) ∙ none) in
      (not_there, less_none line (spelled others) not_there)

  pub at_place : (others : List (Bor (List ℕ))) (place : ℕ) → position is_it others ≡ Some place → IsPlace line others place
  at_place others place found =
      let from = found_from 0 others place (sym (position_from-zero is_it others) ∙ found) in
      let at : place ≡ 0 + from.0 = from.1 in
      let same : from.0 ≡ place = omega (arith, at) in
      subst (IsPlace line others) same from.2

-- what is left over of the first i lines is after what there was before
abbrev pub LeftSoFar : List ℕ → List (Bor (List ℕ)) → List (List ℕ) → List ℕ → List ℕ → List (List ℕ) → ℕ → Type 0
LeftSoFar mark lines first before text others i = before ++ marked mark (left_over (spelled lines) first) ≡ text ++ marked mark (left_over (spelled (drop i lines)) others)

module _ (mark : List ℕ) (lines : List (Bor (List ℕ))) (first : List (List ℕ)) (before text : List ℕ) (others next : List (List ℕ)) (i : ℕ) (line : Bor (List ℕ)) (so : LeftSoFar mark lines first before text others i)
    (cut : drop i lines ≡ line ∷ drop (i + 1) lines) (less : next ≡ less_line line.now others) where
  abbrev rest : List (List ℕ)
  rest = spelled (drop (i + 1) lines)

  -- by whether the others have the line
  by_line : before ++ marked mark (left_over (spelled lines) first) ≡ text ++ marked mark (if has_line line.now others then left_over rest next else line.now ∷ left_over rest others)
  unfolding left_over
  by_line =
      so ∙ ap (λ (xs : List (Bor (List ℕ))). text ++ marked mark (left_over (spelled xs) others)) cut
      ∙ ap (λ (fewer : List (List ℕ)). text ++ marked mark (if has_line line.now others then left_over rest fewer else line.now ∷ left_over rest others)) (sym less)

  pub one_taken : has_line line.now others ≡ true → LeftSoFar mark lines first before text next (i + 1)
  one_taken has = by_line ∙ ap (λ (b : Bool). text ++ marked mark (if b then left_over rest next else line.now ∷ left_over rest others)) has

  pub one_said : has_line line.now others ≡ false → (more : List ℕ) → more ≡ text ++ (mark ++ (line.now ++ 10 ∷ [])) → LeftSoFar mark lines first before more next (i + 1)
  one_said none more put =
      by_line ∙ ap (λ (b : Bool). text ++ marked mark (if b then left_over rest next else line.now ∷ left_over rest others)) none
      ∙ ap (λ (same : List (List ℕ)). text ++ ((mark ++ (line.now ++ 10 ∷ [])) ++ marked mark (left_over rest same))) (sym (less ∙ less_none line.now others none))
      ∙ sym (append_assoc text (mark ++ (line.now ++ 10 ∷ [])) (marked mark (left_over rest next)))
      ∙ ap (λ (t : List ℕ). t ++ marked mark (left_over rest next)) (sym put)

pub all_said : (mark : List ℕ) (lines : List (Bor (List ℕ))) (first : List (List ℕ)) (before text : List ℕ) (others : List (List ℕ)) (i : ℕ) → LeftSoFar mark lines first before text others i → length lines ≤ i
    → text ≡ before ++ marked mark (left_over (spelled lines) first)
unfolding left_over
all_said mark lines first before text others i so past =
    sym (so ∙ ap (λ (xs : List (Bor (List ℕ))). text ++ marked mark (left_over (spelled xs) others)) (drop_of_length-le lines past) ∙ append-nil text)
