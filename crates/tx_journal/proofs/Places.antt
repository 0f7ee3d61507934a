-- The places of what leads over the entries of a session.
use Rattle.std.proofs.Common.{◌≡◌, ℕ, ◌+◌, ◌-◌, ◌≤◌, ◌≢◌, List, [], ◌∷◌, ◌++◌, length, length-append, map, filter_map, reverse, take, drop, set, get_or, Option, Some, arith, refl, sym, ap, ◌∙◌}
use Rattle.std.proofs.lemmas.List.{append-nil, append_assoc, length-map, length-drop, length-take-le, map-append, reverse-append, reverse-reverse, take-append-drop}
use Rattle.std.proofs.Math.Seq.{drop-append_seam, get_or-append_seam, set-append_seam, take-append_seam}
use Rattle.tx_journal.specs.Crossings.{inverses_in, undone_in, IsParted}
use Rattle.tx_content.specs.Crossings.{inverse_at, undone_at}
use Rattle.tx_content.specs.declared.crossing.Crossing.{Crossing}
use Rattle.tx_content.specs.declared.inverse.Inverse.{Inverse}
use Rattle.tx_content.specs.declared.undone.Undone.{Undone}

-- a list that is not empty has a last element
pub has_last : {X : Type 0} (xs : List X) → xs ≢ [] → (rest : List X) × (x : X) × (xs ≡ rest ++ x ∷ [])
has_last [] some = absurd (some refl)
has_last (x ∷ []) some = ([], x, refl)
has_last (x ∷ y ∷ ys) some = let last = has_last (y ∷ ys) (λ none. cc) in (x ∷ last.0, last.1, ap (λ zs. x ∷ zs) last.2)

-- and a first one
pub head_there : {X : Type 0} (xs : List X) → xs ≢ [] → (x : X) × (rest : List X) × (xs ≡ x ∷ rest)
head_there [] some = absurd (some refl)
head_there (x ∷ xs) some = (x, xs, refl)

-- only one is the last
pub same_last : {X : Type 0} (xs ys : List X) (x y : X) → xs ++ x ∷ [] ≡ ys ++ y ∷ [] → (xs ≡ ys) × (x ≡ y)
same_last xs ys x y same =
    let turned : x ∷ reverse xs ≡ y ∷ reverse ys = sym (reverse-append xs (x ∷ [])) ∙ ap reverse same ∙ reverse-append ys (y ∷ []) in
    let rest : reverse xs ≡ reverse ys = cc in
    (sym (reverse-reverse xs) ∙ ap reverse rest ∙ reverse-reverse ys, cc)

-- places that all lead to one side, and what leads there
module _ {A : Type 0} (at : Crossing → Option A) where
  abbrev pub Lead : List Crossing → List A → Type 0
  Lead cs xs = map at cs ≡ map Some xs

  pub led : (cs : List Crossing) (xs : List A) → Lead cs xs → filter_map at cs ≡ xs
  led [] [] lead = refl
  led [] (x ∷ xs) lead = absurd (let none : [] ≡ Some x ∷ map Some xs = lead in cc)
  led (c ∷ cs) [] lead = absurd (let none : at c ∷ map at cs ≡ [] = lead in cc)
  led (c ∷ cs) (x ∷ xs) lead = grind (arith, led cs xs)

  fewer : (cs : List Crossing) → length (filter_map at cs) ≤ length cs
  fewer [] = omega arith
  fewer (c ∷ cs) = grind (arith, fewer cs)

  -- where as many lead there as there are, all do
  pub lead_all : (cs : List Crossing) → length (filter_map at cs) ≡ length cs → Lead cs (filter_map at cs)
  lead_all [] all = refl
  lead_all (c ∷ cs) all = grind (arith, fewer cs, lead_all cs)

  pub lead_none : (cs : List Crossing) → Lead cs [] → cs ≡ []
  lead_none [] lead = refl
  lead_none (c ∷ cs) lead = absurd (let none : at c ∷ map at cs ≡ [] = lead in cc)

  pub lead_more : (cs : List Crossing) (xs : List A) (c : Crossing) (x : A) → Lead cs xs → at c ≡ Some x → Lead (cs ++ c ∷ []) (xs ++ x ∷ [])
  lead_more cs xs c x lead one = map-append at cs (c ∷ []) ∙ (λ j. lead j ++ one j ∷ []) ∙ sym (map-append Some xs (x ∷ []))

  -- the first one, and the others
  pub lead_first : (cs : List Crossing) (x : A) (xs : List A) → Lead cs (x ∷ xs) → (c : Crossing) × (rest : List Crossing) × (cs ≡ c ∷ rest) × (at c ≡ Some x) × Lead rest xs
  lead_first [] x xs lead = absurd (let none : [] ≡ Some x ∷ map Some xs = lead in cc)
  lead_first (c ∷ cs) x xs lead = let all : at c ∷ map at cs ≡ Some x ∷ map Some xs = lead in (c, cs, refl, cc, cc)

  -- the last one, and the others
  pub lead_last : (cs : List Crossing) (xs : List A) (x : A) → Lead cs (xs ++ x ∷ []) → (rest : List Crossing) × (c : Crossing) × (cs ≡ rest ++ c ∷ []) × (at c ≡ Some x) × Lead rest xs
  lead_last cs [] x lead =
      let first = lead_first cs x [] lead in
      ([], first.0, first.2 ∙ ap (λ (ds : List Crossing). first.0 ∷ ds) (lead_none first.1 first.4), first.3, refl)
  lead_last cs (y ∷ ys) x lead =
      let first = lead_first cs y (ys ++ x ∷ []) lead in
      let last = lead_last first.1 ys x first.4 in
      (first.0 ∷ last.0, last.1, first.2 ∙ ap (λ (ds : List Crossing). first.0 ∷ ds) last.2, last.3, λ j. first.3 j ∷ last.4 j)

-- places of which so many lead back by these inverses, and the others forward by these
pub record AreParted (places : List Crossing) (made : ℕ) (is : List Inverse) (us : List Undone) : Type 0 where
  pub behind : List Crossing
  pub ahead : List Crossing
  pub order : places ≡ behind ++ ahead
  pub count : length behind ≡ made
  pub back : Lead inverse_at behind is
  pub forward : Lead undone_at ahead us

pub parts_of : (places : List Crossing) (made : ℕ) → IsParted places made → AreParted places made (inverses_in places made) (undone_in places made)
parts_of places made is =
    let all = is.long in
    let enough : made ≤ length places = omega (arith, all) in
    let behind_long : length (take made places) ≡ made = length-take-le made places enough in
    let ahead_long : length (drop made places) ≡ length places - made = length-drop made places in
    record {
      behind = take made places;
      ahead = drop made places;
      order = sym (take-append-drop made places);
      count = behind_long;
      back = lead_all inverse_at (take made places) (is.count ∙ sym behind_long);
      forward = lead_all undone_at (drop made places) (omega (arith, all, ahead_long));
    }

-- what places have, by their parts
module _ (places : List Crossing) (made : ℕ) (is : List Inverse) (us : List Undone) (are : AreParted places made is us) where
  taken : take made places ≡ are.behind
  taken = (λ j. take (sym are.count j) (are.order j)) ∙ take-append_seam are.behind are.ahead

  dropped : drop made places ≡ are.ahead
  dropped = (λ j. drop (sym are.count j) (are.order j)) ∙ drop-append_seam are.behind are.ahead

  pub inverses_are : inverses_in places made ≡ is
  inverses_are = ap (filter_map inverse_at) taken ∙ led inverse_at are.behind is are.back

  pub undone_are : undone_in places made ≡ us
  undone_are = ap (filter_map undone_at) dropped ∙ led undone_at are.ahead us are.forward

  ahead_long : length are.ahead ≡ length us
  ahead_long = sym (length-map are.ahead undone_at) ∙ ap length are.forward ∙ length-map us Some

  behind_long : length is ≡ made
  behind_long = sym (length-map is Some) ∙ ap length (sym are.back) ∙ length-map are.behind inverse_at ∙ are.count

  pub parted : IsParted places made
  parted = grind (arith, ahead_long, behind_long, inverses_are, length-append, undone_are)

  -- without those that lead forward
  pub cut_parts : AreParted (take made places) made is []
  cut_parts = record { behind = are.behind; ahead = []; order = taken ∙ sym (append-nil are.behind); count = are.count; back = are.back; forward = refl }

-- with one more that leads back
pub more_parts : (places : List Crossing) (made : ℕ) (is : List Inverse) (c : Crossing) (i : Inverse) → AreParted places made is [] → inverse_at c ≡ Some i → AreParted (places ++ c ∷ []) (made + 1) (is ++ i ∷ []) []
more_parts places made is c i are leads = record {
  behind = are.behind ++ c ∷ [];
  ahead = [];
  order = (λ j. (are.order ∙ ap (λ (cs : List Crossing). are.behind ++ cs) (lead_none undone_at are.ahead are.forward) ∙ append-nil are.behind) j ++ c ∷ []) ∙ sym (append-nil (are.behind ++ c ∷ []));
  count = length-append are.behind (c ∷ []) ∙ ap (λ (n : ℕ). n + 1) are.count;
  back = lead_more inverse_at are.behind is c i are.back leads;
  forward = refl;
}

-- the last one that leads back
module _ (places : List Crossing) (made last : ℕ) (rest : List Inverse) (i : Inverse) (us : List Undone) (newest : last + 1 ≡ made) (are : AreParted places made (rest ++ i ∷ []) us) where
  abbrev found : (others : List Crossing) × (c : Crossing) × (are.behind ≡ others ++ c ∷ []) × (inverse_at c ≡ Some i) × Lead inverse_at others rest
  found = lead_last inverse_at are.behind rest i are.back

  place : length found.0 ≡ last
  place = let one = sym (length-append found.0 (found.1 ∷ [])) ∙ ap length (sym found.2) ∙ are.count in let made_is = newest in omega (arith, one, made_is)

  seam : places ≡ found.0 ++ found.1 ∷ are.ahead
  seam = are.order ∙ ap (λ (cs : List Crossing). cs ++ are.ahead) found.2 ∙ append_assoc found.0 (found.1 ∷ []) are.ahead

  pub back_there : (d : Crossing) → inverse_at (get_or places last d) ≡ Some i
  back_there d = ap inverse_at ((λ j. get_or (seam j) (sym place j) d) ∙ get_or-append_seam found.0 found.1 are.ahead d) ∙ found.3

  pub turned_back : (c : Crossing) (u : Undone) → undone_at c ≡ Some u → AreParted (set places last c) last rest (u ∷ us)
  turned_back c u leads = grind (arith, place, seam, set-append_seam)

  -- where no other follows
  pub popped : us ≡ [] → (others : List Crossing) (c : Crossing) → places ≡ others ++ c ∷ [] → (inverse_at c ≡ Some i) × AreParted others last rest []
  popped none others c parts = grind (arith, append-nil, lead_none, place, same_last, seam)

-- the first one that leads forward
module _ (places : List Crossing) (made : ℕ) (is : List Inverse) (u : Undone) (us : List Undone) (are : AreParted places made is (u ∷ us)) where
  abbrev next : (c : Crossing) × (others : List Crossing) × (are.ahead ≡ c ∷ others) × (undone_at c ≡ Some u) × Lead undone_at others us
  next = lead_first undone_at are.ahead u us are.forward

  joint : places ≡ are.behind ++ next.0 ∷ next.1
  joint = are.order ∙ ap (λ (cs : List Crossing). are.behind ++ cs) next.2

  pub forward_there : (d : Crossing) → undone_at (get_or places made d) ≡ Some u
  forward_there d = ap undone_at ((λ j. get_or (joint j) (sym are.count j) d) ∙ get_or-append_seam are.behind next.0 next.1 d) ∙ next.3

  pub turned_forward : (c : Crossing) (i : Inverse) → inverse_at c ≡ Some i → AreParted (set places made c) (made + 1) (is ++ i ∷ []) us
  turned_forward c i leads = record {
    behind = are.behind ++ c ∷ [];
    ahead = next.1;
    order = (λ j. set (joint j) (sym are.count j) c) ∙ set-append_seam are.behind next.0 next.1 c ∙ sym (append_assoc are.behind (c ∷ []) next.1);
    count = length-append are.behind (c ∷ []) ∙ ap (λ (n : ℕ). n + 1) are.count;
    back = lead_more inverse_at are.behind is c i are.back leads;
    forward = next.4;
  }
