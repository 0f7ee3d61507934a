-- The nearest of some names, and of one more.
use Rattle.std.proofs.Common.{◌≡◌, ◌∙◌, ℕ, ◌+◌, ◌<◌, ◌≤◌, List, [], ◌∷◌, ◌++◌, length, map, take, slice_index_or, Option, Some, None, option_map, suc, Bool, true, false, if◌then◌else◌, add-one, append_assoc, ap, arith, refl, subst, sym}
use Rattle.std.proofs.Math.Seq.{take-suc}
use Rattle.std.proofs.lemmas.List.{map-append}
use Rattle.tx_check.proofs.KnownLabels.{labels_more}
use Rattle.tx_check.specs.Labels.{labels_in}
use Rattle.tx_check.specs.Near.{bound, label_name, label_names, with_name, AreFar, FindsName, FindsNear, IsNear}
use Rattle.tx_check.specs.Numbered.{after_lines}
use Rattle.tx_check.specs.Contexts.{begins_label}
use Rattle.tx_lines.specs.Programs.{BeginsLabel}
use Rattle.tx_lines.specs.Schedule.{first_line}

far_less : (word : List ℕ) (more least : ℕ) (names : List (List ℕ)) → least ≤ more → AreFar word more names → AreFar word least names
far_less word more least [] less far = tt
far_less word more least (name ∷ names) less far = (λ edits near. omega (arith, less, far.0 edits near), far_less word more least names less far.1)

far_append : (word : List ℕ) (least : ℕ) (names others : List (List ℕ)) → AreFar word least names → AreFar word least others → AreFar word least (names ++ others)
far_append word least [] others far further = further
far_append word least (name ∷ names) others far further = (far.0, far_append word least names others far.1 further)

-- all names that were looked at are farther than one that is nearer
all_far : (word : List ℕ) (names : List (List ℕ)) (most : ℕ) (nearest : Option (List ℕ × ℕ)) → FindsNear word names most nearest → AreFar word (bound most nearest) names
all_far word names most None far = far
all_far word names most (Some found) is =
    let nearest = is.0 in
    let here : (edits : ℕ) → IsNear word found.0 edits → found.1 ≤ edits = λ edits near. omega (arith, near.are, nearest.near.are) in
    let before = far_less word (found.1 + 1) found.1 nearest.before (omega arith) nearest.first in
    subst (AreFar word found.1) (sym nearest.parts) (far_append word found.1 nearest.before (found.0 ∷ nearest.after) before (here, nearest.least))

bounded : (word : List ℕ) (names : List (List ℕ)) (most : ℕ) (nearest : Option (List ℕ × ℕ)) → FindsNear word names most nearest → bound most nearest ≤ most
bounded word names most None is = omega arith
bounded word names most (Some found) is = omega (arith, is.1)

-- one that is nearer
pub nearer_found : (word : List ℕ) (names : List (List ℕ)) (most edits fewer : ℕ) (nearest : Option (List ℕ × ℕ)) (name : List ℕ) → edits ≡ bound most nearest → IsNear word name fewer → fewer < edits → FindsNear word names most nearest
    → FindsNear word (names ++ name ∷ []) most (Some (name, fewer))
nearer_found word names most edits fewer nearest name bound_is near less is = (
  record {
    before = names;
    after = [];
    parts = refl;
    near = near;
    first = far_less word (bound most nearest) (fewer + 1) names (omega (arith, bound_is, less)) (all_far word names most nearest is);
    least = tt;
  },
  omega (arith, bound_is, less, bounded word names most nearest is),
)

-- one that is not
pub not_nearer : (word : List ℕ) (names : List (List ℕ)) (most edits : ℕ) (nearest : Option (List ℕ × ℕ)) (name : List ℕ) → edits ≡ bound most nearest → ((d : ℕ) → IsNear word name d → edits ≤ d) → FindsNear word names most nearest
    → FindsNear word (names ++ name ∷ []) most nearest
not_nearer word names most edits None name bound_is far is = far_append word most names (name ∷ []) is (λ d near. omega (arith, bound_is, far d near), tt)
not_nearer word names most edits (Some found) name bound_is far is = (
  record {
    before = is.0.before;
    after = is.0.after ++ name ∷ [];
    parts = ap (λ (t : List (List ℕ)). t ++ name ∷ []) is.0.parts ∙ append_assoc is.0.before (found.0 ∷ is.0.after) (name ∷ []);
    near = is.0.near;
    first = is.0.first;
    least = far_append word found.1 is.0.after (name ∷ []) is.0.least (λ d near. omega (arith, bound_is, far d near), tt);
  },
  is.1,
)

-- one more name
pub one_more : {A : Type 0} (name : A → List ℕ) (forms : List A) (at : ℕ) (default : A) → at < length forms → map name (take (at + 1) forms) ≡ map name (take at forms) ++ (name (slice_index_or forms at default) ∷ [])
one_more name forms at default below = rw add-one (ap (map name) (take-suc forms at default below) ∙ map-append name (take at forms) (slice_index_or forms at default ∷ []))

-- without the edits
pub without_edits : (word : List ℕ) (names : List (List ℕ)) (most : ℕ) (found : Option (List ℕ × ℕ)) → FindsNear word names most found → FindsName word names most (option_map (λ f. f.0) found)
without_edits word names most None is = is
without_edits word names most (Some found) is = (found.1, is.0, is.1)

-- a line that is a label, and one that is none
label_begins : (line : List ℕ) → BeginsLabel line → begins_label line ≡ true
label_begins line is = ap begins_label is.1

pub with_label_name : (line : List ℕ) (names : List (List ℕ)) → BeginsLabel line → with_name line names ≡ names ++ label_name line ∷ []
with_label_name line names is = rw (label_begins line is) refl

-- one line more
pub names_more : (count : ℕ) (text : List ℕ) → label_names (suc count) text ≡ with_name (first_line (after_lines count text)) (label_names count text)
names_more count text = ap (map (λ label. label_name label.1)) (labels_more count 1 text) ∙ by (begins_label (first_line (after_lines count text)))
  where
    by : (test : Bool) → map (λ label. label_name label.1) (if test then labels_in count 1 text ++ (1 + count, first_line (after_lines count text)) ∷ [] else labels_in count 1 text)
        ≡ (if test then label_names count text ++ label_name (first_line (after_lines count text)) ∷ [] else label_names count text)
    by true = map-append (λ (label : ℕ × List ℕ). label_name label.1) (labels_in count 1 text) ((1 + count, first_line (after_lines count text)) ∷ [])
    by false = refl

-- the lines before those that are left were looked at
pub record SoughtNear (word text : List ℕ) (nearest : Option (List ℕ × ℕ)) (left : List ℕ) : Type 0 where
  pub count : ℕ
  pub found : FindsNear word (label_names count text) 5 nearest
  pub behind : left ≡ after_lines count text
