-- The labels among the lines of a text, one after another.
use Rattle.std.proofs.Common.{◌≡◌, ◌≢◌, ◌∙◌, ℕ, zero, suc, ◌+◌, ◌-◌, ◌<◌, ◌≤◌, Bool, true, false, if◌then◌else◌, List, [], ◌∷◌, ◌++◌, drop, get_or, length, map, inl, inr, refl, ap, arith, subst, sym}
use Rattle.std.proofs.lemmas.Bool.{both_ways, cases_lt}
use Rattle.std.proofs.lemmas.List.{drop_more}
use Rattle.tx_check.proofs.Growing.{past_first}
use Rattle.tx_check.specs.Labels.{label_at, labels_in, with_label}
use Rattle.tx_check.specs.Numbered.{after_lines, behind, line_at}
use Rattle.tx_check.specs.Contexts.{begins_label}
use Rattle.tx_check.specs.declared.labels.LabelLine.{LabelLine}
use Rattle.tx_lines.specs.Programs.{label_front}
use Rattle.tx_lines.specs.Schedule.{first_line}
use Rattle.tx_translate.specs.MeantLines.{line_of}

-- one more line is searched
more_by : (test : Bool) (number last : ℕ) (first line : List ℕ) (labels : List (ℕ × List ℕ)) →
    (if test then (number, first) ∷ with_label last line labels else with_label last line labels) ≡ with_label last line (if test then (number, first) ∷ labels else labels)
more_by false number last first line labels = refl
more_by true number last first line labels = by (begins_label line)
  where
    by : (is : Bool) → (number, first) ∷ (if is then labels ++ (last, line) ∷ [] else labels) ≡ (if is then (number, first) ∷ (labels ++ (last, line) ∷ []) else (number, first) ∷ labels)
    by true = refl
    by false = refl

pub labels_more : (count number : ℕ) (text : List ℕ) → labels_in (suc count) number text ≡ with_label (number + count) (first_line (after_lines count text)) (labels_in count number text)
labels_more zero number text =
    let here : number ≡ number + 0 = omega arith in
    ap (λ (n : ℕ). with_label n (first_line text) []) here
labels_more (suc count) number text =
    let line = first_line (after_lines count (behind text)) in
    let later : List (ℕ × List ℕ) = labels_in count (number + 1) (behind text) in
    let last : number + 1 + count ≡ number + suc count = omega arith in
    let same : line ≡ first_line (after_lines (suc count) text) = ap first_line (sym (past_first count text)) in
    ap (λ (labels : List (ℕ × List ℕ)). if begins_label (first_line text) then (number, first_line text) ∷ labels else labels) (labels_more count (number + 1) (behind text))
    ∙ more_by (begins_label (first_line text)) number (number + 1 + count) (first_line text) line later
    ∙ ap (λ (n : ℕ). with_label n line (labels_in (suc count) number text)) last
    ∙ ap (λ (l : List ℕ). with_label (number + suc count) l (labels_in (suc count) number text)) same

-- the lines before some are no label of that name, and these labels are those of the lines from there on
pub record SoughtTo (text : List ℕ) (all : ℕ) (name : List ℕ) (labels : List (ℕ × List ℕ)) : Type 0 where
  pub count : ℕ
  pub more : ℕ
  pub whole : count + more ≡ all
  pub left : labels ≡ labels_in more (count + 1) (after_lines count text)
  pub none : (k : ℕ) → k < count → first_line (after_lines k text) ≢ label_front ++ name

-- a label that comes next
pub record IsNextLabel (text : List ℕ) (all : ℕ) (name : List ℕ) (number : ℕ) (line : List ℕ) (labels : List (ℕ × List ℕ)) : Type 0 where
  pub some : 1 ≤ number
  pub at : line ≡ first_line (after_lines (number - 1) text)
  pub none : (k : ℕ) → k < number - 1 → first_line (after_lines k text) ≢ label_front ++ name
  pub rest : line ≢ label_front ++ name → SoughtTo text all name labels

no_label : (line name : List ℕ) → begins_label line ≡ false → line ≢ label_front ++ name
no_label line name other same = both_ways (begins_label line) other (ap begins_label same)

none_more : (text name : List ℕ) (count : ℕ) → ((k : ℕ) → k < count → first_line (after_lines k text) ≢ label_front ++ name) → first_line (after_lines count text) ≢ label_front ++ name →
    (k : ℕ) → k < suc count → first_line (after_lines k text) ≢ label_front ++ name
none_more text name count none other k below =
    elim (cases_lt k count) [
      | inl before ↦ none k before
      | inr over ↦
          let here : count ≡ k = omega (arith, below, over) in
          subst (λ (n : ℕ). first_line (after_lines n text) ≢ label_front ++ name) here other
    ]

-- a line is no label, and the others are sought among those after it
one_less : (text : List ℕ) (all : ℕ) (name : List ℕ) (labels : List (ℕ × List ℕ)) (count more : ℕ) → count + suc more ≡ all → labels ≡ labels_in more (count + 1 + 1) (after_lines (suc count) text) →
    ((k : ℕ) → k < count → first_line (after_lines k text) ≢ label_front ++ name) → first_line (after_lines count text) ≢ label_front ++ name → SoughtTo text all name labels
one_less text all name labels count more whole left none other =
    let next : count + 1 + 1 ≡ suc count + 1 = omega arith in
    record {
      count = suc count;
      more = more;
      whole = omega (arith, whole);
      left = left ∙ ap (λ (n : ℕ). labels_in more n (after_lines (suc count) text)) next;
      none = none_more text name count none other;
    }

next_by : (text : List ℕ) (all : ℕ) (name : List ℕ) (number : ℕ) (line : List ℕ) (labels : List (ℕ × List ℕ)) (count more : ℕ) (test : Bool) → begins_label (first_line (after_lines count text)) ≡ test →
    (number, line) ∷ labels ≡ (if test then (count + 1, first_line (after_lines count text)) ∷ labels_in more (count + 1 + 1) (after_lines (suc count) text) else labels_in more (count + 1 + 1) (after_lines (suc count) text)) → count + suc more ≡ all →
    ((k : ℕ) → k < count → first_line (after_lines k text) ≢ label_front ++ name) →
    ((number, line) ∷ labels ≡ labels_in more (count + 1 + 1) (after_lines (suc count) text) → first_line (after_lines count text) ≢ label_front ++ name → IsNextLabel text all name number line labels) → IsNextLabel text all name number line labels
next_by text all name number line labels count more true is same whole none on =
    let first : (number, line) ≡ (count + 1, first_line (after_lines count text)) = cc in
    let at : number ≡ count + 1 = ap (λ (label : ℕ × List ℕ). label.0) first in
    let here : line ≡ first_line (after_lines count text) = ap (λ (label : ℕ × List ℕ). label.1) first in
    let rest : labels ≡ labels_in more (count + 1 + 1) (after_lines (suc count) text) = cc in
    let before : count ≡ number - 1 = omega (arith, at) in
    record {
      some = omega (arith, at);
      at = here ∙ ap (λ (n : ℕ). first_line (after_lines n text)) before;
      none = λ k below. none k (omega (arith, below, before));
      rest = λ other. one_less text all name labels count more whole rest none (λ same. other (here ∙ same));
    }
next_by text all name number line labels count more false is same whole none on = on same (no_label (first_line (after_lines count text)) name is)

next_from : (text : List ℕ) (all : ℕ) (name : List ℕ) (number : ℕ) (line : List ℕ) (labels : List (ℕ × List ℕ)) (count more : ℕ) → count + more ≡ all → (number, line) ∷ labels ≡ labels_in more (count + 1) (after_lines count text) →
    ((k : ℕ) → k < count → first_line (after_lines k text) ≢ label_front ++ name) → IsNextLabel text all name number line labels
next_from text all name number line labels count zero whole left none = absurd (cc)
next_from text all name number line labels count (suc more) whole left none =
    let next : count + 1 + 1 ≡ suc count + 1 = omega arith in
    next_by text all name number line labels count more (begins_label (first_line (after_lines count text))) refl left whole none
    (λ same other. next_from text all name number line labels (suc count) more (omega (arith, whole)) (same ∙ ap (λ (n : ℕ). labels_in more n (after_lines (suc count) text)) next) (none_more text name count none other))

pub next_label : (text : List ℕ) (all : ℕ) (name : List ℕ) (number : ℕ) (line : List ℕ) (labels : List (ℕ × List ℕ)) → SoughtTo text all name ((number, line) ∷ labels) → IsNextLabel text all name number line labels
next_label text all name number line labels so = next_from text all name number line labels so.count so.more so.whole so.left so.none

-- no label is left
end_by : (text name : List ℕ) (count more : ℕ) (test : Bool) → begins_label (first_line (after_lines count text)) ≡ test →
    [] ≡ (if test then (count + 1, first_line (after_lines count text)) ∷ labels_in more (count + 1 + 1) (after_lines (suc count) text) else labels_in more (count + 1 + 1) (after_lines (suc count) text)) →
    ([] ≡ labels_in more (count + 1 + 1) (after_lines (suc count) text)) × (first_line (after_lines count text) ≢ label_front ++ name)
end_by text name count more true is same = absurd (cc)
end_by text name count more false is same = (same, no_label (first_line (after_lines count text)) name is)

end_from : (text : List ℕ) (all : ℕ) (name : List ℕ) (count more : ℕ) → count + more ≡ all → [] ≡ labels_in more (count + 1) (after_lines count text) →
    ((k : ℕ) → k < count → first_line (after_lines k text) ≢ label_front ++ name) → (k : ℕ) → k < all → first_line (after_lines k text) ≢ label_front ++ name
end_from text all name count zero whole left none k below = none k (omega (arith, whole, below))
end_from text all name count (suc more) whole left none k below =
    let next : count + 1 + 1 ≡ suc count + 1 = omega arith in
    let end = end_by text name count more (begins_label (first_line (after_lines count text))) refl left in
    end_from text all name (suc count) more (omega (arith, whole)) (end.0 ∙ ap (λ (n : ℕ). labels_in more n (after_lines (suc count) text)) next)
    (none_more text name count none end.1) k below

pub no_label_left : (text : List ℕ) (all : ℕ) (name : List ℕ) → SoughtTo text all name [] → (k : ℕ) → k < all → first_line (after_lines k text) ≢ label_front ++ name
no_label_left text all name so = end_from text all name so.count so.more so.whole so.left so.none

-- the label at a place among those that are known
pub next_known : (text : List ℕ) (all : ℕ) (name : List ℕ) (known : List LabelLine) (at : ℕ) (other : LabelLine) → at < length known → SoughtTo text all name (map label_at (drop at known)) →
    IsNextLabel text all name (get_or known at other).number (line_of (get_or known at other).line) (map label_at (drop (at + 1) known))
next_known text all name known at other inside so =
    next_label text all name (get_or known at other).number (line_of (get_or known at other).line) (map label_at (drop (at + 1) known))
    (subst (λ (labels : List LabelLine). SoughtTo text all name (map label_at labels)) (drop_more known at other inside) so)

nothing_after : (known : List LabelLine) (at : ℕ) → length known ≤ at → drop at known ≡ []
nothing_after [] zero over = refl
nothing_after [] (suc at) over = refl
nothing_after (label ∷ known) zero over = absurd (omega (arith, over))
nothing_after (label ∷ known) (suc at) over = nothing_after known at (omega (arith, over))

pub no_known_left : (text : List ℕ) (all : ℕ) (name : List ℕ) (known : List LabelLine) (at : ℕ) → length known ≤ at → SoughtTo text all name (map label_at (drop at known)) →
    (k : ℕ) → k < all → first_line (after_lines k text) ≢ label_front ++ name
no_known_left text all name known at over so =
    no_label_left text all name (subst (λ (labels : List LabelLine). SoughtTo text all name (map label_at labels)) (nothing_after known at over) so)

-- no line before a label that comes next is that of the name
pub first_named : (text : List ℕ) (all : ℕ) (name : List ℕ) (number : ℕ) (line : List ℕ) (labels : List (ℕ × List ℕ)) → IsNextLabel text all name number line labels →
    (earlier : ℕ) → 1 ≤ earlier → earlier < number → line_at earlier text ≢ label_front ++ name
first_named text all name number line labels next earlier some below = next.none (earlier - 1) (omega (arith, some, below))
