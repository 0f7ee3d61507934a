-- The boxes with which an excerpt begins and ends.
use Rattle.std.proofs.Common.{◌≡◌, ◌∙◌, ◌<◌, ◌≤◌, ◌+◌, ◌-◌, ◌==◌, ◌&&◌, ℕ, zero, suc, Bool, true, false, List, [], ◌∷◌, ◌++◌, map, Option, Some, None, is_none, if◌then◌else◌, refl, sym, ap, ap₂, subst, arith, true≢false, length, drop, add-zero}
use Rattle.std.proofs.lemmas.Bool.{le-ltb, lt-ltb, ne_eqb}
use Rattle.std.proofs.lemmas.List.{length-take, take-append-drop}
use Rattle.std.specs.Prelude.{find, option_map}
use Rattle.tx_base.specs.declared.names.Pid.{Pid}
use Rattle.tx_base.specs.declared.steps.Accepted.{Accepted}
use Rattle.tx_base.specs.declared.steps.Step.{Step}
use Rattle.tx_model.specs.Answer.{answer}
use Rattle.tx_model.specs.Schedules.{history_of, history_with}
use Rattle.tx_model.specs.State.{State}
use Rattle.tx_model.specs.View.{view}
use Rattle.tx_picture.proofs.OpenBoxes.{closed_cons, open_cons}
use Rattle.tx_picture.specs.Boxes.{box_at_top, is_at_top, open_box, ExcerptsBeginWithMembers, ExcerptsEndWithMembers, OpenBoxesAreOfMembers}
use Rattle.tx_picture.specs.Drawings.{drawing_of, drawn_from, drawn_with, ending, first_drawn, members}
use Rattle.tx_picture.specs.Drawn.{Drawn}
use Rattle.tx_picture.specs.Excerpts.{before_in, end_after, is_span_after, made_for, reaches_past, span_after, spans_after, steps_before}
use Rattle.tx_picture.specs.Spans.{begun, begun_upto, ended_by, followed_upto, has_open, is_open_at, opened}
use Rattle.tx_picture.specs.declared.spans.End.{End}
use Rattle.tx_picture.specs.declared.spans.Span.{Span}
use Rattle.tx_script.specs.Report.{start_of, start_state}

-- Open boxes

none_kept : (b : ℕ) (end : Option End) → is_none (option_map (end_after b) end) ≡ is_none end
none_kept b None = refl
none_kept b (Some end) = refl

same_open : (b p : ℕ) (span : Span) → is_open_at p (span_after b span) ≡ is_open_at p span
same_open b p span = ap (λ (is_open : Bool). is_open && span.process.0 == p) (none_kept b span.end)

open_reaches : (b : ℕ) (end : Option End) (same : Bool) → (is_none end && same) ≡ true → reaches_past b end ≡ true
open_reaches b None same is = refl
open_reaches b (Some end) same is = absurd (true≢false (sym is))

after_in : (b : ℕ) (span : Span) (spans : List Span) → is_span_after b span ≡ true → spans_after b (span ∷ spans) ≡ span_after b span ∷ spans_after b spans
after_in b span spans e = rw e refl

after_out : (b : ℕ) (span : Span) (spans : List Span) → is_span_after b span ≡ false → spans_after b (span ∷ spans) ≡ spans_after b spans
after_out b span spans e = rw e refl

-- what is open stays in an excerpt, and no more is open there
open_kept : (b p : ℕ) (spans : List Span) → open_box p (spans_after b spans) ≡ open_box p spans
open_kept b p [] = refl
open_kept b p (span ∷ spans) = by (is_open_at p span) (is_span_after b span) refl refl (open_kept b p spans)
  where
    by : (is_open after : Bool) → is_open_at p span ≡ is_open → is_span_after b span ≡ after → open_box p (spans_after b spans) ≡ open_box p spans
        → open_box p (spans_after b (span ∷ spans)) ≡ open_box p (span ∷ spans)
    by true true e f rest =
        ap (open_box p) (after_in b span spans f) ∙ open_cons p (span_after b span) (spans_after b spans) (same_open b p span ∙ e) ∙ sym (open_cons p span spans e)
    by true false e f rest = absurd (true≢false (sym (open_reaches b span.end (span.process.0 == p) e) ∙ f))
    by false true e f rest =
        ap (open_box p) (after_in b span spans f) ∙ closed_cons p (span_after b span) (spans_after b spans) (same_open b p span ∙ e) ∙ rest ∙ sym (closed_cons p span spans e)
    by false false e f rest = ap (open_box p) (after_out b span spans f) ∙ rest ∙ sym (closed_cons p span spans e)

-- Boxes at the top edge

-- whether a stretch of process p begins in so many rows, or before, and reaches past them
abbrev is_over : ℕ → ℕ → Span → Bool
is_over b p span = is_span_after b span && is_at_top p (span_after b span)

abbrev over : ℕ → ℕ → List Span → Option Pid
over b p spans = option_map (λ span. span.holder) (find (is_over b p) spans)

over_cons : (b p : ℕ) (span : Span) (spans : List Span) → is_over b p span ≡ true → over b p (span ∷ spans) ≡ Some span.holder
over_cons b p span spans e = rw e refl

under_cons : (b p : ℕ) (span : Span) (spans : List Span) → is_over b p span ≡ false → over b p (span ∷ spans) ≡ over b p spans
under_cons b p span spans e = rw e refl

top_cons : (p : ℕ) (span : Span) (spans : List Span) → is_at_top p span ≡ true → box_at_top p (span ∷ spans) ≡ Some span.holder
top_cons p span spans e = rw e refl

below_cons : (p : ℕ) (span : Span) (spans : List Span) → is_at_top p span ≡ false → box_at_top p (span ∷ spans) ≡ box_at_top p spans
below_cons p span spans e = rw e refl

at_top : (b p : ℕ) (spans : List Span) → box_at_top p (spans_after b spans) ≡ over b p spans
at_top b p [] = refl
at_top b p (span ∷ spans) = by (is_span_after b span) (is_at_top p (span_after b span)) refl refl (at_top b p spans)
  where
    by : (after top : Bool) → is_span_after b span ≡ after → is_at_top p (span_after b span) ≡ top → box_at_top p (spans_after b spans) ≡ over b p spans
        → box_at_top p (spans_after b (span ∷ spans)) ≡ over b p (span ∷ spans)
    by true true e f rest =
        ap (box_at_top p) (after_in b span spans e) ∙ top_cons p (span_after b span) (spans_after b spans) f
        ∙ sym (over_cons b p span spans (ap (λ (c : Bool). c && is_at_top p (span_after b span)) e ∙ f))
    by true false e f rest =
        ap (box_at_top p) (after_in b span spans e) ∙ below_cons p (span_after b span) (spans_after b spans) f ∙ rest
        ∙ sym (under_cons b p span spans (ap (λ (c : Bool). c && is_at_top p (span_after b span)) e ∙ f))
    by false top e f rest =
        ap (box_at_top p) (after_out b span spans e) ∙ rest ∙ sym (under_cons b p span spans (ap (λ (c : Bool). c && is_at_top p (span_after b span)) e))

-- Steps after so many rows leave them as they are

none_reaches : (b : ℕ) (end : Option End) → is_none end ≡ true → reaches_past b end ≡ true
none_reaches b None is = refl
none_reaches b (Some end) is = absurd (true≢false (sym is))

left_of_and : (a c : Bool) → (a && c) ≡ true → a ≡ true
left_of_and true c is = refl
left_of_and false c is = absurd (true≢false (sym is))

module _ (b p : ℕ) where
  ends_over : (span : Span) (end : End) → b < end.row → is_none span.end ≡ true → is_over b p (record span { end = Some end }) ≡ is_over b p span
  ends_over span end far none =
      let top = is_at_top p (span_after b span) in
      ap (λ (c : Bool). c && top) (lt-ltb b end.row far ∙ sym (none_reaches b span.end none))

  ended_over : (holders : ℕ → Option Pid) (end : End) (span : Span) → b < end.row
      → (is_over b p (ended_by holders end span) ≡ is_over b p span) × ((ended_by holders end span).holder ≡ span.holder)
  ended_over holders end span far = by (is_none span.end && is_none (holders span.process.0)) refl
    where
      by : (ends : Bool) → (is_none span.end && is_none (holders span.process.0)) ≡ ends
          → (is_over b p (if ends then record span { end = Some end } else span) ≡ is_over b p span) × ((if ends then record span { end = Some end } else span).holder ≡ span.holder)
      by true e = (ends_over span end far (left_of_and (is_none span.end) (is_none (holders span.process.0)) e), refl)
      by false e = (refl, refl)

  all_ended_over : (holders : ℕ → Option Pid) (end : End) (spans : List Span) → b < end.row → over b p (map (ended_by holders end) spans) ≡ over b p spans
  all_ended_over holders end [] far = refl
  all_ended_over holders end (span ∷ spans) far = by (is_over b p span) refl (ended_over holders end span far) (all_ended_over holders end spans far)
    where
      more : List Span
      more = map (ended_by holders end) spans

      by : (is : Bool) → is_over b p span ≡ is → (is_over b p (ended_by holders end span) ≡ is_over b p span) × ((ended_by holders end span).holder ≡ span.holder)
          → over b p (map (ended_by holders end) spans) ≡ over b p spans → over b p (ended_by holders end span ∷ map (ended_by holders end) spans) ≡ over b p (span ∷ spans)
      by true e same rest =
          over_cons b p (ended_by holders end span) (map (ended_by holders end) spans) (same.0 ∙ e) ∙ ap (λ (h : Pid). Some h) same.1 ∙ sym (over_cons b p span spans e)
      by false e same rest =
          under_cons b p (ended_by holders end span) (map (ended_by holders end) spans) (same.0 ∙ e) ∙ rest ∙ sym (under_cons b p span spans e)

  later_under : (q : ℕ) (holder : Pid) (row : ℕ) → b < row → is_over b p (opened q holder row) ≡ false
  later_under q holder row far = ap (λ (c : Bool). c && q == p) (ne_eqb (row - b) 0 (λ same. omega (arith, same, far)))

  added_over : (q : ℕ) (holder : Pid) (row : ℕ) (spans : List Span) → b < row → over b p (spans ++ opened q holder row ∷ []) ≡ over b p spans
  added_over q holder row [] far = under_cons b p (opened q holder row) [] (later_under q holder row far)
  added_over q holder row (span ∷ spans) far = by (is_over b p span) refl (added_over q holder row spans far)
    where
      by : (is : Bool) → is_over b p span ≡ is → over b p (spans ++ opened q holder row ∷ []) ≡ over b p spans → over b p (span ∷ (spans ++ opened q holder row ∷ [])) ≡ over b p (span ∷ spans)
      by true e rest = over_cons b p span (spans ++ opened q holder row ∷ []) e ∙ sym (over_cons b p span spans e)
      by false e rest = under_cons b p span (spans ++ opened q holder row ∷ []) e ∙ rest ∙ sym (under_cons b p span spans e)

  begun_over : (q : ℕ) (holder : Option Pid) (row : ℕ) (spans : List Span) → b < row → over b p (begun q holder row spans) ≡ over b p spans
  begun_over q None row spans far = refl
  begun_over q (Some t) row spans far = by (has_open q spans)
    where
      by : (has : Bool) → over b p (if has then spans else spans ++ opened q t row ∷ []) ≡ over b p spans
      by true = refl
      by false = added_over q t row spans far

  all_begun_over : (holders : ℕ → Option Pid) (row n : ℕ) (spans : List Span) → b < row → over b p (begun_upto holders row n spans) ≡ over b p spans
  unfolding begun_upto
  all_begun_over holders row zero spans far = refl
  all_begun_over holders row (suc n) spans far =
      begun_over (suc n) (holders (suc n)) row (begun_upto holders row n spans) far ∙ all_begun_over holders row n spans far

  followed_over : (holders : ℕ → Option Pid) (end : End) (n : ℕ) (spans : List Span) → b < end.row → over b p (followed_upto holders end n spans) ≡ over b p spans
  followed_over holders end n spans far = all_begun_over holders end.row n (map (ended_by holders end) spans) far ∙ all_ended_over holders end spans far

  drawn_over : (start : State) (h : List Accepted) (steps : List Step) (row : ℕ) (drawn : Drawn) → b < row
      → over b p (drawn_from start h steps row drawn).strips ≡ over b p drawn.strips
  unfolding drawn_from
  drawn_over start h [] row drawn far = refl
  drawn_over start h (step ∷ steps) row drawn far =
      let V = view start h in
      let later = history_with h step (answer V step) in
      let W = view start later in
      drawn_over start later steps (row + 1) (drawn_with V step row W drawn) (omega (arith, far))
      ∙ followed_over (members W) (ending V step row) W.table.width drawn.strips far

-- After so many rows those that reach past them are open

abbrev EndsUpto : ℕ → Option End → Type 0
EndsUpto b None = Unit {0}
EndsUpto b (Some end) = end.row ≤ b

abbrev AreUpto : ℕ → List Span → Type 0
AreUpto b [] = Unit {0}
AreUpto b (span ∷ spans) = (span.from ≤ b) × EndsUpto b span.end × AreUpto b spans

open_or_before : (b : ℕ) (end : Option End) → EndsUpto b end → reaches_past b end ≡ is_none end
open_or_before b None is = refl
open_or_before b (Some end) is = le-ltb b end.row is

same_test : (b p : ℕ) (span : Span) → span.from ≤ b → EndsUpto b span.end → is_over b p span ≡ is_open_at p span
same_test b p span begins ends =
    let top : span.from - b ≡ 0 = omega (arith, begins) in
    ap₂ (λ (c : Bool) (n : ℕ). c && (n == 0 && span.process.0 == p)) (open_or_before b span.end ends) top

over_is_open : (b p : ℕ) (spans : List Span) → AreUpto b spans → over b p spans ≡ open_box p spans
over_is_open b p [] are = refl
over_is_open b p (span ∷ spans) are = by (is_open_at p span) refl (same_test b p span are.0 are.1) (over_is_open b p spans are.2)
  where
    by : (is_open : Bool) → is_open_at p span ≡ is_open → is_over b p span ≡ is_open_at p span → over b p spans ≡ open_box p spans → over b p (span ∷ spans) ≡ open_box p (span ∷ spans)
    by true e same rest = over_cons b p span spans (same ∙ e) ∙ sym (open_cons p span spans e)
    by false e same rest = under_cons b p span spans (same ∙ e) ∙ rest ∙ sym (closed_cons p span spans e)

ends_more : (b c : ℕ) (end : Option End) → b ≤ c → EndsUpto b end → EndsUpto c end
ends_more b c None less ends = tt
ends_more b c (Some end) less ends = omega (arith, less, ends)

ended_upto : (b : ℕ) (holders : ℕ → Option Pid) (end : End) (spans : List Span) → b ≤ end.row → AreUpto b spans → AreUpto end.row (map (ended_by holders end) spans)
ended_upto b holders end [] less are = tt
ended_upto b holders end (span ∷ spans) less are =
    let one = by (is_none span.end && is_none (holders span.process.0)) in (one.0, one.1, ended_upto b holders end spans less are.2)
  where
    by : (ends : Bool) → ((if ends then record span { end = Some end } else span).from ≤ end.row) × EndsUpto end.row (if ends then record span { end = Some end } else span).end
    by true = (omega (arith, less, are.0), omega arith)
    by false = (omega (arith, less, are.0), ends_more b end.row span.end less are.1)

added_upto : (b q : ℕ) (holder : Pid) (spans : List Span) → AreUpto b spans → AreUpto b (spans ++ opened q holder b ∷ [])
added_upto b q holder [] are = (omega arith, tt, tt)
added_upto b q holder (span ∷ spans) are = (are.0, are.1, added_upto b q holder spans are.2)

begun_one_upto : (b q : ℕ) (holder : Option Pid) (spans : List Span) → AreUpto b spans → AreUpto b (begun q holder b spans)
begun_one_upto b q None spans are = are
begun_one_upto b q (Some t) spans are = by (has_open q spans)
  where
    by : (has : Bool) → AreUpto b (if has then spans else spans ++ opened q t b ∷ [])
    by true = are
    by false = added_upto b q t spans are

begun_all_upto : (b : ℕ) (holders : ℕ → Option Pid) (n : ℕ) (spans : List Span) → AreUpto b spans → AreUpto b (begun_upto holders b n spans)
unfolding begun_upto
begun_all_upto b holders zero spans are = are
begun_all_upto b holders (suc n) spans are = begun_one_upto b (suc n) (holders (suc n)) (begun_upto holders b n spans) (begun_all_upto b holders n spans are)

followed_are_upto : (b : ℕ) (holders : ℕ → Option Pid) (end : End) (n : ℕ) (spans : List Span) → b ≤ end.row → AreUpto b spans → AreUpto end.row (followed_upto holders end n spans)
followed_are_upto b holders end n spans less are = begun_all_upto end.row holders n (map (ended_by holders end) spans) (ended_upto b holders end spans less are)

drawn_upto : (start : State) (h : List Accepted) (steps : List Step) (b : ℕ) (drawn : Drawn) → AreUpto b drawn.strips → AreUpto (b + length steps) (drawn_from start h steps (b + 1) drawn).strips
unfolding drawn_from
drawn_upto start h [] b drawn are = subst (λ (n : ℕ). AreUpto n drawn.strips) (sym (add-zero b)) are
drawn_upto start h (step ∷ steps) b drawn are =
    let V = view start h in
    let later = history_with h step (answer V step) in
    let W = view start later in
    let more = drawn_with V step (b + 1) W drawn in
    let same : b + 1 + length steps ≡ b + suc (length steps) = omega arith in
    subst (λ (n : ℕ). AreUpto n (drawn_from start later steps (b + 1 + 1) more).strips) same
    (drawn_upto start later steps (b + 1) more (followed_are_upto b (members W) (ending V step (b + 1)) W.table.width drawn.strips (omega arith) are))

-- An excerpt

drawn_split : (start : State) (h : List Accepted) (xs ys : List Step) (row : ℕ) (drawn : Drawn)
    → drawn_from start h (xs ++ ys) row drawn ≡ drawn_from start (history_of start h xs) ys (row + length xs) (drawn_from start h xs row drawn)
unfolding drawn_from history_of
drawn_split start h [] ys row drawn = ap (λ (n : ℕ). drawn_from start h ys n drawn) (sym (add-zero row))
drawn_split start h (step ∷ xs) ys row drawn =
    let V = view start h in
    let later = history_with h step (answer V step) in
    let more = drawn_with V step row (view start later) drawn in
    let same : row + 1 + length xs ≡ row + suc (length xs) = omega arith in
    drawn_split start later xs ys (row + 1) more ∙ ap (λ (n : ℕ). drawn_from start (history_of start later xs) ys n (drawn_from start later xs (row + 1) more)) same

pub excerpts_begin_with_members : OpenBoxesAreOfMembers → ExcerptsBeginWithMembers
excerpts_begin_with_members boxes excerpt header steps p low high =
    let start = start_state header in
    let made = made_for excerpt steps in
    let b = before_in excerpt steps in
    let before = steps_before excerpt steps in
    let first = first_drawn (start_of header) in
    let there = drawn_from start [] before 1 first in
    let long : length before ≡ b = length-take b made ∙ omega arith in
    let sum : 0 + length before ≡ b = omega (arith, long) in
    let split : drawing_of header made ≡ drawn_from start (history_of start [] before) (drop b made) (1 + length before) there =
    ap (λ (xs : List Step). drawn_from start [] xs 1 first) (sym (take-append-drop b made)) ∙ drawn_split start [] before (drop b made) 1 first in
    at_top b p (drawing_of header made).strips
    ∙ ap (λ (drawn : Drawn). over b p drawn.strips) split
    ∙ drawn_over b p start (history_of start [] before) (drop b made) (1 + length before) there (omega (arith, long))
    ∙ over_is_open b p there.strips (subst (λ (n : ℕ). AreUpto n there.strips) sum (drawn_upto start [] before 0 first tt))
    ∙ boxes header before p low high

pub excerpts_end_with_members : OpenBoxesAreOfMembers → ExcerptsEndWithMembers
excerpts_end_with_members boxes excerpt header steps p low high =
    open_kept (before_in excerpt steps) p (drawing_of header (made_for excerpt steps)).strips ∙ boxes header (made_for excerpt steps) p low high
