-- Boxes are open where processes are members.
use Rattle.std.proofs.Common.{◌≡◌, ◌≢◌, ◌<◌, ◌≤◌, ◌+◌, ◌&&◌, ℕ, zero, suc, Bool, true, false, List, [], ◌∷◌, ◌++◌, map, Option, Some, None, is_none, if◌then◌else◌, ◌==◌, refl, sym, ap, ◌∙◌, subst, eqb-true, eq-eqb, arith}
use Rattle.std.proofs.lemmas.Bool.{both_ways}
use Rattle.tx_base.specs.declared.names.Pid.{Pid}
use Rattle.tx_base.specs.declared.steps.Accepted.{Accepted}
use Rattle.tx_base.specs.declared.steps.Reply.{Reply}
use Rattle.tx_base.specs.declared.steps.Reply.TheVariants.{Done, Ended, Committed, Aborted, Out, No}
use Rattle.tx_base.specs.declared.steps.Step.{Step}
use Rattle.tx_laws.specs.Laws.{LawfulViewIsNext, LawfulViewIsSound}
use Rattle.tx_model.specs.Answer.{answer, IsAccepted, Lawful}
use Rattle.tx_model.specs.History.{table_of}
use Rattle.tx_model.specs.Schedules.{history_of, history_with}
use Rattle.tx_model.specs.State.{State}
use Rattle.tx_model.specs.View.{View, next, view}
use Rattle.tx_picture.specs.Boxes.{Changes, MembersChange, open_box, OpenBoxesAreOfMembers}
use Rattle.tx_picture.specs.Drawings.{drawn_from, drawn_with, ending, first_drawn, members}
use Rattle.tx_picture.specs.Drawn.{Drawn}
use Rattle.tx_picture.specs.Spans.{begun, begun_upto, ended_by, followed_upto, has_open, is_open_at, opened}
use Rattle.tx_picture.specs.declared.spans.End.{End}
use Rattle.tx_picture.specs.declared.spans.Span.{Span}
use Rattle.tx_script.specs.Report.{start_state}

-- Ends

and_true : (a b : Bool) → (a && b) ≡ true → (a ≡ true) × (b ≡ true)
and_true true b h = (refl, h)
and_true false b h = absurd (both_ways false refl h)

pub open_cons : (p : ℕ) (span : Span) (spans : List Span) → is_open_at p span ≡ true → open_box p (span ∷ spans) ≡ Some span.holder
open_cons p span spans e = rw e refl

pub closed_cons : (p : ℕ) (span : Span) (spans : List Span) → is_open_at p span ≡ false → open_box p (span ∷ spans) ≡ open_box p spans
closed_cons p span spans e = rw e refl

module _ (holders : ℕ → Option Pid) (end : End) where
  -- what is no open stretch of process p is none after it
  stays_closed : (p : ℕ) (span : Span) → is_open_at p span ≡ false → is_open_at p (ended_by holders end span) ≡ false
  stays_closed p span e = by (is_none span.end && is_none (holders span.process.0))
    where
      by : (b : Bool) → is_open_at p (if b then record span { end = Some end } else span) ≡ false
      by true = refl
      by false = e

  -- an open one ends where the process has no holder, and stays as it was where it has one
  at_open : (p : ℕ) (span : Span) → is_open_at p span ≡ true → ended_by holders end span ≡ (if is_none (holders p) then record span { end = Some end } else span)
  at_open p span e =
      let parts = and_true (is_none span.end) (span.process.0 == p) e in
      let ends : (is_none span.end && is_none (holders span.process.0)) ≡ is_none (holders p) =
      ap (λ (b : Bool). b && is_none (holders span.process.0)) parts.0 ∙ ap (λ (q : ℕ). is_none (holders q)) (eqb-true span.process.0 p parts.1) in
      ap (λ (b : Bool). if b then record span { end = Some end } else span) ends

  closes : (p : ℕ) (span : Span) → is_open_at p span ≡ true → holders p ≡ None → is_open_at p (ended_by holders end span) ≡ false
  closes p span e none =
      ap (is_open_at p) (at_open p span e) ∙ ap (λ (h : Option Pid). is_open_at p (if is_none h then record span { end = Some end } else span)) none

  stays_open : (p : ℕ) (t : Pid) (span : Span) → is_open_at p span ≡ true → holders p ≡ Some t → ended_by holders end span ≡ span
  stays_open p t span e some = at_open p span e ∙ ap (λ (h : Option Pid). if is_none h then record span { end = Some end } else span) some

  ended_none : (p : ℕ) (spans : List Span) → holders p ≡ None → open_box p (map (ended_by holders end) spans) ≡ None
  ended_none p [] none = refl
  ended_none p (span ∷ spans) none =
      closed_cons p (ended_by holders end span) (map (ended_by holders end) spans) (closed (is_open_at p span) refl) ∙ ended_none p spans none
    where
      closed : (b : Bool) → is_open_at p span ≡ b → is_open_at p (ended_by holders end span) ≡ false
      closed true e = closes p span e none
      closed false e = stays_closed p span e

  ended_kept : (p : ℕ) (t : Pid) (spans : List Span) → holders p ≡ Some t → open_box p (map (ended_by holders end) spans) ≡ open_box p spans
  ended_kept p t [] some = refl
  ended_kept p t (span ∷ spans) some = by (is_open_at p span) refl (ended_kept p t spans some)
    where
      by : (b : Bool) → is_open_at p span ≡ b → open_box p (map (ended_by holders end) spans) ≡ open_box p spans
          → open_box p (ended_by holders end span ∷ map (ended_by holders end) spans) ≡ open_box p (span ∷ spans)
      by true e rest =
          ap (λ (s : Span). open_box p (s ∷ map (ended_by holders end) spans)) (stays_open p t span e some) ∙ open_cons p span (map (ended_by holders end) spans) e ∙ sym (open_cons p span spans e)
      by false e rest =
          closed_cons p (ended_by holders end span) (map (ended_by holders end) spans) (stays_closed p span e) ∙ rest ∙ sym (closed_cons p span spans e)

-- Beginnings

or_box : Option Pid → Option Pid → Option Pid
or_box None other = other
or_box (Some holder) other = Some holder

added : (p : ℕ) (spans more : List Span) → open_box p (spans ++ more) ≡ or_box (open_box p spans) (open_box p more)
unfolding or_box
added p [] more = refl
added p (span ∷ spans) more = by (is_open_at p span) refl (added p spans more)
  where
    by : (b : Bool) → is_open_at p span ≡ b → open_box p (spans ++ more) ≡ or_box (open_box p spans) (open_box p more) → open_box p (span ∷ (spans ++ more)) ≡ or_box (open_box p (span ∷ spans)) (open_box p more)
    by true e rest = rw e refl
    by false e rest = rw e rest

open_here : (p : ℕ) (holder : Pid) (row : ℕ) → open_box p (opened p holder row ∷ []) ≡ Some holder
open_here p holder row = rw (eq-eqb p p refl) refl

other_process : (p q : ℕ) → q ≢ p → (q == p) ≡ false
other_process p q ne = by (q == p) refl
  where
    by : (b : Bool) → (q == p) ≡ b → b ≡ false
    by true e = absurd (ne (eqb-true q p e))
    by false e = refl

open_elsewhere : (p q : ℕ) (holder : Pid) (row : ℕ) → q ≢ p → open_box p (opened q holder row ∷ []) ≡ None
open_elsewhere p q holder row ne = rw (other_process p q ne) refl

some_box : Option Pid → Bool
some_box None = false
some_box (Some holder) = true

has_box : (p : ℕ) (spans : List Span) → has_open p spans ≡ some_box (open_box p spans)
unfolding some_box
has_box p [] = refl
has_box p (span ∷ spans) = by (is_open_at p span) refl (has_box p spans)
  where
    by : (b : Bool) → is_open_at p span ≡ b → has_open p spans ≡ some_box (open_box p spans) → has_open p (span ∷ spans) ≡ some_box (open_box p (span ∷ spans))
    by true e rest = rw e refl
    by false e rest = rw e rest

-- where none changes over, the process's own box is of whose member it is now
own : (p : ℕ) (holder before : Option Pid) (row : ℕ) (spans : List Span) → open_box p spans ≡ before → (holder ≡ None → before ≡ None)
    → ((s t : Pid) → before ≡ Some s → holder ≡ Some t → t ≡ s) → open_box p (begun p holder row spans) ≡ holder
unfolding some_box or_box
own p None before row spans is none stays = is ∙ none refl
own p (Some t) None row spans is none stays =
    rw (has_box p spans ∙ ap some_box is) (added p spans (opened p t row ∷ []) ∙ ap (λ (o : Option Pid). or_box o (open_box p (opened p t row ∷ []))) is ∙ open_here p t row)
own p (Some t) (Some s) row spans is none stays = rw (has_box p spans ∙ ap some_box is) (is ∙ ap Some (sym (stays s t refl refl)))

others : (p q : ℕ) (holder : Option Pid) (row : ℕ) (spans : List Span) → q ≢ p → open_box p (begun q holder row spans) ≡ open_box p spans
unfolding or_box
others p q None row spans ne = refl
others p q (Some t) row spans ne = by (has_open q spans)
  where
    none_more : (o : Option Pid) → or_box o None ≡ o
    none_more None = refl
    none_more (Some holder) = refl

    by : (b : Bool) → open_box p (if b then spans else spans ++ opened q t row ∷ []) ≡ open_box p spans
    by true = refl
    by false = added p spans (opened q t row ∷ []) ∙ ap (or_box (open_box p spans)) (open_elsewhere p q t row ne) ∙ none_more (open_box p spans)

-- A step, for all processes

above : (holders : ℕ → Option Pid) (row n p : ℕ) (spans : List Span) → n < p → open_box p (begun_upto holders row n spans) ≡ open_box p spans
unfolding begun_upto
above holders row zero p spans far = refl
above holders row (suc n) p spans far =
    others p (suc n) (holders (suc n)) row (begun_upto holders row n spans) (λ same. omega (arith, same, far)) ∙ above holders row n p spans (omega (arith, far))

begun_within : (holders : ℕ → Option Pid) (row n p : ℕ) (spans : List Span) → 1 ≤ p → p ≤ n → (holders p ≡ None → open_box p spans ≡ None)
    → ((s t : Pid) → open_box p spans ≡ Some s → holders p ≡ Some t → t ≡ s) → open_box p (begun_upto holders row n spans) ≡ holders p
unfolding begun_upto
begun_within holders row zero p spans low high none stays = absurd (omega (arith, low, high))
begun_within holders row (suc n) p spans low high none stays = by (suc n == p) refl (λ fewer. begun_within holders row n p spans low fewer none stays)
  where
    by : (b : Bool) → (suc n == p) ≡ b → (p ≤ n → open_box p (begun_upto holders row n spans) ≡ holders p) → open_box p (begun (suc n) (holders (suc n)) row (begun_upto holders row n spans)) ≡ holders p
    by true e rest =
        let same : suc n ≡ p = eqb-true (suc n) p e in
        subst (λ (k : ℕ). open_box p (begun k (holders k) row (begun_upto holders row n spans)) ≡ holders p) (sym same)
        (own p (holders p) (open_box p spans) row (begun_upto holders row n spans) (above holders row n p spans (omega (arith, same))) none stays)
    by false e rest =
        let other : suc n ≢ p = λ same. both_ways (suc n == p) e (eq-eqb (suc n) p same) in
        others p (suc n) (holders (suc n)) row (begun_upto holders row n spans) other ∙ rest (omega (arith, high, other))

within : (holders : ℕ → Option Pid) (end : End) (n p : ℕ) (spans : List Span) → 1 ≤ p → p ≤ n → ((s t : Pid) → open_box p spans ≡ Some s → holders p ≡ Some t → t ≡ s)
    → open_box p (followed_upto holders end n spans) ≡ holders p
within holders end n p spans low high stays =
    begun_within holders end.row n p (map (ended_by holders end) spans) low high (ended_none holders end p spans)
    (λ s t was now. stays s t (sym (ended_kept holders end p t spans now) ∙ was) now)

-- A schedule

abbrev holder_or : Pid → Option Pid → Pid
holder_or s None = s
holder_or s (Some t) = t

width_kept : (start : State) (h : List Accepted) → (table_of start h).width ≡ start.width
unfolding table_of
width_kept start [] = refl
width_kept start (e ∷ h) = width_kept start h

view_width : (start : State) (h : List Accepted) → (view start h).table.width ≡ start.width
unfolding view
view_width start h = width_kept start h

-- one step more
followed_boxes : (start : State) (V W : View) (step : Step) (row : ℕ) (drawn : Drawn) (p : ℕ) → W.table.width ≡ start.width → 1 ≤ p → p ≤ start.width
    → open_box p drawn.strips ≡ members V p → ((s t : Pid) → members V p ≡ Some s → members W p ≡ Some t → t ≡ s)
    → open_box p (drawn_with V step row W drawn).strips ≡ members W p
followed_boxes start V W step row drawn p wide low high is stays =
    within (members W) (ending V step row) W.table.width p drawn.strips low (subst (λ (n : ℕ). p ≤ n) (sym wide) high) (λ s t before now. stays s t (sym is ∙ before) now)

module _ (start : State) (is_next : LawfulViewIsNext) (is_sound : LawfulViewIsSound) (changes : MembersChange) where
  -- no accepted step moves a member to another transaction
  stays_by : (V : View) (step : Step) (p : ℕ) (before after : Option Pid) → Changes V step p before after → (s t : Pid) → before ≡ Some s → after ≡ Some t → t ≡ s
  stays_by V step p before after change s t was now =
      subst (λ (b : Option Pid). Changes V step p b (Some t)) was (subst (Changes V step p before) now change)

  stays : (h : List Accepted) (step : Step) (reply : Reply) (p : ℕ) → Lawful start h → answer (view start h) step ≡ reply → IsAccepted reply
      → (s t : Pid) → members (view start h) p ≡ Some s → members (view start (record { step = step; reply = reply } ∷ h)) p ≡ Some t → t ≡ s
  unfolding Lawful
  stays h step reply p lawful is accepted s t was now =
      let V = view start h in
      let e : Accepted = record { step = step; reply = reply } in
      stays_by V step p (members V p) (members (next V step) p) (changes V step p (is_sound start h lawful) (subst IsAccepted (sym is) accepted)) s t was
      (sym (ap (λ (W : View). members W p) (is_next start e h (lawful, is, accepted))) ∙ now)

  -- after a step that was answered so the history is lawful, and no member has changed over
  pub record Follows (h later : List Accepted) : Type 0 where
    pub lawful : Lawful start later
    pub stays : (p : ℕ) (s t : Pid) → members (view start h) p ≡ Some s → members (view start later) p ≡ Some t → t ≡ s

  some_same : (p : ℕ) (x : Option Pid) (s t : Pid) → x ≡ Some s → x ≡ Some t → t ≡ s
  some_same p x s t was now = ap (holder_or s) (sym now ∙ was)

  follows : (h : List Accepted) (step : Step) (reply : Reply) → Lawful start h → answer (view start h) step ≡ reply → Follows h (history_with h step reply)
  unfolding Lawful
  follows h step (No why) lawful is = record { lawful = lawful; stays = λ p s t was now. some_same p (members (view start h) p) s t was now }
  follows h step (Done ret) lawful is = record { lawful = (lawful, is, tt); stays = λ p. stays h step (Done ret) p lawful is tt }
  follows h step Ended lawful is = record { lawful = (lawful, is, tt); stays = λ p. stays h step Ended p lawful is tt }
  follows h step (Committed undelivered) lawful is = record { lawful = (lawful, is, tt); stays = λ p. stays h step (Committed undelivered) p lawful is tt }
  follows h step (Aborted status) lawful is = record { lawful = (lawful, is, tt); stays = λ p. stays h step (Aborted status) p lawful is tt }
  follows h step (Out bytes) lawful is = record { lawful = (lawful, is, tt); stays = λ p. stays h step (Out bytes) p lawful is tt }

  drawn_boxes : (h : List Accepted) (steps : List Step) (row : ℕ) (drawn : Drawn) → Lawful start h → ((p : ℕ) → 1 ≤ p → p ≤ start.width → open_box p drawn.strips ≡ members (view start h) p)
      → (p : ℕ) → 1 ≤ p → p ≤ start.width → open_box p (drawn_from start h steps row drawn).strips ≡ members (view start (history_of start h steps)) p
  unfolding drawn_from history_of
  drawn_boxes h [] row drawn lawful so = so
  drawn_boxes h (step ∷ steps) row drawn lawful so =
      let V = view start h in
      let later = history_with h step (answer V step) in
      let next = follows h step (answer V step) lawful refl in
      drawn_boxes later steps (row + 1) (drawn_with V step row (view start later) drawn) next.lawful
      (λ p low high. followed_boxes start V (view start later) step row drawn p (view_width start later) low high (so p low high) (next.stays p))

none_at_first : (start : State) (p : ℕ) → None ≡ members (view start []) p
unfolding view table_of
none_at_first start p = refl

lawful_at_first : (start : State) → Lawful start []
unfolding Lawful
lawful_at_first start = tt

pub open_boxes_are_of_members : LawfulViewIsNext → LawfulViewIsSound → MembersChange → OpenBoxesAreOfMembers
open_boxes_are_of_members is_next is_sound changes header steps =
    let start = start_state header in
    drawn_boxes start is_next is_sound changes [] steps 1 (first_drawn (view start [])) (lawful_at_first start) (λ p low high. none_at_first start p)
