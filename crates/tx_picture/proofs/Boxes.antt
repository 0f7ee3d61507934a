-- How a step changes who is a member of which transaction.
use Rattle.std.proofs.Common.{◌≡◌, ◌⊎◌, ℕ, Bool, true, false, Option, Some, None, option_map, if◌then◌else◌, ◌==◌, refl, sym, ap, ◌∙◌, subst, inl, inr, eqb-true, eq-eqb}
use Rattle.tx_base.specs.declared.marks.Mark.{Mark}
use Rattle.tx_base.specs.declared.names.Pid.{Pid}
use Rattle.tx_base.specs.declared.steps.Refusal.{Refusal}
use Rattle.tx_base.specs.declared.steps.Reply.{Reply}
use Rattle.tx_base.specs.declared.steps.Reply.TheVariants.{Aborted, No}
use Rattle.tx_base.specs.declared.steps.Step.{Step}
use Rattle.tx_base.specs.declared.steps.Step.TheVariants.{Call as Calls, Deliver, KernelAbort}
use Rattle.tx_laws.specs.Fits.{Fits, Passes}
use Rattle.tx_laws.specs.Footprints.{ClearIsOfMembers}
use Rattle.tx_laws.specs.Laws.{AcceptedStepsFit}
use Rattle.tx_laws.specs.Sound.{IsSound}
use Rattle.tx_model.specs.Answer.{answer, accepted_reply, plain_reply, refusal, IsAccepted}
use Rattle.tx_model.specs.Events.{Event, actor, effect, objects, process_of, reply_of}
use Rattle.tx_model.specs.History.{event_footprint, targets}
use Rattle.tx_model.specs.Membership.{is_live, is_member_of, is_of, Role, Outside, Within, Commits, Aborts, Continues, Parks, Forks, Begins, defers_in, event_in, mark_unless_of, marks_after, new_mark, parked_mark, step_event}
use Rattle.tx_model.specs.ObjectFacts.{has_left}
use Rattle.tx_model.specs.State.{Proc, has_object, put_at}
use Rattle.tx_model.specs.StateLaws.{put_cases, put_here}
use Rattle.tx_model.specs.View.{View, abort_status, event_on, first_reply, kernel_status, next, present, role_on}
use Rattle.tx_model.specs.Words.{IsClear, unless_refused}
use Rattle.tx_picture.specs.Boxes.{Changes, Ends, EndedHaveNoMembers, JoinersAreMembers, MembersChange, aborts, begins, commits, forks}
use Rattle.tx_picture.specs.Drawings.{is_abort, members}

abbrev starter_in : Option Mark → Option Pid
starter_in mark = option_map (λ m. m.starter) mark

-- An accepted step is answered by its role

unrefused : (o : Option Refusal) (reply : Reply) → IsAccepted (unless_refused o reply) → unless_refused o reply ≡ reply
unrefused None reply accepted = refl
unrefused (Some why) reply accepted = absurd accepted

live_only : (live : Bool) (reply : Reply) (why : Refusal) → IsAccepted (if live then reply else No why) → (if live then reply else No why) ≡ reply
live_only true reply why accepted = refl
live_only false reply why accepted = absurd accepted

is_answered : (V : View) (step : Step) → IsAccepted (answer V step) → answer V step ≡ accepted_reply V step
unfolding answer
is_answered V (KernelAbort s) accepted = live_only (is_live V.table s.0) (Aborted (kernel_status V s.0)) _ accepted
is_answered V (Calls pid call) accepted = unrefused (refusal V (process_of (Calls pid call)) (Calls pid call)) (accepted_reply V (Calls pid call)) accepted
is_answered V (Deliver pid signo) accepted = unrefused (refusal V (process_of (Deliver pid signo)) (Deliver pid signo)) (accepted_reply V (Deliver pid signo)) accepted

abbrev reply_by : View → Step → Role → Reply
reply_by V step role = plain_reply (abort_status V step) role (event_in role (step_event V.table step (first_reply V step))) (present V)

commit_reply : (V : View) (step : Step) (s : ℕ) → IsAccepted (answer V step) → role_on V step ≡ Commits s → Ends V step s false
unfolding reply_of effect
commit_reply V step s accepted is = commits _ is (is_answered V step accepted ∙ ap (reply_by V step) is)

abort_reply : (V : View) (step : Step) (s status : ℕ) → IsAccepted (answer V step) → role_on V step ≡ Aborts s status → Ends V step s true
abort_reply V step s status accepted is = aborts status (abort_status V step) is (is_answered V step accepted ∙ ap (reply_by V step) is)

-- Marks

abbrev number_or : ℕ → Option Pid → ℕ
number_or n None = n
number_or n (Some pid) = pid.0

kept_starter : (x : Option Mark) → starter_in (parked_mark x) ≡ starter_in x
kept_starter None = refl
kept_starter (Some m) = refl

-- a mark of the transaction of s goes, another one stays
unmarked : (s : ℕ) (x : Option Mark) → (mark_unless_of s x ≡ x) ⊎ ((starter_in x ≡ Some (record { 0 = s })) × (mark_unless_of s x ≡ None))
unmarked s None = inl refl
unmarked s (Some m) = by (m.starter.0 == s) refl
  where
    by : (b : Bool) → (m.starter.0 == s) ≡ b → ((if b then None else Some m) ≡ Some m) ⊎ ((Some m.starter ≡ Some (record { 0 = s })) × ((if b then None else Some m) ≡ None))
    by true e = inr (ap (λ (n : ℕ). Some (record { 0 = n })) (eqb-true m.starter.0 s e), refl)
    by false e = inl refl

module _ (V : View) (step : Step) (p : ℕ) where
  unchanged : (x : Option Pid) → Changes V step p x x
  unchanged None = tt
  unchanged (Some s) = refl

  same : (before after : Option Pid) → after ≡ before → Changes V step p before after
  same before after e = subst (Changes V step p before) (sym e) (unchanged before)

  ended : (s : ℕ) (x : Option Mark) → Ends V step s (is_abort (role_on V step)) → Changes V step p (starter_in x) (starter_in (mark_unless_of s x))
  ended s x ends = elim (unmarked s x) [
    | inl stays ↦ same (starter_in x) (starter_in (mark_unless_of s x)) (ap starter_in stays)
    | inr goes ↦ subst (Changes V step p (starter_in x)) (sym (ap starter_in goes.1)) (subst (λ (before : Option Pid). Changes V step p before None) (sym goes.0) ends)
  ]

  -- a child that is made a member is none of another transaction
  forked : (s : ℕ) (x : Option Mark) → ((m : Mark) → x ≡ Some m → m.starter.0 ≡ s) → role_on V step ≡ Within s (Forks p) → Changes V step p (starter_in x) (Some (record { 0 = s }))
  forked s None mine is = forks is
  forked s (Some m) mine is = ap {B = Pid} (λ (n : ℕ). record { 0 = n }) (sym (mine m refl))

module _ (V : View) (step : Step) (p : ℕ) (sound : IsSound V) (clear_members : ClearIsOfMembers) (accepted : IsAccepted (answer V step)) where
  -- who had reserved a number that the event names has its maker as a member
  owned : (s c : ℕ) (ev : Event) → IsClear V ev → ((t : ℕ) → is_member_of V.table t (actor ev) ≡ true → t ≡ s) → has_object (Proc c) (objects ev (present V)) ≡ true
      → (m : Mark) → V.table.marks c ≡ Some m → m.starter.0 ≡ s
  unfolding event_footprint
  owned s c ev clear mine named m is =
      mine m.starter.0
      (clear_members V ev (Proc c) m.starter.0 sound clear (has_left (Proc c) (objects ev (present V)) (targets V.table (actor ev) (effect ev (present V)).sends) named)
      (sound.own_procs m.starter.0 c (ap (is_of m.starter.0) is ∙ eq-eqb m.starter.0 m.starter.0 refl)))

  by_role : (r : Role) (ev : Event) → role_on V step ≡ r → Passes r ev V → Fits r ev (process_of step) V
      → Changes V step p (members V p) (starter_in (marks_after r (process_of step) V.table.marks p))
  by_role Outside ev is passes fits = unchanged V step p (members V p)
  by_role (Within s Continues) ev is passes fits = unchanged V step p (members V p)
  by_role (Within s Parks) ev is passes fits = elim (put_cases V.table.marks (process_of step) (parked_mark (V.table.marks (process_of step))) p) [
    | inl here ↦ same V step p (members V p) _ (ap starter_in here.1 ∙ kept_starter (V.table.marks (process_of step)) ∙ sym (ap (members V) here.0))
    | inr there ↦ same V step p (members V p) _ (ap starter_in there.1)
  ]
  by_role (Within s (Forks c)) ev is passes fits =
      let mark : Option Mark = Some (new_mark s (defers_in (V.table.marks s))) in
      elim (put_cases V.table.marks c mark p) [
        | inl here ↦
            subst (Changes V step p (members V p)) (sym (ap starter_in here.1))
            (forked V step p s (V.table.marks p)
            (owned s p ev passes (λ t member. fits.mine t (subst (λ (q : ℕ). is_member_of V.table t q ≡ true) fits.actor_is member)) (subst (λ (n : ℕ). has_object (Proc n) (objects ev (present V)) ≡ true) (sym here.0) fits.progress_fits.1))
            (subst (λ (n : ℕ). role_on V step ≡ Within s (Forks n)) (sym here.0) is))
        | inr there ↦ same V step p (members V p) _ (ap starter_in there.1)
      ]
  by_role (Within s (Begins defers)) ev is passes fits =
      let own : s ≡ process_of step = fits.progress_fits.0 in
      elim (put_cases V.table.marks s (Some (new_mark s defers)) p) [
        | inl here ↦
            subst (Changes V step p (members V p)) (sym (ap starter_in here.1))
            (subst (λ (before : Option Pid). Changes V step p before (Some (record { 0 = s }))) (sym (ap (members V) (here.0 ∙ own) ∙ ap starter_in fits.progress_fits.1))
            (begins defers is (here.0 ∙ own) (sym here.0)))
        | inr there ↦ same V step p (members V p) _ (ap starter_in there.1)
      ]
  by_role (Commits s) ev is passes fits = ended V step p s (V.table.marks p) (subst (Ends V step s) (sym (ap is_abort is)) (commit_reply V step s accepted is))
  by_role (Aborts s status) ev is passes fits = ended V step p s (V.table.marks p) (subst (Ends V step s) (sym (ap is_abort is)) (abort_reply V step s status accepted is))

pub members_change : AcceptedStepsFit → ClearIsOfMembers → MembersChange
unfolding next
members_change accepted_fit clear_members V step p sound accepted =
    let fit = accepted_fit V step sound accepted in
    by_role V step p sound clear_members accepted (role_on V step) (event_on V step) refl fit.0 fit.1

after_role : (V : View) (step : Step) (p : ℕ) (r : Role) → role_on V step ≡ r → members (next V step) p ≡ starter_in (marks_after r (process_of step) V.table.marks p)
unfolding next
after_role V step p r is = ap (λ (role : Role). starter_in (marks_after role (process_of step) V.table.marks p)) is

pub joiners_are_members : JoinersAreMembers
joiners_are_members V step s p (begins defers is own same) =
    after_role V step p (Within s (Begins defers)) is
    ∙ ap (λ (n : ℕ). starter_in (put_at V.table.marks s (Some (new_mark s defers)) n)) (sym same) ∙ ap starter_in (put_here V.table.marks s (Some (new_mark s defers)))
joiners_are_members V step s p (forks is) = after_role V step p (Within s (Forks p)) is ∙ ap starter_in (put_here V.table.marks p (Some (new_mark s (defers_in (V.table.marks s)))))

none_left : (s : ℕ) (x : Option Mark) → starter_in x ≡ Some (record { 0 = s }) → starter_in (mark_unless_of s x) ≡ None
none_left s None is = refl
none_left s (Some m) is = rw (eq-eqb m.starter.0 s (ap (number_or 0) is)) refl

pub ended_have_no_members : EndedHaveNoMembers
ended_have_no_members V step s p aborted (commits undelivered is reported) member = after_role V step p (Commits s) is ∙ none_left s (V.table.marks p) member
ended_have_no_members V step s p aborted (aborts status reported is answered) member = after_role V step p (Aborts s status) is ∙ none_left s (V.table.marks p) member
