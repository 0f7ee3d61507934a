-- The history of a live transaction that tells nothing of its moment: its steps can be put after all others.
use Rattle.std.proofs.Common.{◌≡◌, inl, inr, ℕ, Bool, true, false, not, List, [], ◌∷◌, ◌++◌, Option, Some, None, if◌then◌else◌, ◌==◌, refl, sym, ap, ap₂, ◌∙◌, subst, eq-eqb}
use Rattle.std.proofs.lemmas.Bool.{cases_Bool}
use Rattle.tx_base.specs.declared.marks.Mark.{Mark}
use Rattle.tx_base.specs.declared.steps.Accepted.{Accepted}
use Rattle.tx_base.specs.declared.steps.Step.{Step}
use Rattle.tx_base.specs.declared.steps.Step.TheVariants.{Call as Calls, Deliver, KernelAbort}
use Rattle.tx_model.specs.State.{State, Object, Proc, has_object}
use Rattle.tx_model.specs.StateLaws.{put_cases}
use Rattle.tx_model.specs.Events.{Event, process_of, after, reply_of, run}
use Rattle.tx_model.specs.Membership.{Table, is_of, is_live, Progress, Continues, Parks, Forks, Begins, Role, Outside, Within, Commits, Aborts, new_mark, mark_unless_of, marks_after, table_after, role, event, parked_mark, defers_in, status_in}
use Rattle.tx_model.specs.History.{Starters, nobody, just, table_of, role_in, event_of, left_out_before, is_left_in, survivors, without, event_footprint, objects_reserved, reserved_of, reserved_after}
use Rattle.tx_model.specs.Words.{event_if, after_if, starters_with}
use Rattle.tx_model.specs.View.{view, abort_status, kernel_status, has_pending}
use Rattle.tx_model.specs.SignalSets.{kill_signo}
use Rattle.tx_base.specs.declared.limits.TheConstants.{ABORTED_BY_KERNEL, ABORTED_DOOMED}
use Rattle.tx_model.specs.Answer.{plain_reply, Lawful, AgreesWithout}
use Rattle.tx_laws.specs.OneMoment.{is_step_of}
use Rattle.tx_laws.proofs.Coherence.{reserved_old}
use Rattle.tx_laws.specs.WellFormed.{IsWellFormed}
use Rattle.tx_laws.specs.WellFormedTable.{HoldsNothing}
use Rattle.tx_laws.proofs.Tables.{eq_comm, of_parked, of_unmarked}
use Rattle.tx_moment.proofs.Alike.{step_alike}
use Rattle.tx_moment.proofs.Marks.{without_marks, ActorFits, actor_fits}
use Rattle.tx_moment.specs.Laws.{MomentLaws}
use Rattle.tx_moment.proofs.OtherMarks.{unmarked_other, unmarked_own, IsOther, lacks_after, own_kept, none_given, without_alike}
use Rattle.tx_moment.proofs.OwnEvents.{AreOwnEvents, IsOwnEvent, PassesOwn, SameReplies}
use Rattle.tx_moment.proofs.OwnTables.{IsOwnRun, events_over, LacksMarks, SameOwn, SameRun, same_run, own_rest, none_there, self}
use Rattle.tx_moment.proofs.Passing.{passes_own}
use Rattle.tx_moment.proofs.StepsOfOthers.{left_out_with, stays_with, still_in, actor_other, is_other, aborts_live, spared_part, passes}
use Rattle.tx_moment.proofs.StepsOfOwn.{TellsNothing, own_step_event, own_step_reply, IsFree, forked_free}

-- each reply is that of its event, those before it made
unfoldable pub OwnReplies : List Accepted → List Event → State → Type 0
OwnReplies [] evs Q = Unit {0}
OwnReplies (e ∷ L) [] Q = ⊥
OwnReplies (e ∷ L) (ev ∷ evs) Q = (e.reply ≡ reply_of ev (run Q evs)) × OwnReplies L evs Q

-- the steps of the transaction of s that is live after a history, and those of others: made after these, its steps leave what the history leaves
pub record IsPut (S : State) (s : ℕ) (own others h : List Accepted) : Type 0 where
  pub others_table : table_of S others ≡ without_marks s (table_of S h)
  pub table : table_of S (own ++ others) ≡ table_of S h
  pub lacks : LacksMarks s (table_of S others)
  pub own_run : IsOwnRun S s own others
  pub others_left : (X : Starters) → X s ≡ false → without S X others ≡ without S (starters_with s X) h
  pub left : (X : Starters) → X s ≡ false → run (without S (starters_with s X) h) (events_over S own others) ≡ without S X h
  pub events : (X : Starters) → X s ≡ false → AreOwnEvents (reserved_of S h s) s (events_over S own others) (without S (starters_with s X) h)
  pub replies : (X : Starters) → X s ≡ false → OwnReplies own (events_over S own others) (without S (starters_with s X) h)
  pub others_agree : (X : Starters) → X s ≡ false → AgreesWithout S X others

run_placed : (S : State) (b : Bool) (ev : Event) (evs : List Event) → run S (event_if b ev evs) ≡ after_if b ev (run S evs)
unfolding run
run_placed S true ev evs = refl
run_placed S false ev evs = refl

-- the state without some, after one more entry
pub without_more : (S : State) (e : Accepted) (h : List Accepted) (X : Starters) →
    without S X (e ∷ h) ≡ after_if (is_left_in (role_in S e h) X) (event_of S e h) (without S (left_out_before (role_in S e h) X) h)
unfolding without survivors
without_more S e h X = run_placed S (is_left_in (role_in S e h) X) (event_of S e h) (survivors S (left_out_before (role_in S e h) X) h)

with_self : (s : ℕ) (X : Starters) → starters_with s X s ≡ true
with_self s X = rw (eq-eqb s s refl) refl

-- a step of the transaction leaves the state without it as it is
pub own_unseen : (S : State) (s : ℕ) (e : Accepted) (h : List Accepted) (part : Progress) → role_in S e h ≡ Within s part → (X : Starters) → without S (starters_with s X) (e ∷ h) ≡ without S (starters_with s X) h
own_unseen S s e h part is X =
    without_more S e h (starters_with s X)
    ∙ ap (λ (r : Role). after_if (is_left_in r (starters_with s X)) (event_of S e h) (without S (left_out_before r (starters_with s X)) h)) is
    ∙ ap (λ (b : Bool). after_if (not b) (event_of S e h) (without S (starters_with s X) h)) (with_self s X)

-- and is made in a state with it
pub own_made : (S : State) (s : ℕ) (e : Accepted) (h : List Accepted) (part : Progress) → role_in S e h ≡ Within s part → (X : Starters) → X s ≡ false → without S X (e ∷ h) ≡ after (event_of S e h) (without S X h)
own_made S s e h part is X kept =
    without_more S e h X
    ∙ ap (λ (r : Role). after_if (is_left_in r X) (event_of S e h) (without S (left_out_before r X) h)) is
    ∙ ap (λ (b : Bool). after_if (not b) (event_of S e h) (without S X h)) kept

-- what was reserved stays reserved by a step within the transaction
reserved_more : (S : State) (s : ℕ) (e : Accepted) (h : List Accepted) (part : Progress) → role_in S e h ≡ Within s part → (o : Object) → reserved_of S h s o ≡ true → reserved_of S (e ∷ h) s o ≡ true
unfolding reserved_of
reserved_more S s e h part is o t =
    subst (λ (r : Role). reserved_after r (event_footprint (table_of S h) (event_of S e h) (without S nobody h)) (reserved_of S h) s o ≡ true) (sym is)
    (reserved_old s s (has_object o (objects_reserved part s (event_footprint (table_of S h) (event_of S e h) (without S nobody h)))) (reserved_of S h s o) t)

-- events of the transaction by one test are so by a wider one
more_events : (T U : Object → Bool) (s : ℕ) → ((o : Object) → T o ≡ true → U o ≡ true) → (evs : List Event) (Q : State) → AreOwnEvents T s evs Q → AreOwnEvents U s evs Q
unfolding AreOwnEvents
more_events T U s wider [] Q own = tt
more_events T U s wider (ev ∷ evs) Q own = (
  record {
    names = λ o k. wider o (own.0.names o k);
    sends = λ m i. wider (Proc m.target) (own.0.sends m i);
    unsent = own.0.unsent;
    overlooks = own.0.overlooks;
    there = own.0.there;
  },
  more_events T U s wider evs Q own.1,
)

-- replies that are those on one state are so on another where each event has the same
same_replies : (L : List Accepted) (evs : List Event) (Q R : State) → OwnReplies L evs Q → SameReplies evs Q R → OwnReplies L evs R
unfolding OwnReplies SameReplies
same_replies [] evs Q R own same = tt
same_replies (e ∷ L) [] Q R own same = absurd own
same_replies (e ∷ L) (ev ∷ evs) Q R own same = (own.0 ∙ same.0, same_replies L evs Q R own.1 same.1)

-- a step within the transaction leaves the marks of others
rest_kept : (s p : ℕ) (t : Table) (part : Progress) → ActorFits s p (t.marks p) part → IsFree s part t → (n : ℕ) → mark_unless_of s (marks_after (Within s part) p t.marks n) ≡ mark_unless_of s (t.marks n)
rest_kept s p t Continues fits free n = refl
rest_kept s p t Parks fits free n = elim (put_cases t.marks p (parked_mark (t.marks p)) n) [
  | inl e ↦
      ap (mark_unless_of s) e.1 ∙ unmarked_own s (parked_mark (t.marks p)) (of_parked s (t.marks p) ∙ fits)
      ∙ sym (unmarked_own s (t.marks n) (subst (λ (k : ℕ). is_of s (t.marks k) ≡ true) (sym e.0) fits))
  | inr e ↦ ap (mark_unless_of s) e.1
]
rest_kept s p t (Forks c) fits free n = elim (put_cases t.marks c (Some (new_mark s (defers_in (t.marks s)))) n) [
  | inl e ↦
      ap (mark_unless_of s) e.1 ∙ unmarked_own s (Some (new_mark s (defers_in (t.marks s)))) (self s)
      ∙ sym (subst (λ (k : ℕ). mark_unless_of s (t.marks k) ≡ None) (sym e.0) free)
  | inr e ↦ ap (mark_unless_of s) e.1
]
rest_kept s p t (Begins defers) fits free n = elim (put_cases t.marks s (Some (new_mark s defers)) n) [
  | inl e ↦
      ap (mark_unless_of s) e.1 ∙ unmarked_own s (Some (new_mark s defers)) (self s)
      ∙ sym (ap (mark_unless_of s) (subst (λ (k : ℕ). t.marks k ≡ None) (fits.0 ∙ sym e.0) (none_there (t.marks p) fits.1)))
  | inr e ↦ ap (mark_unless_of s) e.1
]

-- what was reserved stays reserved by a step of another
reserved_by : (r : Role) (F : List Object) (reserved : ℕ → Object → Bool) (s : ℕ) (o : Object) → is_step_of s r ≡ false → reserved s o ≡ true → reserved_after r F reserved s o ≡ true
reserved_by Outside F reserved s o other k = k
reserved_by (Within u part) F reserved s o other k = rw (eq_comm s u ∙ other) k
reserved_by (Commits u) F reserved s o other k = rw (eq_comm s u ∙ other) k
reserved_by (Aborts u status) F reserved s o other k = rw (eq_comm s u ∙ other) k

-- the status of the kernel's abort, by the starter without its transaction
pub same_kernel : (S : State) (one two : List Accepted) (u : ℕ) → (without S (just u) one).procs u ≡ (without S (just u) two).procs u → kernel_status (view S one) u ≡ kernel_status (view S two) u
unfolding view
same_kernel S one two u e = ap (λ x. if has_pending kill_signo x then ABORTED_DOOMED else ABORTED_BY_KERNEL) e

module _ (laws : MomentLaws) (S : State) (form : IsWellFormed S) (nothing : HoldsNothing S) (s : ℕ) where
  -- one more step of the transaction
  module _ (e : Accepted) (h own others : List Accepted) (lawful : Lawful S (e ∷ h)) (part : Progress) (is : role_in S e h ≡ Within s part) (quiet : TellsNothing S s e h) (put : IsPut S s own others h) where
    same_role : role_in S e (own ++ others) ≡ Within s part
    same_role = ap (λ (t : Table). role t e.step e.reply) put.table ∙ is

    same_event : event_of S e (own ++ others) ≡ event_of S e h
    same_event = ap (λ (t : Table). event t e.step e.reply) put.table

    abbrev evs : List Event
    evs = events_over S own others

    aside : (X : Starters) → without S (starters_with s X) h ≡ without S (starters_with s X) (e ∷ h)
    aside X = sym (own_unseen S s e h part is X)

    own_others_table : table_of S others ≡ without_marks s (table_of S (e ∷ h))
    unfolding table_of
    own_others_table =
        put.others_table
        ∙ (λ i. record {
          width = (table_of S h).width;
          marks = λ n. sym (rest_kept s (process_of e.step) (table_of S h) part (actor_fits (table_of S h) e.step e.reply s part is) (forked_free laws S form nothing s e h lawful part is) n) i;
        })
        ∙ ap (λ (r : Role). without_marks s (table_after r (process_of e.step) (table_of S h))) (sym is)

    own_table : table_of S (e ∷ own ++ others) ≡ table_of S (e ∷ h)
    unfolding table_of
    own_table = ap (λ (t : Table). table_after (role t e.step e.reply) (process_of e.step) t) put.table

    own_left : (X : Starters) → X s ≡ false → run (without S (starters_with s X) (e ∷ h)) (events_over S (e ∷ own) others) ≡ without S X (e ∷ h)
    unfolding run events_over
    own_left X kept =
        ap₂ (λ (ev : Event) (Q : State). after ev (run Q evs)) same_event (sym (aside X))
        ∙ ap (after (event_of S e h)) (put.left X kept) ∙ sym (own_made S s e h part is X kept)

    own_events : (X : Starters) → X s ≡ false → AreOwnEvents (reserved_of S (e ∷ h) s) s (events_over S (e ∷ own) others) (without S (starters_with s X) (e ∷ h))
    unfolding AreOwnEvents events_over
    own_events X kept =
        let T : Object → Bool = reserved_of S (e ∷ h) s in
        let here : IsOwnEvent T s (event_of S e h) (run (without S (starters_with s X) h) evs) =
        subst (λ (Q : State). IsOwnEvent T s (event_of S e h) Q) (sym (put.left X kept)) (own_step_event laws S form nothing s e h lawful part is X kept quiet) in
        let before : AreOwnEvents T s evs (without S (starters_with s X) h) = more_events (reserved_of S h s) T s (reserved_more S s e h part is) evs (without S (starters_with s X) h) (put.events X kept) in
        subst (λ (Q : State). IsOwnEvent T s (event_of S e (own ++ others)) (run Q evs) × AreOwnEvents T s evs Q) (aside X)
        (subst (λ (ev : Event). IsOwnEvent T s ev (run (without S (starters_with s X) h) evs)) (sym same_event) here, before)

    own_replies : (X : Starters) → X s ≡ false → OwnReplies (e ∷ own) (events_over S (e ∷ own) others) (without S (starters_with s X) (e ∷ h))
    unfolding OwnReplies events_over
    own_replies X kept =
        subst (λ (Q : State). (e.reply ≡ reply_of (event_of S e (own ++ others)) (run Q evs)) × OwnReplies own evs Q) (aside X)
        (own_step_reply laws S form nothing s e h lawful part is X kept ∙ ap₂ (λ (ev : Event) (Q : State). reply_of ev Q) (sym same_event) (sym (put.left X kept)), put.replies X kept)

    pub put_own : IsPut S s (e ∷ own) others (e ∷ h)
    unfolding IsOwnRun
    put_own = record {
      others_table = own_others_table;
      table = own_table;
      lacks = put.lacks;
      own_run = ((part, same_role), put.own_run);
      others_left = λ X kept. put.others_left X kept ∙ aside X;
      left = own_left;
      events = own_events;
      replies = own_replies;
      others_agree = put.others_agree;
    }

  -- one more step of another
  module _ (e : Accepted) (h own others : List Accepted) (lawful : Lawful S (e ∷ h)) (live : is_live (table_of S h) s ≡ true) (other : is_step_of s (role_in S e h) ≡ false) (put : IsPut S s own others h) where
    abbrev r : Role
    r = role_in S e h

    abbrev ev : Event
    ev = event_of S e h

    abbrev passed_by : List Event
    passed_by = events_over S own others

    not_of : is_of s ((table_of S h).marks (process_of e.step)) ≡ false
    not_of = actor_other laws S s e h lawful live other

    fits_other : IsOther s r (process_of e.step) (table_of S h)
    fits_other = is_other laws S s e h lawful live other

    same_step : (role_in S e others ≡ r) × (event_of S e others ≡ ev)
    same_step =
        let t : Table = table_of S h in
        let same = step_alike t (without_marks s t) e.step e.reply (sym (unmarked_other s (t.marks (process_of e.step)) not_of))
        (λ x k. without_alike s x.starter.0 t (subst (λ (m : Option Mark). is_of s m ≡ false) k not_of)) in (
          ap (λ (v : Table). role v e.step e.reply) put.others_table ∙ sym same.0,
          ap (λ (v : Table). event v e.step e.reply) put.others_table ∙ sym same.1,
        )

    now_others_table : table_of S (e ∷ others) ≡ without_marks s (table_of S (e ∷ h))
    unfolding table_of
    now_others_table =
        ap₂ (λ (x : Role) (t : Table). table_after x (process_of e.step) t) same_step.0 put.others_table
        ∙ lacks_after s (process_of e.step) (table_of S h) r fits_other

    starter_kept : (table_of S (e ∷ h)).marks s ≡ (table_of S h).marks s
    unfolding table_of
    starter_kept = own_kept s (process_of e.step) (table_of S h) r fits_other s live

    now_lacks : LacksMarks s (table_of S (e ∷ others))
    now_lacks =
        subst (λ (t : Table). LacksMarks s t) (sym now_others_table)
        (record {
          none = λ n. of_unmarked s s ((table_of S (e ∷ h)).marks n) ∙ rw (self s) refl;
          starter = unmarked_own s ((table_of S (e ∷ h)).marks s) (ap (is_of s) starter_kept ∙ live);
        })

    same_widths : (table_of S others).width ≡ (table_of S (e ∷ others)).width
    unfolding table_of
    same_widths = refl

    moved : SameRun S s own others (e ∷ others)
    moved = same_run S s others (e ∷ others) same_widths put.lacks now_lacks own put.own_run

    over : SameOwn s (table_of S h) (table_of S (own ++ e ∷ others))
    over = subst (λ (t : Table). SameOwn s t (table_of S (own ++ e ∷ others))) put.table moved.own

    mark_same : (n : ℕ) → (table_of S (own ++ e ∷ others)).marks n ≡ (table_of S (e ∷ h)).marks n
    unfolding table_of
    mark_same n = elim (cases_Bool (is_of s ((table_of S h).marks n))) [
      | inl k ↦ sym (over.mark n k) ∙ sym (own_kept s (process_of e.step) (table_of S h) r fits_other n k)
      | inr k ↦
          own_rest S s own (e ∷ others) moved.run n (sym (over.of n) ∙ k)
          ∙ ap (λ (t : Table). t.marks n) now_others_table
          ∙ unmarked_other s ((table_of S (e ∷ h)).marks n) (none_given s (process_of e.step) (table_of S h) r fits_other n k)
    ]

    width_same : (table_of S (own ++ e ∷ others)).width ≡ (table_of S (e ∷ h)).width
    unfolding table_of
    width_same = sym over.width

    now_table : table_of S (own ++ e ∷ others) ≡ table_of S (e ∷ h)
    now_table = λ i. record { width = width_same i; marks = λ n. mark_same n i }

    step_aside : (X : Starters) → without S (starters_with s X) (e ∷ h) ≡ after_if (is_left_in r X) ev (without S (starters_with s (left_out_before r X)) h)
    step_aside X =
        without_more S e h (starters_with s X)
        ∙ ap₂ (λ (b : Bool) (Y : Starters). after_if b ev (without S Y h)) (stays_with s r X other) (left_out_with s r X other)

    now_others_left : (X : Starters) → X s ≡ false → without S X (e ∷ others) ≡ without S (starters_with s X) (e ∷ h)
    now_others_left X kept =
        without_more S e others X
        ∙ ap₂ (λ (x : Role) (y : Event). after_if (is_left_in x X) y (without S (left_out_before x X) others)) same_step.0 same_step.1
        ∙ ap (after_if (is_left_in r X) ev) (put.others_left (left_out_before r X) (still_in s r X other kept))
        ∙ sym (step_aside X)

    passed : (X : Starters) → X s ≡ false → is_left_in r X ≡ true → PassesOwn (reserved_of S h s) s ev passed_by (without S (starters_with s (left_out_before r X)) h)
    passed X kept stay =
        let Y : Starters = left_out_before r X in
        let y : Y s ≡ false = still_in s r X other kept in
        passes_own laws.events (reserved_of S h s) s ev passed_by (without S (starters_with s Y) h) (put.events Y y)
        (passes laws S s e h lawful live other X stay passed_by (put.left Y y))

    by_stay : (X : Starters) (P : State → State → Type 0) → (is_left_in r X ≡ true → P (after ev (without S (starters_with s (left_out_before r X)) h)) (after ev (without S (left_out_before r X) h)))
        → (is_left_in r X ≡ false → P (without S (starters_with s (left_out_before r X)) h) (without S (left_out_before r X) h)) → P (without S (starters_with s X) (e ∷ h)) (without S X (e ∷ h))
    by_stay X P made left =
        subst (λ (Q : State). P Q (without S X (e ∷ h))) (sym (step_aside X))
        (subst (λ (Q : State). P (after_if (is_left_in r X) ev (without S (starters_with s (left_out_before r X)) h)) Q) (sym (without_more S e h X)) (by (is_left_in r X) refl))
      where
        by : (b : Bool) → is_left_in r X ≡ b → P (after_if b ev (without S (starters_with s (left_out_before r X)) h)) (after_if b ev (without S (left_out_before r X) h))
        by true k = made k
        by false k = left k

    now_left : (X : Starters) → X s ≡ false → run (without S (starters_with s X) (e ∷ h)) (events_over S own (e ∷ others)) ≡ without S X (e ∷ h)
    now_left X kept =
        let Y : Starters = left_out_before r X in
        let y : Y s ≡ false = still_in s r X other kept in
        ap (run (without S (starters_with s X) (e ∷ h))) (sym moved.events)
        ∙ by_stay X (λ Q R. run Q passed_by ≡ R) (λ stay. (passed X kept stay).state ∙ ap (after ev) (put.left Y y)) (λ stay. put.left Y y)

    reserved_kept : (o : Object) → reserved_of S h s o ≡ true → reserved_of S (e ∷ h) s o ≡ true
    unfolding reserved_of
    reserved_kept o k = reserved_by r (event_footprint (table_of S h) ev (without S nobody h)) (reserved_of S h) s o other k

    now_events : (X : Starters) → X s ≡ false → AreOwnEvents (reserved_of S (e ∷ h) s) s (events_over S own (e ∷ others)) (without S (starters_with s X) (e ∷ h))
    now_events X kept =
        let Y : Starters = left_out_before r X in
        let y : Y s ≡ false = still_in s r X other kept in
        let were : AreOwnEvents (reserved_of S h s) s passed_by (without S (starters_with s X) (e ∷ h)) =
        by_stay X (λ Q R. AreOwnEvents (reserved_of S h s) s passed_by Q) (λ stay. (passed X kept stay).own) (λ stay. put.events Y y) in
        subst (λ (evs : List Event). AreOwnEvents (reserved_of S (e ∷ h) s) s evs (without S (starters_with s X) (e ∷ h))) moved.events
        (more_events (reserved_of S h s) (reserved_of S (e ∷ h) s) s reserved_kept passed_by (without S (starters_with s X) (e ∷ h)) were)

    now_replies : (X : Starters) → X s ≡ false → OwnReplies own (events_over S own (e ∷ others)) (without S (starters_with s X) (e ∷ h))
    now_replies X kept =
        let Y : Starters = left_out_before r X in
        let y : Y s ≡ false = still_in s r X other kept in
        subst (λ (evs : List Event). OwnReplies own evs (without S (starters_with s X) (e ∷ h))) moved.events
        (by_stay X (λ Q R. OwnReplies own passed_by Q) (λ stay. same_replies own passed_by (without S (starters_with s Y) h) (after ev (without S (starters_with s Y) h)) (put.replies Y y) (passed X kept stay).replies)
        (λ stay. put.replies Y y))

    -- whether another transaction is doomed is the same among the others alone
    same_pending : (u : ℕ) → is_live (table_of S h) u ≡ true → (u == s) ≡ false → (without S (just u) others).procs u ≡ (without S (just u) h).procs u
    same_pending u live_u apart =
        let spared : just u s ≡ false = eq_comm s u ∙ apart in
        ap (λ (Q : State). Q.procs u) (put.others_left (just u) spared)
        ∙ spared_part laws S s e h lawful live other u live_u apart

    same_status : abort_status (view S others) e.step ≡ abort_status (view S h) e.step
    same_status = by e.step refl
      where
        by : (step : Step) → e.step ≡ step → abort_status (view S others) step ≡ abort_status (view S h) step
        by (Calls p call) k = refl
        by (Deliver p signo) k = refl
        by (KernelAbort u) k =
            let is : r ≡ Aborts u.0 (status_in e.reply) = ap (λ (step : Step). role (table_of S h) step e.reply) k in
            same_kernel S others h u.0 (same_pending u.0 (aborts_live laws S s e h lawful live other u.0 (status_in e.reply) is) (subst (λ (x : Role). is_step_of s x ≡ false) is other))

    now_agree : (X : Starters) → X s ≡ false → AgreesWithout S X (e ∷ others)
    unfolding AgreesWithout
    now_agree X kept =
        let Y : Starters = left_out_before r X in
        let y : Y s ≡ false = still_in s r X other kept in (
          subst (λ (x : Role). is_left_in x X ≡ true → e.reply ≡ plain_reply (abort_status (view S others) e.step) x (event_of S e others) (without S (left_out_before x X) others)) (sym same_step.0)
              (λ stay.
              (laws.agree S (e ∷ h) lawful (starters_with s X)).0 (stays_with s r X other ∙ stay)
              ∙ ap (λ (Z : Starters). plain_reply (abort_status (view S h) e.step) r ev (without S Z h)) (left_out_with s r X other)
              ∙ ap (λ (Q : State). plain_reply (abort_status (view S h) e.step) r ev Q) (sym (put.others_left Y y))
              ∙ ap₂ (λ (k : ℕ) (x : Event). plain_reply k r x (without S Y others)) (sym same_status) (sym same_step.1)),
          subst (λ (x : Role). AgreesWithout S (left_out_before x X) others) (sym same_step.0) (put.others_agree Y y),
        )

    pub put_other : IsPut S s own (e ∷ others) (e ∷ h)
    put_other = record {
      others_table = now_others_table;
      table = now_table;
      lacks = now_lacks;
      own_run = moved.run;
      others_left = now_others_left;
      left = now_left;
      events = now_events;
      replies = now_replies;
      others_agree = now_agree;
    }
