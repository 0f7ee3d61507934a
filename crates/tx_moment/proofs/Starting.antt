-- Before a transaction begins all steps are those of others; and its steps, put after all others, leave what the history leaves.
use Rattle.std.proofs.Common.{◌≡◌, inl, inr, ℕ, Bool, true, false, not, ◌&&◌, List, [], ◌∷◌, Some, None, if◌then◌else◌, ◌==◌, refl, sym, ap, ◌∙◌, subst, eq-eqb, eqb-true}
use Rattle.std.proofs.lemmas.Bool.{both_ways, not-true}
use Rattle.tx_base.specs.declared.steps.Accepted.{Accepted}
use Rattle.tx_model.specs.State.{State, Object}
use Rattle.tx_model.specs.StateLaws.{put_cases, state_ext, EqualAt}
use Rattle.tx_model.specs.Events.{process_of, run}
use Rattle.tx_model.specs.Membership.{Table, is_of, is_live, is_member_of, Progress, Continues, Parks, Forks, Begins, Role, Outside, Within, Commits, Aborts, parked_mark, defers_in, new_mark, mark_unless_of, marks_after}
use Rattle.tx_model.specs.History.{Starters, table_of, role_in, event_of, without}
use Rattle.tx_model.specs.Words.{starters_with}
use Rattle.tx_model.specs.View.{View, view}
use Rattle.tx_model.specs.Answer.{Lawful}
use Rattle.tx_laws.specs.Fits.{Fits, FitsWithin, ProgressFits}
use Rattle.tx_laws.specs.OneMoment.{Parted, with_own, with_other, parted, begins_it, is_step_of, is_silent, tells_moment}
use Rattle.tx_laws.specs.Sound.{IsSound}
use Rattle.tx_laws.specs.WellFormed.{IsWellFormed}
use Rattle.tx_laws.specs.WellFormedTable.{HoldsNothing}
use Rattle.tx_laws.proofs.Tables.{of_parked, of_unmarked, of_none}
use Rattle.tx_moment.specs.Laws.{MomentLaws}
use Rattle.tx_moment.proofs.OtherMarks.{unmarked_other}
use Rattle.tx_moment.proofs.OwnEvents.{AreOwnEvents}
use Rattle.tx_moment.proofs.OwnTables.{IsOwnRun, events_over}
use Rattle.tx_moment.proofs.Putting.{IsPut, OwnReplies, put_own, put_other}
use Rattle.tx_moment.proofs.StepsOfOthers.{unless}
use Rattle.tx_moment.proofs.StepsOfOwn.{silent_step, begins_silent}

-- what the first step of a transaction is
begin_role : (s : ℕ) (r : Role) → begins_it s r ≡ true → (defers : Bool) × (r ≡ Within s (Begins defers))
begin_role s Outside h = cc
begin_role s (Within u Continues) h = cc
begin_role s (Within u Parks) h = cc
begin_role s (Within u (Forks c)) h = cc
begin_role s (Within u (Begins defers)) h = (defers, ap (λ (n : ℕ). Within n (Begins defers)) (eqb-true u s h))
begin_role s (Commits u) h = cc
begin_role s (Aborts u status) h = cc

-- a step of a transaction that ends it leaves it not live
own_role : (s p : ℕ) (t : Table) (r : Role) → is_step_of s r ≡ true → is_of s (marks_after r p t.marks s) ≡ true → (part : Progress) × (r ≡ Within s part)
own_role s p t Outside h live = cc
own_role s p t (Within u part) h live = (part, ap (λ (n : ℕ). Within n part) (eqb-true u s h))
own_role s p t (Commits u) h live = absurd (both_ways (is_of s (mark_unless_of u (t.marks s))) (of_unmarked s u (t.marks s) ∙ rw (eq-eqb s u (sym (eqb-true u s h))) refl) live)
own_role s p t (Aborts u status) h live = absurd (both_ways (is_of s (mark_unless_of u (t.marks s))) (of_unmarked s u (t.marks s) ∙ rw (eq-eqb s u (sym (eqb-true u s h))) refl) live)

-- a step of another makes no transaction of s live
live_before : (s p : ℕ) (t : Table) (r : Role) → is_step_of s r ≡ false → is_of s (marks_after r p t.marks s) ≡ true → is_of s (t.marks s) ≡ true
live_before s p t Outside h live = live
live_before s p t (Within u Continues) h live = live
live_before s p t (Within u Parks) h live = elim (put_cases t.marks p (parked_mark (t.marks p)) s) [
  | inl e ↦ ap (λ (n : ℕ). is_of s (t.marks n)) e.0 ∙ sym (of_parked s (t.marks p)) ∙ sym (ap (is_of s) e.1) ∙ live
  | inr e ↦ sym (ap (is_of s) e.1) ∙ live
]
live_before s p t (Within u (Forks c)) h live = elim (put_cases t.marks c (Some (new_mark u (defers_in (t.marks u)))) s) [
  | inl e ↦ absurd (both_ways (u == s) h (sym (ap (is_of s) e.1) ∙ live))
  | inr e ↦ sym (ap (is_of s) e.1) ∙ live
]
live_before s p t (Within u (Begins defers)) h live = elim (put_cases t.marks u (Some (new_mark u defers)) s) [
  | inl e ↦ absurd (both_ways (u == s) h (sym (ap (is_of s) e.1) ∙ live))
  | inr e ↦ sym (ap (is_of s) e.1) ∙ live
]
live_before s p t (Commits u) h live = by (s == u) (sym (of_unmarked s u (t.marks s)) ∙ live)
  where
    by : (b : Bool) → (if b then false else is_of s (t.marks s)) ≡ true → is_of s (t.marks s) ≡ true
    by true k = cc
    by false k = k
live_before s p t (Aborts u status) h live = by (s == u) (sym (of_unmarked s u (t.marks s)) ∙ live)
  where
    by : (b : Bool) → (if b then false else is_of s (t.marks s)) ≡ true → is_of s (t.marks s) ≡ true
    by true k = cc
    by false k = k

pub both : (x y : Bool) → (x && y) ≡ true → (x ≡ true) × (y ≡ true)
both true y h = (refl, h)
both false y h = cc

module _ (laws : MomentLaws) (S : State) (form : IsWellFormed S) (nothing : HoldsNothing S) (s : ℕ) where
  -- where s is live in no transaction, nothing is its
  unreserved_at : (V : View) → IsSound V → is_live V.table s ≡ false → (X : Starters) (o : Object) → EqualAt (V.without X) (V.without (starters_with s X)) o
  unreserved_at V sound gone X o = (sound.coherent X (starters_with s X) o (λ u k. spared u k)).equal
    where
      apart : (u : ℕ) → V.reserved u o ≡ true → (u == s) ≡ false
      apart u k = unless (u == s) (λ same. both_ways (is_live V.table s) gone (subst (λ (n : ℕ). is_live V.table n ≡ true) (eqb-true u s same) (sound.owned_live u o k)))

      spared : (u : ℕ) → V.reserved u o ≡ true → X u ≡ starters_with s X u
      spared u k = rw (apart u k) refl

  module _ (h : List Accepted) (lawful : Lawful S h) (unmarked_s : (table_of S h).marks s ≡ None) where
    gone : is_live (table_of S h) s ≡ false
    gone = of_none s ((table_of S h).marks s) unmarked_s

    same_without : (X : Starters) → without S X h ≡ without S (starters_with s X) h
    unfolding view
    same_without X =
        let sound : IsSound (view S h) = laws.sound S h lawful in
        state_ext (without S X h) (without S (starters_with s X) h) (sound.width X ∙ sym (sound.width (starters_with s X))) (unreserved_at (view S h) sound gone X)

    none_of : (n : ℕ) → is_of s ((table_of S h).marks n) ≡ false
    unfolding view
    none_of n =
        let sound : IsSound (view S h) = laws.sound S h lawful in
        unless (is_of s ((table_of S h).marks n)) (λ k. both_ways (is_live (table_of S h) s) gone (sound.owned_live s (Object.Proc n) (sound.own_procs s n k)))

    put_nothing : IsPut S s [] h h
    unfolding IsOwnRun events_over run AreOwnEvents OwnReplies
    put_nothing = record {
      others_table = λ i. record { width = (table_of S h).width; marks = λ n. sym (unmarked_other s ((table_of S h).marks n) (none_of n)) i };
      table = refl;
      lacks = record { none = none_of; starter = unmarked_s };
      own_run = tt;
      others_left = λ X kept. same_without X;
      left = λ X kept. sym (same_without X);
      events = λ X kept. tt;
      replies = λ X kept. tt;
      others_agree = λ X kept. laws.agree S h lawful X;
    }

  within_fits : (e : Accepted) (h : List Accepted) → Lawful S (e ∷ h) → (part : Progress) → role_in S e h ≡ Within s part → FitsWithin s part (event_of S e h) (process_of e.step) (view S h)
  within_fits e h lawful part is = subst (λ (r : Role). Fits r (event_of S e h) (process_of e.step) (view S h)) is (laws.fit S e h lawful).1

  -- the first step
  put_first : (e : Accepted) (h : List Accepted) → Lawful S (e ∷ h) → begins_it s (role_in S e h) ≡ true → IsPut S s (e ∷ []) h (e ∷ h)
  unfolding Lawful view
  put_first e h lawful begins =
      let first = begin_role s (role_in S e h) begins in
      let fits = (within_fits e h lawful (Begins first.0) first.1).progress_fits in
      put_own laws S form nothing s e h [] h lawful (Begins first.0) first.1 (begins_silent S s e h first.0 first.1)
      (put_nothing h lawful.0 (subst (λ (n : ℕ). (table_of S h).marks n ≡ None) (sym fits.0) fits.1))

  -- the transaction was live before a step of it that is not its first
  live_within : (e : Accepted) (h : List Accepted) → Lawful S (e ∷ h) → (part : Progress) → role_in S e h ≡ Within s part → begins_it s (role_in S e h) ≡ false → is_live (table_of S h) s ≡ true
  unfolding Lawful view
  live_within e h lawful part is later = by part is (within_fits e h lawful part is).progress_fits
    where
      member : is_member_of (table_of S h) s (process_of e.step) ≡ true → is_live (table_of S h) s ≡ true
      member k = let sound : IsSound (view S h) = laws.sound S h lawful.0 in sound.owned_live s (Object.Proc (process_of e.step)) (sound.own_procs s (process_of e.step) k)

      by : (x : Progress) → role_in S e h ≡ Within s x → ProgressFits (view S h) s (process_of e.step) (event_of S e h) x → is_live (table_of S h) s ≡ true
      by Continues k fits = member fits
      by Parks k fits = member fits
      by (Forks c) k fits = member fits.0
      by (Begins defers) k fits = absurd (both_ways (begins_it s (role_in S e h)) later (ap (begins_it s) k ∙ eq-eqb s s refl))

  -- the steps of a live transaction that told nothing of its moment can be put after all others
  pub put_last : (h : List Accepted) → Lawful S h → is_live (table_of S h) s ≡ true → is_silent S s h ≡ true → IsPut S s (parted S s h).own (parted S s h).others h
  unfolding Lawful table_of is_silent parted
  put_last [] lawful live silent = cc
  put_last (e ∷ h) lawful live silent = by (begins_it s (role_in S e h)) (is_step_of s (role_in S e h)) refl refl silent (put_last h lawful.0)
    where
      parts : Bool → Bool → Parted
      parts b c = if b then record { own = e ∷ []; others = h } else (if c then with_own e (parted S s h) else with_other e (parted S s h))

      told : Bool → Bool → Bool
      told b c = if b then true else (if c then not (tells_moment S s e h) && is_silent S s h else is_silent S s h)

      by : (b c : Bool) → begins_it s (role_in S e h) ≡ b → is_step_of s (role_in S e h) ≡ c → told b c ≡ true
          → (is_live (table_of S h) s ≡ true → is_silent S s h ≡ true → IsPut S s (parted S s h).own (parted S s h).others h) → IsPut S s (parts b c).own (parts b c).others (e ∷ h)
      by true c x y k before = put_first e h lawful x
      by false true x y k before =
          let own = own_role s (process_of e.step) (table_of S h) (role_in S e h) y live in
          let quiet = both (not (tells_moment S s e h)) (is_silent S s h) k in
          put_own laws S form nothing s e h (parted S s h).own (parted S s h).others lawful own.0 own.1 (silent_step S s e h own.0 own.1 (not-true (tells_moment S s e h) quiet.0))
          (before (live_within e h lawful own.0 own.1 x) quiet.1)
      by false false x y k before =
          let lived : is_live (table_of S h) s ≡ true = live_before s (process_of e.step) (table_of S h) (role_in S e h) y live in
          put_other laws S form nothing s e h (parted S s h).own (parted S s h).others lawful lived y (before lived k)
