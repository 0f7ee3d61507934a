-- A step that is of another transaction than a live one, or of none.
use Rattle.std.proofs.Common.{◌≡◌, inl, inr, ◌⊎◌, ℕ, Bool, true, false, List, ◌∷◌, ℤ, None, if◌then◌else◌, ◌==◌, refl, sym, ap, ◌∙◌, subst, eq-eqb, eqb-true}
use Rattle.std.proofs.lemmas.Bool.{both_ways, cases_Bool, not-true}
use Rattle.tx_base.specs.declared.steps.Accepted.{Accepted}
use Rattle.tx_model.specs.ObjectFacts.{same_is, has_right}
use Rattle.tx_model.specs.State.{State, Sending, Object, Proc, same_object, has_object}
use Rattle.tx_model.specs.StateLaws.{AgreeOn}
use Rattle.tx_model.specs.Effects.{Effect, send_answers}
use Rattle.tx_model.specs.Events.{Event, Note, process_of, actor, effect, objects, run}
use Rattle.tx_model.specs.Membership.{is_of, is_member_of, is_live, Progress, Continues, Parks, Forks, Begins, Role, Outside, Within, Commits, Aborts}
use Rattle.tx_model.specs.History.{Starters, just, is_other_starter, targets, event_footprint, table_of, role_in, event_of, left_out_before, is_left_in, without, reserved_of}
use Rattle.tx_model.specs.View.{View, view, present}
use Rattle.tx_model.specs.Words.{IsClear, note_effect, starters_with, starters_without}
use Rattle.tx_model.specs.Posts.{post_answers}
use Rattle.tx_model.specs.Answer.{is_running, Lawful}
use Rattle.tx_laws.specs.Fits.{IsIn, IsQuiet, Fits, Passes}
use Rattle.tx_laws.specs.OneMoment.{is_step_of}
use Rattle.tx_laws.specs.Sound.{IsSound}
use Rattle.tx_laws.proofs.Coherence.{clear_foot, in_targets, objects_in, outside_quiet, commits_quiet}
use Rattle.tx_laws.proofs.Tables.{eq_comm, of_unique, of_none}
use Rattle.tx_moment.proofs.Marks.{other_of, not_mine}
use Rattle.tx_moment.specs.Laws.{MomentLaws}
use Rattle.tx_moment.proofs.OtherMarks.{IsOther}
use Rattle.tx_moment.proofs.OwnEvents.{IsOfAnother}

pub unless : (b : Bool) → (b ≡ true → ⊥) → b ≡ false
unless true f = absurd (f refl)
unless false f = refl

other_live : (x y : Bool) → (if x then y else false) ≡ true → x ≡ true
other_live true y h = refl
other_live false y h = h

-- two numbers that are different can't be the same
pub differ : (u s : ℕ) → (u == s) ≡ false → u ≡ s → ⊥
differ u s h e = both_ways (u == s) h (eq-eqb u s e)

-- who is left out before a step, without s besides
pub left_out_with : (s : ℕ) (r : Role) (X : Starters) → is_step_of s r ≡ false → left_out_before r (starters_with s X) ≡ starters_with s (left_out_before r X)
left_out_with s Outside X h = refl
left_out_with s (Within u part) X h = refl
left_out_with s (Commits u) X h = λ i n. at n (n == u) (n == s) refl refl i
  where
    at : (n : ℕ) (b c : Bool) → (n == u) ≡ b → (n == s) ≡ c → (if b then false else (if c then true else X n)) ≡ (if c then true else (if b then false else X n))
    at n true true x y = absurd (differ u s h (sym (eqb-true n u x) ∙ eqb-true n s y))
    at n true false x y = refl
    at n false true x y = refl
    at n false false x y = refl
left_out_with s (Aborts u status) X h = λ i n. at n (n == u) (n == s) i
  where
    at : (n : ℕ) (b c : Bool) → (if b then true else (if c then true else X n)) ≡ (if c then true else (if b then true else X n))
    at n true true = refl
    at n true false = refl
    at n false true = refl
    at n false false = refl

pub stays_with : (s : ℕ) (r : Role) (X : Starters) → is_step_of s r ≡ false → is_left_in r (starters_with s X) ≡ is_left_in r X
stays_with s Outside X h = refl
stays_with s (Within u part) X h = rw h refl
stays_with s (Commits u) X h = refl
stays_with s (Aborts u status) X h = refl

-- s is not left out before the step either
pub still_in : (s : ℕ) (r : Role) (X : Starters) → is_step_of s r ≡ false → X s ≡ false → left_out_before r X s ≡ false
still_in s Outside X h x = x
still_in s (Within u part) X h x = x
still_in s (Commits u) X h x = by (s == u)
  where
    by : (b : Bool) → (if b then false else X s) ≡ false
    by true = refl
    by false = x
still_in s (Aborts u status) X h x = rw (eq_comm s u ∙ h) x

module _ (V : View) (ev : Event) (s : ℕ) (sound : IsSound V) (live : is_live V.table s ≡ true) where
  mine : V.reserved s (Proc s) ≡ true
  mine = sound.own_procs s s live

  -- the starter runs in a state without its transaction
  pub runs_without : (X : Starters) → is_running ((V.without (starters_with s X)).procs s) ≡ true
  runs_without X =
      subst (λ q. is_running q ≡ true)
      (sound.coherent (just s) (starters_with s X) (Proc s) (λ u k. let e : s ≡ u = sound.single s u (Proc s) mine k in alike u e)).equal (sound.starter_runs s live)
    where
      alike : (u : ℕ) → s ≡ u → just s u ≡ starters_with s X u
      alike u e = let same : (u == s) ≡ true = eq-eqb u s (sym e) in same ∙ rw same refl

  -- an event that nobody is in the way of, of who is no member
  module _ (clear : IsClear V ev) (out : is_member_of V.table s (actor ev) ≡ false) where
    pub unreserved : (o : Object) → has_object o (event_footprint V.table ev (present V)) ≡ true → V.reserved s o ≡ false
    unreserved o h = unless (V.reserved s o) (λ k. both_ways (is_member_of V.table s (actor ev)) out (clear_foot V ev sound clear o s h k))

    target_free : (m : Sending) → IsIn m (effect ev (present V)).sends → (m.target ≡ s) ⊎ (V.reserved s (Proc m.target) ≡ false)
    unfolding event_footprint
    target_free m i = by (is_other_starter V.table (actor ev) m.target) refl
      where
        by : (b : Bool) → is_other_starter V.table (actor ev) m.target ≡ b → (m.target ≡ s) ⊎ (V.reserved s (Proc m.target) ≡ false)
        by false e =
            inr (unreserved (Proc m.target) (has_right (Proc m.target) (objects ev (present V)) (targets V.table (actor ev) (effect ev (present V)).sends)
            (in_targets V.table (actor ev) (effect ev (present V)).sends m i e)))
        by true e = elim (cases_Bool (V.reserved s (Proc m.target))) [
          | inl k ↦ inl (sym (sound.single s m.target (Proc m.target) k (sound.own_procs m.target m.target (other_live (is_live V.table m.target) _ e))))
          | inr k ↦ inr k
        ]

    -- it passes the transaction's events: it names nothing of it, and does the same before them as after them
    pub another : (laws : MomentLaws) (X : Starters) → IsQuiet V ev X → IsQuiet V ev (starters_with s X) → (evs : List Event) → run (V.without (starters_with s X)) evs ≡ V.without X
        → IsOfAnother (V.reserved s) s ev evs (V.without (starters_with s X))
    another laws X quiet apart evs ran =
        let W : State = V.without (starters_with s X) in
        let at : AgreeOn (objects ev (present V)) (present V) W = laws.objects V ev (starters_with s X) sound clear apart in
        let in_state : AgreeOn (objects ev (present V)) (present V) (V.without X) = laws.objects V ev X sound clear quiet in
        let does : effect ev (present V) ≡ effect ev W = laws.events.effects ev (present V) W at in
        let named : objects ev (present V) ≡ objects ev W = laws.events.objects ev (present V) W at in
        record {
          starter = mine;
          runs = runs_without X;
          names = λ o h. unreserved o (objects_in V.table ev (present V) o (subst (λ (os : List Object). has_object o os ≡ true) (sym named) h));
          sends = λ m i. target_free m (subst (λ (f : Effect). IsIn m f.sends) (sym does) i);
          same = sym does ∙ laws.events.effects ev (present V) (V.without X) in_state ∙ ap (effect ev) (sym ran);
          answers = sym (laws.answers V ev (starters_with s X) sound clear apart) ∙ laws.answers V ev X sound clear quiet ∙ ap (λ (S : State). send_answers (effect ev S) S) (sym ran);
        }

  -- the note of an abort passes them too
  pub another_note : (u : ℕ) (r : ℤ) → is_live V.table u ≡ true → (u == s) ≡ false → (X : Starters) → (evs : List Event) → run (V.without (starters_with s X)) evs ≡ V.without X
      → IsOfAnother (V.reserved s) s (Note u r) evs (V.without (starters_with s X))
  unfolding effect objects has_object post_answers
  another_note u r live_u other X evs ran =
      let own : V.reserved u (Proc u) ≡ true = sound.own_procs u u live_u in
      let free : V.reserved s (Proc u) ≡ false = unless (V.reserved s (Proc u)) (λ k. differ u s other (sound.single u s (Proc u) own k)) in
      let alike : (v : ℕ) → V.reserved v (Proc u) ≡ true → starters_with s X v ≡ X v = λ v k. subst (λ (n : ℕ). starters_with s X n ≡ X n) (sound.single u v (Proc u) own k) (rw other refl) in
      record {
        starter = mine;
        runs = runs_without X;
        names = λ o h. subst (λ (x : Object). V.reserved s x ≡ false) (sym (only o h)) free;
        sends = λ m i. absurd i;
        same = ap (note_effect u r) ((sound.coherent (starters_with s X) X (Proc u) alike).equal ∙ ap (λ (S : State). S.procs u) (sym ran));
        answers = refl;
      }
    where
      only : (o : Object) → (if same_object o (Proc u) then true else false) ≡ true → o ≡ Proc u
      only o h = by (same_object o (Proc u)) refl h
        where
          by : (b : Bool) → same_object o (Proc u) ≡ b → (if b then true else false) ≡ true → o ≡ Proc u
          by true e k = same_is o (Proc u) e
          by false e k = cc

-- a step that is of another than s, by its role
module _ (laws : MomentLaws) (V : View) (ev : Event) (s p : ℕ) (sound : IsSound V) (live : is_live V.table s ≡ true) where
  -- who makes it is no member
  pub out_by : (u : ℕ) (part : Progress) → Fits (Within u part) ev p V → (u == s) ≡ false → is_member_of V.table s (actor ev) ≡ false
  out_by u part fits other =
      unless (is_member_of V.table s (actor ev))
      (λ k. differ u s other (sym (fits.mine s (subst (λ (q : ℕ). is_member_of V.table s q ≡ true) fits.actor_is k))))

  within_quiet : (u : ℕ) (part : Progress) → Fits (Within u part) ev p V → (Y : Starters) → Y u ≡ false → IsQuiet V ev Y
  within_quiet u part fits Y y t k = subst (λ (n : ℕ). Y n ≡ false) (sym (fits.mine t (subst (λ (q : ℕ). is_member_of V.table t q ≡ true) fits.actor_is k))) y

  pub another_by : (r : Role) → Passes r ev V → Fits r ev p V → is_step_of s r ≡ false → (X : Starters) → is_left_in r X ≡ true → (evs : List Event)
      → run (V.without (starters_with s (left_out_before r X))) evs ≡ V.without (left_out_before r X)
      → IsOfAnother (V.reserved s) s ev evs (V.without (starters_with s (left_out_before r X)))
  another_by Outside clear fits other X stay evs ran =
      another V ev s sound live clear (fits s) laws X (outside_quiet V ev fits X) (outside_quiet V ev fits (starters_with s X)) evs ran
  another_by (Within u part) clear fits other X stay evs ran =
      let kept : X u ≡ false = not-true (X u) stay in
      another V ev s sound live clear (out_by u part fits other) laws X (within_quiet u part fits X kept)
      (within_quiet u part fits (starters_with s X) (rw other kept)) evs ran
  another_by (Commits u) clear fits other X stay evs ran =
      another V ev s sound live clear (unless (is_member_of V.table s (actor ev)) (λ k. differ u s other (of_unique u s (V.table.marks (actor ev)) fits k))) laws (starters_without u X)
      (commits_quiet V ev u fits X)
      (subst (λ (Y : Starters). IsQuiet V ev Y) (left_out_with s (Commits u) X other) (commits_quiet V ev u fits (starters_with s X))) evs ran
  another_by (Aborts u status) clear fits other X stay evs ran =
      subst (λ (x : Event). IsOfAnother (V.reserved s) s x evs (V.without (starters_with s (starters_with u X)))) (sym fits.1.1)
      (another_note V (Note u fits.1.0) s sound live u fits.1.0 fits.0 other (starters_with u X) evs ran)

  pub other_by : (r : Role) → Passes r ev V → Fits r ev p V → is_step_of s r ≡ false → is_of s (V.table.marks p) ≡ false → IsOther s r p V.table
  other_by Outside clear fits other not_of = tt
  other_by (Within u Continues) clear fits other not_of = tt
  other_by (Within u Parks) clear fits other not_of = not_of
  other_by (Within u (Forks c)) clear fits other not_of = (
    other,
    unless (is_of s (V.table.marks c))
        (λ k. both_ways (V.reserved s (Proc c)) (unreserved V ev s sound live clear (out_by u (Forks c) fits other) (Proc c) (objects_in V.table ev (present V) (Proc c) fits.progress_fits.1)) (sound.own_procs s c k)),
    other_of u s (V.table.marks u) (sound.owned_live u (Proc p) (sound.own_procs u p fits.progress_fits.0)) other,
  )
  other_by (Within u (Begins defers)) clear fits other not_of = (
    other,
    of_none s (V.table.marks u) (subst (λ (n : ℕ). V.table.marks n ≡ None) (sym fits.progress_fits.0) fits.progress_fits.1),
  )
  other_by (Commits u) clear fits other not_of = other
  other_by (Aborts u status) clear fits other not_of = other

-- the same of a step of a lawful history
module _ (laws : MomentLaws) (S : State) (s : ℕ) (e : Accepted) (h : List Accepted) (lawful : Lawful S (e ∷ h)) (live : is_live (table_of S h) s ≡ true)
    (other : is_step_of s (role_in S e h) ≡ false) where
  sound_before : IsSound (view S h)
  unfolding Lawful
  sound_before = laws.sound S h lawful.0

  pub aborts_live : (u : ℕ) (status : ℕ) → role_in S e h ≡ Aborts u status → is_live (table_of S h) u ≡ true
  unfolding view
  aborts_live u status is = (subst (λ (r : Role). Fits r (event_of S e h) (process_of e.step) (view S h)) is (laws.fit S e h lawful).1).0

  -- who makes it has no mark of s
  pub actor_other : is_of s ((table_of S h).marks (process_of e.step)) ≡ false
  actor_other = not_mine (table_of S h) e.step e.reply s aborts_live other

  pub is_other : IsOther s (role_in S e h) (process_of e.step) (table_of S h)
  unfolding view
  is_other =
      let fit = laws.fit S e h lawful in
      other_by laws (view S h) (event_of S e h) s (process_of e.step) sound_before live (role_in S e h) fit.0 fit.1 other actor_other

  pub passes : (X : Starters) → is_left_in (role_in S e h) X ≡ true → (evs : List Event)
      → run (without S (starters_with s (left_out_before (role_in S e h) X)) h) evs ≡ without S (left_out_before (role_in S e h) X) h
      → IsOfAnother (reserved_of S h s) s (event_of S e h) evs (without S (starters_with s (left_out_before (role_in S e h) X)) h)
  unfolding view
  passes X stay evs ran =
      let fit = laws.fit S e h lawful in
      another_by laws (view S h) (event_of S e h) s (process_of e.step) sound_before live (role_in S e h) fit.0 fit.1 other X stay evs ran

  -- the starter of another live transaction is the same where s is left out besides
  pub spared_part : (u : ℕ) → is_live (table_of S h) u ≡ true → (u == s) ≡ false → (without S (starters_with s (just u)) h).procs u ≡ (without S (just u) h).procs u
  unfolding view
  spared_part u live_u apart =
      let own : reserved_of S h u (Proc u) ≡ true = sound_before.own_procs u u live_u in
      (sound_before.coherent (starters_with s (just u)) (just u) (Proc u) (λ v k.
      subst (λ (n : ℕ). starters_with s (just u) n ≡ just u n) (sound_before.single u v (Proc u) own k) (rw apart refl))).equal
