-- A kernel of two states has the view of its history.
use Rattle.std.proofs.Common.{◌≡◌, ℕ, Bool, true, false, not, List, [], ℤ, Option, Some, None, is_none, if◌then◌else◌, ◌==◌, refl, sym, ap, ap₂, ◌∙◌, subst, inl, inr, ◌⊎◌, eq-eqb, eqb-true}
use Rattle.std.proofs.lemmas.Bool.{both_ways, cases_Bool}
use Rattle.tx_model.specs.State.{State, Object, Proc, Desc, Pipe, Held, has_object}
use Rattle.tx_model.specs.Posts.{post_answers}
use Rattle.tx_model.specs.Effects.{Effect, send_answers, after_effect}
use Rattle.tx_model.specs.Events.{Event, Note, effect, after, run}
use Rattle.tx_model.specs.Membership.{Table, empty_table, is_member_of, is_live, Progress, Role, Outside, Within, Commits, Aborts, table_after}
use Rattle.tx_model.specs.History.{Starters, survivors, without, table_of, reserved_of, nobody, just, event_footprint, objects_reserved}
use Rattle.tx_model.specs.View.{View, view}
use Rattle.tx_model.specs.Words.{IsClear, after_if, next_by, note_effect, starters_with, starters_without}
use Rattle.tx_model.specs.StateLaws.{state_ext, EqualAt}
use Rattle.tx_laws.specs.Sound.{IsSound}
use Rattle.tx_laws.specs.TwoStates.{TwoStates, in_set, is_owner, pick, states_without, states_view, freed, with_reserved, on_both, states_next}
use Rattle.tx_laws.proofs.Agree.{part_refl, part_sym, part_trans, applied_part, applied_width}
use Rattle.tx_laws.proofs.Local.{after_width}
use Rattle.tx_laws.proofs.Tables.{eq_comm}
use Rattle.tx_laws.specs.Fits.{IsQuiet, FitsWithin, Fits, Passes}
use Rattle.tx_laws.proofs.Coherence.{quiet_effect, quiet_sent, outside_quiet, commits_quiet, taken_foot, taken_mine, within_else}

pub pick_true : (P : Object → Bool) (S R : State) (o : Object) → P o ≡ true → EqualAt (pick P S R) S o
pick_true P S R (Proc n) h = rw h refl
pick_true P S R (Desc n) h = rw h refl
pick_true P S R (Pipe n) h = rw h refl
pick_true P S R (Held n) h = rw h refl

pub pick_false : (P : Object → Bool) (S R : State) (o : Object) → P o ≡ false → EqualAt (pick P S R) R o
pick_false P S R (Proc n) h = rw h refl
pick_false P S R (Desc n) h = rw h refl
pick_false P S R (Pipe n) h = rw h refl
pick_false P S R (Held n) h = rw h refl

-- two states are chosen by the same test, and agree where they are chosen
pick_same : (P Q : Object → Bool) (S R S' R' : State) (o : Object) → P o ≡ Q o → (P o ≡ true → EqualAt S S' o) → (P o ≡ false → EqualAt R R' o) → EqualAt (pick P S R) (pick Q S' R') o
pick_same P Q S R S' R' o e y n =
    elim (cases_Bool (P o)) [
      | inl h ↦ part_trans (pick P S R) S (pick Q S' R') o (pick_true P S R o h) (part_trans S S' (pick Q S' R') o (y h) (part_sym (pick Q S' R') S' o (pick_true Q S' R' o (sym e ∙ h))))
      | inr h ↦ part_trans (pick P S R) R (pick Q S' R') o (pick_false P S R o h) (part_trans R R' (pick Q S' R') o (n h) (part_sym (pick Q S' R') R' o (pick_false Q S' R' o (sym e ∙ h))))
    ]

pub after_part : (ev : Event) (S R : State) → effect ev S ≡ effect ev R → send_answers (effect ev S) S ≡ send_answers (effect ev R) R → (o : Object) → EqualAt S R o → EqualAt (after ev S) (after ev R) o
unfolding after
after_part ev S R e a o h =
    subst (λ (x : Effect × List ℤ). EqualAt (after_effect (effect ev S) (send_answers (effect ev S) S) S) (after_effect x.0 x.1 R) o)
    (ap₂ (λ (x : Effect) (y : List ℤ). (x, y)) e a) (applied_part (effect ev S) (send_answers (effect ev S) S) S R o h)

in_nobody : (x : Option ℕ) → in_set nobody x ≡ false
in_nobody None = refl
in_nobody (Some s) = refl

pub owner_true : (s : ℕ) (x : Option ℕ) → is_owner s x ≡ true → x ≡ Some s
owner_true s None h = cc
owner_true s (Some t) h = ap Some (eqb-true t s h)

pub is_owner_self : (s : ℕ) (x : Option ℕ) → x ≡ Some s → is_owner s x ≡ true
is_owner_self s x h = rw h (eq-eqb s s refl)

pub states_nobody : (c : TwoStates) → states_without c nobody ≡ c.now
states_nobody c = state_ext (states_without c nobody) c.now refl (λ o. pick_false (λ o. in_set nobody (c.owner o)) c.kept c.now o (in_nobody (c.owner o)))

now_at : (c : TwoStates) (X : Starters) (o : Object) → in_set X (c.owner o) ≡ false → EqualAt c.now (states_without c X) o
now_at c X o h = part_sym (states_without c X) c.now o (pick_false (λ o. in_set X (c.owner o)) c.kept c.now o h)

kept_at : (c : TwoStates) (X : Starters) (o : Object) → in_set X (c.owner o) ≡ true → EqualAt c.kept (states_without c X) o
kept_at c X o h = part_sym (states_without c X) c.kept o (pick_true (λ o. in_set X (c.owner o)) c.kept c.now o h)

-- the event made on both sides is the event in the state without the transactions of X
both_sides : (c : TwoStates) (ev : Event) (S : State) (owner : Object → Option ℕ) (table : Table) (X Y : Starters)
    → effect ev S ≡ effect ev (states_without c X) → send_answers (effect ev S) S ≡ send_answers (effect ev (states_without c X)) (states_without c X) → S.width ≡ c.now.width
    → ((o : Object) → in_set Y (owner o) ≡ true → in_set X (c.owner o) ≡ true)
    → ((o : Object) → in_set Y (owner o) ≡ false → EqualAt S (states_without c X) o)
    → states_without (on_both ev S c owner table) Y ≡ after ev (states_without c X)
unfolding after
both_sides c ev S owner table X Y e a w old now =
    let f : Effect = effect ev S in
    let rs : List ℤ = send_answers f S in
    let W : State = states_without c X in
    state_ext (states_without (on_both ev S c owner table) Y) (after_effect f rs W) (applied_width f rs S ∙ w ∙ sym (applied_width f rs W)) (λ o.
    elim (cases_Bool (in_set Y (owner o))) [
      | inl h ↦ part_trans (states_without (on_both ev S c owner table) Y) (after_effect f rs c.kept) (after_effect f rs W) o
          (pick_true (λ o. in_set Y (owner o)) (after_effect f rs c.kept) (after_effect f rs S) o h)
          (applied_part f rs c.kept W o (kept_at c X o (old o h)))
      | inr h ↦ part_trans (states_without (on_both ev S c owner table) Y) (after_effect f rs S) (after_effect f rs W) o
          (pick_false (λ o. in_set Y (owner o)) (after_effect f rs c.kept) (after_effect f rs S) o h)
          (applied_part f rs S W o (now o h))
    ])
    ∙ ap₂ (λ (g : Effect) (qs : List ℤ). after_effect g qs W) e a

freed_same : (s : ℕ) (X : Starters) (x : Option ℕ) → in_set X (freed s x) ≡ in_set (starters_without s X) x
freed_same s X None = refl
freed_same s X (Some t) = by (t == s)
  where
    by : (b : Bool) → in_set X (if b then None else Some t) ≡ (if b then false else X t)
    by true = refl
    by false = refl

freed_with : (s : ℕ) (X : Starters) (x : Option ℕ) → in_set X (freed s x) ≡ true → in_set (starters_with s X) x ≡ true
freed_with s X None h = h
freed_with s X (Some t) h = by (t == s) h
  where
    by : (b : Bool) → in_set X (if b then None else Some t) ≡ true → (if b then true else X t) ≡ true
    by true k = refl
    by false k = k

freed_just : (s : ℕ) (X : Starters) (x : Option ℕ) → in_set X (freed s x) ≡ false → in_set (just s) x ≡ in_set (starters_with s X) x
freed_just s X None h = refl
freed_just s X (Some t) h = by (t == s) h
  where
    by : (b : Bool) → in_set X (if b then None else Some t) ≡ false → b ≡ (if b then true else X t)
    by true k = refl
    by false k = sym k

-- what an event does in the state is what it does without transactions that are not its actor's
module _ (c : TwoStates) (ev : Event) (sound : IsSound (states_view c)) (clear : IsClear (states_view c) ev) (X : Starters) (quiet : IsQuiet (states_view c) ev X) where
  now_effect : effect ev c.now ≡ effect ev (states_without c X)
  unfolding states_view
  now_effect = ap (effect ev) (sym (states_nobody c)) ∙ quiet_effect (states_view c) ev sound clear X quiet

  now_sent : send_answers (effect ev c.now) c.now ≡ send_answers (effect ev (states_without c X)) (states_without c X)
  unfolding states_view
  now_sent = ap (λ (S : State). send_answers (effect ev S) S) (sym (states_nobody c)) ∙ quiet_sent (states_view c) ev sound clear X quiet

outside_view : (c : TwoStates) (ev : Event) (p : ℕ) → IsSound (states_view c) → IsClear (states_view c) ev → Fits Outside ev p (states_view c) → (X : Starters)
    → states_without (on_both ev c.now c c.owner (table_after Outside p c.table)) X ≡ after ev (states_without c X)
outside_view c ev p sound clear out X =
    let quiet : IsQuiet (states_view c) ev X = outside_quiet (states_view c) ev out X in
    both_sides c ev c.now c.owner (table_after Outside p c.table) X X (now_effect c ev sound clear X quiet) (now_sent c ev sound clear X quiet) refl (λ o h. h) (λ o h. now_at c X o h)

commits_view : (c : TwoStates) (ev : Event) (s p : ℕ) → IsSound (states_view c) → IsClear (states_view c) ev → Fits (Commits s) ev p (states_view c) → (X : Starters)
    → states_without (on_both ev c.now c (λ o. freed s (c.owner o)) (table_after (Commits s) p c.table)) X ≡ after ev (states_without c (starters_without s X))
commits_view c ev s p sound clear mine X =
    let quiet : IsQuiet (states_view c) ev (starters_without s X) = commits_quiet (states_view c) ev s mine X in
    both_sides c ev c.now (λ o. freed s (c.owner o)) (table_after (Commits s) p c.table) (starters_without s X) X
    (now_effect c ev sound clear (starters_without s X) quiet) (now_sent c ev sound clear (starters_without s X) quiet) refl
    (λ o h. sym (freed_same s X (c.owner o)) ∙ h) (λ o h. now_at c (starters_without s X) o (sym (freed_same s X (c.owner o)) ∙ h))

aborts_view : (c : TwoStates) (r : ℤ) (s k p : ℕ) → IsSound (states_view c) → is_live c.table s ≡ true → (X : Starters)
    → states_without (on_both (Note s r) (states_without c (just s)) c (λ o. freed s (c.owner o)) (table_after (Aborts s k) p c.table)) X ≡ after (Note s r) (states_without c (starters_with s X))
unfolding effect post_answers states_view
aborts_view c r s k p sound live X =
    let own : c.owner (Proc s) ≡ Some s = owner_true s (c.owner (Proc s)) (sound.own_procs s s live) in
    let mine : in_set (just s) (c.owner (Proc s)) ≡ in_set (starters_with s X) (c.owner (Proc s)) = rw own (rw (eq-eqb s s refl) refl) in
    let e : (states_without c (just s)).procs s ≡ (states_without c (starters_with s X)).procs s =
    pick_same (λ o. in_set (just s) (c.owner o)) (λ o. in_set (starters_with s X) (c.owner o)) c.kept c.now c.kept c.now (Proc s) mine (λ _. refl) (λ _. refl) in
    both_sides c (Note s r) (states_without c (just s)) (λ o. freed s (c.owner o)) (table_after (Aborts s k) p c.table) (starters_with s X) X
    (ap (note_effect s r) e) refl refl
    (λ o h. freed_with s X (c.owner o) h)
    (λ o h. pick_same (λ o. in_set (just s) (c.owner o)) (λ o. in_set (starters_with s X) (c.owner o)) c.kept c.now c.kept c.now o (freed_just s X (c.owner o) h) (λ _. part_refl c.kept o) (λ _. part_refl c.now o))

-- a step inside a transaction
module _ (c : TwoStates) (ev : Event) (s : ℕ) (part : Progress) (p : ℕ) (sound : IsSound (states_view c)) (clear : IsClear (states_view c) ev) (fits : FitsWithin s part ev p (states_view c)) where
  abbrev G : List Object
  G = objects_reserved part s (event_footprint c.table ev c.now)

  abbrev next_states : TwoStates
  next_states = with_reserved s (objects_reserved part s (event_footprint c.table ev c.now)) ev (table_after (Within s part) p c.table) c

  foot_now : event_footprint c.table ev (states_without c nobody) ≡ event_footprint c.table ev c.now
  foot_now = ap (event_footprint c.table ev) (states_nobody c)

  -- of what is taken, the transaction alone owns anything
  pub own_taken : (o : Object) (t : ℕ) → has_object o (objects_reserved part s (event_footprint c.table ev c.now)) ≡ true → c.owner o ≡ Some t → t ≡ s
  unfolding states_view
  own_taken o t h k =
      taken_mine (states_view c) ev sound clear s part p fits o t (subst (λ (F : List Object). has_object o (objects_reserved part s F) ≡ true) (sym foot_now) h) (is_owner_self t (c.owner o) k)

  foot_out : (o : Object) → has_object o G ≡ false → has_object o (event_footprint c.table ev (states_without c nobody)) ≡ false
  foot_out o h = subst (λ (F : List Object). has_object o F ≡ false) (sym foot_now) (by (has_object o (event_footprint c.table ev c.now)) refl)
    where
      by : (b : Bool) → has_object o (event_footprint c.table ev c.now) ≡ b → b ≡ false
      by true e = absurd (both_ways (has_object o G) h (taken_foot part s (event_footprint c.table ev c.now) o e))
      by false e = refl

  -- nothing changes outside of what is taken
  else_without : (X : Starters) → X s ≡ false → (o : Object) → has_object o G ≡ false → EqualAt (after ev (states_without c X)) (states_without c X) o
  unfolding states_view
  else_without X x o h = (within_else (states_view c) ev sound clear s part p fits X x o (foot_out o h)).equal

  pub else_now : (o : Object) → has_object o (objects_reserved part s (event_footprint c.table ev c.now)) ≡ false → EqualAt (after ev c.now) c.now o
  else_now o h = subst (λ (S : State). EqualAt (after ev S) S o) (states_nobody c) (else_without nobody refl o h)

  quiet_of : (X : Starters) → X s ≡ false → IsQuiet (states_view c) ev X
  quiet_of X x t h = subst (λ (u : ℕ). X u ≡ false) (sym (fits.mine t (subst (λ (q : ℕ). is_member_of (states_view c).table t q ≡ true) fits.actor_is h))) x

  module _ (X : Starters) where
    own_set : (o : Object) → has_object o G ≡ true → (b : Bool) → X s ≡ b → (x : Option ℕ) → c.owner o ≡ x → (x ≡ None) ⊎ (in_set X x ≡ b)
    own_set o h b e None k = inl refl
    own_set o h b e (Some t) k = inr (subst (λ (y : ℕ). X y ≡ b) (sym (own_taken o t h k)) e)

    not_set : (o : Object) → has_object o G ≡ true → X s ≡ false → in_set X (c.owner o) ≡ false
    not_set o h e = elim (own_set o h false e (c.owner o) refl) [ inl n ↦ rw n refl | inr n ↦ n ]

    kept_old : (o : Object) → (if has_object o G then is_none (c.owner o) else false) ≡ false → EqualAt next_states.kept c.kept o
    kept_old o h = pick_false (λ o. if has_object o G then is_none (c.owner o) else false) c.now c.kept o h

    kept_new : (o : Object) → (if has_object o G then is_none (c.owner o) else false) ≡ true → EqualAt next_states.kept c.now o
    kept_new o h = pick_true (λ o. if has_object o G then is_none (c.owner o) else false) c.now c.kept o h

    is_kept : (o : Object) → in_set X (next_states.owner o) ≡ true → EqualAt (states_without next_states X) next_states.kept o
    is_kept o h = pick_true (λ o. in_set X (next_states.owner o)) next_states.kept next_states.now o h

    is_now : (o : Object) → in_set X (next_states.owner o) ≡ false → EqualAt (states_without next_states X) (after ev c.now) o
    unfolding after
    is_now o h = pick_false (λ o. in_set X (next_states.owner o)) next_states.kept next_states.now o h

    left_out : X s ≡ true → (o : Object) → EqualAt (states_without next_states X) (states_without c X) o
    left_out x o = by (has_object o G) refl (c.owner o) refl
      where
        W : State
        W = states_without next_states X

        out : has_object o G ≡ false → (b : Bool) → in_set X (c.owner o) ≡ b → EqualAt W (states_without c X) o
        out h true b = part_trans W next_states.kept (states_without c X) o (is_kept o (rw h b)) (part_trans next_states.kept c.kept (states_without c X) o (kept_old o (rw h refl)) (kept_at c X o b))
        out h false b = part_trans W (after ev c.now) (states_without c X) o (is_now o (rw h b)) (part_trans (after ev c.now) c.now (states_without c X) o (else_now o h) (now_at c X o b))

        by : (b : Bool) → has_object o G ≡ b → (y : Option ℕ) → c.owner o ≡ y → EqualAt W (states_without c X) o
        by true h None k = part_trans W next_states.kept (states_without c X) o (is_kept o (rw h x)) (part_trans next_states.kept c.now (states_without c X) o (kept_new o (rw (h, k) refl)) (now_at c X o (rw k refl)))
        by true h (Some t) k = part_trans W next_states.kept (states_without c X) o (is_kept o (rw h x)) (part_trans next_states.kept c.kept (states_without c X) o (kept_old o (rw (h, k) refl))
            (kept_at c X o (rw k (subst (λ (y : ℕ). X y ≡ true) (sym (own_taken o t h k)) x))))
        by false h y k = out h (in_set X (c.owner o)) refl

    with_step : X s ≡ false → (o : Object) → EqualAt (states_without next_states X) (after ev (states_without c X)) o
    with_step x o = by (has_object o G) refl (in_set X (c.owner o)) refl
      where
        W : State
        W = states_without next_states X

        along : in_set X (c.owner o) ≡ false → EqualAt (after ev c.now) (after ev (states_without c X)) o
        along h = after_part ev c.now (states_without c X) (now_effect c ev sound clear X (quiet_of X x)) (now_sent c ev sound clear X (quiet_of X x)) o (now_at c X o h)

        by : (b : Bool) → has_object o G ≡ b → (d : Bool) → in_set X (c.owner o) ≡ d → EqualAt W (after ev (states_without c X)) o
        by true h d k = part_trans W (after ev c.now) (after ev (states_without c X)) o (is_now o (rw h x)) (along (not_set o h x))
        by false h false k = part_trans W (after ev c.now) (after ev (states_without c X)) o (is_now o (rw h k)) (along k)
        by false h true k =
            part_trans W (states_without c X) (after ev (states_without c X)) o
            (part_trans W next_states.kept (states_without c X) o (is_kept o (rw h k)) (part_trans next_states.kept c.kept (states_without c X) o (kept_old o (rw h refl)) (kept_at c X o k)))
            (part_sym (after ev (states_without c X)) (states_without c X) o (else_without X x o h))

    within_view : states_without next_states X ≡ after_if (not (X s)) ev (states_without c X)
    unfolding after
    within_view = by (X s) refl
      where
        by : (b : Bool) → X s ≡ b → states_without next_states X ≡ after_if (not b) ev (states_without c X)
        by true x = state_ext (states_without next_states X) (states_without c X) (after_width ev c.now) (left_out x)
        by false x = state_ext (states_without next_states X) (after ev (states_without c X)) (after_width ev c.now ∙ sym (after_width ev (states_without c X))) (with_step x)

same_choice : (b c : Bool) → c ≡ (if b then c else c)
same_choice true c = refl
same_choice false c = refl

-- the reserved objects after a step
owner_reserved : (s t : ℕ) (h : Bool) (x : Option ℕ) → (h ≡ true → (u : ℕ) → x ≡ Some u → u ≡ s)
    → is_owner t (if h then Some s else x) ≡ (if t == s then (if h then true else is_owner t x) else is_owner t x)
owner_reserved s t false x own = same_choice (t == s) (is_owner t x)
owner_reserved s t true None own = eq_comm s t ∙ by (t == s)
  where
    by : (b : Bool) → b ≡ (if b then true else false)
    by true = refl
    by false = refl
owner_reserved s t true (Some u) own =
    subst (λ (y : ℕ). (s == t) ≡ (if t == s then true else (y == t))) (sym (own refl u refl)) (rw (eq_comm s t) (by (t == s)))
  where
    by : (b : Bool) → b ≡ (if b then true else b)
    by true = refl
    by false = refl

owner_freed : (s t : ℕ) (x : Option ℕ) → is_owner t (freed s x) ≡ (if t == s then false else is_owner t x)
owner_freed s t None = same_choice (t == s) false
owner_freed s t (Some u) = elim (cases_Bool (u == t)) [
  | inl e ↦ let z : u ≡ t = eqb-true u t e in subst (λ (y : ℕ). is_owner t (if y == s then None else Some y) ≡ (if t == s then false else (y == t))) (sym z) (same (t == s))
  | inr e ↦ rw e (other (u == s) e ∙ same_choice (t == s) false)
]
  where
    same : (b : Bool) → is_owner t (if b then None else Some t) ≡ (if b then false else (t == t))
    same true = refl
    same false = refl

    other : (b : Bool) → (u == t) ≡ false → is_owner t (if b then None else Some u) ≡ false
    other true e = refl
    other false e = e

pub view_ext : (V U : View) → ((X : Starters) → V.without X ≡ U.without X) → V.table ≡ U.table → ((s : ℕ) (o : Object) → V.reserved s o ≡ U.reserved s o) → V ≡ U
view_ext V U w l t = λ i. record { without = λ X. w X i; table = l i; reserved = λ s o. t s o i }

-- the kernel's next two states have the next view, in every role
pub states_next_view : (r : Role) (ev : Event) (p : ℕ) (c : TwoStates) → IsSound (states_view c) → Passes r ev (states_view c) → Fits r ev p (states_view c) → states_view (states_next r ev p c) ≡ next_by r ev p (states_view c)
unfolding states_view states_next
states_next_view Outside ev p c sound clear fits =
    view_ext (states_view (states_next Outside ev p c)) (next_by Outside ev p (states_view c)) (outside_view c ev p sound clear fits) refl (λ s o. refl)
states_next_view (Within s part) ev p c sound clear fits =
    view_ext (states_view (states_next (Within s part) ev p c)) (next_by (Within s part) ev p (states_view c)) (within_view c ev s part p sound clear fits) refl
    (λ t o. owner_reserved s t (has_object o (objects_reserved part s (event_footprint c.table ev c.now))) (c.owner o) (λ h u k. own_taken c ev s part p sound clear fits o u h k)
    ∙ ap (λ (F : List Object). if t == s then (if has_object o (objects_reserved part s F) then true else is_owner t (c.owner o)) else is_owner t (c.owner o)) (sym (foot_now c ev s part p sound clear fits)))
states_next_view (Commits s) ev p c sound clear fits =
    view_ext (states_view (states_next (Commits s) ev p c)) (next_by (Commits s) ev p (states_view c)) (commits_view c ev s p sound clear fits) refl (λ t o. owner_freed s t (c.owner o))
states_next_view (Aborts s k) ev p c sound clear fits =
    subst (λ (x : Event). states_view (states_next (Aborts s k) x p c) ≡ next_by (Aborts s k) x p (states_view c)) (sym fits.1.1)
    (view_ext (states_view (states_next (Aborts s k) (Note s fits.1.0) p c)) (next_by (Aborts s k) (Note s fits.1.0) p (states_view c))
    (aborts_view c fits.1.0 s k p sound fits.0) refl (λ t o. owner_freed s t (c.owner o)))

-- kernels of the same two states, at what is owned, have the same view
pub same_view : (c d : TwoStates) → c.now.width ≡ d.now.width → ((o : Object) → EqualAt c.now d.now o) → ((o : Object) → c.owner o ≡ d.owner o)
    → ((o : Object) (s : ℕ) → c.owner o ≡ Some s → EqualAt c.kept d.kept o) → c.table ≡ d.table → states_view c ≡ states_view d
unfolding states_view
same_view c d width now owner kept table =
    view_ext (states_view c) (states_view d)
    (λ X. state_ext (states_without c X) (states_without d X) width (λ o.
    pick_same (λ o. in_set X (c.owner o)) (λ o. in_set X (d.owner o)) c.kept c.now d.kept d.now o (ap (in_set X) (owner o)) (λ h. owned X o (c.owner o) refl h) (λ h. now o)))
    table (λ s o. ap (is_owner s) (owner o))
  where
    owned : (X : Starters) (o : Object) (x : Option ℕ) → c.owner o ≡ x → in_set X x ≡ true → EqualAt c.kept d.kept o
    owned X o None e h = cc
    owned X o (Some s) e h = kept o s e

-- a kernel in which nobody owns anything has the view of the empty history of its state
pub states_start : (S : State) (c : TwoStates) → c.now ≡ S → ((o : Object) → c.owner o ≡ None) → c.table ≡ empty_table S.width → states_view c ≡ view S []
unfolding states_view view without survivors run table_of reserved_of
states_start S c now free table =
    view_ext (states_view c) (view S [])
    (λ X. state_ext (states_without c X) c.now refl (λ o. pick_false (λ o. in_set X (c.owner o)) c.kept c.now o (ap (in_set X) (free o))) ∙ now)
    table (λ s o. ap (is_owner s) (free o))
