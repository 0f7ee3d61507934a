-- What stands at an object in the states without some transactions depends on who reserved it.
use Rattle.std.proofs.Common.{◌≡◌, ℕ, Bool, true, false, not, List, [], ◌∷◌, ◌++◌, ℤ, Option, if◌then◌else◌, ◌==◌, refl, sym, ap, ap₂, ◌∙◌, subst, inl, inr, ◌⊎◌, eq-eqb, eqb-true}
use Rattle.std.proofs.lemmas.Bool.{both_ways, cases_Bool}
use Rattle.tx_model.specs.ObjectFacts.{same_is, has_head, has_tail, has_left, has_right, has_either, meets_not, targets_lack}
use Rattle.tx_model.specs.State.{Process, State, Sending, Object, Proc, Held, same_object, has_object, is_between}
use Rattle.tx_model.specs.StateLaws.{AgreeAt, AgreeOn}
use Rattle.tx_model.specs.Effects.{Effect, send_answers}
use Rattle.tx_model.specs.Words.{before_sends, meets_reserved, IsClear, after_if, next_by, starters_with, starters_without}
use Rattle.tx_model.specs.Posts.{post_answers}
use Rattle.tx_model.specs.Events.{Event, Note, actor, effect, objects, after, reply_of}
use Rattle.tx_model.specs.Membership.{Table, is_of, is_member_of, is_live, Progress, Continues, Parks, Forks, Begins, Role, Outside, Within, Commits, Aborts, mark_unless_of, table_after}
use Rattle.tx_model.specs.History.{Starters, nobody, just, is_other_starter, targets, event_footprint, objects_reserved}
use Rattle.tx_model.specs.View.{View, present, in_way, has_two_answers}
use Rattle.tx_laws.specs.Sound.{IsSound}
use Rattle.tx_laws.proofs.Agree.{agree_sym, agree_trans, written_part}
use Rattle.tx_laws.proofs.Objects.{TargetsIn}
use Rattle.tx_laws.proofs.Local.{after_keeps, after_width, reply_same, effect_same, objects_same, actor_in}
use Rattle.tx_laws.proofs.Elsewhere.{effect_fits, after_else}
use Rattle.tx_laws.specs.Fits.{IsIn, IsQuiet, ProgressFits, FitsWithin, Fits, Passes, ends_it}
use Rattle.tx_laws.proofs.KeptByPosts.{IsKept, event_keeps, Runs, runs_kept}
use Rattle.tx_laws.proofs.Answered.{Known, answers_known, or_false_left, or_false_right}
use Rattle.tx_laws.proofs.Tables.{eq_comm, of_unique, of_none, of_unmarked, Grows, joins_by, continues_grows, parks_grows, forks_grows, begins_grows}

pub or_true : (x y : Bool) → (if x then true else y) ≡ true → (x ≡ true) ⊎ (y ≡ true)
or_true true y h = inl refl
or_true false y h = inr h

pub or_right : (x y : Bool) → y ≡ true → (if x then true else y) ≡ true
or_right true y h = refl
or_right false y h = h

pub not_left : (x y : Bool) → (if x then false else y) ≡ true → (x ≡ false) × (y ≡ true)
not_left true y h = cc
not_left false y h = (refl, h)

in_targets_cons : (b : Bool) (n m : Sending) (os : List Object) → has_object (Proc m.target) os ≡ true → has_object (Proc m.target) (if b then os else Proc n.target ∷ os) ≡ true
in_targets_cons true n m os h = h
in_targets_cons false n m os h = has_tail (Proc m.target) (Proc n.target) os h

pub in_targets : (t : Table) (p : ℕ) (ms : List Sending) (m : Sending) → IsIn m ms → is_other_starter t p m.target ≡ false → has_object (Proc m.target) (targets t p ms) ≡ true
unfolding targets
in_targets t p [] m i e = absurd i
in_targets t p (n ∷ ms) m (inl i) e =
    subst (λ (x : Sending). has_object (Proc m.target) (if is_other_starter t p x.target then targets t p ms else Proc x.target ∷ targets t p ms) ≡ true) i
    (rw e (has_head (Proc m.target) (targets t p ms)))
in_targets t p (n ∷ ms) m (inr i) e = in_targets_cons (is_other_starter t p n.target) n m (targets t p ms) (in_targets t p ms m i e)

-- the targets are processes
-- a live transaction that the actor is no member of, and that is not in the way, reserved nothing of the footprint, and answers the posts alike
way_clear : (V : View) (ev : Event) (t : ℕ) → is_live V.table t ≡ true → is_member_of V.table t (actor ev) ≡ false → in_way V ev t ≡ false
    → (if meets_reserved V ev t then true else has_two_answers V ev t) ≡ false
unfolding in_way
way_clear V ev t live other h = rw (live, other) at h

-- in a clear event's footprint only the actor's transaction reserved anything
pub clear_foot : (V : View) (ev : Event) → IsSound V → IsClear V ev → (o : Object) (t : ℕ) → has_object o (event_footprint V.table ev (present V)) ≡ true → V.reserved t o ≡ true → is_member_of V.table t (actor ev) ≡ true
clear_foot V ev sound clear o t h k = by (is_member_of V.table t (actor ev)) refl
  where
    live : is_live V.table t ≡ true
    live = sound.owned_live t o k

    by : (b : Bool) → is_member_of V.table t (actor ev) ≡ b → b ≡ true
    by true e = refl
    by false e = absurd (meets_not (event_footprint V.table ev (present V)) (V.reserved t) o h k (or_false_left _ _ (way_clear V ev t live e (clear t live))))

other_parts : (x y : Bool) → (if x then not y else false) ≡ true → (x ≡ true) × (y ≡ false)
other_parts true true h = cc
other_parts true false h = (refl, refl)
other_parts false y h = cc

-- an event does the same without transactions that are not its actor's
module _ (V : View) (ev : Event) (sound : IsSound V) (clear : IsClear V ev) (X : Starters) (quiet : IsQuiet V ev X) where
  quiet_foot : (o : Object) → has_object o (event_footprint V.table ev (present V)) ≡ true → AgreeAt (present V) (V.without X) o
  quiet_foot o h = sound.coherent nobody X o (λ t k. sym (quiet t (clear_foot V ev sound clear o t h k)))

  quiet_target : (m : Sending) → IsIn m (effect ev (present V)).sends → is_other_starter V.table (actor ev) m.target ≡ false → has_object (Proc m.target) (event_footprint V.table ev (present V)) ≡ true
  unfolding event_footprint
  quiet_target m i e =
      has_right (Proc m.target) (objects ev (present V)) (targets V.table (actor ev) (effect ev (present V)).sends)
      (in_targets V.table (actor ev) (effect ev (present V)).sends m i e)

  pub quiet_objects : AgreeOn (objects ev (present V)) (present V) (V.without X)
  unfolding event_footprint
  quiet_objects o h = quiet_foot o (has_left o (objects ev (present V)) (targets V.table (actor ev) (effect ev (present V)).sends) h)

  pub quiet_effect : effect ev (present V) ≡ effect ev (V.without X)
  quiet_effect = effect_same ev (present V) (V.without X) quiet_objects

  pub quiet_footprint : event_footprint V.table ev (present V) ≡ event_footprint V.table ev (V.without X)
  unfolding event_footprint
  quiet_footprint = ap₂ (λ (os : List Object) (f : Effect). os ++ targets V.table (actor ev) f.sends) (objects_same ev (present V) (V.without X) quiet_objects) quiet_effect

  quiet_known : (m : Sending) → IsIn m (effect ev (present V)).sends
      → Known (effect ev (present V)).sends (before_sends (effect ev (present V)) (present V)) (before_sends (effect ev (present V)) (V.without X)) m
  quiet_known m i = by (is_other_starter V.table (actor ev) m.target) refl
    where
      f : Effect
      f = effect ev (present V)

      other : is_live V.table m.target ≡ true → is_member_of V.table m.target (actor ev) ≡ false → (b : Bool) → X m.target ≡ b → Known f.sends (before_sends f (present V)) (before_sends f (V.without X)) m
      other live e false x =
          inl (written_part f.writes (present V) (V.without X) (Proc m.target) (sound.coherent nobody X (Proc m.target) (λ u k.
          sym (subst (λ (y : ℕ). X y ≡ false) (sound.single m.target u (Proc m.target) (sound.own_procs m.target m.target live) k) x))).equal)
      other live e true x =
          inr (
            before_sends f (V.without (just m.target)),
            written_part f.writes (V.without (just m.target)) (V.without X) (Proc m.target) (sound.coherent (just m.target) X (Proc m.target) (λ u k.
                let z : m.target ≡ u = sound.single m.target u (Proc m.target) (sound.own_procs m.target m.target live) k in
                eq-eqb u m.target (sym z) ∙ sym (subst (λ (y : ℕ). X y ≡ true) z x))).equal,
            or_false_right _ _ (way_clear V ev m.target live e (clear m.target live)),
          )

      by : (b : Bool) → is_other_starter V.table (actor ev) m.target ≡ b → Known f.sends (before_sends f (present V)) (before_sends f (V.without X)) m
      by false e = inl (written_part f.writes (present V) (V.without X) (Proc m.target) (quiet_foot (Proc m.target) (quiet_target m i e)).equal)
      by true e = let z = other_parts (is_live V.table m.target) (is_member_of V.table m.target (actor ev)) e in other z.0 z.1 (X m.target) refl

  pub quiet_sent : send_answers (effect ev (present V)) (present V) ≡ send_answers (effect ev (V.without X)) (V.without X)
  quiet_sent =
      let f : Effect = effect ev (present V) in
      answers_known f.sends (before_sends f (present V)) (before_sends f (V.without X)) quiet_known
      ∙ ap (λ (g : Effect). send_answers g (V.without X)) quiet_effect

-- two states without transactions that are not the actor's agree after the event where they agreed before
pub quiet_after : (V : View) (ev : Event) → IsSound V → IsClear V ev → (X Y : Starters) → IsQuiet V ev X → IsQuiet V ev Y
    → (o : Object) → AgreeAt (V.without X) (V.without Y) o → AgreeAt (after ev (V.without X)) (after ev (V.without Y)) o
quiet_after V ev sound clear X Y x y o a =
    after_keeps ev (V.without X) (V.without Y)
    (sym (quiet_effect V ev sound clear X x) ∙ quiet_effect V ev sound clear Y y)
    (sym (quiet_sent V ev sound clear X x) ∙ quiet_sent V ev sound clear Y y)
    o a

-- the reply to the event is the same without transactions that are not the actor's
pub quiet_reply : (V : View) (ev : Event) → IsSound V → IsClear V ev → (X : Starters) → IsQuiet V ev X → reply_of ev (present V) ≡ reply_of ev (V.without X)
quiet_reply V ev sound clear X x = reply_same ev (present V) (V.without X) (quiet_effect V ev sound clear X x) (quiet_sent V ev sound clear X x)

pub outside_quiet : (V : View) (ev : Event) → ((t : ℕ) → is_member_of V.table t (actor ev) ≡ false) → (X : Starters) → IsQuiet V ev X
outside_quiet V ev out X t h = absurd (both_ways (is_member_of V.table t (actor ev)) (out t) h)

pub less_self : (s : ℕ) (X : Starters) → starters_without s X s ≡ false
less_self s X = rw (eq-eqb s s refl) refl

pub commits_quiet : (V : View) (ev : Event) (s : ℕ) → is_member_of V.table s (actor ev) ≡ true → (X : Starters) → IsQuiet V ev (starters_without s X)
commits_quiet V ev s mine X t h = subst (λ (x : ℕ). starters_without s X x ≡ false) (of_unique s t (V.table.marks (actor ev)) mine h) (less_self s X)

with_same : (s : ℕ) (X Y : Starters) (t : ℕ) → ((t == s) ≡ false → X t ≡ Y t) → starters_with s X t ≡ starters_with s Y t
with_same s X Y t h = elim (cases_Bool (t == s)) [ inl e ↦ rw e refl | inr e ↦ rw e (h e) ]

less_same : (s : ℕ) (X Y : Starters) (t : ℕ) → ((t == s) ≡ false → X t ≡ Y t) → starters_without s X t ≡ starters_without s Y t
less_same s X Y t h = elim (cases_Bool (t == s)) [ inl e ↦ rw e refl | inr e ↦ rw e (h e) ]

has_not : (o : Object) (xs ys : List Object) → has_object o (xs ++ ys) ≡ false → has_object o xs ≡ false
has_not o xs ys h = elim (cases_Bool (has_object o xs)) [ inl e ↦ absurd (both_ways (has_object o (xs ++ ys)) h (has_left o xs ys e)) | inr e ↦ e ]

pub objects_in : (t : Table) (ev : Event) (S : State) (o : Object) → has_object o (objects ev S) ≡ true → has_object o (event_footprint t ev S) ≡ true
unfolding event_footprint
objects_in t ev S o h = has_left o (objects ev S) (targets t (actor ev) (effect ev S).sends) h

pub actor_foot : (t : Table) (ev : Event) (S : State) → has_object (Proc (actor ev)) (event_footprint t ev S) ≡ true
actor_foot t ev S = objects_in t ev S (Proc (actor ev)) (actor_in ev S)

-- what a first step takes besides its footprint is what its transaction holds
pub taken_foot : (part : Progress) (s : ℕ) (F : List Object) (o : Object) → has_object o F ≡ true → has_object o (objects_reserved part s F) ≡ true
taken_foot Continues s F o h = h
taken_foot Parks s F o h = h
taken_foot (Forks c) s F o h = h
taken_foot (Begins defers) s F o h = has_tail o (Held s) F h

pub taken_cases : (part : Progress) (s : ℕ) (F : List Object) (o : Object) → has_object o (objects_reserved part s F) ≡ true → (o ≡ Held s) ⊎ (has_object o F ≡ true)
unfolding has_object
taken_cases Continues s F o h = inr h
taken_cases Parks s F o h = inr h
taken_cases (Forks c) s F o h = inr h
taken_cases (Begins defers) s F o h = by (same_object o (Held s)) refl h
  where
    by : (b : Bool) → same_object o (Held s) ≡ b → (if b then true else has_object o F) ≡ true → (o ≡ Held s) ⊎ (has_object o F ≡ true)
    by true e k = inl (same_is o (Held s) e)
    by false e k = inr k

-- an event that is made or not leaves the width as it was
after_if_width : (b : Bool) (ev : Event) (S : State) → (after_if b ev S).width ≡ S.width
after_if_width true ev S = after_width ev S
after_if_width false ev S = refl

-- a note names its own process alone
note_out : (s u : ℕ) (r : ℤ) (S : State) → (s == u) ≡ false → has_object (Proc s) (objects (Note u r) S) ≡ false
unfolding objects has_object
note_out s u r S ne = rw ne refl

-- what posts and answers keep of the starter, in the states without its transaction
module _ (P : Option Process → Type 0) (keeps : IsKept P) where
  -- an event of a process that is no member of the transaction of s keeps it
  other_keeps : (V : View) (ev : Event) → IsSound V → IsClear V ev → (s : ℕ) → is_live V.table s ≡ true → is_member_of V.table s (actor ev) ≡ false
      → P ((V.without (just s)).procs s) → P ((after ev (V.without (just s))).procs s)
  other_keeps V ev sound clear s live other h = event_keeps P keeps s ev (V.without (just s)) out h
    where
      quiet : IsQuiet V ev (just s)
      quiet t k = by (t == s) (λ e. eqb-true t s e)
        where
          by : (b : Bool) → (b ≡ true → t ≡ s) → b ≡ false
          by true e = absurd (both_ways (is_member_of V.table s (actor ev)) other (subst (λ (u : ℕ). is_member_of V.table u (actor ev) ≡ true) (e refl) k))
          by false e = refl

      out_now : (b : Bool) → has_object (Proc s) (objects ev (present V)) ≡ b → b ≡ false
      out_now true e = absurd (both_ways (is_member_of V.table s (actor ev)) other
          (clear_foot V ev sound clear (Proc s) s (objects_in V.table ev (present V) (Proc s) e) (sound.own_procs s s live)))
      out_now false e = refl

      out : has_object (Proc s) (objects ev (V.without (just s))) ≡ false
      out = subst (λ (os : List Object). has_object (Proc s) os ≡ false)
          (objects_same ev (present V) (V.without (just s)) (quiet_objects V ev sound clear (just s) quiet))
          (out_now (has_object (Proc s) (objects ev (present V))) refl)

  less_just : (u s : ℕ) → (u == s) ≡ false → starters_without u (just s) ≡ just s
  less_just u s ne = λ i n. same n i
    where
      same : (n : ℕ) → starters_without u (just s) n ≡ just s n
      same n = by (n == u) (λ e. eqb-true n u e)
        where
          by : (b : Bool) → (b ≡ true → n ≡ u) → (if b then false else n == s) ≡ (n == s)
          by true e = sym (subst (λ (k : ℕ). (k == s) ≡ false) (sym (e refl)) ne)
          by false e = refl

  -- and so does every step that does not end that transaction
  pub starter_keeps : (r : Role) (V : View) (ev : Event) (p : ℕ) → IsSound V → Passes r ev V → Fits r ev p V → (s : ℕ) → is_live V.table s ≡ true → ends_it s r ≡ false
      → P ((V.without (just s)).procs s) → P (((next_by r ev p V).without (just s)).procs s)
  starter_keeps Outside V ev p sound clear fits s live ne h = other_keeps V ev sound clear s live (fits s) h
  starter_keeps (Within u part) V ev p sound clear fits s live ne h = by (u == s) refl
    where
      other : (b : Bool) → is_member_of V.table s (actor ev) ≡ b → (u == s) ≡ false → b ≡ false
      other true e k = absurd (both_ways (u == s) k (eq-eqb u s (sym (fits.mine s (subst (λ (q : ℕ). is_member_of V.table s q ≡ true) fits.actor_is e)))))
      other false e k = refl

      by : (b : Bool) → (u == s) ≡ b → P ((after_if (not b) ev (V.without (just s))).procs s)
      by true e = h
      by false e = other_keeps V ev sound clear s live (other (is_member_of V.table s (actor ev)) refl e) h
  starter_keeps (Commits u) V ev p sound clear fits s live ne h =
      subst (λ (X : Starters). P ((after ev (V.without X)).procs s)) (sym (less_just u s ne)) (other_keeps V ev sound clear s live (other (is_member_of V.table s (actor ev)) refl) h)
    where
      other : (b : Bool) → is_member_of V.table s (actor ev) ≡ b → b ≡ false
      other true e = absurd (both_ways (u == s) ne (eq-eqb u s (of_unique u s (V.table.marks (actor ev)) fits e)))
      other false e = refl
  starter_keeps (Aborts u k) V ev p sound clear fits s live ne h =
      event_keeps P keeps s ev (V.without (starters_with u (just s))) out (subst P (sym same.equal) h)
    where
      same : AgreeAt (V.without (starters_with u (just s))) (V.without (just s)) (Proc s)
      same = sound.coherent (starters_with u (just s)) (just s) (Proc s) (λ t z.
          let e : t ≡ s = sound.single t s (Proc s) z (sound.own_procs s s live) in
          subst (λ (n : ℕ). starters_with u (just s) n ≡ just s n) (sym e) (both (s == u)))
        where
          both : (b : Bool) → (if b then true else s == s) ≡ (s == s)
          both true = sym (eq-eqb s s refl)
          both false = refl

      out : has_object (Proc s) (objects ev (V.without (starters_with u (just s)))) ≡ false
      out = subst (λ (x : Event). has_object (Proc s) (objects x (V.without (starters_with u (just s)))) ≡ false) (sym fits.1.1)
          (note_out s u fits.1.0 (V.without (starters_with u (just s))) (eq_comm s u ∙ ne))

-- what was reserved after a step inside a transaction
pub reserved_cases : (s p : ℕ) (h t : Bool) → (if s == p then (if h then true else t) else t) ≡ true → ((s ≡ p) × (h ≡ true)) ⊎ (t ≡ true)
reserved_cases s p h t = by (s == p) (λ e. eqb-true s p e) h
  where
    by : (b : Bool) → (b ≡ true → s ≡ p) → (h : Bool) → (if b then (if h then true else t) else t) ≡ true → ((s ≡ p) × (h ≡ true)) ⊎ (t ≡ true)
    by true e true k = inl (e refl, refl)
    by true e false k = inr k
    by false e h k = inr k

pub reserved_old : (s p : ℕ) (h t : Bool) → t ≡ true → (if s == p then (if h then true else t) else t) ≡ true
reserved_old s p h t e = by (s == p) h
  where
    by : (b h : Bool) → (if b then (if h then true else t) else t) ≡ true
    by true true = refl
    by true false = e
    by false h = e

pub reserved_new : (s : ℕ) (h t : Bool) → h ≡ true → (if s == s then (if h then true else t) else t) ≡ true
reserved_new s h t e = rw (eq-eqb s s refl, e) refl

-- the targets of what is posted among members are in the footprint
targets_foot : (t : Table) (p : ℕ) (ms xs : List Sending) (os : List Object) → ((m : Sending) → IsIn m xs → has_object (Proc m.target) os ≡ true) → TargetsIn xs os
targets_foot t p ms [] os h = tt
targets_foot t p ms (x ∷ xs) os h = (h x (inl refl), targets_foot t p ms xs os (λ m i. h m (inr i)))

-- a step inside a transaction, on the states with it and without it
module _ (V : View) (ev : Event) (sound : IsSound V) (clear : IsClear V ev) (s : ℕ) (part : Progress) (p : ℕ) (fits : FitsWithin s part ev p V) where
  abbrev F : List Object
  F = event_footprint V.table ev (present V)

  within_quiet : (X : Starters) → X s ≡ false → IsQuiet V ev X
  within_quiet X x t h = subst (λ (u : ℕ). X u ≡ false) (sym (fits.mine t (subst (λ (q : ℕ). is_member_of V.table t q ≡ true) fits.actor_is h))) x

  -- the event changes nothing outside its footprint, in any state with the transaction
  pub within_else : (X : Starters) → X s ≡ false → (o : Object) → has_object o (event_footprint V.table ev (present V)) ≡ false → AgreeAt (after ev (V.without X)) (V.without X) o
  unfolding event_footprint
  within_else X x o h =
      let S : State = V.without X in
      let os : List Object = event_footprint V.table ev S in
      after_else ev S os o
      (effect_fits ev S os (λ q k. has_left q (objects ev S) (targets V.table (actor ev) (effect ev S).sends) k)
      (targets_foot V.table (actor ev) (effect ev S).sends (effect ev S).sends os (λ m i.
      has_right (Proc m.target) (objects ev S) (targets V.table (actor ev) (effect ev S).sends) (in_targets V.table (actor ev) (effect ev S).sends m i (fits.sends S m i)))))
      (subst (λ (os : List Object). has_object o os ≡ false) (quiet_footprint V ev sound clear X (within_quiet X x)) h)

  within_coherent : (X Y : Starters) (o : Object) → ((t : ℕ) → (next_by (Within s part) ev p V).reserved t o ≡ true → X t ≡ Y t)
      → AgreeAt ((next_by (Within s part) ev p V).without X) ((next_by (Within s part) ev p V).without Y) o
  within_coherent X Y o same = by (X s) (Y s) refl refl
    where
      old : AgreeAt (V.without X) (V.without Y) o
      old = sound.coherent X Y o (λ t k. same t (reserved_old t s (has_object o (objects_reserved part s F)) (V.reserved t o) k))

      apart : (X s ≡ Y s → ⊥) → has_object o F ≡ false
      apart ne = elim (cases_Bool (has_object o F)) [
        | inl e ↦ absurd (ne (same s (reserved_new s (has_object o (objects_reserved part s F)) (V.reserved s o) (taken_foot part s F o e))))
        | inr e ↦ e
      ]

      by : (x y : Bool) → X s ≡ x → Y s ≡ y → AgreeAt (after_if (not x) ev (V.without X)) (after_if (not y) ev (V.without Y)) o
      by true true x y = old
      by false false x y = quiet_after V ev sound clear X Y (within_quiet X x) (within_quiet Y y) o old
      by true false x y = agree_trans (V.without X) (V.without Y) (after ev (V.without Y)) o old
          (agree_sym (after ev (V.without Y)) (V.without Y) o (within_else Y y o (apart (λ d. let z : true ≡ false = sym x ∙ d ∙ y in cc))))
      by false true x y = agree_trans (after ev (V.without X)) (V.without X) (V.without Y) o
          (within_else X x o (apart (λ d. let z : false ≡ true = sym x ∙ d ∙ y in cc))) old

  -- who reserved an object of what is taken is the transaction itself
  pub taken_mine : (o : Object) (u : ℕ) → has_object o (objects_reserved part s F) ≡ true → V.reserved u o ≡ true → u ≡ s
  taken_mine o u h k = elim (taken_cases part s F o h) [
    | inl e ↦ sound.held_own u s (subst (λ (q : Object). V.reserved u q ≡ true) e k)
    | inr e ↦ fits.mine u (subst (λ (q : ℕ). is_member_of V.table u q ≡ true) fits.actor_is (clear_foot V ev sound clear o u e k))
  ]

  within_single : (t u : ℕ) (o : Object) → (next_by (Within s part) ev p V).reserved t o ≡ true → (next_by (Within s part) ev p V).reserved u o ≡ true → t ≡ u
  within_single t u o h k = by (reserved_cases t s (has_object o (objects_reserved part s F)) (V.reserved t o) h) (reserved_cases u s (has_object o (objects_reserved part s F)) (V.reserved u o) k)
    where
      by : ((t ≡ s) × (has_object o (objects_reserved part s F) ≡ true)) ⊎ (V.reserved t o ≡ true) → ((u ≡ s) × (has_object o (objects_reserved part s F) ≡ true)) ⊎ (V.reserved u o ≡ true) → t ≡ u
      by (inl a) (inl b) = a.0 ∙ sym b.0
      by (inl a) (inr b) = a.0 ∙ sym (taken_mine o u a.1 b)
      by (inr a) (inl b) = taken_mine o t b.1 a ∙ sym b.0
      by (inr a) (inr b) = sound.single t u o a b

  live_of : is_member_of V.table s p ≡ true → is_live V.table s ≡ true
  live_of h = sound.owned_live s (Proc p) (sound.own_procs s p h)

  grows : Grows V.table s (table_after (Within s part) p V.table) (joins_by part p)
  grows = by part fits.progress_fits (λ c h k. fits.mine c (subst (λ (q : ℕ). is_member_of V.table c q ≡ true) fits.actor_is
      (clear_foot V ev sound clear (Proc c) c (objects_in V.table ev (present V) (Proc c) h) (sound.own_procs c c k))))
    where
      by : (part : Progress) → ProgressFits V s p ev part → ((c : ℕ) → has_object (Proc c) (objects ev (present V)) ≡ true → is_live V.table c ≡ true → c ≡ s)
          → Grows V.table s (table_after (Within s part) p V.table) (joins_by part p)
      by Continues f own = continues_grows V.table s p (live_of f)
      by Parks f own = parks_grows V.table s p (live_of f)
      by (Forks c) f own = forks_grows V.table s p c (live_of f.0) (own c f.1)
      by (Begins defers) f own = subst (λ (x : ℕ). Grows V.table x (table_after (Within x (Begins defers)) p V.table) (joins_by (Begins defers) p)) (sym f.0) (begins_grows V.table p defers)

  -- a number that joins is in what is taken, and is a process number
  joins_taken : (q : ℕ) → joins_by part p q ≡ true → (has_object (Proc q) (objects_reserved part s F) ≡ true) × (is_between V.table.width q ≡ true)
  joins_taken q = by part fits.progress_fits
    where
      by : (part : Progress) → ProgressFits V s p ev part → joins_by part p q ≡ true → (has_object (Proc q) (objects_reserved part s F) ≡ true) × (is_between V.table.width q ≡ true)
      by Continues f h = cc
      by Parks f h = cc
      by (Forks c) f h =
          let e : c ≡ q = sym (eqb-true q c h) in
          (objects_in V.table ev (present V) (Proc q) (subst (λ (x : ℕ). has_object (Proc x) (objects ev (present V)) ≡ true) e f.1), subst (λ (x : ℕ). is_between V.table.width x ≡ true) e f.2)
      by (Begins defers) f h =
          let e : p ≡ q = sym (eqb-true q p h) in
          (has_tail (Proc q) (Held s) F (subst (λ (x : ℕ). has_object (Proc x) F ≡ true) (fits.actor_is ∙ e) (actor_foot V.table ev (present V))), subst (λ (x : ℕ). is_between V.table.width x ≡ true) e f.2)

  -- a number joins the transaction that is live before, or that this step begins
  begins_held : (is_live V.table s ≡ true) ⊎ (has_object (Held s) (objects_reserved part s F) ≡ true)
  begins_held = by part fits.progress_fits
    where
      by : (part : Progress) → ProgressFits V s p ev part → (is_live V.table s ≡ true) ⊎ (has_object (Held s) (objects_reserved part s F) ≡ true)
      by Continues f = inl (live_of f)
      by Parks f = inl (live_of f)
      by (Forks c) f = inl (live_of f.0)
      by (Begins defers) f = inr (has_head (Held s) F)

  -- its starter runs, in the state without it
  begins_runs : Runs ((V.without (just s)).procs s)
  begins_runs = by part fits.progress_fits
    where
      by : (part : Progress) → ProgressFits V s p ev part → Runs ((V.without (just s)).procs s)
      by Continues f = sound.starter_runs s (live_of f)
      by Parks f = sound.starter_runs s (live_of f)
      by (Forks c) f = sound.starter_runs s (live_of f.0)
      by (Begins defers) f = subst (λ (x : ℕ). Runs ((V.without (just x)).procs x)) (sym f.0)
          (subst Runs (sound.coherent nobody (just p) (Proc p) (λ t k.
          absurd (both_ways (is_member_of V.table t p) (of_none t (V.table.marks p) f.1)
          (subst (λ (q : ℕ). is_member_of V.table t q ≡ true) fits.actor_is
          (clear_foot V ev sound clear (Proc p) t (subst (λ (q : ℕ). has_object (Proc q) F ≡ true) fits.actor_is (actor_foot V.table ev (present V))) k))))).equal f.3)

  foot_held : (u : ℕ) → has_object (Held u) F ≡ true → u ≡ s
  unfolding event_footprint
  foot_held u h = elim (has_either (Held u) (objects ev (present V)) (targets V.table (actor ev) (effect ev (present V)).sends) h) [
    | inl e ↦ fits.holds (present V) u e
    | inr e ↦ absurd (both_ways (has_object (Held u) (targets V.table (actor ev) (effect ev (present V)).sends)) (targets_lack (Held u) (λ n. refl) V.table (actor ev) (effect ev (present V)).sends) e)
  ]

  held_same : (u : ℕ) → Held u ≡ Held s → u ≡ s
  held_same u e = cc

  pub within_sound : IsSound (next_by (Within s part) ev p V)
  within_sound = record {
    coherent = within_coherent;
    owned_live = λ t o h. elim (reserved_cases t s (has_object o (objects_reserved part s F)) (V.reserved t o) h) [
      | inl a ↦ subst (λ (x : ℕ). is_live (table_after (Within s part) p V.table) x ≡ true) (sym a.0) grows.live
      | inr a ↦ grows.lives t (sound.owned_live t o a)
    ];
    single = within_single;
    own_procs = λ t q h. elim (grows.members t q h) [
      | inl a ↦ reserved_old t s (has_object (Proc q) (objects_reserved part s F)) (V.reserved t (Proc q)) (sound.own_procs t q a)
      | inr a ↦ subst (λ (x : ℕ). (next_by (Within s part) ev p V).reserved x (Proc q) ≡ true) (sym a.0)
          (reserved_new s (has_object (Proc q) (objects_reserved part s F)) (V.reserved s (Proc q)) (joins_taken q a.1).0)
    ];
    own_held = λ t h. elim (grows.members t t h) [
      | inl a ↦ reserved_old t s (has_object (Held t) (objects_reserved part s F)) (V.reserved t (Held t)) (sound.own_held t a)
      | inr a ↦ subst (λ (x : ℕ). (next_by (Within s part) ev p V).reserved x (Held x) ≡ true) (sym a.0)
          (elim begins_held [
            | inl b ↦ reserved_old s s (has_object (Held s) (objects_reserved part s F)) (V.reserved s (Held s)) (sound.own_held s b)
            | inr b ↦ reserved_new s (has_object (Held s) (objects_reserved part s F)) (V.reserved s (Held s)) b
          ])
    ];
    held_own = λ t u h. elim (reserved_cases t s (has_object (Held u) (objects_reserved part s F)) (V.reserved t (Held u)) h) [
      | inl a ↦ a.0 ∙ sym (elim (taken_cases part s F (Held u) a.1) [ inl e ↦ held_same u e | inr e ↦ foot_held u e ])
      | inr a ↦ sound.held_own t u a
    ];
    width = λ X. after_if_width (not (X s)) ev (V.without X) ∙ sound.width X;
    starter_runs = λ t h. elim (grows.members t t h) [
      | inl a ↦ starter_keeps Runs runs_kept (Within s part) V ev p sound clear fits t a refl (sound.starter_runs t a)
      | inr a ↦ subst (λ (x : ℕ). Runs (((next_by (Within s part) ev p V).without (just x)).procs x)) (sym a.0) (rw (eq-eqb s s refl) begins_runs)
    ];
    bounded = λ t q h. elim (grows.members t q h) [
      | inl a ↦ sound.bounded t q a
      | inr a ↦ (joins_taken q a.1).1
    ];
  }

pub outside_sound : (V : View) (ev : Event) (p : ℕ) → IsSound V → IsClear V ev → Fits Outside ev p V → IsSound (next_by Outside ev p V)
outside_sound V ev p sound clear out = record {
  coherent = λ X Y o same. quiet_after V ev sound clear X Y (outside_quiet V ev out X) (outside_quiet V ev out Y) o (sound.coherent X Y o same);
  owned_live = sound.owned_live;
  single = sound.single;
  own_procs = sound.own_procs;
  own_held = sound.own_held;
  held_own = sound.held_own;
  width = λ X. after_width ev (V.without X) ∙ sound.width X;
  starter_runs = λ s h. starter_keeps Runs runs_kept Outside V ev p sound clear out s h refl (sound.starter_runs s h);
  bounded = sound.bounded;
}

-- what is left when the transaction of s is over
module _ (V : View) (sound : IsSound V) (s : ℕ) where
  over_reserved : (t : ℕ) (o : Object) → (if t == s then false else V.reserved t o) ≡ true → V.reserved t o ≡ true
  over_reserved t o h = (not_left (t == s) (V.reserved t o) h).1

  over_member : (t q : ℕ) → is_of t (mark_unless_of s (V.table.marks q)) ≡ true → ((t == s) ≡ false) × (is_member_of V.table t q ≡ true)
  over_member t q h = not_left (t == s) (is_member_of V.table t q) (sym (of_unmarked t s (V.table.marks q)) ∙ h)

  over_live : (t : ℕ) (o : Object) → (if t == s then false else V.reserved t o) ≡ true → is_of t (mark_unless_of s (V.table.marks t)) ≡ true
  over_live t o h = let z = not_left (t == s) (V.reserved t o) h in of_unmarked t s (V.table.marks t) ∙ rw z.0 (sound.owned_live t o z.1)

  over_procs : (t q : ℕ) → is_of t (mark_unless_of s (V.table.marks q)) ≡ true → (if t == s then false else V.reserved t (Proc q)) ≡ true
  over_procs t q h = let z = over_member t q h in rw z.0 (sound.own_procs t q z.1)

  over_held : (t : ℕ) → is_of t (mark_unless_of s (V.table.marks t)) ≡ true → (if t == s then false else V.reserved t (Held t)) ≡ true
  over_held t h = let z = over_member t t h in rw z.0 (sound.own_held t z.1)

pub commits_sound : (V : View) (ev : Event) (p : ℕ) → IsSound V → IsClear V ev → (s : ℕ) → Fits (Commits s) ev p V → IsSound (next_by (Commits s) ev p V)
commits_sound V ev p sound clear s fits = record {
  coherent = λ X Y o same. quiet_after V ev sound clear (starters_without s X) (starters_without s Y) (commits_quiet V ev s fits X) (commits_quiet V ev s fits Y) o
      (sound.coherent (starters_without s X) (starters_without s Y) o (λ t k. less_same s X Y t (λ e. same t (rw e k))));
  owned_live = over_live V sound s;
  single = λ t u o h k. sound.single t u o (over_reserved V sound s t o h) (over_reserved V sound s u o k);
  own_procs = over_procs V sound s;
  own_held = over_held V sound s;
  held_own = λ t u h. sound.held_own t u (over_reserved V sound s t (Held u) h);
  width = λ X. after_width ev (V.without (starters_without s X)) ∙ sound.width (starters_without s X);
  starter_runs = λ t h. let z = over_member V sound s t t h in
      starter_keeps Runs runs_kept (Commits s) V ev p sound clear fits t z.1 (eq_comm s t ∙ z.0) (sound.starter_runs t z.1);
  bounded = λ t q h. sound.bounded t q (over_member V sound s t q h).1;
}

-- a note keeps agreement, where its process is the same
note_keeps : (s : ℕ) (r : ℤ) (S R : State) → AgreeAt S R (Proc s) → (o : Object) → AgreeAt S R o → AgreeAt (after (Note s r) S) (after (Note s r) R) o
unfolding effect objects post_answers has_object
note_keeps s r S R a o h =
    after_keeps (Note s r) S R (effect_same (Note s r) S R (λ q k. by q k (same_object q (Proc s)) refl)) refl o h
  where
    by : (q : Object) → has_object q (Proc s ∷ []) ≡ true → (b : Bool) → same_object q (Proc s) ≡ b → AgreeAt S R q
    by q k true e = subst (AgreeAt S R) (sym (same_is q (Proc s) e)) a
    by q k false e = let z : false ≡ true = rw e at k in cc

pub aborts_sound : (V : View) (r : ℤ) (p : ℕ) → IsSound V → (s k : ℕ) → is_live V.table s ≡ true → IsSound (next_by (Aborts s k) (Note s r) p V)
aborts_sound V r p sound s k live = record {
  coherent = λ X Y o same.
      let proc : AgreeAt (V.without (starters_with s X)) (V.without (starters_with s Y)) (Proc s) =
      sound.coherent (starters_with s X) (starters_with s Y) (Proc s) (λ t z. with_same s X Y t (λ e.
      absurd (both_ways (t == s) e (eq-eqb t s (sound.single t s (Proc s) z (sound.own_procs s s live)))))) in
      note_keeps s r (V.without (starters_with s X)) (V.without (starters_with s Y)) proc o
      (sound.coherent (starters_with s X) (starters_with s Y) o (λ t z. with_same s X Y t (λ e. same t (rw e z))));
  owned_live = over_live V sound s;
  single = λ t u o h z. sound.single t u o (over_reserved V sound s t o h) (over_reserved V sound s u o z);
  own_procs = over_procs V sound s;
  own_held = over_held V sound s;
  held_own = λ t u h. sound.held_own t u (over_reserved V sound s t (Held u) h);
  width = λ X. after_width (Note s r) (V.without (starters_with s X)) ∙ sound.width (starters_with s X);
  starter_runs = λ t h. let z = over_member V sound s t t h in
      starter_keeps Runs runs_kept (Aborts s k) V (Note s r) p sound tt (live, (r, refl)) t z.1 (eq_comm s t ∙ z.0) (sound.starter_runs t z.1);
  bounded = λ t q h. sound.bounded t q (over_member V sound s t q h).1;
}

pub sound_by : (r : Role) (V : View) (ev : Event) (p : ℕ) → IsSound V → Passes r ev V → Fits r ev p V → IsSound (next_by r ev p V)
sound_by Outside V ev p sound clear fits = outside_sound V ev p sound clear fits
sound_by (Within s part) V ev p sound clear fits = within_sound V ev sound clear s part p fits
sound_by (Commits s) V ev p sound clear fits = commits_sound V ev p sound clear s fits
sound_by (Aborts s k) V ev p sound clear fits = subst (λ (x : Event). IsSound (next_by (Aborts s k) x p V)) (sym fits.1.1) (aborts_sound V fits.1.0 p sound s k fits.0)
