-- What a step makes of the content, in each role, has the two states that it is to have.
use Rattle.std.proofs.Common.{◌≡◌, ℕ, Bool, true, false, List, [], ◌++◌, ℤ, Option, Some, None, is_none, if◌then◌else◌, ◌==◌, refl, sym, ap, ◌∙◌, subst, inl, inr, ◌⊎◌, eqb-true, eq-eqb}
use Rattle.std.proofs.lemmas.Bool.{both_ways, cases_Bool}
use Rattle.tx_change.specs.States.{changed_by}
use Rattle.tx_change.specs.declared.change.Change.{Change}
use Rattle.tx_laws.specs.Fits.{FitsWithin, Fits, Passes}
use Rattle.tx_laws.specs.TwoStates.{in_set, pick, states_without, states_view, freed, made, states_next}
use Rattle.tx_model.specs.Events.{Event, Note, actor, effect}
use Rattle.tx_model.specs.History.{just, event_footprint, objects_reserved}
use Rattle.tx_model.specs.Membership.{Progress, Role, Outside, Within, Commits, Aborts, is_live}
use Rattle.tx_model.specs.Posts.{after_posts}
use Rattle.tx_model.specs.State.{State, Object, Proc, Desc, Pipe, Held, put_at, same_object, has_object, with_writes}
use Rattle.tx_model.specs.StateLaws.{state_ext, EqualAt}
use Rattle.tx_model.specs.Words.{IsClear, next_by}
use Rattle.tx_txn.specs.Content.{Txn, LogKernel, with_kept, led_by, kept_of, two_states_of, IsKept}
use Rattle.tx_txn.specs.Faces.{pending_in}
use Rattle.tx_txn.specs.Laws.{RoleLaws}
use Rattle.tx_txn.specs.Steps.{posted, logged, next_content, AgreeBut, Logs}
use Rattle.tx_txn.proofs.Facts.{part_refl, part_sym, part_trans, pick_true, pick_false, is_just, in_just, freed_some, of_other}
use Rattle.tx_txn.proofs.Overlays.{but_part, with_kept_part, changed_by_but, changed_by_width, led_part, with_own}
use Rattle.tx_txn.proofs.Owned.{kept_at, kept_at_txn, txn_of, own_proc, else_same, led_else, posted_kept, own_reserved, else_stays}

-- the transaction where another one is over
pub not_over : (s t : ℕ) (f : ℕ → Option Txn) (x : Txn) → (t == s) ≡ false → f t ≡ Some x → put_at f s None t ≡ Some x
not_over s t f x n e = rw n e

note_else : (s : ℕ) (r : ℤ) (S T : State) (o : Object) → same_object o (Proc s) ≡ false → EqualAt (made (Note s r) S T) T o
unfolding effect with_writes after_posts
note_else s r S T (Proc n) h = rw h refl
note_else s r S T (Desc n) h = refl
note_else s r S T (Pipe n) h = refl
note_else s r S T (Held n) h = refl

module _ (laws : RoleLaws) (c : LogKernel) (k : IsKept c) where
  pub outside_kept : (ev : Event) (p : ℕ) (new : List Change) → IsClear (states_view (two_states_of c)) ev → Fits Outside ev p (states_view (two_states_of c))
      → (o : Object) (t : ℕ) → c.owner o ≡ Some t → EqualAt (kept_of (next_content Outside ev p new c)) (made ev c.now (kept_of c)) o
  unfolding next_content states_view
  outside_kept ev p new clear fits o t h =
      let x = txn_of c k t o h in
      let C : LogKernel = next_content Outside ev p new c in
      part_trans (kept_of C) (led_by t (posted t (effect ev c.now).sends (Some x.0)) C.now) (made ev c.now (kept_of c)) o
      (kept_at_txn C o t _ h (ap (posted t (effect ev c.now).sends) x.1))
      (posted_kept laws c k ev clear t x.0 x.1 (fits t) o h)

  pub commits_kept : (ev : Event) (s p : ℕ) (new : List Change) → IsClear (states_view (two_states_of c)) ev → Fits (Commits s) ev p (states_view (two_states_of c))
      → (o : Object) (t : ℕ) → freed s (c.owner o) ≡ Some t → EqualAt (kept_of (next_content (Commits s) ev p new c)) (made ev c.now (kept_of c)) o
  unfolding next_content states_view
  commits_kept ev s p new clear fits o t h =
      let f = freed_some s t (c.owner o) h in
      let x = txn_of c k t o f.0 in
      let C : LogKernel = next_content (Commits s) ev p new c in
      part_trans (kept_of C) (led_by t (posted t (effect ev c.now).sends (Some x.0)) C.now) (made ev c.now (kept_of c)) o
      (kept_at_txn C o t _ h (ap (posted t (effect ev c.now).sends) (not_over s t c.txns x.0 f.1 x.1)))
      (posted_kept laws c k ev clear t x.0 x.1 (of_other s t (c.table.marks (actor ev)) fits f.1) o f.0)

  -- led back by one transaction, the state is that without it
  led_without : (s : ℕ) → is_live c.table s ≡ true → led_by s (c.txns s) c.now ≡ states_without (two_states_of c) (just s)
  led_without s live =
      let x = txn_of c k s (Proc s) (own_proc c k s live) in
      let W : State = states_without (two_states_of c) (just s) in
      let L : State = led_by s (Some x.0) c.now in
      ap (λ (y : Option Txn). led_by s y c.now) x.1
      ∙ state_ext L W (changed_by_width x.0.log c.now) (λ o.
      elim (cases_Bool (in_set (just s) (c.owner o))) [
        | inl h ↦ part_trans L (kept_of c) W o (part_sym (kept_of c) L o (kept_at_txn c o s x.0 (is_just s (c.owner o) h) x.1))
            (part_sym W (kept_of c) o (pick_true (λ o. in_set (just s) (c.owner o)) (kept_of c) c.now o h))
        | inr h ↦ part_trans L c.now W o (led_else laws c k s x.0 o x.1 (λ e. both_ways (in_set (just s) (c.owner o)) h (in_just s (c.owner o) e)))
            (part_sym W c.now o (pick_false (λ o. in_set (just s) (c.owner o)) (kept_of c) c.now o h))
      ])

  pub aborts_kept : (s status p : ℕ) (r : ℤ) (new : List Change) → is_live c.table s ≡ true → (o : Object) (t : ℕ) → freed s (c.owner o) ≡ Some t
      → EqualAt (kept_of (next_content (Aborts s status) (Note s r) p new c)) (made (Note s r) (states_without (two_states_of c) (just s)) (kept_of c)) o
  unfolding next_content
  aborts_kept s status p r new live o t h =
      let f = freed_some s t (c.owner o) h in
      let x = txn_of c k t o f.0 in
      let y = txn_of c k s (Proc s) (own_proc c k s live) in
      let C : LogKernel = next_content (Aborts s status) (Note s r) p new c in
      let L : State = led_by s (c.txns s) c.now in
      let N : State = made (Note s r) L L in
      let K : State = made (Note s r) (states_without (two_states_of c) (just s)) (kept_of c) in
      let not_own : c.owner o ≡ Some s → ⊥ = λ e. both_ways (t == s) f.1 (eq-eqb t s (ap (λ (z : Option ℕ). or_else z s) (sym f.0 ∙ e))) in
      let off : same_object o (Proc s) ≡ false = else_same c k s (Proc s) o (own_proc c k s live) not_own in
      let stays : EqualAt N c.now o = part_trans N L c.now o (note_else s r L L o off) (subst (λ (z : Option Txn). EqualAt (led_by s z c.now) c.now o) (sym y.1) (led_else laws c k s y.0 o y.1 not_own)) in
      part_trans (kept_of C) (led_by t (Some x.0) N) K o (kept_at_txn C o t x.0 h (not_over s t c.txns x.0 f.1 x.1))
      (part_trans (led_by t (Some x.0) N) (led_by t (Some x.0) c.now) K o (led_part t x.0 N c.now o (but_part t N c.now o stays))
      (part_trans (led_by t (Some x.0) c.now) (kept_of c) K o (part_sym (kept_of c) (led_by t (Some x.0) c.now) o (kept_at_txn c o t x.0 f.0 x.1))
      (part_sym K (kept_of c) o (note_else s r (states_without (two_states_of c) (just s)) (kept_of c) o off))))
    where
      or_else : Option ℕ → ℕ → ℕ
      or_else None n = n
      or_else (Some m) n = m

  -- a step inside the transaction of s
  module _ (ev : Event) (s : ℕ) (part : Progress) (p : ℕ) (new : List Change)
      (clear : IsClear (states_view (two_states_of c)) ev) (fits : FitsWithin s part ev p (states_view (two_states_of c))) (logs : Logs (Within s part) ev new c) where
    abbrev N : State
    N = made ev c.now c.now

    abbrev F : List Object
    F = objects_reserved part s (event_footprint c.table ev c.now)

    -- what is to be kept
    abbrev pub to_keep : State
    to_keep = pick (λ o. if has_object o (objects_reserved part s (event_footprint c.table ev c.now)) then is_none (c.owner o) else false) c.now (kept_of c)

    pub keeps_now : (o : Object) → has_object o (objects_reserved part s (event_footprint c.table ev c.now)) ≡ true → c.owner o ≡ None → EqualAt c.now to_keep o
    keeps_now o h e =
        part_sym to_keep c.now o
        (pick_true (λ o. if has_object o (objects_reserved part s (event_footprint c.table ev c.now)) then is_none (c.owner o) else false) c.now (kept_of c) o (rw (h, e) refl))

    pub keeps_old : (o : Object) (t : ℕ) → c.owner o ≡ Some t → EqualAt (kept_of c) to_keep o
    keeps_old o t e =
        part_sym to_keep (kept_of c) o
        (pick_false (λ o. if has_object o (objects_reserved part s (event_footprint c.table ev c.now)) then is_none (c.owner o) else false) c.now (kept_of c) o (by (has_object o F)))
      where
        by : (b : Bool) → (if b then is_none (c.owner o) else false) ≡ false
        by true = rw e refl
        by false = refl

    -- led back by the old log and the new, the objects of the transaction are as they are to be kept
    mine : (o : Object) → ((c.owner o ≡ None) × (has_object o F ≡ true)) ⊎ (c.owner o ≡ Some s) → EqualAt (led_by s (logged new (c.now.procs s) (c.txns s)) N) to_keep o
    mine o own = by (c.txns s) refl own
      where
        by : (y : Option Txn) → c.txns s ≡ y → ((c.owner o ≡ None) × (has_object o F ≡ true)) ⊎ (c.owner o ≡ Some s) → EqualAt (led_by s (logged new (c.now.procs s) y) N) to_keep o
        by None e (inl f) =
            part_trans (with_kept s (pending_in (c.now.procs s)) (changed_by new N)) c.now to_keep o
            (with_own s (changed_by new N) c.now o (logs.back o) (λ n i m. subst (λ (u : ℕ). c.now.held u ≡ []) (sym (eqb-true n s m)) (k.empty s e)))
            (keeps_now o f.1 f.0)
        by None e (inr f) = let x = txn_of c k s o f in let z : None ≡ Some x.0 = sym e ∙ x.1 in cc
        by (Some x) e own =
            let led : AgreeBut s (changed_by (new ++ x.log) N) (changed_by x.log c.now) o =
            subst (λ (S : State). AgreeBut s S (changed_by x.log c.now) o) (sym (laws.appended N new x.log)) (changed_by_but s x.log (changed_by new N) c.now o (logs.back o)) in
            part_trans (with_kept s x.pending (changed_by (new ++ x.log) N)) (led_by s (Some x) c.now) to_keep o
            (with_kept_part s x.pending (changed_by (new ++ x.log) N) (changed_by x.log c.now) o led)
            (elim own [
              | inl f ↦ part_trans (led_by s (Some x) c.now) c.now to_keep o (led_else laws c k s x o e (λ i. let z : None ≡ Some s = sym f.0 ∙ i in cc)) (keeps_now o f.1 f.0)
              | inr f ↦ part_trans (led_by s (Some x) c.now) (kept_of c) to_keep o (part_sym (kept_of c) (led_by s (Some x) c.now) o (kept_at_txn c o s x f e)) (keeps_old o s f)
            ])

    -- the log of another transaction leads back to what it led to
    others : (o : Object) (t : ℕ) → c.owner o ≡ Some t → (t == s) ≡ false → has_object o F ≡ false → EqualAt (led_by t (put_at c.txns s (logged new (c.now.procs s) (c.txns s)) t) N) to_keep o
    others o t f i out =
        let x = txn_of c k t o f in
        let e : put_at c.txns s (logged new (c.now.procs s) (c.txns s)) t ≡ Some x.0 = rw i x.1 in
        subst (λ (y : Option Txn). EqualAt (led_by t y N) to_keep o) (sym e)
        (part_trans (led_by t (Some x.0) N) (led_by t (Some x.0) c.now) to_keep o
        (led_part t x.0 N c.now o (but_part t N c.now o (else_stays laws c k ev clear s part p fits o out)))
        (part_trans (led_by t (Some x.0) c.now) (kept_of c) to_keep o (part_sym (kept_of c) (led_by t (Some x.0) c.now) o (kept_at_txn c o t x.0 f x.1)) (keeps_old o t f)))

    pub within_kept : (o : Object) (t : ℕ) → (if has_object o (objects_reserved part s (event_footprint c.table ev c.now)) then Some s else c.owner o) ≡ Some t
        → EqualAt (kept_of (next_content (Within s part) ev p new c)) to_keep o
    unfolding next_content
    within_kept o t h =
        part_trans (kept_of C) (led_by t (put_at c.txns s (logged new (c.now.procs s) (c.txns s)) t) N) to_keep o (kept_at C o (Some t) h) (by (has_object o F) refl h)
      where
        C : LogKernel
        C = next_content (Within s part) ev p new c

        own : ((c.owner o ≡ None) × (has_object o F ≡ true)) ⊎ (c.owner o ≡ Some s) → t ≡ s → EqualAt (led_by t (put_at c.txns s (logged new (c.now.procs s) (c.txns s)) t) N) to_keep o
        own f e = subst (λ (u : ℕ). EqualAt (led_by u (put_at c.txns s (logged new (c.now.procs s) (c.txns s)) u) N) to_keep o) (sym e) (rw (eq-eqb s s refl) (mine o f))

        by : (b : Bool) → has_object o F ≡ b → (if b then Some s else c.owner o) ≡ Some t → EqualAt (led_by t (put_at c.txns s (logged new (c.now.procs s) (c.txns s)) t) N) to_keep o
        by true e g = own (of (c.owner o) refl) (let z : Some s ≡ Some t = g in cc)
          where
            of : (y : Option ℕ) → c.owner o ≡ y → ((c.owner o ≡ None) × (has_object o F ≡ true)) ⊎ (c.owner o ≡ Some s)
            of None i = inl (i, e)
            of (Some u) i = inr (i ∙ ap Some (own_reserved laws c k ev clear s part p fits o u e i))
        by false e g = elim (cases_Bool (t == s)) [
          | inl i ↦ let z : t ≡ s = eqb-true t s i in own (inr (g ∙ ap Some z)) z
          | inr i ↦ others o t g i e
        ]

  -- the next content has the next two states, to see
  next_states : (r : Role) (ev : Event) (p : ℕ) (new : List Change) → Passes r ev (states_view (two_states_of c)) → Fits r ev p (states_view (two_states_of c))
      → Logs r ev new c → states_view (two_states_of (next_content r ev p new c)) ≡ states_view (states_next r ev p (two_states_of c))
  unfolding next_content states_next states_view
  next_states Outside ev p new clear fits logs =
      laws.same (two_states_of (next_content Outside ev p new c)) (states_next Outside ev p (two_states_of c)) refl (λ o. part_refl (made ev c.now c.now) o) (λ o. refl)
      (outside_kept ev p new clear fits) refl
  next_states (Within s part) ev p new clear fits logs =
      laws.same (two_states_of (next_content (Within s part) ev p new c)) (states_next (Within s part) ev p (two_states_of c)) refl (λ o. part_refl (made ev c.now c.now) o) (λ o. refl)
      (within_kept ev s part p new clear fits logs) refl
  next_states (Commits s) ev p new clear fits logs =
      laws.same (two_states_of (next_content (Commits s) ev p new c)) (states_next (Commits s) ev p (two_states_of c)) refl (λ o. part_refl (made ev c.now c.now) o) (λ o. refl)
      (commits_kept ev s p new clear fits) refl
  next_states (Aborts s status) ev p new clear fits logs =
      subst (λ (x : Event). states_view (two_states_of (next_content (Aborts s status) x p new c)) ≡ states_view (states_next (Aborts s status) x p (two_states_of c))) (sym fits.1.1) (of fits.1.0)
    where
      W : State
      W = states_without (two_states_of c) (just s)

      of : (n : ℤ) → states_view (two_states_of (next_content (Aborts s status) (Note s n) p new c)) ≡ states_view (states_next (Aborts s status) (Note s n) p (two_states_of c))
      of n =
          let L : State = led_by s (c.txns s) c.now in
          let same : made (Note s n) L L ≡ made (Note s n) W W = ap (λ (S : State). made (Note s n) S S) (led_without s fits.0) in
          laws.same (two_states_of (next_content (Aborts s status) (Note s n) p new c)) (states_next (Aborts s status) (Note s n) p (two_states_of c)) (ap (λ (S : State). S.width) same)
          (λ o. subst (λ (S : State). EqualAt (made (Note s n) L L) S o) same (part_refl (made (Note s n) L L) o))
          (λ o. refl) (aborts_kept s status p n new fits.0) refl

  pub next_view : (r : Role) (ev : Event) (p : ℕ) (new : List Change) → Passes r ev (states_view (two_states_of c)) → Fits r ev p (states_view (two_states_of c))
      → Logs r ev new c → states_view (two_states_of (next_content r ev p new c)) ≡ next_by r ev p (states_view (two_states_of c))
  next_view r ev p new clear fits logs = next_states r ev p new clear fits logs ∙ laws.role r ev p (two_states_of c) k.sound clear fits
