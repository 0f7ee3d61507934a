-- What the transactions of a content own, and an event that changes nothing of it but what is pending at a starter.
use Rattle.std.proofs.Common.{◌≡◌, ℕ, Bool, true, false, not, List, ◌++◌, Option, Some, None, is_some, if◌then◌else◌, refl, sym, ap, ap₂, ◌∙◌, subst, inl, inr, eq-eqb, eqb-true}
use Rattle.std.proofs.lemmas.Bool.{both_ways}
use Rattle.tx_change.specs.States.{changed_by}
use Rattle.tx_laws.specs.Fits.{FitsWithin}
use Rattle.tx_laws.specs.TwoAnswers.{owns_named, sends_differ, states_in_way}
use Rattle.tx_laws.specs.TwoStates.{is_owner, states_view, made}
use Rattle.tx_model.specs.Effects.{send_answers}
use Rattle.tx_model.specs.Events.{Event, actor, effect, objects, after}
use Rattle.tx_model.specs.History.{is_other_starter, targets, event_footprint, objects_reserved}
use Rattle.tx_model.specs.Membership.{Table, Progress, is_member_of, is_live}
use Rattle.tx_model.specs.ObjectFacts.{same_is, has_left, has_right, meets_not}
use Rattle.tx_model.specs.Posts.{after_posts}
use Rattle.tx_model.specs.State.{Process, State, Object, Proc, Desc, Pipe, Held, same_object, has_object}
use Rattle.tx_model.specs.StateLaws.{EqualAt}
use Rattle.tx_model.specs.Words.{IsClear}
use Rattle.tx_signal.specs.Parts.{PendingView}
use Rattle.tx_txn.specs.Content.{Txn, LogKernel, overlay, with_kept, led_by, kept_for, kept_of, two_states_of, is_named, IsKept}
use Rattle.tx_txn.specs.Faces.{Face, face_of, running, pending_in, pending_by}
use Rattle.tx_txn.specs.Laws.{RoleLaws}
use Rattle.tx_txn.specs.Steps.{posted, AgreeBut}
use Rattle.tx_txn.proofs.Facts.{part_trans, none_left, in_targets, all_targets, not_reserved, reserved_cases, owner_true, owner_self}
use Rattle.tx_txn.proofs.Overlays.{but_part, but_sym, but_trans, with_kept_but, changed_by_but, with_own, with_kept_else, unnamed}
use Rattle.tx_txn.proofs.Posted.{GoTo, face_posts, pending_posts, posts_but, posts_held}

-- what is kept at an object is that in the state led back by its owner
pub kept_at : (c : LogKernel) (o : Object) (x : Option ℕ) → c.owner o ≡ x → EqualAt (kept_of c) (kept_for c x) o
unfolding kept_of
kept_at c (Proc n) x h = rw h refl
kept_at c (Desc n) x h = rw h refl
kept_at c (Pipe n) x h = rw h refl
kept_at c (Held n) x h = rw h refl

pub kept_at_txn : (c : LogKernel) (o : Object) (t : ℕ) (x : Txn) → c.owner o ≡ Some t → c.txns t ≡ Some x → EqualAt (kept_of c) (led_by t (Some x) c.now) o
kept_at_txn c o t x h e = subst (λ (y : Option Txn). EqualAt (kept_of c) (led_by t y c.now) o) e (kept_at c o (Some t) h)

other_live : (t : Table) (p n : ℕ) → is_other_starter t p n ≡ true → is_live t n ≡ true
other_live t p n h = by (is_live t n) h
  where
    by : (b : Bool) → (if b then not (is_member_of t n p) else false) ≡ true → b ≡ true
    by true k = refl
    by false k = cc

laid : (P : PendingView) (x : Option Process) (f : Face) → face_of (overlay P x) ≡ Some f → pending_in (overlay P x) ≡ P
laid P None f h = cc
laid P (Some q) f h = refl

module _ (c : LogKernel) (k : IsKept c) where
  pub live_txn : (s : ℕ) (t : Txn) → c.txns s ≡ Some t → is_live c.table s ≡ true
  live_txn s t e = sym (k.live s) ∙ ap is_some e

  -- an owner has a live transaction
  pub live_of : (s : ℕ) (o : Object) → c.owner o ≡ Some s → is_live c.table s ≡ true
  unfolding states_view
  live_of s o h = k.sound.owned_live s o (owner_self s (c.owner o) h)

  pub txn_of : (s : ℕ) (o : Object) → c.owner o ≡ Some s → (x : Txn) × (c.txns s ≡ Some x)
  txn_of s o h = by (c.txns s) refl
    where
      by : (y : Option Txn) → c.txns s ≡ y → (x : Txn) × (c.txns s ≡ Some x)
      by None e = absurd (both_ways (is_some (c.txns s)) (rw e refl) (k.live s ∙ live_of s o h))
      by (Some x) e = (x, e)

  -- the starter of a live transaction is its own, and what it holds
  pub own_proc : (s : ℕ) → is_live c.table s ≡ true → c.owner (Proc s) ≡ Some s
  unfolding states_view
  own_proc s live = owner_true s (c.owner (Proc s)) (k.sound.own_procs s s live)

  own_held : (s : ℕ) → is_live c.table s ≡ true → c.owner (Held s) ≡ Some s
  unfolding states_view
  own_held s live = owner_true s (c.owner (Held s)) (k.sound.own_held s live)

  -- what its transaction does not own is no part of it
  pub else_same : (s : ℕ) (q o : Object) → c.owner q ≡ Some s → (c.owner o ≡ Some s → ⊥) → same_object o q ≡ false
  else_same s q o own not_own = by (same_object o q) refl
    where
      by : (b : Bool) → same_object o q ≡ b → b ≡ false
      by true e = absurd (not_own (subst (λ (x : Object). c.owner x ≡ Some s) (sym (same_is o q e)) own))
      by false e = refl

  else_named : (s : ℕ) (x : Txn) (o : Object) → c.txns s ≡ Some x → (c.owner o ≡ Some s → ⊥) → is_named o x.log ≡ false
  else_named s x o e not_own = by (is_named o x.log) refl
    where
      by : (b : Bool) → is_named o x.log ≡ b → b ≡ false
      by true h = absurd (not_own (k.named s x e o h))
      by false h = refl

  -- what is pending at a starter on the kept side is what is kept of it
  pub kept_pending : (s : ℕ) (t : Txn) → c.txns s ≡ Some t → pending_in ((kept_of c).procs s) ≡ t.pending
  kept_pending s t e = ap pending_in start ∙ laid t.pending ((changed_by t.log c.now).procs s) (running t.ids) (sym (ap face_of start) ∙ k.starter s t e)
    where
      start : (kept_of c).procs s ≡ overlay t.pending ((changed_by t.log c.now).procs s)
      start = kept_at_txn c (Proc s) s t (own_proc s (live_txn s t e)) e ∙ rw (eq-eqb s s refl) refl

module _ (laws : RoleLaws) where
  -- an event that changes at an object no more than what is pending at process t
  made_but : (ev : Event) (S T : State) (t : ℕ) (o : Object) → has_object o (objects ev S) ≡ false → GoTo t o (effect ev S).sends → AgreeBut t (made ev S T) T o
  made_but ev S T t o h to =
      but_trans t (made ev S T) (after_posts (effect ev S).sends T) T o
      (but_part t (made ev S T) (after_posts (effect ev S).sends T) o (laws.sends ev S T (send_answers (effect ev S) S) o h))
      (posts_but t (effect ev S).sends T o to)

  pub made_rest : (ev : Event) (S : State) (n : ℕ) → has_object (Proc n) (objects ev S) ≡ false → AgreeBut n (made ev S S) S (Proc n)
  made_rest ev S n h = made_but ev S S n (Proc n) h (λ m i e. sym (eqb-true n m.target e))

  made_held : (ev : Event) (S T : State) (n : ℕ) → has_object (Held n) (objects ev S) ≡ false → (made ev S T).held n ≡ T.held n
  made_held ev S T n h = laws.sends ev S T (send_answers (effect ev S) S) (Held n) h ∙ posts_held (effect ev S).sends T n

  -- at a process that the event does not name
  pub made_face : (ev : Event) (S T : State) (s : ℕ) → has_object (Proc s) (objects ev S) ≡ false → face_of ((made ev S T).procs s) ≡ face_of (T.procs s)
  made_face ev S T s h = ap face_of (laws.sends ev S T (send_answers (effect ev S) S) (Proc s) h) ∙ face_posts s (effect ev S).sends T

  made_pending : (ev : Event) (S T : State) (s : ℕ) → has_object (Proc s) (objects ev S) ≡ false → pending_in ((made ev S T).procs s) ≡ pending_by s (effect ev S).sends (face_of (T.procs s)) (pending_in (T.procs s))
  made_pending ev S T s h = ap pending_in (laws.sends ev S T (send_answers (effect ev S) S) (Proc s) h) ∙ pending_posts s (effect ev S).sends T

  module _ (c : LogKernel) (k : IsKept c) where
    -- to lead a transaction back changes nothing of what it does not own
    pub led_else : (s : ℕ) (x : Txn) (o : Object) → c.txns s ≡ Some x → (c.owner o ≡ Some s → ⊥) → EqualAt (led_by s (Some x) c.now) c.now o
    led_else s x o e not_own =
        let live : is_live c.table s ≡ true = live_txn c k s x e in
        part_trans (with_kept s x.pending (changed_by x.log c.now)) (changed_by x.log c.now) c.now o
        (with_kept_else s x.pending (changed_by x.log c.now) o (else_same c k s (Proc s) o (own_proc c k s live) not_own) (else_same c k s (Held s) o (own_held c k s live) not_own))
        (laws.elsewhere x.log c.now o (unnamed o x.log (else_named c k s x o e not_own)))

    module _ (ev : Event) (clear : IsClear (states_view (two_states_of c)) ev) where
      -- of a footprint the actor's transaction alone owns anything
      pub foot_member : (o : Object) (t : ℕ) → c.owner o ≡ Some t → has_object o (event_footprint c.table ev c.now) ≡ true → is_member_of c.table t (actor ev) ≡ true
      unfolding states_view
      foot_member o t h f = by (is_member_of c.table t (actor ev)) refl
        where
          live : is_live c.table t ≡ true
          live = live_of c k t o h

          passed : states_in_way (two_states_of c) ev t ≡ false
          passed = sym (laws.in_way (two_states_of c) ev t k.sound) ∙ clear t live

          by : (b : Bool) → is_member_of c.table t (actor ev) ≡ b → b ≡ true
          by true e = refl
          by false e =
              let z : (if owns_named (two_states_of c) ev t then true else sends_differ (two_states_of c) ev t) ≡ false = rw (live, e) at passed in
              absurd (meets_not (event_footprint c.table ev c.now) (λ q. is_owner t (c.owner q)) o f (owner_self t (c.owner o) h) (none_left _ _ z).0)

      -- an event of another process names nothing of a transaction
      pub out_of : (o : Object) (t : ℕ) → c.owner o ≡ Some t → is_member_of c.table t (actor ev) ≡ false → has_object o (objects ev c.now) ≡ false
      unfolding event_footprint
      out_of o t h other = by (has_object o (objects ev c.now)) refl
        where
          by : (b : Bool) → has_object o (objects ev c.now) ≡ b → b ≡ false
          by true e = absurd (both_ways (is_member_of c.table t (actor ev)) other (foot_member o t h (has_left o (objects ev c.now) (targets c.table (actor ev) (effect ev c.now).sends) e)))
          by false e = refl

      -- what it sends to a process of the transaction is sent to its starter
      goes_to : (o : Object) (t : ℕ) → c.owner o ≡ Some t → is_member_of c.table t (actor ev) ≡ false → GoTo t o (effect ev c.now).sends
      unfolding states_view event_footprint
      goes_to o t h other m i e = by (is_other_starter c.table (actor ev) m.target) refl
        where
          mine : c.owner (Proc m.target) ≡ Some t
          mine = subst (λ (x : Object). c.owner x ≡ Some t) (same_is o (Proc m.target) e) h

          by : (b : Bool) → is_other_starter c.table (actor ev) m.target ≡ b → m.target ≡ t
          by true x =
              let live : is_live c.table m.target ≡ true = other_live c.table (actor ev) m.target x in
              k.sound.single m.target t (Proc m.target) (k.sound.own_procs m.target m.target live) (owner_self t (c.owner (Proc m.target)) mine)
          by false x =
              absurd (both_ways (is_member_of c.table t (actor ev)) other
              (foot_member (Proc m.target) t mine (has_right (Proc m.target) (objects ev c.now) (targets c.table (actor ev) (effect ev c.now).sends) (in_targets c.table (actor ev) (effect ev c.now).sends m i x))))

      -- it is made now and on the kept side: the log is as it was, and what is pending on the kept side is kept
      others_kept : (o : Object) (t : ℕ) (x : Txn) → c.txns t ≡ Some x → c.owner o ≡ Some t → is_member_of c.table t (actor ev) ≡ false
          → EqualAt (with_kept t (pending_in ((made ev c.now (kept_of c)).procs t)) (changed_by x.log (made ev c.now c.now))) (made ev c.now (kept_of c)) o
      others_kept o t x e h other =
          let out : has_object o (objects ev c.now) ≡ false = out_of o t h other in
          let to : GoTo t o (effect ev c.now).sends = goes_to o t h other in
          let N : State = made ev c.now c.now in
          let K : State = made ev c.now (kept_of c) in
          let X : State = changed_by x.log c.now in
          let at : EqualAt (kept_of c) (with_kept t x.pending X) o = kept_at_txn c o t x h e in
          let before : AgreeBut t K X o =
          but_trans t K (kept_of c) X o (made_but ev c.now (kept_of c) t o out to)
          (but_trans t (kept_of c) (with_kept t x.pending X) X o (but_part t (kept_of c) (with_kept t x.pending X) o at) (with_kept_but t x.pending X o)) in
          let led : AgreeBut t (changed_by x.log N) X o = changed_by_but t x.log N c.now o (made_but ev c.now c.now t o out to) in
          with_own t (changed_by x.log N) K o (but_trans t (changed_by x.log N) X K o led (but_sym t K X o before))
          (λ n i m.
          made_held ev c.now (kept_of c) n (subst (λ (q : Object). has_object q (objects ev c.now) ≡ false) i out)
          ∙ subst (λ (q : Object). EqualAt (kept_of c) (with_kept t x.pending X) q) i at ∙ rw m refl)

      module _ (t : ℕ) (x : Txn) (e : c.txns t ≡ Some x) (other : is_member_of c.table t (actor ev) ≡ false) where
        start_out : has_object (Proc t) (objects ev c.now) ≡ false
        start_out = out_of (Proc t) t (own_proc c k t (live_txn c k t x e)) other

        -- what is pending then at its starter on the kept side
        posted_pending : pending_in ((made ev c.now (kept_of c)).procs t) ≡ pending_by t (effect ev c.now).sends (Some (running x.ids)) x.pending
        posted_pending =
            made_pending ev c.now (kept_of c) t start_out
            ∙ ap₂ (λ (f : Option Face) (P : PendingView). pending_by t (effect ev c.now).sends f P) (k.starter t x e) (kept_pending c k t x e)

        -- led back by the transaction in which the sends were posted, the state is as the event makes it on the kept side
        pub posted_kept : (o : Object) → c.owner o ≡ Some t → EqualAt (led_by t (posted t (effect ev c.now).sends (Some x)) (made ev c.now c.now)) (made ev c.now (kept_of c)) o
        posted_kept o h =
            subst (λ (P : PendingView). EqualAt (with_kept t P (changed_by x.log (made ev c.now c.now))) (made ev c.now (kept_of c)) o) posted_pending (others_kept o t x e h other)

        -- and its starter has the same face
        pub posted_face : face_of ((made ev c.now (kept_of c)).procs t) ≡ Some (running x.ids)
        posted_face = made_face ev c.now (kept_of c) t start_out ∙ k.starter t x e

      module _ (s : ℕ) (part : Progress) (p : ℕ) (fits : FitsWithin s part ev p (states_view (two_states_of c))) where
        -- of what a step inside the transaction of s reserves, that alone owns anything
        pub own_reserved : (o : Object) (t : ℕ) → has_object o (objects_reserved part s (event_footprint c.table ev c.now)) ≡ true → c.owner o ≡ Some t → t ≡ s
        unfolding states_view
        own_reserved o t h own = elim (reserved_cases part s (event_footprint c.table ev c.now) o h) [
          | inl e ↦ k.sound.held_own t s (subst (λ (q : Object). is_owner t (c.owner q) ≡ true) e (owner_self t (c.owner o) own))
          | inr e ↦ fits.mine t (subst (λ (q : ℕ). is_member_of c.table t q ≡ true) fits.actor_is (foot_member o t own e))
        ]

        -- everything else stays
        pub else_stays : (o : Object) → has_object o (objects_reserved part s (event_footprint c.table ev c.now)) ≡ false → EqualAt (made ev c.now c.now) c.now o
        unfolding after event_footprint states_view
        else_stays o h =
            laws.parts ev c.now o
            (subst (λ (os : List Object). has_object o (objects ev c.now ++ os) ≡ false) (all_targets c.table (actor ev) (effect ev c.now).sends (λ m i. fits.sends c.now m i))
            (not_reserved part s (objects ev c.now ++ targets c.table (actor ev) (effect ev c.now).sends) o h))
