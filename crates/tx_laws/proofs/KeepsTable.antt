-- Each step leaves the live transactions so, by what it is to them.
use Rattle.std.proofs.Common.{◌≡◌, ◌≢◌, ℕ, Bool, true, false, [], ◌∷◌, ℤ, Option, Some, None, if◌then◌else◌, ◌==◌, refl, sym, ap, ◌∙◌, subst, inl, inr, eq-eqb, eqb-true}
use Rattle.std.proofs.lemmas.Bool.{both_ways}
use Rattle.tx_base.specs.declared.marks.Mark.{Mark}
use Rattle.tx_model.specs.State.{State, Object, Proc, Held, SetHeld, put_at, write_one, with_writes, has_object}
use Rattle.tx_model.specs.StateLaws.{put_here, put_cases, put_there, AgreeAt}
use Rattle.tx_model.specs.Effects.{Inside, Effect, send_answers}
use Rattle.tx_model.specs.Posts.{after_posts}
use Rattle.tx_model.specs.Events.{Event, Note, Commit, actor, effect, objects, after}
use Rattle.tx_model.specs.Membership.{Table, is_of, is_member_of, is_live, is_open_of, Parks, Within, Commits, Aborts, parked_mark, new_mark, mark_unless_of, table_after}
use Rattle.tx_model.specs.History.{nobody, just}
use Rattle.tx_model.specs.View.{View, present}
use Rattle.tx_model.specs.Words.{IsClear, starters_with}
use Rattle.tx_laws.specs.Sound.{IsSound}
use Rattle.tx_laws.specs.WellFormedTable.{IsTransaction, IsWellFormedWith}
use Rattle.tx_laws.proofs.Agree.{agree_refl}
use Rattle.tx_laws.proofs.Elsewhere.{written_else, event_fits}
use Rattle.tx_laws.proofs.Coherence.{clear_foot, objects_in}
use Rattle.tx_laws.proofs.Tables.{of_unique, of_parked, of_unmarked}
use Rattle.tx_laws.proofs.KeepsFormParts.{same_or_other}
use Rattle.tx_laws.proofs.KeepsFormReleased.{written_append}
use Rattle.tx_laws.proofs.WithinSets.{false_unless}
use Rattle.tx_laws.proofs.Standings.{stand, SameFor, open_member, transaction_same, posts_stand, posts_held, concluded_stand, concluded_held, note_stand}
use Rattle.tx_laws.proofs.Turns.{Same, HoldsSame, Told, NotLater, Later, Turn, Stays, Sends, Grows, Reaps, Ends}
use Rattle.tx_laws.proofs.KeepsOwn.{starter_in}

-- posts and the conclusion change neither standing nor what is held
pub after_stand : (ev : Event) (S : State) → Same (with_writes (effect ev S).writes S) (after ev S)
unfolding after
after_stand ev S n =
    let f : Effect = effect ev S in
    concluded_stand f.conclusion (send_answers f S) (after_posts f.sends (with_writes f.writes S)) n ∙ posts_stand f.sends (with_writes f.writes S) n

pub after_holds : (ev : Event) (S : State) → HoldsSame (with_writes (effect ev S).writes S) (after ev S)
unfolding after
after_holds ev S u =
    let f : Effect = effect ev S in
    concluded_held f.conclusion (send_answers f S) (after_posts f.sends (with_writes f.writes S)) u ∙ posts_held f.sends (with_writes f.writes S) u

-- a commit writes what its event writes, and nothing is held any more
commit_writes : (s : ℕ) (ev : Event) (S : State) → with_writes (effect (Commit s ev) S).writes S ≡ write_one (SetHeld s []) (with_writes (effect ev S).writes S)
unfolding effect with_writes
commit_writes s ev S = written_append (effect ev S).writes (SetHeld s [] ∷ []) S

pub commit_held : (s : ℕ) (ev : Event) (S : State) → (after (Commit s ev) S).held s ≡ []
commit_held s ev S = after_holds (Commit s ev) S s ∙ ap (λ (T : State). T.held s) (commit_writes s ev S) ∙ put_here (with_writes (effect ev S).writes S).held s []

pub commit_holds : (s : ℕ) (ev : Event) (S : State) (u : ℕ) → u ≢ s → (after (Commit s ev) S).held u ≡ (with_writes (effect ev S).writes S).held u
commit_holds s ev S u ne =
    after_holds (Commit s ev) S u ∙ ap (λ (T : State). T.held u) (commit_writes s ev S) ∙ put_there (with_writes (effect ev S).writes S).held s [] u ne

-- the writes of an event change none but its objects
pub other_part : (ev : Event) (S : State) (o : Object) → has_object o (objects ev S) ≡ false → AgreeAt (with_writes (effect ev S).writes S) S o
other_part ev S o h = written_else (effect ev S).writes S S (objects ev S) o (event_fits ev S (objects ev S) (λ q k. k)).0 h (agree_refl S o)

-- tables to other transactions
pub same_table : (t : Table) (s : ℕ) → SameFor t t s
same_table t s = record { members = λ n. refl; open_parts = λ n h. h }

put_table : (t : Table) (c : ℕ) (x : Option Mark) (s : ℕ) → is_of s x ≡ is_of s (t.marks c) → (is_open_of s x ≡ true → is_open_of s (t.marks c) ≡ true)
    → SameFor t (record { width = t.width; marks = put_at t.marks c x }) s
put_table t c x s same opens = record {
  members = λ n. elim (put_cases t.marks c x n) [
    | inl z ↦ ap (is_of s) z.1 ∙ same ∙ sym (ap (λ (m : ℕ). is_of s (t.marks m)) z.0)
    | inr z ↦ ap (is_of s) z.1
  ];
  open_parts = λ n h. elim (put_cases t.marks c x n) [
    | inl z ↦ ap (λ (m : ℕ). is_open_of s (t.marks m)) z.0 ∙ opens (sym (ap (is_open_of s) z.1) ∙ h)
    | inr z ↦ sym (ap (is_open_of s) z.1) ∙ h
  ];
}

pub not_open : (s : ℕ) (x : Option Mark) → is_open_of s (parked_mark x) ≡ false
not_open s None = refl
not_open s (Some m) = refl

pub parked_table : (t : Table) (p s u : ℕ) → SameFor t (table_after (Within u Parks) p t) s
parked_table t p s u = put_table t p (parked_mark (t.marks p)) s (of_parked s (t.marks p)) (λ h. absurd (both_ways (is_open_of s (parked_mark (t.marks p))) (not_open s (t.marks p)) h))

-- a new mark is of its transaction alone
other_mark : (s u : ℕ) (defers : Bool) → u ≢ s → is_of u (Some (new_mark s defers)) ≡ false
other_mark s u defers ne = false_unless (s == u) (λ h. ne (sym (eqb-true s u h)))

pub new_table : (t : Table) (c s u : ℕ) (defers : Bool) → u ≢ s → is_of u (t.marks c) ≡ false → SameFor t (record { width = t.width; marks = put_at t.marks c (Some (new_mark s defers)) }) u
new_table t c s u defers ne none =
    put_table t c (Some (new_mark s defers)) u (other_mark s u defers ne ∙ sym none)
    (λ h. absurd (both_ways (is_of u (Some (new_mark s defers))) (other_mark s u defers ne) (open_member u (Some (new_mark s defers)) h)))

over_table : (t : Table) (s u : ℕ) → u ≢ s → SameFor t (record { width = t.width; marks = λ n. mark_unless_of s (t.marks n) }) u
over_table t s u ne = record { members = λ n. of_unmarked u s (t.marks n) ∙ rw other refl; open_parts = λ n. opens (t.marks n) }
  where
    other : (u == s) ≡ false
    other = false_unless (u == s) (λ h. ne (eqb-true u s h))

    opens : (x : Option Mark) → is_open_of u (mark_unless_of s x) ≡ true → is_open_of u x ≡ true
    opens None h = h
    opens (Some m) h = by (m.starter.0 == s) h
      where
        by : (b : Bool) → is_open_of u (if b then None else Some m) ≡ true → is_open_of u (Some m) ≡ true
        by true z = cc
        by false z = z

-- what a step leaves of the sends that others hold
pub outside_holds : (p : ℕ) (S : State) (f : Effect) → Turn None p S f → HoldsSame S (with_writes f.writes S)
outside_holds p S f (Stays goes stands held) = held
outside_holds p S f (Sends goes j e m sender room stands held) = cc
outside_holds p S f (Grows goes c free child stands held) = held
outside_holds p S f (Reaps goes c was now stands held) = held
outside_holds p S f (Ends concludes parent was now orphans sends told) = by told
  where
    by : Told None parent S (with_writes f.writes S) → HoldsSame S (with_writes f.writes S)
    by (NotLater held) = held
    by (Later j e out ne held) = cc

pub inside_holds : (i : Inside) (p : ℕ) (S : State) (f : Effect) → Turn (Some i) p S f → (u : ℕ) → u ≢ i.starter → (with_writes f.writes S).held u ≡ S.held u
inside_holds i p S f (Stays goes stands held) u ne = held u
inside_holds i p S f (Sends goes j e m sender room stands held) u ne = held.others u (λ z. ne (z ∙ sym (ap starter_in e)))
inside_holds i p S f (Grows goes c free child stands held) u ne = held u
inside_holds i p S f (Reaps goes c was now stands held) u ne = held u
inside_holds i p S f (Ends concludes parent was now orphans sends told) u ne = by told
  where
    by : Told (Some i) parent S (with_writes f.writes S) → (with_writes f.writes S).held u ≡ S.held u
    by (NotLater held) = held u
    by (Later j e out n held) = held.others u (λ z. ne (z ∙ sym (ap starter_in e)))

-- the state after, as the writes leave it
pub after_kept : (t : Table) (ev : Event) (S : State) (s : ℕ) → is_live t s ≡ true → IsTransaction t (with_writes (effect ev S).writes S) s → IsTransaction t (after ev S) s
after_kept t ev S s live k =
    transaction_same t t (with_writes (effect ev S).writes S) (after ev S) s live (same_table t s) (λ n h. after_stand ev S n) (after_holds ev S s) k

module _ (V : View) (sound : IsSound V) (kept : IsWellFormedWith V.table (present V)) where
  -- what a transaction reserved that the actor is no member of
  pub unreserved : (ev : Event) → IsClear V ev → (o : Object) (u : ℕ) → V.reserved u o ≡ true → is_member_of V.table u (actor ev) ≡ false → has_object o (objects ev (present V)) ≡ false
  unreserved ev clear o u h out =
      false_unless (has_object o (objects ev (present V)))
      (λ k. both_ways (is_member_of V.table u (actor ev)) out (clear_foot V ev sound clear o u (objects_in V.table ev (present V) o k) h))

  -- the transaction of another
  other_kept : (ev : Event) → IsClear V ev → (new : Table) (u : ℕ) → is_live V.table u ≡ true → is_member_of V.table u (actor ev) ≡ false → SameFor V.table new u
      → IsTransaction new (after ev (present V)) u
  other_kept ev clear new u live out same =
      transaction_same V.table new (present V) (after ev (present V)) u live same
      (λ n h. after_stand ev (present V) n ∙ ap stand (other_part ev (present V) (Proc n) (unreserved ev clear (Proc n) u (sound.own_procs u n h) out)).equal)
      (after_holds ev (present V) u ∙ (other_part ev (present V) (Held u) (unreserved ev clear (Held u) u (sound.own_held u live) out)).equal)
      (kept.live u live)

  -- a step outside of all
  pub outside_formed : (ev : Event) (p : ℕ) → IsClear V ev → ((u : ℕ) → is_member_of V.table u (actor ev) ≡ false) → Turn None p (present V) (effect ev (present V))
      → IsWellFormedWith V.table (after ev (present V))
  outside_formed ev p clear out turn = record {
    live = λ u h. other_kept ev clear V.table u h (out u) (same_table V.table u);
    members = kept.members;
    others = λ u h. after_holds ev (present V) u ∙ outside_holds p (present V) (effect ev (present V)) turn u ∙ kept.others u h;
  }

  -- a step inside of that of s
  pub within_formed : (ev : Event) → IsClear V ev → (new : Table) (s : ℕ) → ((u : ℕ) → is_member_of V.table u (actor ev) ≡ true → u ≡ s)
      → is_live new s ≡ true → ((u p : ℕ) → is_member_of new u p ≡ true → is_live new u ≡ true) → ((u : ℕ) → u ≢ s → SameFor V.table new u)
      → IsTransaction new (after ev (present V)) s → ((u : ℕ) → u ≢ s → (after ev (present V)).held u ≡ (present V).held u)
      → IsWellFormedWith new (after ev (present V))
  within_formed ev clear new s mine live members same own held = record {
    live = λ u h. elim (same_or_other u s) [
      | inl z ↦ subst (λ (n : ℕ). IsTransaction new (after ev (present V)) n) (sym z) own
      | inr z ↦
          other_kept ev clear new u (sym ((same u z).members u) ∙ h) (false_unless (is_member_of V.table u (actor ev)) (λ k. z (mine u k))) (same u z)
    ];
    members = members;
    others = λ u h. elim (same_or_other u s) [
      | inl z ↦ absurd (both_ways (is_live new u) h (ap (is_live new) z ∙ live))
      | inr z ↦ held u z ∙ kept.others u (sym ((same u z).members u) ∙ h)
    ];
  }

  -- the step that commits it
  pub commits_formed : (ev : Event) (s : ℕ) → IsClear V (Commit s ev) → (p : ℕ) → is_member_of V.table s (actor (Commit s ev)) ≡ true
      → ((u : ℕ) → u ≢ s → (with_writes (effect ev (present V)).writes (present V)).held u ≡ (present V).held u)
      → ((u p : ℕ) → is_of u (mark_unless_of s (V.table.marks p)) ≡ true → is_of u (mark_unless_of s (V.table.marks u)) ≡ true)
      → IsWellFormedWith (table_after (Commits s) p V.table) (after (Commit s ev) (present V))
  commits_formed ev s clear p mine held members = record { live = live; members = members; others = others }
    where
      new : Table
      new = table_after (Commits s) p V.table

      gone : is_live new s ≡ false
      gone = of_unmarked s s (V.table.marks s) ∙ rw (eq-eqb s s refl) refl

      live : (u : ℕ) → is_live new u ≡ true → IsTransaction new (after (Commit s ev) (present V)) u
      live u h = elim (same_or_other u s) [
        | inl z ↦ absurd (both_ways (is_live new u) (ap (is_live new) z ∙ gone) h)
        | inr z ↦
            other_kept (Commit s ev) clear new u (sym ((over_table V.table s u z).members u) ∙ h)
            (false_unless (is_member_of V.table u (actor (Commit s ev))) (λ k. z (of_unique u s (V.table.marks (actor (Commit s ev))) k mine))) (over_table V.table s u z)
      ]

      others : (u : ℕ) → is_live new u ≡ false → (after (Commit s ev) (present V)).held u ≡ []
      others u h = elim (same_or_other u s) [
        | inl z ↦ ap (after (Commit s ev) (present V)).held z ∙ commit_held s ev (present V)
        | inr z ↦ commit_holds s ev (present V) u z ∙ held u z ∙ kept.others u (sym ((over_table V.table s u z).members u) ∙ h)
      ]

  -- its abort
  pub aborts_formed : (s : ℕ) (r : ℤ) (p k : ℕ) → (V.without (just s)).held s ≡ []
      → ((u p : ℕ) → is_of u (mark_unless_of s (V.table.marks p)) ≡ true → is_of u (mark_unless_of s (V.table.marks u)) ≡ true)
      → IsWellFormedWith (table_after (Aborts s k) p V.table) (after (Note s r) (V.without (starters_with s nobody)))
  unfolding effect with_writes
  aborts_formed s r p k left members = record { live = live; members = members; others = others }
    where
      new : Table
      new = table_after (Aborts s k) p V.table

      R : State
      R = V.without (starters_with s nobody)

      gone : is_live new s ≡ false
      gone = of_unmarked s s (V.table.marks s) ∙ rw (eq-eqb s s refl) refl

      other : (u : ℕ) → u ≢ s → starters_with s nobody u ≡ false
      other u ne = rw (false_unless (u == s) (λ h. ne (eqb-true u s h))) refl

      stands : (u : ℕ) → u ≢ s → (n : ℕ) → is_member_of V.table u n ≡ true → stand ((after (Note s r) R).procs n) ≡ stand ((present V).procs n)
      stands u ne n h =
          after_stand (Note s r) R n ∙ note_stand s r R n
          ∙ ap stand (sound.coherent (starters_with s nobody) nobody (Proc n) (λ v z.
          subst (λ (m : ℕ). starters_with s nobody m ≡ false) (sound.single u v (Proc n) (sound.own_procs u n h) z) (other u ne))).equal

      holds : (u : ℕ) → u ≢ s → (after (Note s r) R).held u ≡ (present V).held u
      holds u ne =
          after_holds (Note s r) R u
          ∙ (sound.coherent (starters_with s nobody) nobody (Held u) (λ v z. subst (λ (m : ℕ). starters_with s nobody m ≡ false) (sym (sound.held_own v u z)) (other u ne))).equal

      live : (u : ℕ) → is_live new u ≡ true → IsTransaction new (after (Note s r) R) u
      live u h = elim (same_or_other u s) [
        | inl z ↦ absurd (both_ways (is_live new u) (ap (is_live new) z ∙ gone) h)
        | inr z ↦
            let was : is_live V.table u ≡ true = sym ((over_table V.table s u z).members u) ∙ h in
            transaction_same V.table new (present V) (after (Note s r) R) u was (over_table V.table s u z) (stands u z) (holds u z) (kept.live u was)
      ]

      others : (u : ℕ) → is_live new u ≡ false → (after (Note s r) R).held u ≡ []
      others u h = elim (same_or_other u s) [
        | inl z ↦
            ap (after (Note s r) R).held z ∙ after_holds (Note s r) R s
            ∙ (sound.coherent (starters_with s nobody) (just s) (Held s) (λ v y. subst (λ (m : ℕ). starters_with s nobody m ≡ just s m) (sym (sound.held_own v s y)) here)).equal
            ∙ left
        | inr z ↦ holds u z ∙ kept.others u (sym ((over_table V.table s u z).members u) ∙ h)
      ]
        where
          here : starters_with s nobody s ≡ just s s
          here = rw (eq-eqb s s refl) refl
