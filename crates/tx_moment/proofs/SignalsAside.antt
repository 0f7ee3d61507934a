-- Other signals pending at one process change no other part and no family. Nor does an event change the family of anything but its objects.
use Rattle.std.proofs.Common.{◌≡◌, ℕ, Bool, true, false, List, [], ◌∷◌, ℤ, Option, Some, None, is_some, if◌then◌else◌, ◌==◌, refl, sym, ap, ◌∙◌, eqb-true}
use Rattle.tx_model.specs.State.{Process, Sending, State, Object, Proc, Desc, Pipe, Held, with_writes, put_at, has_parent, names_at, same_object, has_object}
use Rattle.tx_model.specs.StateLaws.{put_here, state_ext, EqualAt, AgreeFamily}
use Rattle.tx_model.specs.Posts.{target_after, after_post, after_posts}
use Rattle.tx_model.specs.Effects.{Conclusion, Replies, AnswersPost, ListsFailed, Effect, with_answer_if, first_answer, after_conclusion, send_answers}
use Rattle.tx_model.specs.Events.{Event, effect, objects, after}
use Rattle.tx_model.specs.Answer.{is_running}
use Rattle.tx_laws.proofs.Agree.{agree_refl, KeepsFamily, edited_at, received_keeps, noted_keeps}
use Rattle.tx_laws.proofs.Elsewhere.{written_else, event_fits}
use Rattle.tx_moment.specs.Unseen.{Signals, resignalled, resignalled_if, with_signals}
use Rattle.tx_moment.proofs.PostsToOne.{signalled}

-- a function that sees no change in the edit of one process sees none in the processes
edit_seen : {B : Type 0} (view : Option Process → B) (edit : Option Process → Option Process) (t : ℕ) (S R : State) → ((x : Option Process) → view (edit x) ≡ view x) →
    ((q : ℕ) → view (S.procs q) ≡ view (R.procs q)) → (q : ℕ) → view (put_at S.procs t (edit (S.procs t)) q) ≡ view (R.procs q)
edit_seen {B} view edit t S R keeps h q = by (q == t) (λ e. eqb-true q t e)
  where
    by : (b : Bool) → (b ≡ true → q ≡ t) → view (if b then edit (S.procs t) else S.procs q) ≡ view (R.procs q)
    by true e = keeps (S.procs t) ∙ h t ∙ sym (ap (λ (n : ℕ). view (R.procs n)) (e refl))
    by false e = h q

edited_family : (edit : Option Process → Option Process) → KeepsFamily edit → (t : ℕ) (S R : State) (o : Object) → AgreeFamily S R o → AgreeFamily (edited_at edit t S) R o
edited_family edit k t S R (Proc n) h = λ ne q. edit_seen (has_parent n) edit t S R (k.parent n) (h ne) q
edited_family edit k t S R (Desc n) h = λ q f. edit_seen (names_at n f) edit t S R (k.names n f) (λ p. h p f) q
edited_family edit k t S R (Pipe n) h = h
edited_family edit k t S R (Held n) h = tt

posts_family : (ms : List Sending) (S R : State) (o : Object) → AgreeFamily S R o → AgreeFamily (after_posts ms S) R o
unfolding after_posts
posts_family [] S R o h = h
posts_family (m ∷ ms) S R o h = posts_family ms (after_post m S) R o (edited_family (target_after m) (received_keeps m) m.target S R o h)

concluded_family : (c : Conclusion) (rs : List ℤ) (S R : State) (o : Object) → AgreeFamily S R o → AgreeFamily (after_conclusion c rs S) R o
concluded_family (Replies r) rs S R o h = h
concluded_family (AnswersPost p) rs S R o h = edited_family (with_answer_if (first_answer rs)) (noted_keeps (first_answer rs)) p S R o h
concluded_family ListsFailed rs S R o h = h

-- an event changes the family of none but its objects
pub after_family : (ev : Event) (S : State) (o : Object) → has_object o (objects ev S) ≡ false → AgreeFamily (after ev S) S o
unfolding after
after_family ev S o h =
    let f : Effect = effect ev S in
    let R : State = with_writes f.writes S in
    concluded_family f.conclusion (send_answers f S) (after_posts f.sends R) S o
    (posts_family f.sends R S o (written_else f.writes S S (objects ev S) o (event_fits ev S (objects ev S) (λ q k. k)).0 h (agree_refl S o)).family)

resignalled_keeps : (g : Signals) → KeepsFamily (resignalled_if g)
resignalled_keeps g = record { parent = parent; names = names }
  where
    same : {B : Type 0} (view : Process → B) (q : Process) (b : Bool) → view (signalled g q) ≡ view q → view (if b then q else signalled g q) ≡ view q
    same view q true h = refl
    same view q false h = h

    parent : (n : ℕ) (x : Option Process) → has_parent n (resignalled_if g x) ≡ has_parent n x
    parent n None = refl
    parent n (Some q) = same (λ (p : Process). has_parent n (Some p)) q (is_some q.status) refl

    names : (d f : ℕ) (x : Option Process) → names_at d f (resignalled_if g x) ≡ names_at d f x
    names d f None = refl
    names d f (Some q) = same (λ (p : Process). names_at d f (Some p)) q (is_some q.status) refl

module _ (s : ℕ) (g : Signals) (S : State) where
  pub with_signals_family : (o : Object) → AgreeFamily (with_signals s g S) S o
  with_signals_family o = edited_family (resignalled_if g) (resignalled_keeps g) s S S o (agree_refl S o).family

  pub with_signals_apart : (o : Object) → same_object o (Proc s) ≡ false → EqualAt (with_signals s g S) S o
  with_signals_apart (Proc n) h = rw h refl
  with_signals_apart (Desc n) h = refl
  with_signals_apart (Pipe n) h = refl
  with_signals_apart (Held n) h = refl

  pub with_signals_here : (with_signals s g S).procs s ≡ resignalled_if g (S.procs s)
  with_signals_here = put_here S.procs s (resignalled_if g (S.procs s))

  -- where these signals are pending there already, nothing changes
  pub with_signals_same : resignalled_if g (S.procs s) ≡ S.procs s → with_signals s g S ≡ S
  with_signals_same h = state_ext (with_signals s g S) S refl at
    where
      at : (o : Object) → EqualAt (with_signals s g S) S o
      at (Proc n) = by (n == s) (λ e. eqb-true n s e)
        where
          by : (b : Bool) → (b ≡ true → n ≡ s) → (if b then resignalled_if g (S.procs s) else S.procs n) ≡ S.procs n
          by true e = h ∙ ap S.procs (sym (e refl))
          by false e = refl
      at (Desc n) = refl
      at (Pipe n) = refl
      at (Held n) = refl

-- a process that runs has the signals, and any other stays as it is
pub resignalled_runs : (g : Signals) (q : Process) → q.status ≡ None → resignalled g q ≡ signalled g q
resignalled_runs g q runs = rw runs refl

pub resignalled_still : (g : Signals) (x : Option Process) → is_running x ≡ false → resignalled_if g x ≡ x
resignalled_still g None h = refl
resignalled_still g (Some q) h = by q.status refl h
  where
    by : (status : Option ℕ) → q.status ≡ status → is_running (Some (record q { status = status })) ≡ false → resignalled_if g (Some q) ≡ Some q
    by None e k = cc
    by (Some n) e k = rw e refl

pub resignalled_there : (g : Signals) (x : Option Process) → is_some (resignalled_if g x) ≡ is_some x
resignalled_there g None = refl
resignalled_there g (Some q) = refl

pub running_process : (x : Option Process) → is_running x ≡ true → (q : Process) × ((x ≡ Some q) × (q.status ≡ None))
running_process None h = cc
running_process (Some q) h = (q, (refl, by q.status h))
  where
    by : (status : Option ℕ) → is_running (Some (record q { status = status })) ≡ true → status ≡ None
    by None k = refl
    by (Some n) k = cc
