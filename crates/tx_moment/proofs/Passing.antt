-- An event of another may be made before the events of a transaction as well as after them.
use Rattle.std.proofs.Common.{◌≡◌, ◌≢◌, ℕ, Bool, true, false, List, [], ◌∷◌, ◌++◌, Some, None, is_some, refl, sym, ap, ◌∙◌, subst, inl, inr}
use Rattle.std.proofs.lemmas.Bool.{both_ways, cases_Bool, false_from_ne_true, true_from_ne_false}
use Rattle.tx_model.specs.ObjectFacts.{same_is}
use Rattle.tx_model.specs.State.{Process, State, Sending, Object, Proc, same_object, has_object}
use Rattle.tx_model.specs.StateLaws.{state_ext, EqualAt, AgreeAt, AgreeOn}
use Rattle.tx_model.specs.Posts.{after_posts, post_answers}
use Rattle.tx_model.specs.Effects.{Effect, send_answers, after_effect}
use Rattle.tx_model.specs.Words.{before_sends, processes_of}
use Rattle.tx_model.specs.Events.{Event, effect, objects, after, reply_of, run}
use Rattle.tx_model.specs.Answer.{is_running}
use Rattle.tx_laws.specs.Fits.{IsIn}
use Rattle.tx_laws.specs.OneMoment.{is_sent_to}
use Rattle.tx_laws.proofs.Agree.{agree_refl, agree_sym, agree_trans, part_sym, part_trans, written_part, posts_part}
use Rattle.tx_laws.proofs.Local.{after_width}
use Rattle.tx_laws.proofs.Answered.{answers_known}
use Rattle.tx_laws.proofs.Released.{lacks_both}
use Rattle.tx_moment.specs.Unseen.{Signals, resignalled_if, with_signals, LeavesSignals}
use Rattle.tx_moment.specs.Laws.{EventLaws}
use Rattle.tx_moment.proofs.OwnEvents.{IsOwnEvent, AreOwnEvents, SameReplies, IsOfAnother, PassesOwn}
use Rattle.tx_moment.proofs.PostsToOne.{signals_of, signalled, posts_alike, posts_still, posts_apart}
use Rattle.tx_moment.proofs.SignalsAside.{after_family, with_signals_family, with_signals_apart, with_signals_here, with_signals_same, resignalled_runs, resignalled_still, resignalled_there, running_process}

-- objects that a test tells apart are different
told_apart : (T : Object → Bool) (o x : Object) → T o ≢ T x → same_object o x ≡ false
told_apart T o x ne = false_from_ne_true (same_object o x) (λ e. ne (ap T (same_is o x e)))

-- what differs from each target is none of the processes that the sends go to
sent_nowhere : (o : Object) (ms : List Sending) → ((m : Sending) → IsIn m ms → same_object o (Proc m.target) ≡ false) → has_object o (processes_of ms) ≡ false
unfolding has_object
sent_nowhere o [] h = refl
sent_nowhere o (m ∷ ms) h = rw (h m (inl refl)) (sent_nowhere o ms (λ n i. h n (inr i)))

-- the transaction's events, made on S and on P: its objects are the same after them but for the signals of s, which are g on P; they are its events on P too, with the same replies
record GoesAlong (T : Object → Bool) (s : ℕ) (g : Signals) (evs : List Event) (S P : State) : Type 0 where
  agree : (o : Object) → T o ≡ true → AgreeAt (with_signals s g (run S evs)) (run P evs) o
  own : AreOwnEvents T s evs P
  replies : SameReplies evs S P

module _ (laws : EventLaws) (T : Object → Bool) (s : ℕ) where
  -- an event of the transaction
  module _ (ev : Event) (S : State) (own : IsOwnEvent T s ev S) where
    unnamed : (o : Object) → T o ≡ false → has_object o (objects ev S ++ processes_of (effect ev S).sends) ≡ false
    unnamed o h =
        lacks_both o (objects ev S) (processes_of (effect ev S).sends)
        (false_from_ne_true (has_object o (objects ev S)) (λ k. both_ways (T o) h (own.names o k)))
        (sent_nowhere o (effect ev S).sends (λ m i. told_apart T o (Proc m.target) (λ z. both_ways (T o) h (z ∙ own.sends m i))))

    named : (o : Object) → has_object o (objects ev S ++ processes_of (effect ev S).sends) ≡ true → T o ≡ true
    named o h = true_from_ne_false (T o) (λ k. both_ways (has_object o (objects ev S ++ processes_of (effect ev S).sends)) (unnamed o k) h)

    leaves : LeavesSignals s ev S
    leaves = record { there = own.there; overlooks = own.overlooks; unsent = own.unsent }

    -- it is one whatever is pending at s
    own_unseen : (g : Signals) → IsOwnEvent T s ev (with_signals s g S)
    own_unseen g =
        let sent : (effect ev (with_signals s g S)).sends ≡ (effect ev S).sends = (laws.unseen_replies ev S s g leaves).0 in
        record {
          names = λ o h. own.names o (subst (λ (os : List Object). has_object o os ≡ true) (laws.unseen_objects ev S s g leaves) h);
          sends = λ m i. own.sends m (subst (IsIn m) sent i);
          unsent = ap (is_sent_to s) sent ∙ own.unsent;
          overlooks = own.overlooks;
          there = ap is_some (with_signals_here s g S) ∙ resignalled_there g (S.procs s) ∙ own.there;
        }

  -- an event of the transaction, on two states that are the same at what is the transaction's
  module _ (ev : Event) (S R : State) (own : IsOwnEvent T s ev S) (starter : T (Proc s) ≡ true) (agree : (o : Object) → T o ≡ true → AgreeAt S R o) where
    on_objects : AgreeOn (objects ev S) S R
    on_objects o h = agree o (own.names o h)

    effect_agrees : effect ev S ≡ effect ev R
    effect_agrees = laws.effects ev S R on_objects

    sent_agrees : send_answers (effect ev S) S ≡ send_answers (effect ev R) R
    sent_agrees =
        let f : Effect = effect ev S in
        answers_known f.sends (before_sends f S) (before_sends f R) (λ m i. inl (written_part f.writes S R (Proc m.target) (agree (Proc m.target) (own.sends m i)).equal))
        ∙ ap (λ (h : Effect). send_answers h R) effect_agrees

    after_agrees : (o : Object) → T o ≡ true → AgreeAt (after ev S) (after ev R) o
    after_agrees o h = laws.keeps ev S R effect_agrees sent_agrees o (agree o h)

    reply_agrees : reply_of ev S ≡ reply_of ev R
    reply_agrees = laws.replies ev S R (λ o h. agree o (named ev S own o h))

    own_agrees : IsOwnEvent T s ev R
    own_agrees = record {
      names = λ o h. own.names o (subst (λ (os : List Object). has_object o os ≡ true) (sym (laws.objects ev S R on_objects)) h);
      sends = λ m i. own.sends m (subst (λ (f : Effect). IsIn m f.sends) (sym effect_agrees) i);
      unsent = ap (λ (f : Effect). is_sent_to s f.sends) (sym effect_agrees) ∙ own.unsent;
      overlooks = own.overlooks;
      there = ap is_some (sym (agree (Proc s) starter).equal) ∙ own.there;
    }

  goes_along : (g : Signals) (S P : State) → T (Proc s) ≡ true → ((o : Object) → T o ≡ true → AgreeAt (with_signals s g S) P o) →
      (evs : List Event) → AreOwnEvents T s evs S → GoesAlong T s g evs S P
  unfolding run AreOwnEvents SameReplies
  goes_along g S P starter base [] own = record { agree = base; own = tt; replies = tt }
  goes_along g S P starter base (ev ∷ evs) own =
      let R : State = run S evs in
      let A : State = run P evs in
      let before : GoesAlong T s g evs S P = goes_along g S P starter base evs own.1 in
      let mine : IsOwnEvent T s ev (with_signals s g R) = own_unseen ev R own.0 g in
      let left : LeavesSignals s ev R = leaves ev R own.0 in
      record {
        agree = λ o h. subst (λ (X : State). AgreeAt X (after ev A) o) (laws.unseen_signals ev R s g left) (after_agrees ev (with_signals s g R) A mine starter before.agree o h);
        own = (own_agrees ev (with_signals s g R) A mine starter before.agree, before.own);
        replies = (sym (laws.unseen_replies ev R s g left).1 ∙ reply_agrees ev (with_signals s g R) A mine starter before.agree, before.replies);
      }

  -- a transaction's events leave alone what is not the transaction's
  run_apart : (evs : List Event) (S : State) → AreOwnEvents T s evs S → (o : Object) → T o ≡ false → AgreeAt (run S evs) S o
  unfolding run AreOwnEvents
  run_apart [] S own o h = agree_refl S o
  run_apart (ev ∷ evs) S own o h =
      agree_trans (after ev (run S evs)) (run S evs) S o (laws.elsewhere ev (run S evs) o (unnamed ev (run S evs) own.0 o h)) (run_apart evs S own.1 o h)

  -- and the signals that are pending at s
  run_leaves : (g : Signals) (S : State) → with_signals s g S ≡ S → (evs : List Event) → AreOwnEvents T s evs S → with_signals s g (run S evs) ≡ run S evs
  unfolding run AreOwnEvents
  run_leaves g S same [] own = same
  run_leaves g S same (ev ∷ evs) own = sym (laws.unseen_signals ev (run S evs) s g (leaves ev (run S evs) own.0)) ∙ ap (after ev) (run_leaves g S same evs own.1)

  -- the event of another
  module _ (b : Event) (evs : List Event) (Q : State) (own : AreOwnEvents T s evs Q) (other : IsOfAnother T s b evs Q) where
    outside : (o : Object) → T o ≡ true → has_object o (objects b Q) ≡ false
    outside o h = false_from_ne_true (has_object o (objects b Q)) (λ k. both_ways (T o) (other.names o k) h)

    unsent : (o : Object) → T o ≡ true → same_object o (Proc s) ≡ false → (m : Sending) → IsIn m (effect b Q).sends → same_object o (Proc m.target) ≡ false
    unsent o h ne m i =
        elim (other.sends m i) [
          | inl e ↦ subst (λ (n : ℕ). same_object o (Proc n) ≡ false) (sym e) ne
          | inr e ↦ told_apart T o (Proc m.target) (λ z. both_ways (T o) (z ∙ e) h)
        ]

    -- what is the transaction's gets its posts alone, before the transaction's events and after them
    gets_before : (o : Object) → T o ≡ true → EqualAt (after b Q) (after_posts (effect b Q).sends Q) o
    unfolding after
    gets_before o h = laws.sends b Q Q (send_answers (effect b Q) Q) o (outside o h)

    gets_after : (o : Object) → T o ≡ true → EqualAt (after b (run Q evs)) (after_posts (effect b Q).sends (run Q evs)) o
    unfolding after
    gets_after o h =
        let N : State = run Q evs in
        subst (λ (f : Effect). EqualAt (after_effect f (send_answers f N) N) (after_posts (effect b Q).sends N) o) other.same (laws.sends b Q N (send_answers (effect b Q) N) o (outside o h))

    -- s runs as x, and has the signals g after the event
    module _ (x : Process) (is_x : Q.procs s ≡ Some x) (runs : x.status ≡ None) (g : Signals) (sent : (after b Q).procs s ≡ Some (signalled g x)) where
      at_starter : AgreeAt (with_signals s g Q) (after b Q) (Proc s)
      at_starter = record {
        width = sym (after_width b Q);
        equal = with_signals_here s g Q ∙ ap (resignalled_if g) is_x ∙ ap Some (resignalled_runs g x runs) ∙ sym sent;
        family = λ ne q. with_signals_family s g Q (Proc s) ne q ∙ sym (after_family b Q (Proc s) (outside (Proc s) other.starter) ne q);
      }

      at_first : (o : Object) → T o ≡ true → AgreeAt (with_signals s g Q) (after b Q) o
      at_first o h =
          elim (cases_Bool (same_object o (Proc s))) [
            | inl e ↦ subst (λ (z : Object). AgreeAt (with_signals s g Q) (after b Q) z) (sym (same_is o (Proc s) e)) at_starter
            | inr e ↦ agree_trans (with_signals s g Q) Q (after b Q) o
                (record { width = refl; equal = with_signals_apart s g Q o e; family = with_signals_family s g Q o })
                (agree_sym (after b Q) Q o
                (laws.elsewhere b Q o
                (lacks_both o (objects b Q) (processes_of (effect b Q).sends) (outside o h) (sent_nowhere o (effect b Q).sends (unsent o h e)))))
          ]

      along : GoesAlong T s g evs Q (after b Q)
      along = goes_along g Q (after b Q) other.starter at_first evs own

      -- s still runs after the transaction's events, with the signals of x, and gets the same posts
      starter_runs : (y : Process) → (run Q evs).procs s ≡ Some y → y.status ≡ None → resignalled_if g ((run Q evs).procs s) ≡ (after_posts (effect b Q).sends (run Q evs)).procs s
      starter_runs y is_y y_runs =
          let N : State = run Q evs in
          let f : Effect = effect b Q in
          let first : Signals = signals_of x in
          let unwritten : (S : State) → (before_sends f S).procs s ≡ S.procs s = λ S. laws.writes b Q S (Proc s) (outside (Proc s) other.starter) in
          let fixed : resignalled_if first (Q.procs s) ≡ Q.procs s = ap (resignalled_if first) is_x ∙ ap Some (resignalled_runs first x runs) ∙ sym is_x in
          let kept : with_signals s first N ≡ N = run_leaves first Q (with_signals_same s first Q fixed) evs own in
          let now : N.procs s ≡ Some (signalled first y) =
          ap (λ (S : State). S.procs s) (sym kept) ∙ with_signals_here s first N ∙ ap (resignalled_if first) is_y ∙ ap Some (resignalled_runs first y y_runs) in
          let alike : post_answers f.sends (before_sends f Q) ≡ post_answers f.sends (before_sends f N) = other.answers ∙ ap (λ (h : Effect). send_answers h N) (sym other.same) in
          let p = posts_alike s x y runs y_runs f.sends first (before_sends f Q) (before_sends f N) (unwritten Q ∙ is_x) (unwritten N ∙ now) alike in
          let both : Some (signalled g x) ≡ Some (signalled p.0 x) =
          sym sent ∙ gets_before (Proc s) other.starter ∙ sym (posts_part f.sends (before_sends f Q) Q (Proc s) (unwritten Q)) ∙ p.1.0 in
          let same_process : signalled g x ≡ signalled p.0 x = cc in
          ap (resignalled_if g) is_y
          ∙ ap Some (resignalled_runs g y y_runs)
          ∙ ap (λ (q : Process). Some (signalled (signals_of q) y)) same_process
          ∙ sym p.1.1
          ∙ posts_part f.sends (before_sends f N) N (Proc s) (unwritten N)

      starter_gets : resignalled_if g ((run Q evs).procs s) ≡ (after_posts (effect b Q).sends (run Q evs)).procs s
      starter_gets =
          let N : State = run Q evs in
          elim (cases_Bool (is_running (N.procs s))) [
            | inl h ↦ let y = running_process (N.procs s) h in starter_runs y.0 y.1.0 y.1.1
            | inr h ↦ resignalled_still g (N.procs s) h ∙ sym (posts_still (effect b Q).sends N s h)
          ]

      -- what is the transaction's is the same in either order
      inner : (o : Object) → T o ≡ true → EqualAt (with_signals s g (run Q evs)) (after_posts (effect b Q).sends (run Q evs)) o
      inner o h =
          let N : State = run Q evs in
          let sends : List Sending = (effect b Q).sends in
          elim (cases_Bool (same_object o (Proc s))) [
            | inl e ↦ subst (λ (z : Object). EqualAt (with_signals s g N) (after_posts sends N) z) (sym (same_is o (Proc s) e)) (with_signals_here s g N ∙ starter_gets)
            | inr e ↦ part_trans (with_signals s g N) N (after_posts sends N) o (with_signals_apart s g N o e) (part_sym (after_posts sends N) N o (posts_apart sends N o (unsent o h e)))
          ]

      inside_same : (o : Object) → T o ≡ true → EqualAt (run (after b Q) evs) (after b (run Q evs)) o
      inside_same o h =
          let N : State = run Q evs in
          let A : State = run (after b Q) evs in
          let P : State = after_posts (effect b Q).sends N in
          part_trans A (with_signals s g N) (after b N) o
          (part_sym (with_signals s g N) A o (along.agree o h).equal)
          (part_trans (with_signals s g N) P (after b N) o (inner o h) (part_sym (after b N) P o (gets_after o h)))

      -- and so is what is not
      outside_same : (o : Object) → T o ≡ false → EqualAt (run (after b Q) evs) (after b (run Q evs)) o
      outside_same o h =
          let N : State = run Q evs in
          part_trans (run (after b Q) evs) (after b Q) (after b N) o (run_apart evs (after b Q) along.own o h).equal
          (laws.keeps b Q N other.same other.answers o (agree_sym N Q o (run_apart evs Q own o h))).equal

      passes : PassesOwn T s b evs Q
      passes =
          let N : State = run Q evs in
          let A : State = run (after b Q) evs in
          record {
            state = state_ext A (after b N) (sym (along.agree (Proc s) other.starter).width ∙ sym (after_width b N)) (λ o.
                elim (cases_Bool (T o)) [
                  | inl h ↦ inside_same o h
                  | inr h ↦ outside_same o h
                ]);
            own = along.own;
            replies = along.replies;
          }

-- an event of another passes the events of a transaction
pub passes_own : EventLaws → (T : Object → Bool) (s : ℕ) (b : Event) (evs : List Event) (Q : State) → AreOwnEvents T s evs Q → IsOfAnother T s b evs Q → PassesOwn T s b evs Q
passes_own laws T s b evs Q own other =
    let x = running_process (Q.procs s) other.runs in
    let p = posts_alike s x.0 x.0 x.1.1 x.1.1 (effect b Q).sends (signals_of x.0) Q Q x.1.0 x.1.0 refl in
    passes laws T s b evs Q own other x.0 x.1.0 x.1.1 p.0 (gets_before laws T s b evs Q own other (Proc s) other.starter ∙ p.1.0)
