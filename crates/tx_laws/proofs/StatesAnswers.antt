-- What the view of a kernel of two states answers, by these.
use Rattle.std.proofs.Common.{◌≡◌, ℕ, Bool, true, false, not, List, [], ◌∷◌, Option, Some, if◌then◌else◌, ◌==◌, refl, sym, ap, ap₂, ◌∙◌, eq-eqb, eqb-true}
use Rattle.std.specs.Ordering.{int_eq}
use Rattle.tx_model.specs.SignalSets.{kill_signo}
use Rattle.tx_model.specs.ObjectFacts.{meets_not}
use Rattle.tx_model.specs.State.{Process, State, Sending, Proc, has_object}
use Rattle.tx_model.specs.Posts.{target_after, post_answer, after_post, post_answers}
use Rattle.tx_model.specs.Effects.{Effect, send_answers}
use Rattle.tx_model.specs.Words.{before_sends, is_blocking}
use Rattle.tx_model.specs.Events.{Event, actor, effect, objects}
use Rattle.tx_model.specs.Membership.{is_live, is_member_of}
use Rattle.tx_model.specs.History.{just, event_footprint}
use Rattle.tx_model.specs.View.{present, has_pending, is_doomed, some_object, differs_at, has_two_answers, in_way, least, starter_in_way}
use Rattle.tx_laws.specs.Sound.{IsSound}
use Rattle.tx_laws.specs.TwoStates.{TwoStates, in_set, is_owner, states_without, states_view}
use Rattle.tx_laws.specs.TwoAnswers.{differs_by, owns_named, sends_differ, states_in_way}
use Rattle.tx_laws.proofs.Coherence.{objects_in}
use Rattle.tx_laws.proofs.StatesElsewhere.{writes_elsewhere}
use Rattle.tx_laws.proofs.Tables.{eq_comm}
use Rattle.tx_laws.proofs.TwoStatesView.{pick_true, owner_true, is_owner_self, states_nobody}

pub states_present : (c : TwoStates) → present (states_view c) ≡ c.now
unfolding states_view
states_present c = states_nobody c

-- a post to s, and one to another process
post_here : (s : ℕ) (m : Sending) (S : State) → m.target ≡ s → (after_post m S).procs s ≡ target_after m (S.procs s)
post_here s m S e = rw (eq-eqb s m.target (sym e)) (ap (λ (n : ℕ). target_after m (S.procs n)) e)

post_there : (s : ℕ) (m : Sending) (S : State) → (m.target == s) ≡ false → (after_post m S).procs s ≡ S.procs s
post_there s m S ne = let e : (s == m.target) ≡ false = eq_comm s m.target ∙ ne in rw e refl

-- whether the posts to s have other answers in the one state than in the other, the process s tells
differs_posts : (s : ℕ) (ms : List Sending) (S R : State) → differs_at s ms (post_answers ms S) (post_answers ms R) ≡ differs_by s ms (S.procs s) (R.procs s)
unfolding differs_at differs_by post_answers
differs_posts s [] S R = refl
differs_posts s (m ∷ ms) S R = by (m.target == s) refl (differs_posts s ms (after_post m S) (after_post m R))
  where
    by : (b : Bool) → (m.target == s) ≡ b → differs_at s ms (post_answers ms (after_post m S)) (post_answers ms (after_post m R)) ≡ differs_by s ms ((after_post m S).procs s) ((after_post m R).procs s) →
        (if b then (if int_eq (post_answer m (S.procs m.target)) (post_answer m (R.procs m.target)) then differs_at s ms (post_answers ms (after_post m S)) (post_answers ms (after_post m R)) else true)
        else differs_at s ms (post_answers ms (after_post m S)) (post_answers ms (after_post m R)))
        ≡ (if b then (if int_eq (post_answer m (S.procs s)) (post_answer m (R.procs s)) then differs_by s ms (target_after m (S.procs s)) (target_after m (R.procs s)) else true)
        else differs_by s ms (S.procs s) (R.procs s))
    by true e rest =
        let here : m.target ≡ s = eqb-true m.target s e in
        ap₂ (λ (x y : Bool). if x then y else true)
        (ap (λ (n : ℕ). int_eq (post_answer m (S.procs n)) (post_answer m (R.procs n))) here)
        (rest ∙ ap₂ (λ (x y : Option Process). differs_by s ms x y) (post_here s m S here) (post_here s m R here))
    by false e rest = rest ∙ ap₂ (λ (x y : Option Process). differs_by s ms x y) (post_there s m S e) (post_there s m R e)

module _ (c : TwoStates) (sound : IsSound (states_view c)) (s : ℕ) (live : is_live c.table s ≡ true) where
  own : c.owner (Proc s) ≡ Some s
  unfolding states_view
  own = owner_true s (c.owner (Proc s)) (sound.own_procs s s live)

  -- without its transaction the starter is as it is kept
  kept_starter : (states_without c (just s)).procs s ≡ c.kept.procs s
  kept_starter = pick_true (λ o. in_set (just s) (c.owner o)) c.kept c.now (Proc s) (rw own (eq-eqb s s refl))

  doomed_kept : is_doomed (states_view c) s ≡ has_pending kill_signo (c.kept.procs s)
  unfolding states_view
  doomed_kept = ap (has_pending kill_signo) kept_starter

  two_answers : (ev : Event) → has_object (Proc s) (objects ev c.now) ≡ false → has_two_answers (states_view c) ev s ≡ sends_differ c ev s
  unfolding states_view
  two_answers ev out =
      let W : State = states_without c (just s) in
      let f : Effect = effect ev c.now in
      ap (λ (S : State). differs_at s (effect ev S).sends (send_answers (effect ev S) S) (send_answers (effect ev S) W)) (states_nobody c)
      ∙ differs_posts s f.sends (before_sends f c.now) (before_sends f W)
      ∙ ap₂ (λ (x y : Option Process). differs_by s f.sends x y) (writes_elsewhere ev c.now c.now (Proc s) out) (writes_elsewhere ev c.now W (Proc s) out ∙ kept_starter)

  -- an event that names nothing of the starter's does not name the starter
  not_named : (ev : Event) → owns_named c ev s ≡ false → (b : Bool) → has_object (Proc s) (objects ev c.now) ≡ b → b ≡ false
  not_named ev out true h =
      absurd (meets_not (event_footprint c.table ev c.now) (λ o. is_owner s (c.owner o)) (Proc s) (objects_in c.table ev c.now (Proc s) h) (is_owner_self s (c.owner (Proc s)) own) out)
  not_named ev out false h = refl

  met : (ev : Event) → (if owns_named c ev s then true else has_two_answers (states_view c) ev s) ≡ (if owns_named c ev s then true else sends_differ c ev s)
  met ev = by (owns_named c ev s) refl
    where
      by : (b : Bool) → owns_named c ev s ≡ b → (if b then true else has_two_answers (states_view c) ev s) ≡ (if b then true else sends_differ c ev s)
      by true e = refl
      by false e = two_answers ev (not_named ev e (has_object (Proc s) (objects ev c.now)) refl)

  blocks_states : (ev : Event) (b : Bool) → is_blocking (not b) (states_view c) ev s ≡ (if b then false else (if owns_named c ev s then true else sends_differ c ev s))
  unfolding states_view
  blocks_states ev true = refl
  blocks_states ev false =
      ap (λ (S : State). if some_object (event_footprint c.table ev S) (λ o. is_owner s (c.owner o)) then true else has_two_answers (states_view c) ev s) (states_nobody c) ∙ met ev

pub doom_kept : (c : TwoStates) (s : ℕ) → IsSound (states_view c) → is_live c.table s ≡ true → is_doomed (states_view c) s ≡ has_pending kill_signo (c.kept.procs s)
doom_kept c s sound live = doomed_kept c sound s live

pub two_answers_states : (c : TwoStates) (ev : Event) (s : ℕ) → IsSound (states_view c) → is_live c.table s ≡ true → has_object (Proc s) (objects ev c.now) ≡ false
    → has_two_answers (states_view c) ev s ≡ sends_differ c ev s
two_answers_states c ev s sound live out = two_answers c sound s live ev out

-- who is in the way of an event
pub in_way_states : (c : TwoStates) (ev : Event) (s : ℕ) → IsSound (states_view c) → in_way (states_view c) ev s ≡ states_in_way c ev s
unfolding in_way states_view
in_way_states c ev s sound = by (is_live c.table s) refl
  where
    by : (b : Bool) → is_live c.table s ≡ b → is_blocking (if b then not (is_member_of c.table s (actor ev)) else false) (states_view c) ev s
        ≡ (if b then (if is_member_of c.table s (actor ev) then false else (if owns_named c ev s then true else sends_differ c ev s)) else false)
    by true live = blocks_states c sound s live ev (is_member_of c.table s (actor ev))
    by false live = refl

pub starter_in_way_states : (c : TwoStates) (ev : Event) → IsSound (states_view c) → starter_in_way (states_view c) ev ≡ least (states_in_way c ev) c.table.width
unfolding states_view
starter_in_way_states c ev sound = ap (λ (P : ℕ → Bool). least P c.table.width) (λ i s. in_way_states c ev s sound i)
