-- Two events that name different objects do the same in either order.
use Rattle.std.proofs.Common.{◌≡◌, true, false, List, [], ◌∷◌, ◌++◌, sym, ap, ap₂, ◌∙◌, subst, inl, inr}
use Rattle.std.proofs.lemmas.Bool.{both_ways, cases_Bool}
use Rattle.tx_model.specs.ObjectFacts.{has_head, has_tail, has_left, has_right}
use Rattle.tx_model.specs.State.{State, Sending, Object, Proc, has_object}
use Rattle.tx_model.specs.Effects.{Effect, send_answers}
use Rattle.tx_model.specs.Words.{before_sends, processes_of}
use Rattle.tx_model.specs.Events.{Event, effect, objects, after, reply_of}
use Rattle.tx_model.specs.StateLaws.{state_ext, EqualAt, AgreeAt, AgreeOn}
use Rattle.tx_laws.specs.Fits.{IsIn}
use Rattle.tx_laws.specs.Commuting.{named_by, AreApart}
use Rattle.tx_laws.proofs.Agree.{agree_sym, part_sym, part_trans, written_part}
use Rattle.tx_laws.proofs.Local.{after_width, reply_same, effect_same, objects_same}
use Rattle.tx_laws.proofs.Answered.{answers_known}
use Rattle.tx_laws.proofs.TwoStatesView.{after_part}
use Rattle.tx_laws.proofs.StepView.{elsewhere}

apart_sym : (one other : Event) (S : State) → AreApart one other S → AreApart other one S
apart_sym one other S apart o h =
    elim (cases_Bool (has_object o (named_by one S))) [
      | inl e ↦ absurd (both_ways (has_object o (named_by other S)) (apart o e) h)
      | inr e ↦ e
    ]

-- an event leaves alone what it does not name
else_same : (ev : Event) (S : State) (o : Object) → has_object o (named_by ev S) ≡ false → AgreeAt (after ev S) S o
unfolding named_by
else_same ev S o h = elsewhere ev S o h

target_in : (ms : List Sending) (m : Sending) → IsIn m ms → has_object (Proc m.target) (processes_of ms) ≡ true
target_in [] m i = absurd i
target_in (n ∷ ms) m (inl i) = subst (λ (x : Sending). has_object (Proc m.target) (Proc x.target ∷ processes_of ms) ≡ true) i (has_head (Proc m.target) (processes_of ms))
target_in (n ∷ ms) m (inr i) = has_tail (Proc m.target) (Proc n.target) (processes_of ms) (target_in ms m i)

-- an event does the same in two states that agree at what it names
module _ (ev : Event) (S R : State) (agree : AgreeOn (named_by ev S) S R) where
  at_objects : AgreeOn (objects ev S) S R
  unfolding named_by
  at_objects o h = agree o (has_left o (objects ev S) (processes_of (effect ev S).sends) h)

  at_target : (m : Sending) → IsIn m (effect ev S).sends → AgreeAt S R (Proc m.target)
  unfolding named_by
  at_target m i = agree (Proc m.target) (has_right (Proc m.target) (objects ev S) (processes_of (effect ev S).sends) (target_in (effect ev S).sends m i))

  effect_named : effect ev S ≡ effect ev R
  effect_named = effect_same ev S R at_objects

  sent_named : send_answers (effect ev S) S ≡ send_answers (effect ev R) R
  sent_named =
      let f : Effect = effect ev S in
      answers_known f.sends (before_sends f S) (before_sends f R) (λ m i. inl (written_part f.writes S R (Proc m.target) (at_target m i).equal))
      ∙ ap (λ (g : Effect). send_answers g R) effect_named

  named_same : named_by ev S ≡ named_by ev R
  unfolding named_by
  named_same = ap₂ (λ (os : List Object) (f : Effect). os ++ processes_of f.sends) (objects_same ev S R at_objects) effect_named

-- the reply to an event, in two states that agree at its objects and at the targets of its sends
pub reply_named : (ev : Event) (S R : State) → AgreeOn (objects ev S ++ processes_of (effect ev S).sends) S R → reply_of ev S ≡ reply_of ev R
unfolding named_by
reply_named ev S R agree = reply_same ev S R (effect_named ev S R agree) (sent_named ev S R agree)

-- the state after the other event, as an event that is apart finds it
agree_after : (one other : Event) (S : State) → AreApart one other S → AgreeOn (named_by one S) S (after other S)
agree_after one other S apart o h = agree_sym (after other S) S o (else_same other S o (apart o h))

pub reply_apart : (one other : Event) (S : State) → AreApart one other S → reply_of one (after other S) ≡ reply_of one S
reply_apart one other S apart =
    let a : AgreeOn (named_by one S) S (after other S) = agree_after one other S apart in
    sym (reply_same one S (after other S) (effect_named one S (after other S) a) (sent_named one S (after other S) a))

-- at what the first event names, the second is as if it were not
at_named : (one other : Event) (S : State) → AreApart one other S → (o : Object) → has_object o (named_by one S) ≡ true → EqualAt (after one (after other S)) (after other (after one S)) o
at_named one other S apart o h =
    let a : AgreeOn (named_by one S) S (after other S) = agree_after one other S apart in
    let b : AgreeOn (named_by other S) S (after one S) = agree_after other one S (apart_sym one other S apart) in
    let quiet : has_object o (named_by other (after one S)) ≡ false = subst (λ (os : List Object). has_object o os ≡ false) (named_same other S (after one S) b) (apart o h) in
    part_trans (after one (after other S)) (after one S) (after other (after one S)) o
    (part_sym (after one S) (after one (after other S)) o
    (after_part one S (after other S) (effect_named one S (after other S) a) (sent_named one S (after other S) a) o (a o h).equal))
    (part_sym (after other (after one S)) (after one S) o (else_same other (after one S) o quiet).equal)

-- elsewhere, the first is
at_other : (one other : Event) (S : State) → AreApart one other S → (o : Object) → has_object o (named_by one S) ≡ false → EqualAt (after one (after other S)) (after other (after one S)) o
at_other one other S apart o h =
    let a : AgreeOn (named_by one S) S (after other S) = agree_after one other S apart in
    let b : AgreeOn (named_by other S) S (after one S) = agree_after other one S (apart_sym one other S apart) in
    let quiet : has_object o (named_by one (after other S)) ≡ false = subst (λ (os : List Object). has_object o os ≡ false) (named_same one S (after other S) a) h in
    part_trans (after one (after other S)) (after other S) (after other (after one S)) o
    (else_same one (after other S) o quiet).equal
    (after_part other S (after one S) (effect_named other S (after one S) b) (sent_named other S (after one S) b) o
    (part_sym (after one S) S o (else_same one S o h).equal))

pub after_apart : (one other : Event) (S : State) → AreApart one other S → after one (after other S) ≡ after other (after one S)
after_apart one other S apart =
    state_ext (after one (after other S)) (after other (after one S))
    (after_width one (after other S) ∙ after_width other S ∙ sym (after_width one S) ∙ sym (after_width other (after one S)))
    (λ o.
    elim (cases_Bool (has_object o (named_by one S))) [
      | inl h ↦ at_named one other S apart o h
      | inr h ↦ at_other one other S apart o h
    ])
