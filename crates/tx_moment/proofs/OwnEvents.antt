-- The events of one transaction, made one after another, and an event of another that is made before them or after them.
use Rattle.std.proofs.Common.{◌≡◌, ℕ, Bool, true, false, List, [], ◌∷◌, ◌⊎◌, is_some}
use Rattle.tx_model.specs.State.{State, Sending, Object, Proc, has_object}
use Rattle.tx_model.specs.Effects.{send_answers}
use Rattle.tx_model.specs.Events.{Event, effect, objects, after, reply_of, run}
use Rattle.tx_model.specs.Answer.{is_running}
use Rattle.tx_laws.specs.Fits.{IsIn}
use Rattle.tx_laws.specs.OneMoment.{is_sent_to}
use Rattle.tx_moment.specs.Unseen.{overlooks}

-- an event of the transaction of s, made on a state: what it names is the transaction's, by a test; it sends to what is the transaction's, and nothing to s;
-- and s is there and looks at none of its signals
pub record IsOwnEvent (T : Object → Bool) (s : ℕ) (ev : Event) (R : State) : Type 0 where
  pub names : (o : Object) → has_object o (objects ev R) ≡ true → T o ≡ true
  pub sends : (m : Sending) → IsIn m (effect ev R).sends → T (Proc m.target) ≡ true
  pub unsent : is_sent_to s (effect ev R).sends ≡ false
  pub overlooks : overlooks s ev ≡ true
  pub there : is_some (R.procs s) ≡ true

-- all of some events are so, the newest first, made on what was before
unfoldable pub AreOwnEvents : (Object → Bool) → ℕ → List Event → State → Type 0
AreOwnEvents T s [] Q = Unit {0}
AreOwnEvents T s (ev ∷ evs) Q = IsOwnEvent T s ev (run Q evs) × AreOwnEvents T s evs Q

-- each of some events has the same reply on the one state as on the other, those before it made
unfoldable pub SameReplies : List Event → State → State → Type 0
SameReplies [] one other = Unit {0}
SameReplies (ev ∷ evs) one other = (reply_of ev (run one evs) ≡ reply_of ev (run other evs)) × SameReplies evs one other

-- an event of another: it names nothing of the transaction, and sends nothing to what is the transaction's but to s, which runs; and it does the same, and its
-- posts are answered alike, before the transaction's events as after them
pub record IsOfAnother (T : Object → Bool) (s : ℕ) (b : Event) (evs : List Event) (Q : State) : Type 0 where
  pub starter : T (Proc s) ≡ true
  pub runs : is_running (Q.procs s) ≡ true
  pub names : (o : Object) → has_object o (objects b Q) ≡ true → T o ≡ false
  pub sends : (m : Sending) → IsIn m (effect b Q).sends → (m.target ≡ s) ⊎ (T (Proc m.target) ≡ false)
  pub same : effect b Q ≡ effect b (run Q evs)
  pub answers : send_answers (effect b Q) Q ≡ send_answers (effect b (run Q evs)) (run Q evs)

-- then the event may as well be made before the transaction's events as after them: they leave the same state, they are still events of that transaction,
-- and each has the same reply
pub record PassesOwn (T : Object → Bool) (s : ℕ) (b : Event) (evs : List Event) (Q : State) : Type 0 where
  pub state : run (after b Q) evs ≡ after b (run Q evs)
  pub own : AreOwnEvents T s evs (after b Q)
  pub replies : SameReplies evs Q (after b Q)
