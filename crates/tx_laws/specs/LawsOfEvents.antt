-- The laws of single events: what they depend on, what they change, and which of them commute. Own
-- rules.
use Rattle.std.specs.Prelude.{◌≡◌, ℕ, ℤ, List, Some, true, false, ◌++◌}
use Rattle.tx_base.specs.declared.steps.Step.{Step}
use Rattle.tx_model.specs.State.{State, Sending, Object, Proc, Held, has_object}
use Rattle.tx_model.specs.StateLaws.{EqualAt, AgreeAt, AgreeOn}
use Rattle.tx_model.specs.Posts.{after_posts}
use Rattle.tx_model.specs.Effects.{Inside, after_effect}
use Rattle.tx_model.specs.Words.{before_sends, processes_of}
use Rattle.tx_model.specs.Events.{Event, Do, process_of, actor, effect, objects, after, reply_of}
use Rattle.tx_laws.specs.Commuting.{AreApart}
use Rattle.tx_laws.specs.Fits.{IsIn, HoldsFor}

-- what an event does is a function of its objects
abbrev pub EffectIsLocal : Type 0
EffectIsLocal =
    (event : Event) (one other : State) → AgreeOn (objects event one) one other
    → effect event one ≡ effect event other

-- who makes an event is one of its objects
abbrev pub ActorIsObject : Type 0
ActorIsObject =
    (event : Event) (state : State) → has_object (Proc (actor event)) (objects event state) ≡ true

-- states that agree at an event's objects have the same objects of it
abbrev pub ObjectsAreLocal : Type 0
ObjectsAreLocal =
    (event : Event) (one other : State) → AgreeOn (objects event one) one other
    → objects event one ≡ objects event other

-- states that agree at an event's objects and at the targets of its sends have the same reply to it
abbrev pub ReplyIsLocal : Type 0
ReplyIsLocal = (event : Event) (one other : State) →
    AgreeOn (objects event one ++ processes_of (effect event one).sends) one other
    → reply_of event one ≡ reply_of event other

-- an event changes only its objects and the targets of its sends
abbrev pub ElsewhereIsSame : Type 0
ElsewhereIsSame = (event : Event) (state : State) (object : Object) →
    has_object object (objects event state ++ processes_of (effect event state).sends) ≡ false
    → AgreeAt (after event state) state object

-- an event leaves every other object as it was
abbrev pub OtherObjectsStay : Type 0
OtherObjectsStay = (event : Event) (state : State) (object : Object) →
    has_object object (objects event state ++ processes_of (effect event state).sends) ≡ false
    → EqualAt (after event state) state object

-- in any state, the writes of an event leave everything that is not its object as it was
abbrev pub WritesStayInObjects : Type 0
WritesStayInObjects = (event : Event) (state other : State) (object : Object) →
    has_object object (objects event state) ≡ false
    → EqualAt (before_sends (effect event state) other) other object

-- in any state, at what is not its object an event only posts its sends
abbrev pub OthersGetSendsAlone : Type 0
OthersGetSendsAlone = (event : Event) (state other : State) (answers : List ℤ) (object : Object) →
    has_object object (objects event state) ≡ false
    → EqualAt (after_effect (effect event state) answers other)
    (after_posts (effect event state).sends other) object

-- what a transaction holds is an object only of events that are made inside it or commit it
abbrev pub HoldsForItsOwn : Type 0
HoldsForItsOwn =
    (event : Event) (state : State) (starter : ℕ)
    → has_object (Held starter) (objects event state) ≡ true → HoldsFor starter event

-- what a member of a transaction sends at once goes to members
abbrev pub MembersSendToMembers : Type 0
MembersSendToMembers =
    (step : Step) (inside : Inside) (state : State) (sending : Sending)
    → inside.members (process_of step) ≡ true →
    IsIn sending (effect (Do step (Some inside)) state).sends → inside.members sending.target ≡ true

-- two events that are apart leave the same state in either order
abbrev pub StatesCommute : Type 0
StatesCommute =
    (one other : Event) (state : State) → AreApart one other state
    → after one (after other state) ≡ after other (after one state)

-- an event has the same reply after one that is apart from it
abbrev pub RepliesCommute : Type 0
RepliesCommute =
    (one other : Event) (state : State) → AreApart one other state
    → reply_of one (after other state) ≡ reply_of one state
