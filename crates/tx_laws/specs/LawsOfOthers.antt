-- The laws of entries, and of what their events do where transactions of others are left out. Own
-- rules.
use Rattle.std.specs.Prelude.{◌≡◌, List, ◌∷◌}
use Rattle.tx_base.specs.declared.steps.Accepted.{Accepted}
use Rattle.tx_model.specs.State.{State, Object}
use Rattle.tx_model.specs.StateLaws.{AgreeAt, AgreeOn}
use Rattle.tx_model.specs.Effects.{send_answers}
use Rattle.tx_model.specs.Events.{Event, process_of, effect, objects, after}
use Rattle.tx_model.specs.History.{Starters, role_in, event_of}
use Rattle.tx_model.specs.View.{View, view, present}
use Rattle.tx_model.specs.Words.{IsClear}
use Rattle.tx_model.specs.Answer.{Lawful, AgreesWithout}
use Rattle.tx_laws.specs.Fits.{Fits, Passes, IsQuiet}
use Rattle.tx_laws.specs.Sound.{IsSound}

-- whichever transactions are left out of a lawful history, each surviving step has the reply of its
-- event
abbrev pub HistoriesAgree : Type 0
HistoriesAgree =
    (start : State) (history : List Accepted) → Lawful start history → (left_out : Starters)
    → AgreesWithout start left_out history

-- the event of an entry fits the role of the entry, and nobody is in its way
abbrev pub EntriesFit : Type 0
EntriesFit =
    (start : State) (last : Accepted) (earlier : List Accepted) → Lawful start (last ∷ earlier) →
    Passes (role_in start last earlier) (event_of start last earlier) (view start earlier)
    × Fits (role_in start last earlier) (event_of start last earlier) (process_of last.step)
    (view start earlier)

-- with transactions of others left out, the state is the same at the objects of an event if nobody
-- is in its way
abbrev pub ObjectsOfOthersApart : Type 0
ObjectsOfOthersApart =
    (view : View) (event : Event) (left_out : Starters) → IsSound view → IsClear view event
    → IsQuiet view event left_out →
    AgreeOn (objects event (present view)) (present view) (view.without left_out)

-- and its posts are answered alike
abbrev pub AnswersWithoutOthers : Type 0
AnswersWithoutOthers =
    (view : View) (event : Event) (left_out : Starters) → IsSound view → IsClear view event
    → IsQuiet view event left_out →
    send_answers (effect event (present view)) (present view)
    ≡ send_answers (effect event (view.without left_out)) (view.without left_out)

-- states that agree at an object agree there after an event that does the same in both, and whose
-- posts both answer alike
abbrev pub SameEventKeeps : Type 0
SameEventKeeps = (event : Event) (one other : State) → effect event one ≡ effect event other →
    send_answers (effect event one) one ≡ send_answers (effect event other) other →
    (object : Object) → AgreeAt one other object
    → AgreeAt (after event one) (after event other) object
