-- Events that concern different objects. Own rules.
use Rattle.std.specs.Prelude.{◌≡◌, true, false, List, ◌++◌}
use Rattle.tx_model.specs.State.{State, Object, has_object}
use Rattle.tx_model.specs.Events.{Event, effect, objects}
use Rattle.tx_model.specs.Words.{processes_of}

-- what the event names in the state: its objects, and the targets of all its sends
unfoldable pub named_by : Event → State → List Object
named_by ev S = objects ev S ++ processes_of (effect ev S).sends

-- no object is named by both events
abbrev pub AreApart : Event → Event → State → Type 0
AreApart one other S =
    (o : Object) → has_object o (named_by one S) ≡ true → has_object o (named_by other S) ≡ false
