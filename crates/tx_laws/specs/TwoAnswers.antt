-- Who is in the way of an event, by the two states of a kernel. Own rules.
use Rattle.std.specs.Prelude.{ℕ, Bool, true, false, List, [], ◌∷◌, Option, if◌then◌else◌, ◌==◌}
use Rattle.std.specs.Ordering.{int_eq}
use Rattle.tx_model.specs.State.{Process, Sending}
use Rattle.tx_model.specs.Posts.{target_after, post_answer}
use Rattle.tx_model.specs.Events.{Event, actor, effect}
use Rattle.tx_model.specs.Membership.{is_live, is_member_of}
use Rattle.tx_model.specs.History.{event_footprint}
use Rattle.tx_model.specs.View.{some_object}
use Rattle.tx_laws.specs.TwoStates.{TwoStates, is_owner}

-- whether a send to process s is answered differently by the two processes, one send after another
unfoldable pub differs_by : ℕ → List Sending → Option Process → Option Process → Bool
differs_by s [] one other = false
differs_by s (m ∷ ms) one other =
    let same = int_eq (post_answer m one) (post_answer m other) in
    if m.target == s
    then (if same then differs_by s ms (target_after m one) (target_after m other) else true)
    else differs_by s ms one other

-- whether s owns something that the event names
abbrev pub owns_named : TwoStates → Event → ℕ → Bool
owns_named c ev s = some_object (event_footprint c.table ev c.now) (λ o. is_owner s (c.owner o))

-- whether a send of the event to s is answered differently by its process as kept and as it is now
abbrev pub sends_differ : TwoStates → Event → ℕ → Bool
sends_differ c ev s = differs_by s (effect ev c.now).sends (c.now.procs s) (c.kept.procs s)

-- whether the live transaction of s, of which the actor is no member, is in the way of the event
abbrev pub states_in_way : TwoStates → Event → ℕ → Bool
states_in_way c ev s =
    let blocks = if owns_named c ev s then true else sends_differ c ev s in
    if is_live c.table s
    then (if is_member_of c.table s (actor ev) then false else blocks)
    else false
