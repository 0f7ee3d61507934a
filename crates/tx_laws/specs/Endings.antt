-- Which calls and deliveries end their process, known before there is a reply, and their role by
-- that; and that their own posts are not answered by an error. Own rules.
use Rattle.std.specs.Prelude.{◌≡◌, ℤ, Bool, true, false, not, ◌==◌, pos, [], Option, Some, None, if◌then◌else◌}
use Rattle.tx_base.specs.declared.names.Pid.{Pid}
use Rattle.tx_base.specs.declared.names.Signo.{Signo}
use Rattle.tx_base.specs.declared.steps.Call.{Call}
use Rattle.tx_base.specs.declared.steps.Call.TheVariants as call
use Rattle.tx_base.specs.declared.steps.Reply.{Reply}
use Rattle.tx_base.specs.declared.steps.Reply.TheVariants.{Done, Ended}
use Rattle.tx_base.specs.declared.steps.Step.{Step}
use Rattle.tx_base.specs.declared.steps.Step.TheVariants.{Call as Calls, Deliver}
use Rattle.tx_model.specs.State.{Process, State}
use Rattle.tx_model.specs.Effects.{Inside, failed_sends, send_answers}
use Rattle.tx_model.specs.Events.{Do, process_of, effect, reply_of}
use Rattle.tx_model.specs.Deliveries.{delivered_value, ends_by}
use Rattle.tx_model.specs.Membership.{inside_by, says_ended, role, event}
use Rattle.tx_model.specs.View.{View, present, first_reply, role_on, event_on}
use Rattle.tx_laws.specs.Footprints.{is_asked}
use Rattle.tx_laws.specs.WellFormed.{IsWellFormed}

abbrev pub is_exit : Call → Bool
is_exit (call.Exit status) = true
is_exit call = false

-- the reply to a call other than an exit reports no end, even if it is refused or waits
abbrev pub OtherCallsSayNoEnd : Type 0
OtherCallsSayNoEnd =
    (state : State) (pid : Pid) (call : Call) (inside : Option Inside) → is_exit call ≡ false →
    says_ended (reply_of (Do (Calls pid call) inside) state) ≡ false

-- the reply to an exit of a process that runs reports its end, unless that is process 1, which goes
-- on
abbrev pub ExitsSayEnd : Type 0
ExitsSayEnd =
    (state : State) (pid : Pid) (status : ℤ) (inside : Option Inside) (me : Process)
    → state.procs pid.0 ≡ Some me → me.status ≡ None →
    says_ended (reply_of (Do (Calls pid (call.Exit status)) inside) state) ≡ not (pid.0 == 1)

-- the reply to a delivery to a process that runs reports its end exactly if the delivery now ends
-- it
abbrev pub DeliveriesSayEnd : Type 0
DeliveriesSayEnd =
    (state : State) (pid : Pid) (signo : Signo) (inside : Option Inside) (me : Process)
    → state.procs pid.0 ≡ Some me → me.status ≡ None →
    says_ended (reply_of (Do (Deliver pid signo) inside) state)
    ≡ ends_by inside signo.0 me (delivered_value signo.0 me)

-- if an event of a process that runs reports its end, in a well-formed state, no post of its own is
-- answered by an error
abbrev pub EndingsAreAnswered : Type 0
EndingsAreAnswered =
    (state : State) (step : Step) (inside : Option Inside) (me : Process) → IsWellFormed state
    → state.procs (process_of step) ≡ Some me → me.status ≡ None →
    says_ended (reply_of (Do step inside) state) ≡ true →
    failed_sends (effect (Do step inside) state).sends
    (send_answers (effect (Do step inside) state) state)
    ≡ []

-- a reply that says whether the process ended, made without the step
abbrev pub end_reply : Bool → Reply
end_reply ends = if ends then Ended else Done (pos 0)

-- the role of the step, and its event, follow from whether it ends its process
abbrev pub IsToldBy : View → Step → Bool → Type 0
IsToldBy view step ends =
    (role view.table step (end_reply ends) ≡ role_on view step)
    × (event view.table step (end_reply ends) ≡ event_on view step)

-- those of a call or a delivery follow from whether its first reply says that its process ended
abbrev pub StepIsToldByEnd : Type 0
StepIsToldByEnd =
    (view : View) (step : Step) (ends : Bool) → is_asked step ≡ true
    → says_ended (first_reply view step) ≡ ends → IsToldBy view step ends

-- those of a call other than an exit are of one that ends nothing
abbrev pub OtherCallIsTold : Type 0
OtherCallIsTold =
    (view : View) (pid : Pid) (call : Call) → is_exit call ≡ false
    → IsToldBy view (Calls pid call) false

-- those of an exit of a process that runs follow from whether that is process 1
abbrev pub ExitIsTold : Type 0
ExitIsTold =
    (view : View) (pid : Pid) (status : ℤ) (me : Process) → (present view).procs pid.0 ≡ Some me
    → me.status ≡ None → IsToldBy view (Calls pid (call.Exit status)) (not (pid.0 == 1))

-- those of a delivery to a process that runs follow from whether it now ends it
abbrev pub DeliveryIsTold : Type 0
DeliveryIsTold =
    (view : View) (pid : Pid) (signo : Signo) (me : Process) → (present view).procs pid.0 ≡ Some me
    → me.status ≡ None →
    IsToldBy view (Deliver pid signo)
    (ends_by (inside_by view.table (view.table.marks pid.0)) signo.0 me
    (delivered_value signo.0 me))
