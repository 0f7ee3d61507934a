-- What a step requests of its process, as a step, and as what the kernel makes of it.
use Rattle.std.specs.Prelude.{◌≡◌, Bool, true, not, Option, is_some}
use Rattle.tx_base.specs.declared.marks.Mark.{Mark}
use Rattle.tx_base.specs.declared.names.Pid.{Pid}
use Rattle.tx_base.specs.declared.steps.Reply.{Reply}
use Rattle.tx_base.specs.declared.steps.Step.{Step}
use Rattle.tx_base.specs.declared.steps.Step.TheVariants.{Call as Calls, Deliver}
use Rattle.tx_kernel.specs.Acts.{event_of}
use Rattle.tx_kernel.specs.declared.events.Act.{Act}
use Rattle.tx_model.specs.Membership.{Table, Kind, Ordinary, Forking, Beginning, Leaving, Aborting, inside_by, step_event}
use Rattle.tx_model.specs.Words.{kind_of}
use Rattle.tx_step.specs.declared.request.Request.{Request}
use Rattle.tx_step.specs.declared.request.Request.TheVariants.{Call, Delivery}

-- the step that requests this of the process
abbrev pub step_of : Pid → Request → Step
step_of pid (Call call) = Calls pid call.now
step_of pid (Delivery signo) = Deliver pid signo

abbrev pub kind_requested : Request → Kind
kind_requested (Call call) = kind_of call.now
kind_requested (Delivery signo) = Ordinary

-- whether a call of this kind is only an act of its process: it neither begins nor aborts a
-- transaction of a process that is a member, or is none
abbrev pub is_own : Kind → Bool → Bool
is_own Ordinary member = true
is_own (Forking child) member = true
is_own (Beginning defers) member = member
is_own Leaving member = true
is_own Aborting member = not member

-- the act of such a process is what is requested of it, by its mark: whoever has one is a member
abbrev pub IsActOf : Request → Bool → Act → Type 0
IsActOf request member act =
    (t : Table) (pid : Pid) (mark : Option Mark) (reply : Reply) → t.marks pid.0 ≡ mark
    → is_some mark ≡ member →
    is_own (kind_requested request) member ≡ true
    → event_of (inside_by t mark) pid act ≡ step_event t (step_of pid request) reply
