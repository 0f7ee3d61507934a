-- What the footprint of a step depends on: the marks, and what the transaction holds if the step
-- commits it.
use Rattle.std.specs.Prelude.{◌≡◌, ℕ, Bool, true, false, not, ◌==◌, List, Option, Some, None, if◌then◌else◌, length, map}
use Rattle.tx_base.specs.Slots.{slot_at}
use Rattle.tx_base.specs.declared.marks.Mark.{Mark}
use Rattle.tx_base.specs.declared.names.Pid.{Pid}
use Rattle.tx_base.specs.declared.names.Sending.{Sending}
use Rattle.tx_base.specs.declared.names.Signo.{Signo}
use Rattle.tx_base.specs.declared.steps.Call.{Call}
use Rattle.tx_base.specs.declared.steps.Call.TheVariants as call
use Rattle.tx_base.specs.declared.steps.Step.{Step}
use Rattle.tx_base.specs.declared.steps.Step.TheVariants.{Call as Calls, Deliver, KernelAbort}
use Rattle.tx_change.specs.Exchange.{IsPid, sizes_of}
use Rattle.tx_change.specs.declared.parts.Parts.{Parts}
use Rattle.tx_kernel.specs.Actors.{IsWhole, inside_of, me_of}
use Rattle.tx_kernel.specs.Plans.{sending_of}
use Rattle.tx_kernel.specs.declared.actor.Actor.{Actor}
use Rattle.tx_model.specs.Deliveries.{delivered_value, ends_by}
use Rattle.tx_model.specs.Membership.{Table, inside_by, others_open}
use Rattle.tx_model.specs.State.{Object, Sending as TheSending, has_object}
use Rattle.tx_reserve.specs.Objects.{is_in, is_small}
use Rattle.tx_reserve.specs.declared.objects.Objects.{Objects}

-- the table of the marks, for the process numbers in range
abbrev pub table_of : Parts → List (Option Mark) → Table
table_of parts marks = record { width = length parts.procs; marks = slot_at marks }

-- the table of the marks, for who makes the step
abbrev pub table_at : Actor → List (Option Mark) → Table
table_at actor marks = table_of actor.parts.now marks

-- the actor is the process of its number, which runs or has ended
pub record IsPlaced (actor : Actor) : Type 0 where
  pub whole : IsWhole actor.parts.now
  pub number : IsPid (sizes_of actor.parts.now) actor.pid.0
  pub there : slot_at actor.parts.now.procs actor.pid.0 ≡ Some actor.proc.now

-- the step is made inside the transaction that the marks say
abbrev pub IsInside : Actor → List (Option Mark) → Type 0
IsInside actor marks =
    inside_of actor.inside ≡ inside_by (table_at actor marks) (slot_at marks actor.pid.0)

-- whether the call of process p, which runs, ends its part of a transaction: an exit does, unless
-- that is process 1, and a sys_xend
abbrev pub ends_part : ℕ → Call → Bool
ends_part p (call.Exit status) = not (p == 1)
ends_part p call.SysXend = true
ends_part p call = false

-- whether a delivery of the signal now ends the process that makes the step
abbrev pub ends_actor : Actor → Signo → Bool
ends_actor actor signo =
    ends_by (inside_of actor.inside) signo.0 (me_of actor) (delivered_value signo.0 (me_of actor))

-- held sends are given exactly where the process is a member and no other member's part is open,
-- and they are the transaction's
abbrev pub GoesBy : Table → ℕ → Option Mark → Option (List Sending) → (ℕ → List TheSending) → Type 0
GoesBy t p None None held = Unit {0}
GoesBy t p None (Some sends) held = ⊥
GoesBy t p (Some mark) None held = others_open t mark.starter.0 p t.width ≡ true
GoesBy t p (Some mark) (Some sends) held =
    (others_open t mark.starter.0 p t.width ≡ false) × (held mark.starter.0 ≡ map sending_of sends)

abbrev pub GoesWith : Actor → List (Option Mark) → Option (List Sending) → (ℕ → List TheSending)
    → Type 0
GoesWith actor marks last held =
    GoesBy (table_at actor marks) actor.pid.0 (slot_at marks actor.pid.0) last held

-- this holds if the step ends its process's part: any other step commits nothing, and what is given
-- then does not matter
abbrev pub GoesIf : Bool → Actor → List (Option Mark) → Option (List Sending)
    → (ℕ → List TheSending) → Type 0
GoesIf ends actor marks last held = ends ≡ true → GoesWith actor marks last held

-- the same for a call, and for a delivery
abbrev pub GoesWithCall : Actor → List (Option Mark) → Call → Option (List Sending)
    → (ℕ → List TheSending) → Type 0
GoesWithCall actor marks call last held = GoesIf (ends_part actor.pid.0 call) actor marks last held

abbrev pub GoesWithDelivery : Actor → List (Option Mark) → Signo → Option (List Sending)
    → (ℕ → List TheSending) → Type 0
GoesWithDelivery actor marks signo last held = GoesIf (ends_actor actor signo) actor marks last held

-- this is what the transaction holds in which a process of this mark is a member
abbrev pub HoldsBy : Option Mark → List Sending → (ℕ → List TheSending) → Type 0
HoldsBy None sends held = Unit {0}
HoldsBy (Some mark) sends held = held mark.starter.0 ≡ map sending_of sends

-- this is what the transaction of the step's process holds
abbrev pub HoldsFor : List (Option Mark) → Step → List Sending → (ℕ → List TheSending) → Type 0
HoldsFor marks (Calls p call) sends held = HoldsBy (slot_at marks p.0) sends held
HoldsFor marks (Deliver p signo) sends held = HoldsBy (slot_at marks p.0) sends held
HoldsFor marks (KernelAbort starter) sends held = Unit {0}

-- the process makes the step
abbrev pub IsStepOf : Pid → Step → Type 0
IsStepOf p (Calls q call) = p ≡ q
IsStepOf p (Deliver q signo) = p ≡ q
IsStepOf p (KernelAbort starter) = ⊥

-- the set has these objects, without those of numbers out of range
pub record IsSetOf (objects : Objects) (these : List Object) : Type 0 where
  pub each : (o : Object) → is_in objects o ≡ (if is_small o then has_object o these else false)

-- these objects were put into the set
pub record Adds (before after : Objects) (these : List Object) : Type 0 where
  pub each : (o : Object)
      → is_in after o
      ≡ (if is_in before o then true else (if is_small o then has_object o these else false))
