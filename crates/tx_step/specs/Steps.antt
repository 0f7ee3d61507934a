-- What a step comes to: its reply, the next content and its inverse; or why it is refused.
use Rattle.std.specs.Prelude.{◌≡◌, ◌≢◌, ◌⊎◌, ◌≤◌, length, ℕ, true, Result, Ok, Err, IsSome}
use Rattle.tx_base.specs.Slots.{slot_at}
use Rattle.tx_base.specs.declared.limits.TheConstants.{CONSOLE_BYTES, UNDELIVERED}
use Rattle.tx_base.specs.declared.names.Pid.{Pid}
use Rattle.tx_base.specs.declared.steps.Call.TheVariants.{SysXabort}
use Rattle.tx_base.specs.declared.steps.Refusal.{Refusal}
use Rattle.tx_base.specs.declared.steps.Refusal.TheVariants.{NoMemory}
use Rattle.tx_base.specs.declared.steps.Reply.{Reply}
use Rattle.tx_base.specs.declared.steps.Reply.TheVariants as reply
use Rattle.tx_base.specs.declared.steps.Step.{Step}
use Rattle.tx_base.specs.declared.steps.Step.TheVariants.{Call as Calls, KernelAbort}
use Rattle.tx_step.specs.Contents.{IsContent}
use Rattle.tx_kernel.specs.Plans.{memory_in, reply_of}
use Rattle.tx_laws.specs.Fits.{ends_it}
use Rattle.tx_content.specs.Commits.{missed_of}
use Rattle.tx_content.specs.Content.{view_of}
use Rattle.tx_content.specs.Inverses.{changes_of, GoesWith, Undoes}
use Rattle.tx_content.specs.Redone.{EndsWhole}
use Rattle.tx_content.specs.declared.content.Content.{Content}
use Rattle.tx_content.specs.declared.inverse.Inverse.{Inverse}
use Rattle.tx_model.specs.Answer.{answer, IsAccepted}
use Rattle.tx_model.specs.Events.{effect, process_of}
use Rattle.tx_model.specs.Footprints.{footprint}
use Rattle.tx_model.specs.Words.{processes_of}
use Rattle.tx_model.specs.State.{Object, has_object}
use Rattle.tx_model.specs.View.{View, event_on, next, present, role_on}
use Rattle.tx_proc.specs.Parts.{process_in}
use Rattle.tx_step.specs.declared.answered.Answered.{Answered}
use Rattle.tx_step.specs.declared.answered.Answered.TheVariants.{Acted, Committed, Aborted}
use Rattle.tx_txn.specs.Content.{is_named}

-- the reply to a step of process p that left this content and this inverse: bytes that it shows are
-- of the memory that the process has now; what could not be delivered is in the inverse
abbrev pub replied : Content → ℕ → Inverse → Answered → Reply
replied k p inverse (Acted outcome) =
    reply_of (memory_in (process_in (slot_at k.parts.procs p))) outcome
replied k p inverse Committed = reply.Committed (record { items = missed_of inverse })
replied k p inverse (Aborted status) = reply.Aborted status

-- the lists of a reply are as long as it can hold
abbrev pub FitsReply : Reply → Type 0
FitsReply (reply.Committed undelivered) = length undelivered.items ≤ UNDELIVERED
FitsReply (reply.Out bytes) = length bytes.items ≤ CONSOLE_BYTES
FitsReply reply = Unit {0}

-- what a step names: the objects of its footprint, the targets of its sends, and, where it ends a
-- transaction, what that reserved
pub data IsNamedBy (view : View) (step : Step) (object : Object) : Type 0 where
  InFootprint : has_object object (footprint view.table step (present view)) ≡ true
      → IsNamedBy view step object
  GetsSend :
      has_object object (processes_of (effect (event_on view step) (present view)).sends) ≡ true
      → IsNamedBy view step object
  WasTouched : (starter : ℕ) → ends_it starter (role_on view step) ≡ true
      → view.reserved starter object ≡ true → IsNamedBy view step object

-- each change of the inverse is of an object that the step names
abbrev pub IsLocal : Content → Step → Content → Inverse → Type 0
IsLocal old step new inverse =
    (object : Object) → is_named object (changes_of new inverse) ≡ true
    → IsNamedBy (view_of old) step object

-- the step was accepted with this reply, and left this content and this inverse
pub record IsStep (old : Content) (step : Step) (reply : Reply) (inverse : Inverse) (new : Content)
    : Type 0 where
  pub answered : answer (view_of old) step ≡ reply
  pub accepted : IsAccepted reply
  pub fits : FitsReply reply
  pub next : view_of new ≡ next (view_of old) step
  pub content : IsContent new
  pub goes : GoesWith new inverse
  pub back : Undoes new inverse old
  pub local : IsLocal old step new inverse
  pub whole : EndsWhole new inverse

-- the step is a sys_xabort by a member
abbrev pub IsXabort : Content → Step → Type 0
IsXabort old step = (pid : Pid) × (step ≡ Calls pid SysXabort) × IsSome (slot_at old.marks pid.0)

-- the step is the kernel's abort
abbrev pub IsKernelAbort : Step → Type 0
IsKernelAbort (KernelAbort starter) = Unit {0}
IsKernelAbort step = ⊥

-- the step was refused, and changed nothing: for want of memory, where nothing else refused it and
-- it is neither a member's sys_xabort nor the kernel's abort; or as the answer says
abbrev pub IsRefused : Content → Step → Refusal → Content → Type 0
IsRefused old step why new =
    (new ≡ old)
    × ((why ≡ NoMemory)
    × IsAccepted (answer (view_of old) step)
    × (IsXabort old step → ⊥)
    × (IsKernelAbort step → ⊥)
    ⊎ (answer (view_of old) step ≡ reply.No why) × (why ≢ NoMemory))

-- what a step answers and leaves
abbrev pub Takes : Content → Step → Result Answered Refusal → Inverse → Content → Type 0
Takes old step (Ok answered) inverse new =
    IsStep old step (replied new (process_of step) inverse answered) inverse new
Takes old step (Err why) inverse new = IsRefused old step why new
