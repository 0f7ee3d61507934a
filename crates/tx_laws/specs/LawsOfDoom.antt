-- The laws of doomed transactions. Own rules.
use Rattle.std.specs.Prelude.{◌≡◌, ◌≢◌, ℕ, ℤ, pos, true, false, Some, None}
use Rattle.tx_base.specs.declared.marks.Mark.{Mark}
use Rattle.tx_base.specs.declared.names.Pid.{Pid}
use Rattle.tx_base.specs.declared.names.Signo.{Signo}
use Rattle.tx_base.specs.declared.steps.Call.{Call}
use Rattle.tx_base.specs.declared.steps.Call.TheVariants.{Kill, Sigqueue}
use Rattle.tx_base.specs.declared.steps.Reply.TheVariants.{Done, Aborted}
use Rattle.tx_base.specs.declared.steps.Step.{Step}
use Rattle.tx_base.specs.declared.steps.Step.TheVariants.{Call as Calls, Deliver, KernelAbort}
use Rattle.tx_model.specs.SignalSets.{kill_signo}
use Rattle.tx_model.specs.Membership.{is_live, Progress, Within}
use Rattle.tx_model.specs.View.{View, is_doomed, next, role_on}
use Rattle.tx_model.specs.Answer.{answer, IsAccepted}
use Rattle.tx_laws.specs.Fits.{ends_it}
use Rattle.tx_laws.specs.Sound.{IsSound}

-- each call of a member of a doomed transaction is refused
abbrev pub DoomedCallsAreRefused : Type 0
DoomedCallsAreRefused = (view : View) (pid : Pid) (call : Call) (mark : Mark) →
    view.table.marks pid.0 ≡ Some mark → is_doomed view mark.starter.0 ≡ true
    → ¬ IsAccepted (answer view (Calls pid call))

-- each delivery to a member of a doomed transaction is refused
abbrev pub DoomedDeliveriesAreRefused : Type 0
DoomedDeliveriesAreRefused = (view : View) (pid : Pid) (signo : Signo) (mark : Mark) →
    view.table.marks pid.0 ≡ Some mark → is_doomed view mark.starter.0 ≡ true
    → ¬ IsAccepted (answer view (Deliver pid signo))

-- the kernel's abort of a doomed transaction answers 203
abbrev pub DoomedAbortAnswers203 : Type 0
DoomedAbortAnswers203 = (view : View) (starter : Pid) →
    is_live view.table starter.0 ≡ true → is_doomed view starter.0 ≡ true
    → answer view (KernelAbort starter) ≡ Aborted 203

-- the kernel's abort of any other transaction answers 202
abbrev pub OtherAbortAnswers202 : Type 0
OtherAbortAnswers202 = (view : View) (starter : Pid) →
    is_live view.table starter.0 ≡ true → is_doomed view starter.0 ≡ false
    → answer view (KernelAbort starter) ≡ Aborted 202

-- no step inside a transaction changes whether it is doomed
abbrev pub MembersDoomNothing : Type 0
MembersDoomNothing = (view : View) (step : Step) (starter : ℕ) (progress : Progress) →
    role_on view step ≡ Within starter progress
    → is_doomed (next view step) starter ≡ is_doomed view starter

-- a permitted SIGKILL that a process outside all transactions sends by kill to a live starter dooms
-- the transaction
abbrev pub KillDooms : Type 0
KillDooms = (view : View) (pid : Pid) (starter : ℕ) →
    IsSound view → view.table.marks pid.0 ≡ None → is_live view.table starter ≡ true → starter ≢ 1 →
    answer view (Calls pid (Kill (pos starter) (pos kill_signo))) ≡ Done (pos 0) →
    is_doomed (next view (Calls pid (Kill (pos starter) (pos kill_signo)))) starter ≡ true

-- the same for a SIGKILL that is sent by sigqueue
abbrev pub SigqueueDooms : Type 0
SigqueueDooms = (view : View) (pid : Pid) (starter : ℕ) (value : ℤ) →
    IsSound view → view.table.marks pid.0 ≡ None → is_live view.table starter ≡ true → starter ≢ 1 →
    answer view (Calls pid (Sigqueue (pos starter) (pos kill_signo) value)) ≡ Done (pos 0) →
    is_doomed (next view (Calls pid (Sigqueue (pos starter) (pos kill_signo) value))) starter ≡ true

-- a live doomed transaction is doomed after every accepted step that does not end it
abbrev pub DoomStays : Type 0
DoomStays = (view : View) (step : Step) (starter : ℕ) →
    IsSound view → IsAccepted (answer view step) → is_live view.table starter ≡ true
    → ends_it starter (role_on view step) ≡ false →
    is_doomed view starter ≡ true → is_doomed (next view step) starter ≡ true
