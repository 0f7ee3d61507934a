-- Why a step is refused before it is asked whether anybody is in its way.
use Rattle.std.specs.Prelude.{◌≡◌, ◌&&◌, ℕ, Bool, not, if◌then◌else◌, Option, Some, None}
use Rattle.std.specs.Option.{option_or}
use Rattle.tx_base.specs.declared.marks.Mark.{Mark}
use Rattle.tx_base.specs.declared.steps.Refusal.{Refusal}
use Rattle.tx_base.specs.declared.steps.Refusal.TheVariants.{NoProcess, NotRunning, BadNumber, NumberTaken, Doomed, Parked, KillPending}
use Rattle.tx_base.specs.declared.steps.Step.{Step}
use Rattle.tx_model.specs.Answer.{is_doomed_at, is_parked, is_running, is_there, refusal}
use Rattle.tx_model.specs.Words.{busy, has_bad_number, has_number_in_use, is_stopped_by_kill}
use Rattle.tx_model.specs.SignalSets.{kill_signo}
use Rattle.tx_model.specs.View.{View, event_on, has_pending, starter_in_way, present}

-- why a step of process p is refused before anybody is in its way: the first reason
abbrev pub early_refusal : View → ℕ → Step → Option Refusal
early_refusal V p step =
    if not (is_there V p) then Some NoProcess else
    if not (is_running ((present V).procs p)) then Some NotRunning else
    if has_bad_number V.table.width step then Some BadNumber else
    if has_number_in_use (present V) step then Some NumberTaken else
    if is_doomed_at V (V.table.marks p) then Some Doomed else
    if is_parked (V.table.marks p) then Some Parked else
    if is_stopped_by_kill (present V) p step then Some KillPending else None

-- the refusal is this one, else that somebody is in the way
abbrev pub RefusalIsEarly : Type 0
RefusalIsEarly =
    (V : View) (p : ℕ) (step : Step)
    → refusal V p step
    ≡ option_or (early_refusal V p step) (busy (starter_in_way V (event_on V step)))

-- why the number makes no step, whatever the step is
abbrev pub process_refusal : View → ℕ → Option Refusal
process_refusal V p =
    if not (is_there V p)
    then Some NoProcess
    else (if not (is_running ((present V).procs p)) then Some NotRunning else None)

-- why a process of this mark makes no step, whatever the step is
abbrev pub member_refusal : View → Option Mark → Option Refusal
member_refusal V mark =
    if is_doomed_at V mark then Some Doomed else (if is_parked mark then Some Parked else None)

-- why the process makes no step, where the step delivers SIGKILL or not
abbrev pub kill_refusal : View → ℕ → Bool → Option Refusal
kill_refusal V p delivers_kill =
    if has_pending kill_signo ((present V).procs p) && not delivers_kill
    then Some KillPending
    else None

-- why a process that runs makes no step, whatever numbers the step chooses
abbrev pub own_refusal : View → ℕ → Bool → Option Refusal
own_refusal V p delivers_kill =
    option_or (member_refusal V (V.table.marks p)) (kill_refusal V p delivers_kill)
