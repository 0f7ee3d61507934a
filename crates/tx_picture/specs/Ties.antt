-- What leads from a step's mark to the column of another process.
use Rattle.std.specs.Prelude.{ℤ, pos, negsuc, Option, Some, None, option_map, if◌then◌else◌, nat_lt}
use Rattle.std.specs.Ordering.{int_eq}
use Rattle.tx_base.specs.declared.names.Pid.{Pid}
use Rattle.tx_base.specs.declared.steps.Call.TheVariants.{Fork, Kill, Sigqueue}
use Rattle.tx_base.specs.declared.steps.Refusal.TheVariants.{Busy}
use Rattle.tx_base.specs.declared.steps.Reply.{Reply}
use Rattle.tx_base.specs.declared.steps.Reply.TheVariants.{Done, No}
use Rattle.tx_base.specs.declared.steps.Step.{Step}
use Rattle.tx_base.specs.declared.steps.Step.TheVariants.{Call as Calls}
use Rattle.tx_picture.specs.declared.ties.Tie.{Tie}
use Rattle.tx_picture.specs.declared.ties.Tie.TheVariants.{Holder, Child, Signal}

-- the process of a number that a program gives
abbrev pub numbered_by : ℤ → Option Pid
numbered_by (pos number) = if nat_lt number 65536 then Some (record { 0 = number }) else None
numbered_by (negsuc number) = None

-- the target of a signal; signal 0 only asks
abbrev pub target_of : ℤ → ℤ → Option Pid
target_of target signo = if int_eq signo (pos 0) then None else numbered_by target

-- the process that a step sends a signal to
abbrev pub sent_to : Step → Option Pid
sent_to (Calls p (Kill target signo)) = target_of target signo
sent_to (Calls p (Sigqueue target signo value)) = target_of target signo
sent_to step = None

-- of a step that was answered a number: to the child of a fork, and to the process that it has sent
-- a signal to
abbrev pub answered_tie : Step → ℤ → Option Tie
answered_tie (Calls p (Fork child)) answer = Some (Child child)
answered_tie step answer = if int_eq answer (pos 0) then option_map Signal (sent_to step) else None

-- of a refused step: to the starter whose transaction is in the way
abbrev pub tie_of : Step → Reply → Option Tie
tie_of step (No (Busy starter)) = Some (Holder starter)
tie_of step (Done answer) = answered_tie step answer
tie_of step reply = None
