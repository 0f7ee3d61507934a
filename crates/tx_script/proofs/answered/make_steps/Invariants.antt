use Rattle.std.proofs.Common.{◌+◌, List, drop}
use Rattle.tx_base.specs.declared.steps.Accepted.{Accepted}
use Rattle.tx_core.specs.Runs.{IsAfter}
use Rattle.tx_model.specs.State.{State}
use Rattle.tx_script.proofs.Reported.{RepliesSoFar, as_they_are}
use Rattle.tx_script.proofs.answered.make_steps.Given as goal

abbrev pub invariant-loop-i : goal.invariant-loop-i
invariant-loop-i l = (start : State) (earlier : List Accepted) → IsAfter start earlier l.initial.machine →
    RepliesSoFar as_they_are start earlier l.steps l.initial.replies.items l.machine l.replies.items (l.i + 1) (drop l.i l.steps)
