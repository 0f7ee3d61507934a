use Rattle.std.proofs.Common.{◌+◌, List, drop}
use Rattle.tx_base.specs.declared.steps.Accepted.{Accepted}
use Rattle.tx_core.specs.Runs.{IsAfter}
use Rattle.tx_model.specs.State.{State}
use Rattle.tx_picture.proofs.DrawnSteps.{DrawnSoFar}
use Rattle.tx_picture.specs.Drawn.{drawn_as}
use Rattle.tx_picture.proofs.walk.draw_steps.Given as goal

abbrev pub invariant-loop-i : goal.invariant-loop-i
invariant-loop-i l = (start : State) (earlier : List Accepted) → IsAfter start earlier l.initial.machine →
    DrawnSoFar start earlier l.steps (drawn_as l.initial.drawing) l.machine (drawn_as l.drawing) (l.i + 1) (drop l.i l.steps)
