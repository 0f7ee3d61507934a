use Rattle.std.proofs.Common.{◌≡◌, take, []}
use Rattle.tx_content.specs.Content.{view_of}
use Rattle.tx_core.specs.Runs.{RunsFrom}
use Rattle.tx_model.specs.State.{State}
use Rattle.tx_model.specs.View.{view}
use Rattle.tx_core.proofs.schedules.run_on.Given as goal

abbrev pub invariant-loop-i : goal.invariant-loop-i
invariant-loop-i l = (start : State) → view_of l.initial.machine ≡ view start [] → RunsFrom start (take l.i l.steps) l.machine l.history.items
