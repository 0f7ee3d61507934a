-- How a schedule with commands is read from a text of any version.
use Rattle.std.specs.Prelude.{◌≡◌, ℕ, List, Result, Ok, Err}
use Rattle.tx_lines.specs.Schedule.{FaultsBy}
use Rattle.tx_lines.specs.Walks.{walk_text, IsWalk, IsWalkFault}
use Rattle.tx_lines.specs.declared.faults.Fault.{Fault}
use Rattle.tx_lines.specs.declared.read.walk.Walk.{Walk}
use Rattle.tx_translate.specs.Meant.{meant_of, IsOwnFault}

-- the text means that schedule, and those commands
abbrev pub MeansWalk : List ℕ → Walk → Type 0
MeansWalk text walk =
    IsWalk walk.schedule.header walk.schedule.steps.items walk.commands.items
    × (meant_of text ≡ walk_text walk.schedule.header walk.schedule.steps.items walk.commands.items)

-- the schedule and the commands that a text means, or the text's fault
abbrev pub MeansWalkOf : List ℕ → Result Walk Fault → Type 0
MeansWalkOf text (Ok walk) = MeansWalk text walk
MeansWalkOf text (Err fault) = FaultsBy (IsOwnFault IsWalkFault text) fault
