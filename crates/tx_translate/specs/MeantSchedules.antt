-- How a schedule is read from a text of any version.
use Rattle.std.specs.Prelude.{◌≡◌, ℕ, List, Result, Ok, Err}
use Rattle.tx_lines.specs.Schedule.{schedule_text, FaultsBy, IsFaultOf, IsSchedule}
use Rattle.tx_lines.specs.declared.faults.Fault.{Fault}
use Rattle.tx_lines.specs.declared.read.schedule.Schedule.{Schedule}
use Rattle.tx_translate.specs.Meant.{meant_of, IsOwnFault}

-- the text means that schedule
abbrev pub MeansSchedule : List ℕ → Schedule → Type 0
MeansSchedule text schedule =
    IsSchedule schedule.header schedule.steps.items
    × (meant_of text ≡ schedule_text schedule.header schedule.steps.items)

-- the schedule that a text means, or the text's fault
abbrev pub MeansScheduleOf : List ℕ → Result Schedule Fault → Type 0
MeansScheduleOf text (Ok schedule) = MeansSchedule text schedule
MeansScheduleOf text (Err fault) = FaultsBy (IsOwnFault IsFaultOf text) fault
