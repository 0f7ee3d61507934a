-- A session that can be spelled again, as the text of a schedule.
use Rattle.std.specs.Prelude.{◌≤◌, All, length, List}
use Rattle.tx_base.specs.declared.steps.Accepted.{Accepted}
use Rattle.tx_lines.specs.Lines.{FitsHeader}
use Rattle.tx_lines.specs.Schedule.{FitsStepOf, IsSchedule}
use Rattle.tx_shell.specs.Events.{Event, Exchanges}
use Rattle.tx_shell.specs.Journals.{steps_made}
use Rattle.tx_shell.specs.Origins.{header_in, grammar_of}
use Rattle.tx_shell.specs.Standings.{Standing}
use Rattle.tx_shell.specs.declared.lines.versions.TextVersion.{TextVersion}

-- a text of that version can hold each step of a history
abbrev pub AllFit : TextVersion → List Accepted → Type 0
AllFit version h = All (λ (e : Accepted). FitsStepOf (grammar_of version) e.step) h

-- a text can hold how the session began, and each of its steps
pub record IsSpelled (s : Standing) : Type 0 where
  pub begins : FitsHeader (header_in s.origin)
  pub steps : AllFit s.origin.version s.place.history

-- that stays so while lines are answered
abbrev pub StaysSpelled : Type 0
StaysSpelled =
    (s t : Standing) (events : List Event) → Exchanges s events t → IsSpelled s → IsSpelled t

-- the steps up to the position are those of a schedule, as long as they are no more than a text can
-- hold
abbrev pub SpellsSchedule : Type 0
SpellsSchedule =
    (s : Standing) → IsSpelled s → length (steps_made s.place) ≤ 4096
    → IsSchedule (header_in s.origin) (steps_made s.place)
