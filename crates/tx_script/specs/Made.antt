-- A session in which the steps of a schedule are made.
use Rattle.std.specs.Prelude.{◌≡◌, List, [], length}
use Rattle.tx_base.specs.declared.steps.Step.{Step}
use Rattle.tx_journal.specs.Entries.{history_of}
use Rattle.tx_journal.specs.Sessions.{position_of, start_of, SessionState}
use Rattle.tx_lines.specs.declared.read.header.Header.{Header}
use Rattle.tx_model.specs.Schedules.{history_of as history_after}
use Rattle.tx_script.specs.Report.{start_state}

-- it began as the header says, has the history of those steps, and is at the end
pub record IsMade (header : Header) (steps : List Step) (session : SessionState) : Type 0 where
  pub start : start_of session ≡ start_state header
  pub history : history_of session.entries ≡ history_after (start_state header) [] steps
  pub at : position_of session ≡ length (history_after (start_state header) [] steps)
