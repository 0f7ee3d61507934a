-- How a text is read from one end, and what its expectations come to written to another.
use Rattle.std.specs.Prelude.{◌≡◌, ◌++◌, ℕ, Bool, List, Option, Result, Ok, Err, IfOk, IfSome}
use Rattle.tx_base.specs.declared.steps.Step.{Step}
use Rattle.tx_expect.specs.Outcomes.{counts_text, is_well, whole_progress}
use Rattle.tx_lines.specs.Ends.{Counts}
use Rattle.tx_lines.specs.declared.faults.Fault.{Fault}
use Rattle.tx_lines.specs.declared.read.header.Header.{Header}
use Rattle.tx_script.specs.Answered.{Answers}
use Rattle.tx_script.specs.Grammars.{schedules, Grammar}

-- what is reported of a text
abbrev pub report_of : List ℕ → Header → List Step → List ℕ
report_of text header steps =
    let p = whole_progress text header steps in p.report ++ counts_text p.tally

-- a schedule that a text means, answered by that report
abbrev pub expectations : List ℕ → Grammar (Header × List Step)
expectations text = record schedules { answer = λ spelled. report_of text spelled.0 spelled.1 }

-- a result without what it says of the expectations
abbrev pub without_verdict : Result Bool Fault → Result (Unit {0}) Fault
without_verdict (Ok is_met) = Ok tt
without_verdict (Err fault) = Err fault

-- whether the expectations of a schedule that a text means are met
abbrev pub IsVerdictOn : List ℕ → Bool → Type 0
IsVerdictOn text met =
    (spelled : Header × List Step)
    × (expectations text).IsGood spelled
    × (met ≡ is_well (whole_progress text spelled.0 spelled.1))

-- a text is read and the report of it written, or a front of that, or nothing, as the fault says;
-- and whether its expectations are met is answered
pub record Expects (left : Option (List ℕ)) (reads : Counts) (written : Option (List ℕ))
    (writes : Counts) (result : Result Bool Fault) (reads' : Counts) (written' : Option (List ℕ))
    (writes' : Counts) : Type 0 where
  pub text : List ℕ
  pub whole : IfSome left (λ bytes. bytes ≡ text)
  pub answers :
      Answers (expectations text) left reads written writes (without_verdict result) reads' written'
      writes'
  pub met : IfOk result (IsVerdictOn text)
