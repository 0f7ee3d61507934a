-- What the expectations of a text come to.
use Rattle.std.specs.Prelude.{◌≡◌, ℕ, ◌+◌, Bool, false, true, ◌&&◌, List, [], ◌∷◌, ◌++◌, codes, drop, nat_eq, nat_lt, string_bytes, Option, Some, None, Result, Ok, Err, if◌then◌else◌}
use Rattle.std.specs.Fmt.{decimal}
use Rattle.tx_base.specs.declared.steps.Reply.{Reply}
use Rattle.tx_base.specs.declared.steps.Step.{Step}
use Rattle.tx_expect.specs.Comments.{begins_state}
use Rattle.tx_expect.specs.Lines.{after_line, judged, Progress}
use Rattle.tx_expect.specs.States.{state_difference, state_report, state_verdict}
use Rattle.tx_expect.specs.declared.outcomes.Outcome.{Outcome}
use Rattle.tx_expect.specs.declared.tallies.Tally.{Tally}
use Rattle.tx_lines.specs.Schedule.{FaultsBy, IsFaultOf}
use Rattle.tx_lines.specs.declared.faults.Fault.{Fault}
use Rattle.tx_lines.specs.declared.read.header.Header.{Header}
use Rattle.tx_lines.specs.declared.read.schedule.Schedule.{Schedule}
use Rattle.tx_model.specs.Schedules.{answers_of}
use Rattle.tx_translate.specs.Meant.{IsOwnFault}
use Rattle.tx_translate.specs.MeantSchedules.{MeansSchedule}
use Rattle.tx_translate.specs.OwnLines.{own_lines}
use Rattle.tx_script.specs.Report.{last_view, start_state}
use Rattle.tx_state_text.specs.State.{state_text}

-- whether no step is to come
abbrev pub is_last : List Step → Bool
is_last [] = true
is_last (step ∷ steps) = false

-- whether the lines of the state are expected after a line: the header was there, and no step is to
-- come
abbrev pub is_at_state : Progress → List ℕ → Bool
is_at_state p line = p.headed && (is_last p.steps && begins_state line)

-- with the verdict on the state
abbrev pub judged_state : Progress → Option (List ℕ) → Progress
judged_state p difference = judged p (state_verdict difference) (state_report difference)

-- what the lines of a text from that number on come to, where the state has those lines
abbrev pub after_lines : List (List ℕ) → ℕ → Progress → List (List ℕ) → Progress
after_lines state number p [] = p
after_lines state number p (line ∷ lines) =
    if is_at_state p line
    then judged_state p (state_difference number lines (number + 1) state)
    else after_lines state (number + 1) (after_line number line p) lines

-- where the lines of the state are expected after a line of that number, what follows it
abbrev pub after_stop : List (List ℕ) → Progress → Option (ℕ × List (List ℕ)) → Progress
after_stop state p None = p
after_stop state p (Some at) = judged_state p (state_difference at.0 at.1 (at.0 + 1) state)

-- before the first line
abbrev pub none_counted : Tally
none_counted = record { met = 0; unmet = 0; silent = 0 }

abbrev pub first_progress : List Step → List Reply → Progress
first_progress steps replies =
    record { headed = false; steps = steps; replies = replies; tally = none_counted; report = [] }

-- the lines of a state, without the word before them
abbrev pub state_lines : List ℕ → List (List ℕ)
state_lines text = drop 1 (own_lines text)

-- what a text comes to that means a schedule: each reply is the step's on the history before it,
-- and the state is that of the history that all leave
abbrev pub whole_progress : List ℕ → Header → List Step → Progress
whole_progress text header steps =
    after_lines (state_lines (state_text (last_view header steps))) 1
    (first_progress steps (answers_of (start_state header) [] steps)) (own_lines text)

-- how many expectations are met, how many are not, and how many steps expect nothing
abbrev pub counts_text : Tally → List ℕ
counts_text tally =
    decimal tally.met
    ++ (codes " as expected, "
    ++ (decimal tally.unmet
    ++ (codes " not, " ++ (decimal tally.silent ++ codes " expect nothing\n"))))

-- whether some expectations are met, and none is not
abbrev pub is_met : Tally → Bool
is_met tally = nat_eq tally.unmet 0 && nat_lt 0 tally.met

-- whether all steps are judged, some expectations are met, and none is not
abbrev pub is_well : Progress → Bool
is_well p = is_last p.steps && is_met p.tally

-- the outcome of a judged text
pub record IsOutcome (p : Progress) (outcome : Outcome) : Type 0 where
  pub report : string_bytes outcome.report ≡ p.report ++ counts_text p.tally
  pub met : outcome.is_met ≡ is_well p

-- the outcome of the schedule that a text means, or the fault of the text
abbrev pub ExpectsText : List ℕ → Result Outcome Fault → Type 0
ExpectsText text (Ok outcome) =
    (schedule : Schedule)
    × MeansSchedule text schedule
    × IsOutcome (whole_progress text schedule.header schedule.steps.items) outcome
ExpectsText text (Err fault) = FaultsBy (IsOwnFault IsFaultOf text) fault
