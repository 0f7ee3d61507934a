-- What the lines of a text come to: how the reply to each step compares with what its line expects.
use Rattle.std.specs.Prelude.{ℕ, ◌+◌, Bool, false, true, List, [], ◌∷◌, ◌++◌, codes, map, string_bytes, Option, Some, None, if◌then◌else◌}
use Rattle.std.specs.Fmt.{decimal}
use Rattle.tx_base.specs.declared.steps.Reply.{Reply}
use Rattle.tx_base.specs.declared.steps.Step.{Step}
use Rattle.tx_check.specs.Speaking.{shown}
use Rattle.tx_expect.specs.Agreement.{agrees}
use Rattle.tx_expect.specs.Comments.{begins_state, comment_text, expected_in, is_header_or_step}
use Rattle.tx_expect.specs.declared.judges.Judge.{Judge}
use Rattle.tx_expect.specs.declared.tallies.Tally.{Tally}
use Rattle.tx_expect.specs.declared.tallies.Verdict.{Verdict}
use Rattle.tx_expect.specs.declared.tallies.Verdict.TheVariants.{Met, Unmet, Silent}
use Rattle.tx_lines.specs.Lines.{step_text}
use Rattle.tx_translate.specs.Words.{words_in}
use Rattle.tx_state_text.specs.Replies.{named_reply_text}

-- a tally with one verdict more
abbrev pub tally_with : Tally → Verdict → Tally
tally_with tally Met = record tally { met = tally.met + 1 }
tally_with tally Unmet = record tally { unmet = tally.unmet + 1 }
tally_with tally Silent = record tally { silent = tally.silent + 1 }

-- how many verdicts it has
abbrev pub total : Tally → ℕ
total tally = tally.met + tally.unmet + tally.silent

-- what begins the report of a line, and of a step
abbrev pub place_text : ℕ → List ℕ
place_text number = codes "line " ++ (decimal number ++ codes ": ")

abbrev pub step_place_text : ℕ → Step → List ℕ
step_place_text number step = place_text number ++ (step_text step ++ codes ": ")

-- what is expected, before what is there instead
abbrev pub expected_text : List ℕ → List ℕ
expected_text expected = codes "expected " ++ (map shown (comment_text expected) ++ codes ", got ")

-- what is reported of a step whose reply is not the expected one
abbrev pub difference_text : ℕ → Step → List ℕ → Reply → List ℕ
difference_text number step expected reply =
    step_place_text number step ++ (expected_text expected ++ (named_reply_text reply ++ 10 ∷ []))

-- what is reported of a line without a step that expects a reply, and of one that begins a state
-- before the last step
abbrev pub stray_text : ℕ → List ℕ → List ℕ
stray_text number expected =
    place_text number ++ (expected_text expected ++ codes "no step in this line\n")

abbrev pub too_soon_text : ℕ → List ℕ
too_soon_text number = place_text number ++ codes "# state must come after the last step\n"

-- what is reported of a line without a step, where it expects something
abbrev pub stray_by : ℕ → Option (List ℕ) → Bool → Option (List ℕ)
stray_by number (Some expected) begins = Some (stray_text number expected)
stray_by number None true = Some (too_soon_text number)
stray_by number None false = None

abbrev pub stray : ℕ → List ℕ → Option (List ℕ)
stray number line = stray_by number (expected_in line) (begins_state line)

-- the verdict on a step, by what its line expects, and what is reported of it
abbrev pub step_verdict : Option (List ℕ) → Reply → Verdict
step_verdict None reply = Silent
step_verdict (Some expected) reply = if agrees expected reply then Met else Unmet

abbrev pub step_report : ℕ → Step → Option (List ℕ) → Reply → List ℕ
step_report number step None reply = []
step_report number step (Some expected) reply =
    if agrees expected reply then [] else difference_text number step expected reply

-- how far the lines of a text are judged: whether the header was there, the steps to come with
-- their replies, the verdicts, and what is reported
pub record Progress : Type 0 where
  pub headed : Bool
  pub steps : List Step
  pub replies : List Reply
  pub tally : Tally
  pub report : List ℕ

-- the same as a judge knows it
abbrev pub progress_of : Judge → Progress
progress_of judge = record {
  headed = judge.is_headed;
  steps = judge.steps.now;
  replies = judge.replies.now;
  tally = judge.tally;
  report = string_bytes judge.report;
}

-- with one verdict more, and what is reported of it
abbrev pub judged : Progress → Verdict → List ℕ → Progress
judged p verdict report =
    record p { tally = tally_with p.tally verdict; report = p.report ++ report }

-- with an expectation more that is not met, where there is one
abbrev pub judged_stray : Progress → Option (List ℕ) → Progress
judged_stray p None = p
judged_stray p (Some report) = judged p Unmet report

-- after the line of the next step
abbrev pub after_step : ℕ → List ℕ → List Step → List Reply → Progress → Progress
after_step number line [] replies p = judged_stray p (stray number line)
after_step number line (step ∷ steps) [] p = judged_stray p (stray number line)
after_step number line (step ∷ steps) (reply ∷ replies) p =
    judged (record p { steps = steps; replies = replies }) (step_verdict (expected_in line) reply)
    (step_report number step (expected_in line) reply)

-- after the line of the header, or of the next step after it
abbrev pub after_header_or_step : ℕ → List ℕ → Progress → Progress
after_header_or_step number line p =
    if p.headed
    then after_step number line p.steps p.replies p
    else judged_stray (record p { headed = true }) (stray number line)

-- after the line of that number
abbrev pub after_line : ℕ → List ℕ → Progress → Progress
after_line number line p =
    if is_header_or_step (words_in line)
    then after_header_or_step number line p
    else judged_stray p (stray number line)
