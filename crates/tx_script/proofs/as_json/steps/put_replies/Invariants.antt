use Rattle.std.proofs.Common.{◌≡◌, ◌++◌, drop, string_bytes}
use Rattle.tx_journal.specs.Entries.{history_of}
use Rattle.tx_journal.specs.Sessions.{start_of}
use Rattle.tx_script.proofs.StepsMade.{StepsSoFar}
use Rattle.tx_script.specs.JsonLines.{step_lines, text_of}
use Rattle.tx_script.proofs.as_json.steps.put_replies.Given as goal

abbrev pub invariant-loop-i : goal.invariant-loop-i
invariant-loop-i l =
    let first = l.initial.session in
    let left = drop l.i l.steps in
    StepsSoFar first l.session l.initial.steps left
    × (string_bytes l.initial.text ++ text_of (step_lines (start_of first) (history_of first.entries) l.initial.steps)
    ≡ string_bytes l.text ++ text_of (step_lines (start_of first) (history_of l.session.entries) left))
