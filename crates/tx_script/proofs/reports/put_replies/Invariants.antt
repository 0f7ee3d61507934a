use Rattle.std.proofs.Common.{◌≡◌, ◌+◌, List, drop, string_bytes}
use Rattle.tx_base.specs.declared.steps.Accepted.{Accepted}
use Rattle.tx_core.specs.Runs.{IsAfter}
use Rattle.tx_model.specs.State.{State}
use Rattle.tx_script.proofs.Reported.{RepliesSoFar}
use Rattle.tx_script.specs.Report.{lines_text}
use Rattle.tx_script.proofs.reports.put_replies.Given as goal

abbrev pub invariant-loop-i : goal.invariant-loop-i
invariant-loop-i l = record {
  number : l.number ≡ l.i + 1;
  replies : (start : State) (earlier : List Accepted) → IsAfter start earlier l.initial.machine →
      RepliesSoFar lines_text start earlier l.steps (string_bytes l.initial.text) l.machine (string_bytes l.text) (l.i + 1) (drop l.i l.steps);
}
