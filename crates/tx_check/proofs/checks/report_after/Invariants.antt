use Rattle.std.proofs.Common.{◌≡◌, ◌≤◌, ◌+◌, ℕ, List, string_bytes}
use Rattle.tx_check.proofs.ReportedAfter.{AreAlike, IsReportUpTo}
use Rattle.tx_check.specs.Diagnostics.{Grows}
use Rattle.tx_check.specs.Numbered.{after_lines}
use Rattle.tx_check.specs.OwnLines.{IsFrom}
use Rattle.tx_check.specs.Contexts.{IsPlaceAt}
use Rattle.tx_translate.specs.Meant.{meant_of, own_line}
use Rattle.tx_translate.specs.MeantLines.{left_of, OwnsFrom}
use Rattle.tx_check.proofs.checks.report_after.Given as goal

abbrev pub invariant-loop-before : goal.invariant-loop-before
invariant-loop-before l = record {
  goes : (text : List ℕ) → left_of l.meant.text ≡ meant_of text → OwnsFrom text (l.fn.passed + 1) l.lines → IsFrom text l.initial.report.own → l.initial.report.own.number ≤ own_line text l.fn.passed →
      OwnsFrom text (l.before + 1) l.left × IsReportUpTo l.fn.place.part l.fn.passed text l.initial.report.own (string_bytes l.initial.report.text) l.before l.report.own (string_bytes l.report.text);
  at : left_of l.left ≡ after_lines l.before (left_of l.meant.text);
  place : IsPlaceAt (left_of l.meant.text) (l.before + 1) l.place;
  alike : AreAlike l.fn.place.part l.place.part;
  some : 1 ≤ l.before;
  grows : Grows (string_bytes l.initial.report.text) (string_bytes l.report.text);
}
