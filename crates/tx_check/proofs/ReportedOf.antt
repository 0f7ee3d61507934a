-- The report on a text that is right, and on one that is at fault.
use Rattle.std.proofs.Common.{◌≡◌, ◌∙◌, ℕ, List, [], ◌∷◌, length, ap, sym, subst, arith, length-append}
use Rattle.tx_check.proofs.ReadOrFaulty.{none_has_two, none_is_both}
use Rattle.tx_check.specs.Reads.{line_of, IsAtFault, IsRead}
use Rattle.tx_check.specs.Diagnostics.{diagnostic_text, IsReportBy, ReportsFault, ReportsFrom}
use Rattle.tx_check.specs.declared.kinds.Kind.{Kind}
use Rattle.tx_lines.specs.Schedule.{lines_of}
use Rattle.tx_lines.specs.declared.faults.Fault.{Fault}
use Rattle.tx_translate.specs.Meant.{fault_by, meant_of, own_line, IsOwnFault}

-- no text is right and at fault, and none has two faults
pub record AreOne (IsRight : Type 0) (IsFault : Fault → Type 0) : Type 0 where
  pub never : (fault : Fault) → IsRight → IsFault fault → ⊥
  pub one : (a b : Fault) → IsFault a → IsFault b → a ≡ b

pub right_report : {IsRight : Type 0} {IsFault : Fault → Type 0} {IsWanted : ℕ → Type 0} (text report : List ℕ) → AreOne IsRight IsFault → IsRight → report ≡ []
    → IsReportBy IsRight IsFault IsWanted text report
right_report text report are right none = record {
  silent = (λ _. right, λ _. none);
  at_fault = λ some. absurd (some none);
  first = λ fault is. absurd (are.never fault right is);
}

pub something : (IsWanted : ℕ → Type 0) (text : List ℕ) (line : ℕ) (report : List ℕ) → ReportsFrom IsWanted text line report → report ≡ [] → ⊥
something IsWanted text line report reports none =
    omega (arith, ap length none, ap length reports.spelled, length-append (diagnostic_text reports.first) (10 ∷ lines_of diagnostic_text reports.others))

pub fault_report : {IsRight : Type 0} {IsFault : Fault → Type 0} (IsWanted : ℕ → Type 0) (text report : List ℕ) → AreOne IsRight IsFault → ReportsFault IsFault IsWanted text report
    → IsReportBy IsRight IsFault IsWanted text report
fault_report IsWanted text report are reports = record {
  silent = (
    λ none. absurd (something IsWanted text (line_of reports.fault) report reports.reports none),
    λ right. absurd (are.never reports.fault right reports.is_fault),
  );
  at_fault = λ some. reports;
  first = λ fault is. subst (λ (f : Fault). ReportsFrom IsWanted text (line_of f) report) (are.one reports.fault fault reports.is_fault is) reports.reports;
}

-- so it is with the readers of kinds
pub are_one : (kind : Kind) (text : List ℕ) → AreOne (IsRead kind (meant_of text)) (IsOwnFault (IsAtFault kind) text)
are_one kind text = record {
  never = λ fault read is. none_is_both kind (meant_of text) is.meant read is.is_fault;
  one = λ a b first second. first.own ∙ ap (fault_by (own_line text)) (none_has_two kind (meant_of text) first.meant second.meant first.is_fault second.is_fault) ∙ sym second.own;
}
