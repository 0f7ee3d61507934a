-- The report on a text for a command.
use Rattle.std.proofs.Common.{◌≡◌, ◌≢◌, ◌∙◌, ℕ, List, Option, Some, None, Result, Ok, Err, IfOk, ap, refl}
use Rattle.tx_check.proofs.Appended.{fewer}
use Rattle.tx_check.proofs.ReadOrFaulty.{none_has_two, none_is_both}
use Rattle.tx_check.proofs.OwnLines.{wrong_too}
use Rattle.tx_check.specs.Kinds.{kind_of}
use Rattle.tx_check.specs.Readers.{IsReportAs, IsWrongFor}
use Rattle.tx_check.specs.Reads.{line_of, Finds, IsAtFault}
use Rattle.tx_check.specs.Diagnostics.{IsReportBy, IsReportOf}
use Rattle.tx_check.specs.Wrong.{IsWrongAfterFault, IsWrongToo}
use Rattle.tx_check.specs.declared.kinds.Kind.{Kind}
use Rattle.tx_lines.specs.declared.faults.Fault.{Fault}
use Rattle.tx_translate.specs.Meant.{meant_of}

-- the report on a text for its own kind
by_fewer : {IsRight : Type 0} {IsFault : Fault → Type 0} (IsWanted IsLess : ℕ → Type 0) (text report : List ℕ) → ((meant : ℕ) → IsLess meant → IsWanted meant)
    → IsReportBy IsRight IsFault IsWanted text report → IsReportBy IsRight IsFault IsLess text report
by_fewer IsWanted IsLess text report less is = record {
  silent = is.silent;
  at_fault = λ some. let reports = is.at_fault some in record {
    fault = reports.fault;
    is_fault = reports.is_fault;
    reports = fewer IsWanted IsLess text (line_of reports.fault) report less reports.reports;
  };
  first = λ fault found. fewer IsWanted IsLess text (line_of fault) report less (is.first fault found);
}

pub of_kind : {A E : Type 0} (bytes : A → List ℕ) (result : Result A E) (text : List ℕ) → IfOk result (λ report. IsReportOf text (bytes report))
    → IfOk result (λ report. IsReportAs (kind_of (meant_of text)) text (bytes report))
of_kind bytes (Ok report) text is = by_fewer (IsWrongToo (meant_of text)) (IsWrongFor (kind_of (meant_of text)) (meant_of text)) text (bytes report) (λ line wrong. wrong.own) is
of_kind bytes (Err error) text is = tt

-- where a text is at fault for its own kind at the same line
pub wrong_there : (kind : Kind) (text : List ℕ) (fault : Fault) → IsAtFault (kind_of text) text fault → (number : ℕ) → IsWrongFor kind text number → IsWrongAfterFault fault text number
wrong_there kind text fault is number wrong = wrong_too text fault is number wrong.own

-- where it is at another line, or is right
pub not_there : (kind : Kind) (text : List ℕ) (found : Option Fault) (fault : Fault) → Finds (kind_of text) text found → IsAtFault kind text fault
    → ((other : Fault) → found ≡ Some other → line_of other ≢ line_of fault)
    → (number : ℕ) → IsWrongFor kind text number → ⊥
not_there kind text None fault read at another number wrong = none_is_both (kind_of text) text wrong.own.fault read wrong.own.is_fault
not_there kind text (Some other) fault found at another number wrong = another other refl
    (ap line_of (none_has_two (kind_of text) text other wrong.own.fault found wrong.own.is_fault) ∙ wrong.same ∙ ap line_of (none_has_two kind text wrong.fault fault wrong.is_fault at))
