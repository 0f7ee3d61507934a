use Rattle.std.proofs.Common.{List, ℕ, ap, refl, string_bytes, subst, ◌∙◌}
use Rattle.tx_check.proofs.FaultKinds.{ok_map}
use Rattle.tx_check.proofs.Numbered.{some_line}
use Rattle.tx_check.proofs.OwnLines.{fault_reported, own_some, report_fewer, wrong_too}
use Rattle.tx_check.proofs.ReportedOf.{are_one, right_report}
use Rattle.tx_check.specs.Kinds.{kind_of}
use Rattle.tx_check.specs.Reads.{line_of, IsAtFault, IsRead}
use Rattle.tx_check.specs.Diagnostics.{kind_of_fault, BeginsOfKind, IsMeantFault}
use Rattle.tx_check.specs.Wrong.{IsWrongAfterFault, IsWrongToo}
use Rattle.tx_check.specs.declared.kinds.Kind.{Kind}
use Rattle.tx_lines.specs.declared.faults.Fault.{Fault}
use Rattle.tx_translate.specs.Meant.{fault_by, meant_of, own_line}
use Rattle.tx_translate.specs.MeantLines.{left_of}
use Rattle.tx_check.proofs.checks.report_text.Goals as goal

pub report_from-requires-clause-own : goal.report_from-requires-clause-own
report_from-requires-clause-own c =
    let fault = c.in-Some.fault in
    own_some c.args.text.now (line_of fault) (some_line c.kind_of-kind.result (left_of c.of-meant.result.text) fault c.in-Some.ensures.finds)

pub returns-in-Some-clause-report : goal.returns-in-Some-clause-report
returns-in-Some-clause-report c =
    let fault = c.in-Some.fault in
    let text = c.args.text.now in
    let read = left_of c.of-meant.result.text in
    let some = some_line c.kind_of-kind.result read fault c.in-Some.ensures.finds in
    let of_kind = subst (λ (kind : Kind). IsAtFault kind read fault) c.kind_of-kind.ensures c.in-Some.ensures.finds in
    let at_fault = subst (λ (meant : List ℕ). IsAtFault (kind_of meant) meant fault) (ap left_of c.of-meant.ensures.text ∙ c.of.ensures.left) of_kind in
    let meant = meant_of text in
    let own = own_line text (line_of fault) in
    let less = wrong_too meant fault at_fault in
    let report = report_fewer string_bytes c.report_from.result (IsWrongAfterFault fault meant) (IsWrongToo meant) text own less c.report_from.ensures.reports in
    fault_reported string_bytes c.report_from.result (IsWrongToo meant) (kind_of meant) text fault own at_fault some refl report

pub returns-in-None-clause-report : goal.returns-in-None-clause-report
returns-in-None-clause-report c =
    let text = c.args.text.now in
    let read = left_of c.of-meant.result.text in
    let of_kind = subst (λ (kind : Kind). IsRead kind read) c.kind_of-kind.ensures c.in-None.ensures.finds in
    right_report text (string_bytes c.new.result) (are_one (kind_of (meant_of text)) text) (subst (λ (meant : List ℕ). IsRead (kind_of meant) meant) (ap left_of c.of-meant.ensures.text ∙ c.of.ensures.left) of_kind) c.new.ensures.bytes

pub returns-in-Some-clause-kind : goal.returns-in-Some-clause-kind
returns-in-Some-clause-kind c =
    let fault = c.in-Some.fault in
    let text = c.args.text.now in
    let read = left_of c.of-meant.result.text in
    let of_kind = subst (λ (kind : Kind). IsAtFault kind read fault) c.kind_of-kind.ensures c.in-Some.ensures.finds in
    let at_fault = subst (λ (meant : List ℕ). IsAtFault (kind_of meant) meant fault) (ap left_of c.of-meant.ensures.text ∙ c.of.ensures.left) of_kind in
    let own = fault_by (own_line text) fault in
    let is_own : IsMeantFault text own = record { meant = fault; is_fault = at_fault; own = refl } in
    ok_map c.report_from.result (λ report. BeginsOfKind (kind_of_fault own) (string_bytes report))
    (λ report. (other : Fault) → IsMeantFault text other → BeginsOfKind (kind_of_fault other) (string_bytes report))
    (λ report begins other is.
    subst (λ (f : Fault). BeginsOfKind (kind_of_fault f) (string_bytes report)) ((are_one (kind_of (meant_of text)) text).one own other is_own is) begins)
    c.report_from.ensures.kind

pub returns-in-None-clause-kind : goal.returns-in-None-clause-kind
returns-in-None-clause-kind c = λ fault is.
    let text = c.args.text.now in
    let read = left_of c.of-meant.result.text in
    let of_kind = subst (λ (kind : Kind). IsRead kind read) c.kind_of-kind.ensures c.in-None.ensures.finds in
    let is_read = subst (λ (meant : List ℕ). IsRead (kind_of meant) meant) (ap left_of c.of-meant.ensures.text ∙ c.of.ensures.left) of_kind in
    absurd ((are_one (kind_of (meant_of text)) text).never fault is_read is)
