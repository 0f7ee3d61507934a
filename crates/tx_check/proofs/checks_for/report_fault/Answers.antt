use Rattle.std.proofs.Common.{◌∙◌, IfSome, List, Option, ℕ, ap, arith, string_bytes, subst}
use Rattle.tx_check.proofs.Numbered.{some_line}
use Rattle.tx_check.proofs.OwnLines.{fault_reported, own_some, report_fewer}
use Rattle.tx_check.proofs.ReportedFor.{not_there, wrong_there}
use Rattle.tx_check.specs.Kinds.{kind_of}
use Rattle.tx_check.specs.Readers.{IsWrongFor}
use Rattle.tx_check.specs.Reads.{line_of, Finds}
use Rattle.tx_check.specs.Wrong.{IsFaultIn, IsWrongAfterFault}
use Rattle.tx_check.specs.declared.kinds.Kind.{Kind}
use Rattle.tx_lines.specs.declared.faults.Fault.{Fault}
use Rattle.tx_translate.specs.Meant.{meant_of, own_line}
use Rattle.tx_translate.specs.MeantLines.{left_of}
use Rattle.tx_check.proofs.checks_for.report_fault.Goals as goal

pub report_from-requires-clause-own : goal.report_from-requires-clause-own
report_from-requires-clause-own c =
    let some = some_line c.args.kind (meant_of c.args.text.now) c.args.fault c.requires.fault in
    own_some c.args.text.now (line_of c.in-Some.other) (omega (arith, some, c.in-Some.ensures.same.1))

pub report_alone-requires : goal.report_alone-requires
report_alone-requires c =
    let some = some_line c.args.kind (meant_of c.args.text.now) c.args.fault c.requires.fault in
    omega (arith, own_some c.args.text.now (line_of c.args.fault) some, c.requires.number)

pub returns-in-Some : goal.returns-in-Some
returns-in-Some c =
    let text = c.args.text.now in
    let meant = meant_of text in
    let kind = c.args.kind in
    let other = c.in-Some.other in
    let read = left_of c.of-meant.result.text in
    let some = some_line kind meant c.args.fault c.requires.fault in
    let of_kind = subst (λ (k : Kind). Finds k read c.first_fault.result) c.kind_of-own.ensures c.first_fault.ensures.finds in
    let found = subst (λ (bytes : List ℕ). Finds (kind_of bytes) bytes c.first_fault.result) (ap left_of c.of-meant.ensures.text ∙ c.of.ensures.left) of_kind in
    let at = subst (Finds (kind_of meant) meant) c.in-Some.ensures.same.0 found in
    let own = own_line text (line_of other) in
    let less = wrong_there kind meant other at in
    let report = report_fewer string_bytes c.report_from.result (IsWrongAfterFault other meant) (IsWrongFor kind meant) text own less c.report_from.ensures.reports in
    fault_reported string_bytes c.report_from.result (IsWrongFor kind meant) kind text c.args.fault own c.requires.fault some (ap (own_line text) c.in-Some.ensures.same.1) report

pub returns-in-None : goal.returns-in-None
returns-in-None c =
    let text = c.args.text.now in
    let meant = meant_of text in
    let kind = c.args.kind in
    let read = left_of c.of-meant.result.text in
    let some = some_line kind meant c.args.fault c.requires.fault in
    let of_kind = subst (λ (k : Kind). Finds k read c.first_fault.result) c.kind_of-own.ensures c.first_fault.ensures.finds in
    let found = subst (λ (bytes : List ℕ). Finds (kind_of bytes) bytes c.first_fault.result) (ap left_of c.of-meant.ensures.text ∙ c.of.ensures.left) of_kind in
    let less = not_there kind meant c.first_fault.result c.args.fault found c.requires.fault c.in-None.ensures.another in
    let report = report_fewer string_bytes c.report_alone.result (λ line. ⊥) (IsWrongFor kind meant) text c.args.number less c.report_alone.ensures in
    fault_reported string_bytes c.report_alone.result (IsWrongFor kind meant) kind text c.args.fault c.args.number c.requires.fault some c.requires.number report

pub report_from-requires-clause-there : goal.report_from-requires-clause-there
report_from-requires-clause-there c =
    subst (λ (found : Option Fault). IfSome found (IsFaultIn (left_of c.of-meant.result.text))) c.in-Some.ensures.same.0 c.first_fault.ensures.there
