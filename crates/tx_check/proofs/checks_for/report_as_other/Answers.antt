use Rattle.std.proofs.Common.{string_bytes, subst, ◌∙◌, Option}
use Rattle.tx_check.specs.Reads.{Finds, IsRead}
use Rattle.tx_lines.specs.declared.faults.Fault.{Fault}
use Rattle.tx_check.proofs.ReportedOf.{are_one, right_report}
use Rattle.tx_check.proofs.checks_for.report_as_other.Goals as goal

pub returns : goal.returns
returns c =
    let text = c.args.text.now in
    let found = subst (λ (f : Option Fault). Finds c.args.kind c.as_bytes.result.now f) c.in-None.is c.in_ok-fault.ensures in
    right_report text (string_bytes c.new.result) (are_one c.args.kind text) (subst (IsRead c.args.kind) (c.as_bytes.ensures ∙ c.in_ok-meant.ensures.bytes) found) c.new.ensures.bytes
