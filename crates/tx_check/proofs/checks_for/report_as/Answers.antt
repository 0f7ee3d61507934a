use Rattle.std.proofs.Common.{◌≡◌, ◌∙◌, IfOk, rules, string_bytes, subst, sym}
use Rattle.tx_check.specs.Readers.{IsReportAs}
use Rattle.tx_check.specs.declared.kinds.Kind.{Kind}
use Rattle.tx_check.proofs.ReportedFor.{of_kind}
use Rattle.tx_check.proofs.checks_for.report_as.Goals as goal

pub returns-then-eq : goal.returns-then-eq
returns-then-eq c =
    let same : c.args.kind ≡ c.args.meant = search rules in
    subst (λ (k : Kind). IfOk c.report_text.result (λ report. IsReportAs k c.args.text.now (string_bytes report))) (sym (same ∙ c.requires))
    (of_kind string_bytes c.report_text.result c.args.text.now c.report_text.ensures.report)
