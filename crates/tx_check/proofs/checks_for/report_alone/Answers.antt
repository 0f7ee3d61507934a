use Rattle.std.proofs.Common.{◌≡◌, ◌≤◌, ◌∙◌, ℕ, ap, arith, refl, string_bytes, subst, sym}
use Rattle.tx_check.specs.Numbered.{line_at}
use Rattle.tx_check.specs.Diagnostics.{ReportsFrom}
use Rattle.tx_check.proofs.Appended.{first_reported}
use Rattle.tx_check.proofs.OwnLines.{moved}
use Rattle.tx_lines.specs.Schedule.{first_line}
use Rattle.tx_check.proofs.checks_for.report_alone.Goals as goal

pub returns : goal.returns
returns c =
    let text = c.args.text.now in
    let first = c.first.result in
    let there = c.moved_to in
    let line = c.line-line in
    let some : first.number ≤ there.result.number = omega (arith, c.first.ensures.number, there.ensures.number, c.requires) in
    let is = moved text first there.result (record {
      some = omega (arith, c.first.ensures.number);
      left = c.first.ensures.left ∙ rw c.first.ensures.number refl;
    }) some (there.ensures.left ∙ rw there.ensures.number refl) in
    let same : line.result.bytes.now ≡ line_at line.result.number text =
    line.ensures.bytes ∙ ap first_line is.left ∙ ap (λ (n : ℕ). line_at n text) (sym line.ensures.number) in
    let new = string_bytes c.put_diagnostic.new.report in
    let report = first_reported (λ n. ⊥) text line.result.bytes.now line.result.number (string_bytes c.new-report.result) new (λ n wanted. wanted) same c.new-report.ensures.bytes c.in_ok-put_diagnostic.ensures.reports in
    subst (λ (n : ℕ). ReportsFrom (λ line. ⊥) text n new) (line.ensures.number ∙ there.ensures.number) report.from
