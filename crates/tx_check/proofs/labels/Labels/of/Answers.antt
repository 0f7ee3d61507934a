use Rattle.std.proofs.Common.{◌≡◌, ◌∙◌, ◌+◌, ℕ, suc, List, ap, arith, sym}
use Rattle.tx_check.proofs.KnownLabels.{labels_more}
use Rattle.tx_check.proofs.Numbered.{lines_more}
use Rattle.tx_check.specs.Labels.{labels_in, with_label}
use Rattle.tx_check.specs.Numbered.{after_lines, behind}
use Rattle.tx_lines.specs.Schedule.{first_line}
use Rattle.tx_translate.specs.MeantLines.{left_of, line_of}
use Rattle.tx_check.proofs.labels.Labels.of.Goals as goal

pub loop-line-preserved : goal.loop-line-preserved
loop-line-preserved c =
    let text = left_of c.args.text in
    let passed = c.loop-line.passed in
    let next = c.in-Some.ensures.line in
    let so = c.loop-line.invariant in
    let here : line_of c.in-Some.line ≡ first_line (after_lines passed text) = next.bytes ∙ ap first_line so.behind in
    let number : passed + 1 ≡ 1 + passed = omega arith in
    let one : suc passed ≡ passed + 1 = omega arith in
    record {
      known = c.put_label.ensures.put c.if-not-put_label.false
          ∙ ap (with_label (passed + 1) (line_of c.in-Some.line)) so.known
          ∙ ap (λ (l : List ℕ). with_label (passed + 1) l (labels_in passed 1 text)) here
          ∙ ap (λ (n : ℕ). with_label n (first_line (after_lines passed text)) (labels_in passed 1 text)) number
          ∙ sym (labels_more passed 1 text)
          ∙ ap (λ (n : ℕ). labels_in n 1 text) one;
      behind = next.behind ∙ ap behind so.behind ∙ lines_more passed text;
      room = omega (arith, so.room, c.in-Some.ensures.shorter);
    }
