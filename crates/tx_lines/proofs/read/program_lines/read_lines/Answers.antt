use Rattle.std.proofs.Common.{◌≡◌, ◌∙◌, ◌-◌, List, ℕ, length, ap, sym, subst, arith}
use Rattle.tx_lines.specs.Programs.{instructions_of, labels_of, line_text, same_name, FaultsAfterLines, FaultsUnreadLine, IsPastLines}
use Rattle.tx_lines.specs.Schedule.{first_line, FaultsBy}
use Rattle.std.specs.List.{IsDistinct}
use Rattle.std.specs.Map.{keys_of}
use Rattle.tx_lines.proofs.Growing.{text_more}
use Rattle.tx_lines.proofs.LineEnds.{line_spelled, shorter_rest}
use Rattle.tx_lines.proofs.ProgramParts.{bad_line, counts, faults_after, few_lines, handed_up, lines_grow, not_past, some_left, unread_line}
use Rattle.tx_lines.proofs.read.program_lines.read_lines.Goals as goal

pub next_line-requires-clause-labels : goal.next_line-requires-clause-labels
next_line-requires-clause-labels c =
    let lines = c.loop-left.lines.items in
    omega (arith, counts lines, ap length c.loop-left.invariant.labels, c.len.ensures, c.len-in-loop-left.ensures.len)

pub next_line-requires-clause-few : goal.next_line-requires-clause-few
next_line-requires-clause-few c = omega (arith, few_lines c.args.version c.loop-left.lines.items c.loop-left.invariant.good, c.len.ensures)

pub returns-in_err-line : goal.returns-in_err-line
returns-in_err-line c =
    let lines = c.loop-left.lines.items in
    let left = c.loop-left.left.now in
    let fault = c.in_err-line.field-0.0 in
    let size : c.len.result ≡ length lines = omega (arith, c.len.ensures) in
    let labels : c.len-in-loop-left.result ≡ length (labels_of lines) = c.len-in-loop-left.ensures.len ∙ ap length c.loop-left.invariant.labels in
    let instructions : c.len.result - c.len-in-loop-left.result ≡ length (instructions_of lines) = omega (arith, size, labels, counts lines) in
    let unread = subst (λ (n : ℕ). FaultsUnreadLine n (c.len.result - c.len-in-loop-left.result) c.len-in-loop-left.result left fault) size c.in_err-line.ensures.fault in
    handed_up _ (FaultsBy (FaultsAfterLines c.args.version c.args.text.now)) c.from_residual.result fault c.from_residual.ensures.1
    (faults_after c.args.version lines c.args.text.now left fault c.loop-left.invariant.good c.loop-left.invariant.parts
    (unread_line c.args.version lines left (c.len.result - c.len-in-loop-left.result) c.len-in-loop-left.result fault (some_left left c.loop-left-test.ensures) instructions labels unread))

pub push_line-requires-clause-few : goal.push_line-requires-clause-few
push_line-requires-clause-few c = few_lines c.args.version c.loop-left.lines.items c.loop-left.invariant.good

pub returns-in_err-push_line : goal.returns-in_err-push_line
returns-in_err-push_line c =
    let lines = c.loop-left.lines.items in
    let left = c.loop-left.left.now in
    let fault = c.in_err-push_line.field-0.0 in
    let size : c.len.result ≡ length lines = omega (arith, c.len.ensures) in
    let labels : c.len-in-loop-left.result ≡ length (labels_of lines) = c.len-in-loop-left.ensures.len ∙ ap length c.loop-left.invariant.labels in
    let instructions : c.len.result - c.len-in-loop-left.result ≡ length (instructions_of lines) = omega (arith, size, labels, counts lines) in
    let past = not_past lines (first_line left) (c.len.result - c.len-in-loop-left.result) c.len-in-loop-left.result instructions labels c.in_ok-line.ensures.few in
    handed_up _ (FaultsBy (FaultsAfterLines c.args.version c.args.text.now)) c.from_residual-in_err-push_line.result fault c.from_residual-in_err-push_line.ensures.1
    (faults_after c.args.version lines c.args.text.now left fault c.loop-left.invariant.good c.loop-left.invariant.parts
    (bad_line c.args.version lines left c.in_ok-line.line.now c.in_ok-line.rest.now fault (some_left left c.loop-left-test.ensures) c.in_ok-line.ensures.line past c.in_err-push_line.ensures.fault))

pub loop-left-smaller : goal.loop-left-smaller
loop-left-smaller c = shorter_rest c.loop-left.left.now c.in_ok-line.line.now c.in_ok-line.rest.now c.in_ok-line.ensures.line

pub loop-left-preserved : goal.loop-left-preserved
loop-left-preserved c =
    let lines = c.loop-left.lines.items in
    let more = c.push_line.new.lines.items in
    let adds = c.in_ok-push_line.ensures.added in
    let spelled = line_spelled c.loop-left.left.now c.in_ok-line.line.now (line_text adds.added) c.in_ok-line.rest.now c.in_ok-line.ensures.line adds.spelled in
    let size : c.len.result ≡ length lines = omega (arith, c.len.ensures) in
    let labels : c.len-in-loop-left.result ≡ length (labels_of lines) = c.len-in-loop-left.ensures.len ∙ ap length c.loop-left.invariant.labels in
    let instructions : c.len.result - c.len-in-loop-left.result ≡ length (instructions_of lines) = omega (arith, size, labels, counts lines) in
    let past = not_past lines (first_line c.loop-left.left.now) (c.len.result - c.len-in-loop-left.result) c.len-in-loop-left.result instructions labels c.in_ok-line.ensures.few in
    let past' = subst (λ (t : List ℕ). IsPastLines lines t → ⊥) (sym c.in_ok-line.ensures.line.first) past in
    let distinct = subst (λ labels. IsDistinct same_name (keys_of labels)) c.in_ok-push_line.ensures.labels c.in_ok-push_line.ensures.distinct in
    record {
      good = lines_grow c.args.version c.in_ok-line.line.now lines more c.loop-left.invariant.good adds past' distinct;
      parts = text_more line_text lines adds.added more c.args.text.now c.loop-left.left.now c.in_ok-line.rest.now c.loop-left.invariant.parts spelled adds.more;
      labels = c.in_ok-push_line.ensures.labels;
    }
