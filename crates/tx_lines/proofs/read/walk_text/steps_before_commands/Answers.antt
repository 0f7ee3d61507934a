use Rattle.std.proofs.Common.{rules, ◌≡◌, ◌≢◌, ◌<◌, ◌∙◌, ◌++◌, ℕ, List, ap, length}
use Rattle.tx_lines.proofs.Growing.{steps_more, text_more}
use Rattle.tx_lines.proofs.LineEnds.{line_spelled, shorter_rest}
use Rattle.tx_lines.specs.Lines.{step_text}
use Rattle.tx_lines.specs.Schedule.{steps_text}
use Rattle.tx_lines.specs.Walks.{debug_line}
use Rattle.tx_lines.proofs.read.walk_text.steps_before_commands.Goals as goal

pub returns-then-is_debug : goal.returns-then-is_debug
returns-then-is_debug c =
    let is : c.in_ok-line.line.now ≡ debug_line = search (rules, c.if-is_debug.ensures, c.if-is_debug.true) in
    let spelled = line_spelled c.loop-steps.left.now c.in_ok-line.line.now debug_line c.in_ok-line.rest.now c.in_ok-line.ensures.line is in
    (c.loop-steps.invariant.good, c.loop-steps.invariant.parts ∙ ap (λ (t : List ℕ). steps_text c.loop-steps.steps.items ++ t) spelled)

pub loop-steps-smaller : goal.loop-steps-smaller
loop-steps-smaller c = shorter_rest c.loop-steps.left.now c.in_ok-line.line.now c.in_ok-line.rest.now c.in_ok-line.ensures.line

pub loop-steps-preserved : goal.loop-steps-preserved
loop-steps-preserved c =
    let steps = c.loop-steps.steps.items in
    let more = c.push_step.new.steps.items in
    let adds = c.in_ok-push_step.ensures.added in
    let other : c.in_ok-line.line.now ≢ debug_line = search (rules, c.if-is_debug.ensures, c.if-is_debug.false) in
    let few : length steps < 4096 = search (rules, c.in_ok-line.ensures.few other, c.len.ensures) in
    let spelled = line_spelled c.loop-steps.left.now c.in_ok-line.line.now (step_text adds.added) c.in_ok-line.rest.now c.in_ok-line.ensures.line adds.spelled in
    record {
      good = steps_more c.args.version c.in_ok-line.line.now steps more c.loop-steps.invariant.good few adds;
      parts = text_more step_text steps adds.added more c.args.text.now c.loop-steps.left.now c.in_ok-line.rest.now c.loop-steps.invariant.parts spelled adds.more;
    }
