use Rattle.std.proofs.Common.{rules, ◌<◌, length}
use Rattle.tx_lines.proofs.Growing.{steps_more, text_more}
use Rattle.tx_lines.proofs.LineEnds.{line_spelled, shorter_rest}
use Rattle.tx_lines.specs.Lines.{step_text}
use Rattle.tx_lines.proofs.read.text.read_steps.Goals as goal

pub loop-left-smaller : goal.loop-left-smaller
loop-left-smaller c = shorter_rest c.loop-left.left.now c.in_ok-line.line.now c.in_ok-line.rest.now c.in_ok-line.ensures.line

pub loop-left-preserved : goal.loop-left-preserved
loop-left-preserved c =
    let steps = c.loop-left.steps.items in
    let more = c.push_step.new.steps.items in
    let adds = c.in_ok-push_step.ensures.added in
    let few : length steps < 4096 = search (rules, c.in_ok-line.ensures.few, c.len.ensures) in
    let spelled = line_spelled c.loop-left.left.now c.in_ok-line.line.now (step_text adds.added) c.in_ok-line.rest.now c.in_ok-line.ensures.line adds.spelled in
    record {
      good = steps_more c.args.version c.in_ok-line.line.now steps more c.loop-left.invariant.good few adds;
      parts = text_more step_text steps adds.added more c.args.text.now c.loop-left.left.now c.in_ok-line.rest.now c.loop-left.invariant.parts spelled adds.more;
    }
