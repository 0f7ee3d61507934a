use Rattle.std.proofs.Common.{rules}
use Rattle.tx_lines.proofs.Growing.{steps_more}
use Rattle.tx_lines.specs.Lines.{step_text}
use Rattle.tx_lines.specs.Schedule.{AreSteps, FitsStepOf}
use Rattle.tx_translate.proofs.FirstLines.{one_more}
use Rattle.tx_translate.specs.MeantLines.{left_of, line_of}
use Rattle.tx_translate.proofs.first_lines.first_steps.Goals as goal

pub loop-line-preserved : goal.loop-line-preserved
loop-line-preserved c =
    let so = c.loop-line in
    let version = c.args.version in
    let more = c.add_step.new.steps.items in
    let line = c.in-Some.line in
    let added = c.in_ok-add_step.ensures.added (search rules) in
    one_more step_text (AreSteps version) (FitsStepOf version) so.steps.items more line (left_of so.left) (left_of c.in-Some.rest) (left_of c.args.lines) so.invariant
    c.in-Some.ensures.line added.0 added.2 (steps_more version (line_of line) so.steps.items more so.invariant.good added.1 added.2)
