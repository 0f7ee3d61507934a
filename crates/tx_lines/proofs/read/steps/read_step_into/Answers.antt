use Rattle.std.specs.Bool.{then_some}
use Rattle.tx_lines.proofs.StepParts.{steps_of}
use Rattle.tx_lines.proofs.read.steps.read_step_into.Goals as goal

pub returns-in-Some-clause-only : goal.returns-in-Some-clause-only
returns-in-Some-clause-only c s fits within e =
    steps_of c.args.version s fits within c.args.line.now c.in-Some.rest.now c.in-Some.pid (then_some c.process_step.result c.process_step.new.step) c.in-Some.ensures.fits c.in-Some.ensures.found e
    c.in-Some.ensures.only c.process_step.ensures.call c.process_step.ensures.delivery
