use Rattle.tx_step.proofs.StepAnswers.{differences_found}
use Rattle.tx_step.proofs.differing.differences_are_found.Goals as goal

pub returns : goal.returns
returns c = differences_found
