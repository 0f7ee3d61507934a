use Rattle.tx_step.proofs.Refusals.{refusal_early}
use Rattle.tx_step.proofs.refusal_laws.refusals_are_early.Goals as goal

pub returns : goal.returns
returns c = refusal_early
