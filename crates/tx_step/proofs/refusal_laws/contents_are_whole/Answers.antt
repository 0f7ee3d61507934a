use Rattle.tx_step.proofs.WholeContents.{contents_whole}
use Rattle.tx_step.proofs.refusal_laws.contents_are_whole.Goals as goal

pub returns : goal.returns
returns c = contents_whole c.answers_of_states.ensures.present c.well_formed-2.ensures.held
