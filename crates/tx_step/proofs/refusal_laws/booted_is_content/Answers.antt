use Rattle.tx_step.proofs.BootedContents.{booted_content}
use Rattle.tx_step.proofs.refusal_laws.booted_is_content.Goals as goal

pub returns : goal.returns
returns c = booted_content c.well_formed-2.ensures.booted c.well_formed_table.ensures.booted c.well_formed_table.ensures.start
