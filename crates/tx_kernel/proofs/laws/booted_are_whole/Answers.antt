use Rattle.tx_kernel.proofs.Whole.{booted_whole}
use Rattle.tx_kernel.proofs.laws.booted_are_whole.Goals as goal

pub returns : goal.returns
returns c = booted_whole c.well_formed-2.ensures.booted
