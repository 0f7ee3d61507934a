use Rattle.tx_reserve.proofs.Within.{footprint_within, within_small}
use Rattle.tx_reserve.proofs.laws.footprints_are_within.Goals as goal

pub returns : goal.returns
returns c = record { within = footprint_within; small = within_small }
