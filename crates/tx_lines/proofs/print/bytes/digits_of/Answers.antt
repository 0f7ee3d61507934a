use Rattle.tx_lines.proofs.HexLanes.{all_digits, high_lanes, high_small, low_lanes, low_small}
use Rattle.tx_lines.proofs.print.bytes.digits_of.Goals as goal

pub each_digit-high-requires-clause-lanes : goal.each_digit-high-requires-clause-lanes
each_digit-high-requires-clause-lanes c = high_lanes c.args.bytes c.requires.lanes

pub each_digit-high-requires-clause-small : goal.each_digit-high-requires-clause-small
each_digit-high-requires-clause-small c = high_small c.args.bytes c.requires.fits

pub each_digit-low-requires-clause-lanes : goal.each_digit-low-requires-clause-lanes
each_digit-low-requires-clause-lanes c = low_lanes c.args.bytes c.requires.lanes

pub each_digit-low-requires-clause-small : goal.each_digit-low-requires-clause-small
each_digit-low-requires-clause-small c = low_small c.args.bytes

pub returns : goal.returns
returns c = all_digits c.args.bytes c.each_digit-high.result c.each_digit-low.result c.requires.lanes c.each_digit-high.ensures c.each_digit-low.ensures
