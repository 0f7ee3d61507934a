use Rattle.tx_lines.proofs.HexLanes.{chosen_digits}
use Rattle.tx_lines.proofs.print.bytes.each_digit.Goals as goal

pub returns : goal.returns
returns c = chosen_digits c.args.numbers c.requires.lanes c.requires.small
