use Rattle.std.proofs.Common.{length}
use Rattle.tx_lines.proofs.read.spellings.+put_arguments.Given as goal

abbrev pub decreases-put_arguments : goal.decreases-put_arguments
decreases-put_arguments l = length l.text.now
