use Rattle.std.proofs.Common.{length}
use Rattle.tx_lines.proofs.read.sets.+read_members.Given as goal

abbrev pub decreases-read_members : goal.decreases-read_members
decreases-read_members l = length l.list.now
