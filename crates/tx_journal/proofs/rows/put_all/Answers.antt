use Rattle.std.proofs.Common.{arith}
use Rattle.tx_journal.proofs.Chosen.{none_listed, one_listed}
use Rattle.tx_journal.proofs.Reaching.{within_row}
use Rattle.std.proofs.lemmas.Grind.{common_steps}
use Rattle.tx_journal.proofs.rows.put_all.Goals as goal

pub loop-number-init : goal.loop-number-init
loop-number-init c = none_listed c.args.row c.args.found.now.items

pub loop-number-preserved : goal.loop-number-preserved
loop-number-preserved c = grind (arith, common_steps, one_listed)

pub piece-requires : goal.piece-requires
piece-requires c = grind (arith, within_row)
