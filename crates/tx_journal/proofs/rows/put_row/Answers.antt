use Rattle.std.proofs.Common.{arith}
use Rattle.tx_journal.proofs.Chosen.{none_found, one_found, one_passed}
use Rattle.tx_journal.proofs.Reaching.{small_piece, within_row}
use Rattle.tx_journal.specs.Reach.{is_reached}
use Rattle.tx_content.specs.Content.{view_of}
use Rattle.std.proofs.lemmas.Grind.{common_steps}
use Rattle.tx_journal.proofs.rows.put_row.Goals as goal

pub loop-number-init : goal.loop-number-init
loop-number-init c = λ step reaches. none_found (is_reached (view_of c.args.machine.now) step) c.args.row c.args.found.now.items

pub loop-number-preserved : goal.loop-number-preserved
loop-number-preserved c = grind (arith, common_steps, one_found, one_passed, small_piece, within_row)
