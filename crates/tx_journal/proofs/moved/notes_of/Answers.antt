use Rattle.std.proofs.Common.{arith}
use Rattle.tx_journal.proofs.Noting.{history_here, lawful_here, noted_more}
use Rattle.tx_journal.specs.Noted.{notes_in}
use Rattle.std.proofs.lemmas.Grind.{common_steps}
use Rattle.tx_journal.proofs.moved.notes_of.Goals as goal

pub loop-entry-init : goal.loop-entry-init
unfolding notes_in
loop-entry-init c = grind (arith, common_steps)

pub loop-entry-preserved : goal.loop-entry-preserved
loop-entry-preserved c = grind (arith, common_steps, history_here, lawful_here, noted_more)
