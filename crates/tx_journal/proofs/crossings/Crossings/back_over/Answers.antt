use Rattle.std.proofs.Common.{arith}
use Rattle.tx_journal.proofs.There.{inverse_there, none_there}
use Rattle.std.proofs.lemmas.Grind.{common_steps}
use Rattle.tx_journal.proofs.crossings.Crossings.back_over.Goals as goal

pub returns-then-place-self-clause-none : goal.returns-then-place-self-clause-none
returns-then-place-self-clause-none c = grind (arith, common_steps, none_there)

pub returns-clause-made : goal.returns-clause-made
returns-clause-made c = grind (arith, common_steps, inverse_there)
