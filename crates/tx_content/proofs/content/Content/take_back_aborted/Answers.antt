use Rattle.std.proofs.Common.{ap}
use Rattle.tx_content.proofs.AbortedAgain.{aborted_again}
use Rattle.tx_txn.specs.declared.txn.Txn.{Txn}
use Rattle.tx_content.proofs.content.Content.take_back_aborted.Goals as goal

pub returns-clause-again : goal.returns-clause-again
returns-clause-again c = λ shaped gone prior stack shaped_prior undoes.
    aborted_again c.laws.ensures c.args.self.now prior c.args.boxed c.args.stood c.stands-stands.result gone.0 undoes.0 c.deref.result.now.starter c.deref-2.result.now.members stack
    shaped shaped_prior gone.1 c.requires undoes.1 (ap (λ (t : Txn). t.starter) c.deref.ensures) c.stands-stands.ensures (ap (λ (t : Txn). t.members) c.deref-2.ensures)
