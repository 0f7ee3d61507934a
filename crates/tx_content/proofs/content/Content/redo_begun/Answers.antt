use Rattle.std.proofs.Common.{ap}
use Rattle.tx_content.proofs.MadeAgain.{begun_made}
use Rattle.tx_content.specs.declared.content.Content.{Content}
use Rattle.tx_txn.specs.declared.txn.Txn.{Txn}
use Rattle.tx_content.proofs.content.Content.redo_begun.Goals as goal

pub returns-clause-made : goal.returns-clause-made
returns-clause-made c = λ after inverse redoes.
    let new : Content = record { parts = c.lead_forward.new.parts; marks = c.swap.new.self; owners = c.take-fresh.new.self; txns = c.put.new.self } in
    begun_made c.laws.ensures c.args.self.now new after c.args.boxed c.args.mark c.deref.result.now.starter c.deref_mut.result.now c.deref-2.result.now c.lead_forward.new.self
    (ap (λ (t : Txn). t.starter) c.deref.ensures) c.deref_mut.ensures.value c.deref-2.ensures c.lead_forward.ensures.parts c.lead_forward.ensures.log
    c.take-fresh.ensures.taken c.sized.ensures c.swap.ensures.exchanged c.put.ensures redoes.0
