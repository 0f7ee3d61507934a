use Rattle.std.proofs.Common.{ap, ◌∙◌}
use Rattle.tx_content.proofs.TakenBack.{aborted_taken}
use Rattle.tx_content.specs.declared.content.Content.{Content}
use Rattle.tx_txn.specs.declared.txn.Txn.{Txn}
use Rattle.tx_content.proofs.content.Content.undo_aborted.Goals as goal

pub returns : goal.returns
returns c = λ prior undoes.
    let new : Content = record { parts = c.lead_on.new.parts; marks = c.revive.new.marks; owners = c.revive.new.owners; txns = c.put.new.self } in
    aborted_taken c.laws.ensures c.args.self.now new prior c.args.boxed c.args.stood undoes.0 c.deref.result.now.starter c.deref_mut.result.now c.deref_mut-2.result.now c.revive.new.self
    (ap (λ (t : Txn). t.starter) c.deref.ensures) c.deref_mut.ensures.value c.lead_on.ensures.parts (c.deref_mut-2.ensures.value ∙ c.lead_on.ensures.txn)
    c.revive.ensures.marks c.revive.ensures.length c.revive.ensures.owners c.sized.ensures c.revive.ensures.rest c.put.ensures undoes.1
