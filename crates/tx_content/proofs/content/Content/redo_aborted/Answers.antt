use Rattle.std.proofs.Common.{sym, ◌∙◌}
use Rattle.tx_base.specs.SlotFacts.{slot_there}
use Rattle.tx_content.proofs.MadeAgain.{aborted_made}
use Rattle.tx_content.specs.declared.content.Content.{Content}
use Rattle.tx_content.proofs.content.Content.redo_aborted.Goals as goal

pub take-requires-clause-high : goal.take-requires-clause-high
take-requires-clause-high c = (slot_there c.args.self.now.txns c.args.starter.0 c.requires.boxed c.requires.there).1

pub returns-clause-made : goal.returns-clause-made
returns-clause-made c = λ after inverse redoes.
    let new : Content = record { parts = c.stand.new.parts; marks = c.end.new.marks; owners = c.end.new.owners; txns = c.take.new.self } in
    aborted_made c.laws.ensures c.args.self.now new after c.args.starter c.args.answer c.unwrap-boxed.result redoes.0 c.deref_mut.result.now c.deref_mut-2.result.now c.lead_back.new.parts
    (sym c.take.ensures.taken ∙ c.unwrap-boxed.ensures) c.deref_mut.ensures.value c.lead_back.ensures.parts (c.deref_mut-2.ensures.value ∙ c.lead_back.ensures.txn) c.stand.ensures
    c.end.ensures.marks c.end.ensures.length c.end.ensures.owners c.sized.ensures c.take.ensures.emptied redoes.1
