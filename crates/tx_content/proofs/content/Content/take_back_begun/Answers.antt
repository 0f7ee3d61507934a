use Rattle.std.proofs.Common.{sym, ap, subst, ◌∙◌}
use Rattle.std.proofs.lemmas.Option.{same_Some}
use Rattle.tx_content.proofs.BegunAgain.{begun_again}
use Rattle.tx_base.specs.SlotFacts.{slot_there}
use Rattle.tx_content.proofs.TakenBack.{begun_taken}
use Rattle.tx_content.specs.Inverses.{UndoesBegun}
use Rattle.tx_content.specs.declared.content.Content.{Content}
use Rattle.tx_txn.specs.declared.txn.Txn.{Txn}
use Rattle.tx_content.proofs.content.Content.take_back_begun.Goals as goal

pub take-requires-clause-high : goal.take-requires-clause-high
take-requires-clause-high c = (slot_there c.args.self.now.txns c.args.starter.0 c.requires.0.0 c.requires.0.1.there).1

pub returns-clause-before : goal.returns-clause-before
returns-clause-before c = λ prior undoes.
    let new : Content = record { parts = c.lead_back.new.parts; marks = c.take-mark.new.self; owners = c.release.new.self; txns = c.take.new.self } in
    begun_taken c.laws.ensures c.args.self.now new prior c.args.starter c.unwrap-boxed.result undoes.0 c.deref.result.now.objects c.deref_mut.result.now
    (sym c.take.ensures.taken ∙ c.unwrap-boxed.ensures) c.deref_mut.ensures.value c.lead_back.ensures.parts c.take-mark.ensures.emptied c.release.ensures c.sized.ensures
    (ap (λ (t : Txn). t.objects) c.deref.ensures) c.take.ensures.emptied undoes.1

pub returns-clause-again : goal.returns-clause-again
returns-clause-again c = λ shaped prior stack undoes.
    let there = sym c.take.ensures.taken ∙ c.unwrap-boxed.ensures in
    begun_again c.laws.ensures c.args.self.now prior c.args.starter c.unwrap-boxed.result c.deref_mut.result.now c.lead_back.new.self c.take-mark.result stack shaped c.requires
    there c.deref_mut.ensures.value c.lead_back.ensures.log c.take-mark.ensures.taken
    (subst (UndoesBegun c.args.self.now c.args.starter prior) (same_Some undoes.0 c.unwrap-boxed.result (sym undoes.1.there ∙ there)) undoes.1)
