use Rattle.std.proofs.Common.{ℤ, w64, subst, sym, ◌∙◌}
use Rattle.std.proofs.lemmas.Int.{to_z-of_z}
use Rattle.tx_content.proofs.LedBack.{abort_made, can_lead}
use Rattle.tx_content.specs.Aborts.{IsLedBack}
use Rattle.tx_content.specs.declared.content.Content.{Content}
use Rattle.tx_txn.specs.declared.txn.Txn.{Txn}
use Rattle.tx_content.proofs.content.Content.abort.Goals as goal

pub take_back-stood-requires-clause-low : goal.take_back-stood-requires-clause-low
take_back-stood-requires-clause-low c =
    (can_lead c.args.self.now c.args.starter.0 c.unwrap-boxed.result c.deref_mut.result.now c.requires.shaped (sym c.take.ensures.taken ∙ c.unwrap-boxed.ensures) c.deref_mut.ensures.value).0

pub take_back-stood-requires-clause-high : goal.take_back-stood-requires-clause-high
take_back-stood-requires-clause-high c =
    (can_lead c.args.self.now c.args.starter.0 c.unwrap-boxed.result c.deref_mut.result.now c.requires.shaped (sym c.take.ensures.taken ∙ c.unwrap-boxed.ensures) c.deref_mut.ensures.value).1

pub take_back-stood-requires-clause-named : goal.take_back-stood-requires-clause-named
take_back-stood-requires-clause-named c =
    (can_lead c.args.self.now c.args.starter.0 c.unwrap-boxed.result c.deref_mut.result.now c.requires.shaped (sym c.take.ensures.taken ∙ c.unwrap-boxed.ensures) c.deref_mut.ensures.value).2

pub returns : goal.returns
returns c =
    let old : Content = c.args.self.now in
    let new : Content = record { parts = c.take_back-stood.new.parts; marks = c.end.new.marks; owners = c.end.new.owners; txns = c.take.new.self } in
    rw (c.put_inverse.ensures.content, c.put_inverse.ensures.place) (abort_made c.laws.ensures old new c.args.starter c.args.ret c.unwrap-boxed.result c.deref_mut-2.result.now c.end.new.self c.take_back-stood.result
    c.requires.shaped c.requires.kept (sym c.take.ensures.taken ∙ c.unwrap-boxed.ensures)
    (subst (λ (t : Txn). IsLedBack old.parts new.parts c.args.ret c.unwrap-boxed.result.txn.value t c.take_back-stood.result) (sym c.deref_mut-2.ensures.value)
    (subst (λ (t : Txn). IsLedBack old.parts new.parts c.args.ret t c.take_back-stood.new.txn c.take_back-stood.result) c.deref_mut.ensures.value
    (subst (λ (r : ℤ). IsLedBack old.parts new.parts r c.deref_mut.result.now c.take_back-stood.new.txn c.take_back-stood.result) (to_z-of_z w64 c.args.ret c.ranges.ret) c.take_back-stood.ensures)))
    c.end.ensures.marks c.end.ensures.length c.end.ensures.owners c.sized.ensures c.end.ensures.rest c.take.ensures.emptied c.end.ensures.joined c.end.ensures.ended)
