use Rattle.std.proofs.Common.{refl, sym, subst, ◌∙◌}
use Rattle.std.proofs.lemmas.Option.{same_Some}
use Rattle.tx_content.proofs.InsideAgain.{inside_again}
use Rattle.tx_content.proofs.TakenBack.{inside_taken}
use Rattle.tx_content.specs.Inverses.{HasLog, UndoesInside}
use Rattle.tx_content.proofs.content.Content.take_member_back.Goals as goal

pub returns-clause-before : goal.returns-clause-before
returns-clause-before c = λ prior undoes.
    inside_taken c.laws.ensures c.args.self.now _ prior c.args.step.now c.args.held c.value_mut-boxed.result.now undoes.0 c.deref_mut.result.now c.move_step-last.new.txn
    c.value_mut-boxed.ensures.value c.deref_mut.ensures.value c.move_step-last.ensures.parts c.put_mark-step.ensures.marks c.move_step-last.ensures.owners c.move_step-last.ensures.sized
    c.move_step-last.ensures.txn refl undoes.1

pub returns-clause-again : goal.returns-clause-again
returns-clause-again c = λ shaped prior undoes.
    let there = c.value_mut-boxed.ensures.value in
    inside_again c.laws.ensures c.args.self.now prior c.args.step.now c.deref.result.now.objects c.put_mark-step.result c.args.held c.move_step-last.result
    c.value_mut-boxed.result.now c.deref_mut.result.now c.deref.result.now c.args.stack.now.items c.move_step-last.new.stack.items shaped
    (subst (HasLog c.args.self.now c.args.step.now.starter c.args.step.now.count) (same_Some c.requires.fits.0.0 c.value_mut-boxed.result.now (sym c.requires.fits.0.1.there ∙ there)) c.requires.fits.0.1)
    c.requires.fits.1
    (subst (UndoesInside c.args.self.now c.args.step.now c.args.held prior) (same_Some undoes.0 c.value_mut-boxed.result.now (sym undoes.1.there ∙ there)) undoes.1)
    c.deref_mut.ensures.value c.deref.ensures refl c.put_mark-step.ensures.there c.move_step-last.ensures.stack c.move_step-last.ensures.last
