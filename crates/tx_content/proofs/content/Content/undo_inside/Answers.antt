use Rattle.std.proofs.Common.{refl}
use Rattle.tx_content.proofs.TakenBack.{inside_taken}
use Rattle.tx_content.proofs.content.Content.undo_inside.Goals as goal

pub returns : goal.returns
returns c = λ prior undoes.
    inside_taken c.laws.ensures c.args.self.now _ prior c.args.step.now c.args.held c.value_mut-boxed.result.now undoes.0 c.deref_mut.result.now c.take_step.new.txn
    c.value_mut-boxed.ensures.value c.deref_mut.ensures.value c.take_step.ensures.parts c.put_mark-left.ensures.marks c.take_step.ensures.owners c.take_step.ensures.sized c.take_step.ensures.txn
    refl undoes.1
