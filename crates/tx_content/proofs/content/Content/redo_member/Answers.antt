use Rattle.std.proofs.Common.{Some, refl, ◌∙◌}
use Rattle.tx_base.specs.Slots.{with_slot}
use Rattle.tx_content.proofs.Insides.{put_back}
use Rattle.tx_content.proofs.MadeAgain.{after_err, inside_made}
use Rattle.tx_content.specs.Inverses.{with_txn}
use Rattle.tx_content.specs.declared.content.Content.{Content}
use Rattle.tx_content.proofs.content.Content.redo_member.Goals as goal

pub returns-in_err-step-clause-err : goal.returns-in_err-step-clause-err
returns-in_err-step-clause-err c =
    let old : Content = c.args.self.now in
    after_err c.from_residual.result (λ j. record {
      parts = c.in_err-step.ensures.parts_err j;
      marks = old.marks;
      owners = c.in_err-step.ensures.owners_err j;
      txns = put_back old.txns (with_slot old.txns c.args.step.now.starter.0 (Some (with_txn c.value_mut-boxed.result.now c.remake_step.new.txn))) c.args.step.now.starter.0 c.value_mut-boxed.result.now c.remake_step.new.txn c.value_mut-boxed.ensures.value
          (c.in_err-step.ensures.txn_err ∙ c.deref_mut.ensures.value)
          refl j;
    })

pub returns-clause-made : goal.returns-clause-made
returns-clause-made c = λ after inverse redoes.
    inside_made c.laws.ensures c.args.self.now _ after c.args.step.now c.args.held c.args.stack.now.items c.value_mut-boxed.result.now redoes.0 c.deref_mut.result.now c.remake_step.new.txn
    c.value_mut-boxed.ensures.value c.deref_mut.ensures.value c.in_ok-step.ensures.parts c.put_mark-step.ensures.marks c.in_ok-step.ensures.owners c.in_ok-step.ensures.sized c.in_ok-step.ensures.txn refl redoes.1
