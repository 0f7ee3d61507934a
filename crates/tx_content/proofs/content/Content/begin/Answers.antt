use Rattle.std.proofs.Common.{List, Option, Some, ap, subst, ◌∙◌}
use Rattle.tx_base.specs.Slots.{with_slot}
use Rattle.tx_content.proofs.FirstSteps.{answers_nothing, begin_made}
use Rattle.tx_content.specs.Begins.{Starts}
use Rattle.tx_content.specs.Inverses.{with_txn}
use Rattle.tx_content.specs.declared.content.BoxedTxn.{BoxedTxn}
use Rattle.tx_content.specs.declared.content.Content.{Content}
use Rattle.tx_txn.specs.declared.txn.Txn.{Txn}
use Rattle.tx_content.proofs.content.Content.begin.Goals as goal

pub returns-clause-made : goal.returns-clause-made
returns-clause-made c =
    let old : Content = c.args.self.now in
    let new : Content = record { parts = c.start.new.parts; marks = c.put.new.self; owners = c.start.new.owners; txns = c.put-2.new.self } in
    rw (c.put_inverse.ensures.content, c.put_inverse.ensures.place) (begin_made c.laws.ensures old new c.args.pid c.args.defers c.in_ok-boxed.boxed c.start.new.txn c.requires.shaped c.requires.kept c.requires.alone c.in_ok-boxed.ensures.boxed
    (subst (λ (t : Txn). Starts old.parts new.parts old.owners new.owners t c.start.new.txn) c.deref_mut.ensures.value c.start.ensures)
    c.put.ensures (c.put-2.ensures ∙ ap (λ (txns : List (Option BoxedTxn)). with_slot txns c.args.pid.0 (Some (with_txn c.in_ok-boxed.boxed c.start.new.txn))) c.in_ok-boxed.ensures.table))

pub returns-clause-answer : goal.returns-clause-answer
returns-clause-answer c = answers_nothing c.args.pid.0 (Rattle.tx_content.specs.Content.now_of c.args.self.now)
