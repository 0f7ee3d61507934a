use Rattle.std.proofs.Common.{◌≡◌, ◌≤◌, Bool, List, Option, Some, None, length, map, ap, subst, sym, ◌∙◌}
use Rattle.std.proofs.lemmas.Option.{same_Some}
use Rattle.tx_base.specs.SlotFacts.{length-with_slot, slot_twice}
use Rattle.tx_base.specs.Slots.{with_slot}
use Rattle.tx_change.specs.Exchange.{applied}
use Rattle.tx_change.specs.Stacks.{top_of}
use Rattle.tx_kernel.specs.Plans.{sending_of}
use Rattle.tx_content.proofs.Committed.{rest_of}
use Rattle.tx_content.proofs.CommittedMade.{committed_back, committed_made, last_again}
use Rattle.tx_content.proofs.Insides.{put_back}
use Rattle.tx_base.specs.SlotFacts.{slot_there}
use Rattle.tx_content.proofs.PostedAll.{posts_as}
use Rattle.tx_content.specs.HeldPosts.{HaveSignals}
use Rattle.tx_content.specs.Inverses.{with_txn}
use Rattle.tx_content.specs.Redone.{with_last, TakesBack}
use Rattle.tx_content.specs.declared.content.BoxedTxn.{BoxedTxn}
use Rattle.tx_content.specs.declared.content.Content.{Content}
use Rattle.tx_content.specs.declared.inverse.Inverse.TheVariants.{Committed}
use Rattle.tx_txn.specs.Outboxes.{Held}
use Rattle.tx_txn.specs.declared.txn.Txn.{Txn}
use Rattle.tx_content.proofs.content.Content.redo_committed.Goals as goal

pub take-requires-clause-high : goal.take-requires-clause-high
take-requires-clause-high c = (slot_there c.args.self.now.txns c.args.starter.0 c.requires.boxed c.requires.there).1

pub put-requires-clause-high : goal.put-requires-clause-high
put-requires-clause-high c =
    subst (λ (txns : List (Option BoxedTxn)). c.args.starter.0 ≤ length txns) (sym c.take.ensures.emptied)
    (subst (λ n. c.args.starter.0 ≤ n) (sym (length-with_slot c.args.self.now.txns c.args.starter.0 None)) (slot_there c.args.self.now.txns c.args.starter.0 c.requires.boxed c.requires.there).1)

pub returns-in_default-clause-err : goal.returns-in_default-clause-err
returns-in_default-clause-err c =
    let old : Content = c.args.self.now in
    λ j. record {
      parts = c.in_default.ensures.parts_err j;
      marks = old.marks;
      owners = old.owners;
      txns = put_back old.txns c.put.new.self c.args.starter.0 c.unwrap-boxed.result c.remake_last-made.new.txn (sym c.take.ensures.taken ∙ c.unwrap-boxed.ensures)
          (c.in_default.ensures.txn_err ∙ c.deref_mut.ensures.value)
          (c.put.ensures ∙ ap (λ (txns : List (Option BoxedTxn)). with_slot txns c.args.starter.0 (Some (with_txn c.unwrap-boxed.result c.remake_last-made.new.txn))) c.take.ensures.emptied
          ∙ slot_twice old.txns c.args.starter.0 None (Some (with_txn c.unwrap-boxed.result c.remake_last-made.new.txn))) j;
    }

pub returns-clause-made : goal.returns-clause-made
returns-clause-made c = λ after inverse redoes.
    let k : Content = c.args.self.now in
    let new : Content = record { parts = c.post_held.new.parts; marks = c.end.new.marks; owners = c.end.new.owners; txns = c.post_held.new.txns } in
    let top = top_of c.args.count c.args.stack.now.items in
    let t2 : c.deref_mut-2.result.now ≡ last_again k.parts top c.args.held c.unwrap-boxed.result.txn.value
    = c.deref_mut-2.ensures.value ∙ c.in-Ok.ensures.txn ∙ ap (last_again k.parts top c.args.held) c.deref_mut.ensures.value in
    let outbox : c.deref_mut-3.result.now.outbox ≡ c.post_held.new.outbox = ap (λ (t : Txn). t.outbox) c.deref_mut-3.ensures.value in
    committed_made c.laws.ensures k new c.args.starter c.args.count c.args.held c.args.stack.now.items c.unwrap-boxed.result c.deref_mut-3.result.now (sym c.take.ensures.taken ∙ c.unwrap-boxed.ensures)
    (rest_of c.deref_mut-3.result.now (last_again k.parts top c.args.held c.unwrap-boxed.result.txn.value) c.post_held.new.outbox (c.deref_mut-3.ensures.value ∙ ap (λ (t : Txn). record t { outbox = c.post_held.new.outbox }) t2))
    (ap (λ (h : Held). h.sendings) outbox ∙ c.post_held.ensures.sendings ∙ ap (λ (t : Txn). t.outbox.sendings) t2)
    (posts_as c.remake_last-made.new.parts (applied k.parts top) new.parts c.take.new.self (with_slot k.txns c.args.starter.0 None) new.txns c.deref_mut-2.result.now.outbox.sendings
    (with_last c.args.held c.unwrap-boxed.result.txn.value.outbox).sendings c.post_held.new.outbox.posts c.deref_mut-3.result.now.outbox.posts
    c.in-Ok.ensures.parts c.take.ensures.emptied (ap (λ (t : Txn). t.outbox.sendings) t2) (ap (λ (h : Held). h.posts) (sym outbox)) c.post_held.ensures.posts)
    c.end.ensures.marks c.end.ensures.length c.end.ensures.owners c.sized.ensures after redoes.0 redoes.1

pub returns-clause-back : goal.returns-clause-back
returns-clause-back c = λ shaped.
    let k : Content = c.args.self.now in
    let new : Content = record { parts = c.post_held.new.parts; marks = c.end.new.marks; owners = c.end.new.owners; txns = c.post_held.new.txns } in
    let top = top_of c.args.count c.args.stack.now.items in
    let t2 : c.deref_mut-2.result.now ≡ last_again k.parts top c.args.held c.unwrap-boxed.result.txn.value
    = c.deref_mut-2.ensures.value ∙ c.in-Ok.ensures.txn ∙ ap (last_again k.parts top c.args.held) c.deref_mut.ensures.value in
    let outbox : c.deref_mut-3.result.now.outbox ≡ c.post_held.new.outbox = ap (λ (t : Txn). t.outbox) c.deref_mut-3.ensures.value in
    subst (λ (last : Bool). TakesBack k new (Committed (with_txn c.unwrap-boxed.result c.end.new.self) c.args.count last)) (sym c.is_some.ensures)
    (committed_back c.laws.ensures k new c.args.starter c.args.count c.args.held c.args.stack.now.items c.unwrap-boxed.result c.deref_mut-3.result.now (sym c.take.ensures.taken ∙ c.unwrap-boxed.ensures)
    (rest_of c.deref_mut-3.result.now (last_again k.parts top c.args.held c.unwrap-boxed.result.txn.value) c.post_held.new.outbox (c.deref_mut-3.ensures.value ∙ ap (λ (t : Txn). record t { outbox = c.post_held.new.outbox }) t2))
    (ap (λ (h : Held). h.sendings) outbox ∙ c.post_held.ensures.sendings ∙ ap (λ (t : Txn). t.outbox.sendings) t2)
    (posts_as c.remake_last-made.new.parts (applied k.parts top) new.parts c.take.new.self (with_slot k.txns c.args.starter.0 None) new.txns c.deref_mut-2.result.now.outbox.sendings
    (with_last c.args.held c.unwrap-boxed.result.txn.value.outbox).sendings c.post_held.new.outbox.posts c.deref_mut-3.result.now.outbox.posts
    c.in-Ok.ensures.parts c.take.ensures.emptied (ap (λ (t : Txn). t.outbox.sendings) t2) (ap (λ (h : Held). h.posts) (sym outbox)) c.post_held.ensures.posts)
    c.end.ensures.marks c.end.ensures.length c.end.ensures.owners c.sized.ensures c.end.new.self shaped c.requires.few c.requires.named c.end.ensures.rest
    (subst (λ (b : BoxedTxn). HaveSignals (map sending_of (with_last c.args.held b.txn.value.outbox).sendings))
    (same_Some c.requires.boxed c.unwrap-boxed.result (sym c.requires.there ∙ sym c.take.ensures.taken ∙ c.unwrap-boxed.ensures)) c.requires.signals)
    c.end.ensures.joined c.end.ensures.ended)
