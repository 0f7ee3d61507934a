use Rattle.std.proofs.Common.{◌≡◌, ◌≤◌, ℕ, length, ap, subst, sym, ◌∙◌}
use Rattle.tx_change.specs.Exchange.{undone}
use Rattle.tx_change.specs.declared.parts.Parts.{Parts}
use Rattle.tx_content.proofs.CommittedAgain.{committed_again}
use Rattle.tx_content.proofs.PostsTaken.{unposted_long}
use Rattle.tx_content.proofs.TakenBack.{committed_taken}
use Rattle.tx_content.specs.Inverses.{last_of, none_made, post_changes, unposted_all}
use Rattle.tx_content.specs.declared.content.Content.{Content}
use Rattle.tx_txn.specs.declared.txn.Txn.{Txn}
use Rattle.tx_content.proofs.content.Content.take_back_committed.Goals as goal

pub put-requires-clause-high : goal.put-requires-clause-high
put-requires-clause-high c =
    let k : Content = c.args.self.now in
    let same : length c.take_posts.new.txns ≡ length k.parts.procs
    = ap length c.take_posts.ensures.txns ∙ unposted_long c.deref_mut.result.now.outbox.sendings c.deref_mut.result.now.outbox.posts k.txns ∙ c.requires.fits.numbers.slots in
    subst (λ (t : Txn). t.starter.0 ≤ length c.take_posts.new.txns) (sym c.deref.ensures)
    (subst (λ (n : ℕ). c.args.boxed.txn.value.starter.0 ≤ n) (sym same) c.requires.fits.numbers.high)

pub returns-clause-before : goal.returns-clause-before
returns-clause-before c = λ prior undoes.
    let k : Content = c.args.self.now in
    let new : Content = record { parts = c.move_last-last.new.parts; marks = c.revive.new.marks; owners = c.revive.new.owners; txns = c.put.new.self } in
    committed_taken c.laws.ensures k new prior c.args.boxed c.args.count c.args.held undoes.0 c.deref.result.now.starter c.take_posts.new.txns c.deref_mut-2.result.now c.deref_mut-3.result.now c.revive.new.self
    (ap (λ (t : Txn). t.starter) c.deref.ensures)
    (c.deref_mut-2.ensures.value ∙ (λ j. record c.deref_mut.result.now { outbox = c.take_posts.ensures.outbox j }) ∙ ap (λ (t : Txn). record t { outbox = none_made t.outbox.sendings }) c.deref_mut.ensures.value)
    (c.move_last-last.ensures.parts ∙ ap (λ (P : Parts). undone P (last_of c.args.count c.deref_mut-2.result.now.log)) (c.take_posts.ensures.parts ∙ ap (λ (t : Txn). undone k.parts (post_changes t.outbox.posts)) c.deref_mut.ensures.value))
    (c.deref_mut-3.ensures.value ∙ c.move_last-last.ensures.txn) c.revive.ensures.marks c.revive.ensures.length c.revive.ensures.owners c.sized.ensures c.revive.ensures.rest
    (c.take_posts.ensures.txns ∙ ap (λ (t : Txn). unposted_all t.outbox.sendings t.outbox.posts k.txns) c.deref_mut.ensures.value) c.put.ensures undoes.1

pub returns-clause-again : goal.returns-clause-again
returns-clause-again c = λ shaped whole prior shaped_prior undoes.
    let k : Content = c.args.self.now in
    committed_again c.laws.ensures k prior c.args.boxed c.args.count c.args.held c.move_last-last.result whole.0 undoes.0 c.deref.result.now.starter c.deref_mut-2.result.now c.take_posts.new.parts c.args.stack.now.items c.move_last-last.new.stack.items
    shaped shaped_prior whole.1 whole.2 c.requires.fits undoes.1 (ap (λ (t : Txn). t.starter) c.deref.ensures)
    (c.deref_mut-2.ensures.value ∙ (λ j. record c.deref_mut.result.now { outbox = c.take_posts.ensures.outbox j }) ∙ ap (λ (t : Txn). record t { outbox = none_made t.outbox.sendings }) c.deref_mut.ensures.value)
    (c.take_posts.ensures.parts ∙ ap (λ (t : Txn). undone k.parts (post_changes t.outbox.posts)) c.deref_mut.ensures.value)
    c.move_last-last.ensures.stack c.move_last-last.ensures.last
