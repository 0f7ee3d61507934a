use Rattle.std.proofs.Common.{◌≡◌, ◌<◌, ◌≤◌, ℕ, ◌+◌, ◌-◌, List, arith, length, ap, subst, sym, ◌∙◌, slice_index_or, slice_set, pos, None}
use Rattle.tx_base.specs.declared.names.Sending.{Sending}
use Rattle.tx_content.proofs.PostsTaken.{named_there, place_there, starter_there, taken_all, taken_next, taken_none, Taken}
use Rattle.tx_content.specs.Inverses.{kept_post, unposted_in, HasStarter}
use Rattle.tx_txn.specs.Outboxes.{unmade}
use Rattle.tx_txn.specs.declared.outbox.HeldPost.{HeldPost}
use Rattle.tx_content.proofs.held_posts.take_posts.Goals as goal

pub loop-done-init : goal.loop-done-init
loop-done-init c =
    taken_none c.args.parts.now c.args.txns.now c.args.outbox.now.sendings c.args.outbox.now.posts (length c.args.outbox.now.sendings - 0) (by (length c.args.outbox.now.sendings)) c.requires.posts
  where
    by : (n : ℕ) → n ≤ n - 0
    by n = omega arith

-- where the loop is
place_low : (n done : ℕ) → done < n → n - 1 - done < n
place_low n done h = omega (arith, h)

place_next : (n done : ℕ) → done < n → n - done ≡ n - 1 - done + 1
place_next n done h = omega (arith, h)

place_last : (n done : ℕ) → n - (done + 1) ≡ n - 1 - done
place_last n done = omega arith

pub bounds-held-place : goal.bounds-held-place
bounds-held-place c =
    let low : length c.held-count.result.now - 1 - c.loop-done.done < length c.held-count.result.now = place_low (length c.held-count.result.now) c.loop-done.done c.loop-done-test.true in
    subst (λ (ms : List Sending). length c.held-count.result.now - 1 - c.loop-done.done < length ms) (c.held-count.ensures ∙ sym c.loop-done.invariant.0 ∙ sym c.held.ensures) low

pub swap_post-requires : goal.swap_post-requires
swap_post-requires c =
    let n : ℕ = length c.held-count.result.now in
    let count : n ≡ length c.args.outbox.now.sendings = ap length c.held-count.ensures in
    let taken = subst (λ (k : ℕ). Taken c.args.parts.now c.args.txns.now c.args.outbox.now.sendings c.args.outbox.now.posts k c.loop-done.parts c.loop-done.txns c.loop-done.outbox)
    (ap (λ (k : ℕ). k - c.loop-done.done) (sym count) ∙ place_next n c.loop-done.done c.loop-done-test.true) c.loop-done.invariant in
    place_there c.laws.ensures c.args.parts.now c.args.txns.now c.args.outbox.now.sendings c.args.outbox.now.posts (n - 1 - c.loop-done.done) c.loop-done.parts c.loop-done.txns c.loop-done.outbox
    unmade (record { target = record { 0 = 0 }; signo = record { 0 = 0 }; value = pos 0; from = None }) (subst (λ (k : ℕ). n - 1 - c.loop-done.done < k) count (place_low n c.loop-done.done c.loop-done-test.true)) c.requires.posts taken

pub take_one-requires-clause-named : goal.take_one-requires-clause-named
take_one-requires-clause-named c =
    let n : ℕ = length c.held-count.result.now in
    let count : n ≡ length c.args.outbox.now.sendings = ap length c.held-count.ensures in
    let taken = subst (λ (k : ℕ). Taken c.args.parts.now c.args.txns.now c.args.outbox.now.sendings c.args.outbox.now.posts k c.loop-done.parts c.loop-done.txns c.loop-done.outbox)
    (ap (λ (k : ℕ). k - c.loop-done.done) (sym count) ∙ place_next n c.loop-done.done c.loop-done-test.true) c.loop-done.invariant in
    named_there c.laws.ensures c.args.parts.now c.args.txns.now c.args.outbox.now.sendings c.args.outbox.now.posts (n - 1 - c.loop-done.done) c.loop-done.parts c.loop-done.txns c.loop-done.outbox
    c.unmade-made.result (record { target = record { 0 = 0 }; signo = record { 0 = 0 }; value = pos 0; from = None }) (subst (λ (k : ℕ). n - 1 - c.loop-done.done < k) count (place_low n c.loop-done.done c.loop-done-test.true)) c.requires.posts taken
    c.swap_post.new.post c.swap_post.ensures.given c.requires.named

pub take_one-requires-clause-starter : goal.take_one-requires-clause-starter
take_one-requires-clause-starter c =
    let n : ℕ = length c.held-count.result.now in
    let count : n ≡ length c.args.outbox.now.sendings = ap length c.held-count.ensures in
    let none : Sending = record { target = record { 0 = 0 }; signo = record { 0 = 0 }; value = pos 0; from = None } in
    let taken = subst (λ (k : ℕ). Taken c.args.parts.now c.args.txns.now c.args.outbox.now.sendings c.args.outbox.now.posts k c.loop-done.parts c.loop-done.txns c.loop-done.outbox)
    (ap (λ (k : ℕ). k - c.loop-done.done) (sym count) ∙ place_next n c.loop-done.done c.loop-done-test.true) c.loop-done.invariant in
    subst (λ (ms : List Sending). HasStarter c.loop-done.txns (kept_post (slice_index_or ms (n - 1 - c.loop-done.done) none) c.swap_post.new.post.kept)) (sym c.held.ensures)
    (starter_there c.laws.ensures c.args.parts.now c.args.txns.now c.args.outbox.now.sendings c.args.outbox.now.posts (n - 1 - c.loop-done.done) c.loop-done.parts c.loop-done.txns c.loop-done.outbox
    c.unmade-made.result none (subst (λ (k : ℕ). n - 1 - c.loop-done.done < k) count (place_low n c.loop-done.done c.loop-done-test.true)) c.requires.posts taken
    c.swap_post.new.post c.swap_post.ensures.given c.requires.starters)

pub loop-done-preserved : goal.loop-done-preserved
loop-done-preserved c =
    let n : ℕ = length c.held-count.result.now in
    let count : n ≡ length c.args.outbox.now.sendings = ap length c.held-count.ensures in
    let none : Sending = record { target = record { 0 = 0 }; signo = record { 0 = 0 }; value = pos 0; from = None } in
    let taken = subst (λ (k : ℕ). Taken c.args.parts.now c.args.txns.now c.args.outbox.now.sendings c.args.outbox.now.posts k c.loop-done.parts c.loop-done.txns c.loop-done.outbox)
    (ap (λ (k : ℕ). k - c.loop-done.done) (sym count) ∙ place_next n c.loop-done.done c.loop-done-test.true) c.loop-done.invariant in
    subst (λ (k : ℕ). Taken c.args.parts.now c.args.txns.now c.args.outbox.now.sendings c.args.outbox.now.posts k c.take_one.new.parts c.take_one.new.txns c.swap_post.new.self)
    (sym (ap (λ (k : ℕ). k - (c.loop-done.done + 1)) (sym count) ∙ place_last n c.loop-done.done))
    (taken_next c.laws.ensures c.args.parts.now c.args.txns.now c.args.outbox.now.sendings c.args.outbox.now.posts (n - 1 - c.loop-done.done) c.loop-done.parts c.loop-done.txns c.loop-done.outbox
    c.unmade-made.result none (subst (λ (k : ℕ). n - 1 - c.loop-done.done < k) count (place_low n c.loop-done.done c.loop-done-test.true)) c.requires.posts taken
    c.take_one.new.parts c.take_one.new.txns c.swap_post.new.self c.swap_post.new.post c.swap_post.ensures.given c.take_one.ensures.parts
    (c.take_one.ensures.txns ∙ ap (λ (ms : List Sending). unposted_in (kept_post (slice_index_or ms (n - 1 - c.loop-done.done) none) c.swap_post.new.post.kept) c.loop-done.txns) c.held.ensures)
    c.swap_post.ensures.sendings
    (c.swap_post.ensures.posts ∙ ap (λ (post : HeldPost). slice_set c.loop-done.outbox.posts (n - 1 - c.loop-done.done) post) c.unmade-made.ensures))

over : (n m done : ℕ) → n ≡ m → n ≤ done → m - done ≡ 0
over n m done same h = omega (arith, same, h)

pub returns-clause-parts : goal.returns-clause-parts
returns-clause-parts c =
    (taken_all c.args.parts.now c.loop-done.parts c.args.txns.now c.loop-done.txns c.args.outbox.now.sendings c.args.outbox.now.posts (length c.args.outbox.now.sendings - c.loop-done.done) c.loop-done.outbox
    (over (length c.held-count.result.now) (length c.args.outbox.now.sendings) c.loop-done.done (ap length c.held-count.ensures) c.loop-done-test.false) c.loop-done.invariant).0

pub returns-clause-txns : goal.returns-clause-txns
returns-clause-txns c =
    (taken_all c.args.parts.now c.loop-done.parts c.args.txns.now c.loop-done.txns c.args.outbox.now.sendings c.args.outbox.now.posts (length c.args.outbox.now.sendings - c.loop-done.done) c.loop-done.outbox
    (over (length c.held-count.result.now) (length c.args.outbox.now.sendings) c.loop-done.done (ap length c.held-count.ensures) c.loop-done-test.false) c.loop-done.invariant).1

pub returns-clause-outbox : goal.returns-clause-outbox
returns-clause-outbox c =
    (taken_all c.args.parts.now c.loop-done.parts c.args.txns.now c.loop-done.txns c.args.outbox.now.sendings c.args.outbox.now.posts (length c.args.outbox.now.sendings - c.loop-done.done) c.loop-done.outbox
    (over (length c.held-count.result.now) (length c.args.outbox.now.sendings) c.loop-done.done (ap length c.held-count.ensures) c.loop-done-test.false) c.loop-done.invariant).2
