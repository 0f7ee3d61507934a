use Rattle.std.proofs.Common.{◌<◌, ◌≤◌, ℕ, ◌+◌, List, [], ◌∷◌, arith, length, ap, subst, sym, ◌∙◌, refl, slice_index_or}
use Rattle.std.proofs.lemmas.List.{length-set}
use Rattle.tx_base.specs.declared.names.Sending.{Sending}
use Rattle.tx_content.proofs.PostedAll.{posts_ahead, posts_over, signal_at, Ahead}
use Rattle.tx_content.specs.HeldPosts.{PostsAll}
use Rattle.tx_txn.specs.declared.outbox.HeldPost.{HeldPost}
use Rattle.tx_content.proofs.held_posts.post_held.Goals as goal

pub loop-place-init : goal.loop-place-init
loop-place-init c = (refl, c.requires.posts, λ after new rest all. all)

pub post_one-made-requires : goal.post_one-made-requires
post_one-made-requires c =
    let same = c.held.ensures ∙ c.loop-place.invariant.0 in
    subst (λ (ms : List Sending). (slice_index_or ms c.loop-place.place _).signo.0 < 64) (sym same)
    (signal_at c.args.outbox.now.sendings c.loop-place.place _ (subst (λ (ms : List Sending). c.loop-place.place < length ms) c.held-place-end.ensures c.loop-place-test.true) c.requires.signals)

pub swap_post-requires : goal.swap_post-requires
swap_post-requires c =
    subst (λ (n : ℕ). c.loop-place.place < n) (sym c.loop-place.invariant.1) (subst (λ (ms : List Sending). c.loop-place.place < length ms) c.held-place-end.ensures c.loop-place-test.true)

pub loop-place-preserved : goal.loop-place-preserved
loop-place-preserved c =
    let same = c.held.ensures ∙ c.loop-place.invariant.0 in
    let few : c.loop-place.place < length c.args.outbox.now.sendings = subst (λ (ms : List Sending). c.loop-place.place < length ms) c.held-place-end.ensures c.loop-place-test.true in (
      c.swap_post.ensures.sendings ∙ c.loop-place.invariant.0,
      ap length c.swap_post.ensures.posts ∙ length-set c.loop-place.outbox.posts c.loop-place.place c.post_one-made.result ∙ c.loop-place.invariant.1,
      subst (λ (ps : List HeldPost). Ahead c.args.parts.now c.args.txns.now c.args.outbox.now.sendings ps (c.loop-place.place + 1) c.post_one-made.new.parts c.post_one-made.new.txns) (sym c.swap_post.ensures.posts)
          (posts_ahead c.laws.ensures c.args.parts.now c.loop-place.parts c.post_one-made.new.parts c.args.txns.now c.loop-place.txns c.post_one-made.new.txns c.args.outbox.now.sendings c.loop-place.outbox.posts
          c.loop-place.place _ c.post_one-made.result few c.loop-place.invariant.1 c.loop-place.invariant.2
          (subst (λ (ms : List Sending). PostsAll c.loop-place.parts c.post_one-made.new.parts c.loop-place.txns c.post_one-made.new.txns (slice_index_or ms c.loop-place.place _ ∷ []) (c.post_one-made.result ∷ [])) same
          c.post_one-made.ensures)),
    )

pub returns-clause-posts : goal.returns-clause-posts
returns-clause-posts c =
    let all : length c.held-place-end.result.now ≤ c.loop-place.place = omega (arith, c.loop-place-test.false) in
    posts_over c.args.parts.now c.loop-place.parts c.args.txns.now c.loop-place.txns c.args.outbox.now.sendings c.loop-place.outbox.posts c.loop-place.place
    (subst (λ (ms : List Sending). length ms ≤ c.loop-place.place) c.held-place-end.ensures all) c.loop-place.invariant.1 c.loop-place.invariant.2
