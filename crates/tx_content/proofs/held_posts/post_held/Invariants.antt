use Rattle.std.proofs.Common.{◌≡◌, List, ◌++◌, Option, drop, length, take}
use Rattle.tx_change.specs.declared.parts.Parts.{Parts}
use Rattle.tx_content.specs.HeldPosts.{PostsAll}
use Rattle.tx_content.specs.declared.content.BoxedTxn.{BoxedTxn}
use Rattle.tx_txn.specs.declared.outbox.HeldPost.{HeldPost}
use Rattle.tx_content.proofs.held_posts.post_held.Given as goal

abbrev pub invariant-loop-place : goal.invariant-loop-place
invariant-loop-place l =
    (l.outbox.sendings ≡ l.initial.outbox.sendings)
    × (length l.outbox.posts ≡ length l.initial.outbox.sendings)
    × ((after : Parts) (new : List (Option BoxedTxn)) (rest : List HeldPost) → PostsAll l.parts after l.txns new (drop l.place l.initial.outbox.sendings) rest →
    PostsAll l.initial.parts after l.initial.txns new l.initial.outbox.sendings (take l.place l.outbox.posts ++ rest))
