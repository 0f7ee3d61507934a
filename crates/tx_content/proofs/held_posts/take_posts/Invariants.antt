use Rattle.std.proofs.Common.{◌-◌, length}
use Rattle.tx_content.proofs.PostsTaken.{Taken}
use Rattle.tx_content.proofs.held_posts.take_posts.Given as goal

abbrev pub invariant-loop-done : goal.invariant-loop-done
invariant-loop-done l = Taken l.initial.parts l.initial.txns l.initial.outbox.sendings l.initial.outbox.posts (length l.initial.outbox.sendings - l.done) l.parts l.txns l.outbox
