use Rattle.std.proofs.Common.{refl}
use Rattle.tx_laws.specs.TwoStates.{states_view}
use Rattle.tx_content.specs.Content.{view_of}
use Rattle.tx_step.proofs.Aborted.{kernel_taken, live_txn}
use Rattle.tx_step.proofs.aborts.take_kernel_abort.Goals as goal

pub abort-requires-clause-live : goal.abort-requires-clause-live
unfolding view_of states_view
abort-requires-clause-live c = live_txn c.args.content.now c.requires.kept c.args.starter.0 (c.in_ok-status.ensures.live.0 refl)

pub returns-clause-made : goal.returns-clause-made
returns-clause-made c =
    kernel_taken c.laws.ensures c.args.content.now c.requires c.args.starter c.in_ok-status.status c.in_ok-status.ensures.status (c.in_ok-status.ensures.live.0 refl) c.from.result c.from.ensures
    c.abort.new.self c.abort.new.inverse (c.abort.ensures c.in_ok-status.status c.args.starter.0)
