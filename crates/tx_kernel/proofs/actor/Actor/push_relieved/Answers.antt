use Rattle.std.proofs.Common.{◌≡◌, ◌∙◌, true, sym}
use Rattle.tx_kernel.proofs.Delivered.{entry_leaves}
use Rattle.tx_model.specs.SignalSets.{is_realtime}
use Rattle.tx_kernel.proofs.actor.Actor.push_relieved.Goals as goal

pub returns-in_ok-push-clause-ok : goal.returns-in_ok-push-clause-ok
returns-in_ok-push-clause-ok c =
    let realtime : is_realtime c.args.signo.0 ≡ true = sym c.is_realtime.ensures.number ∙ c.if-not-is_realtime.false in
    entry_leaves c.args.self.now c.args.log.now c.push-in-Some.new.log c.args.signo.0 c.in-Some.place realtime c.queued-few.ensures.fits c.in-Some.ensures.first c.in_ok-push.ensures.ok
