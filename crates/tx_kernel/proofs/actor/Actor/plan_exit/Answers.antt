use Rattle.std.proofs.Common.{w64, ap, ◌∙◌}
use Rattle.std.proofs.lemmas.Int.{to_z-of_z}
use Rattle.std.proofs.lemmas.Result.{IfOk-weaker}
use Rattle.tx_kernel.proofs.Exited.{exit_ends, exit_fails, exit_names}
use Rattle.tx_kernel.specs.Actors.{effect_by, names_by}
use Rattle.tx_kernel.specs.Plans.{Plans, quiet}
use Rattle.tx_model.specs.Book.{exit}
use Rattle.tx_model.specs.Forms.{does}
use Rattle.tx_model.specs.Processes.{ending, ending_objects, exit_status}
use Rattle.tx_kernel.proofs.actor.Actor.plan_exit.Goals as goal

pub returns-then-self-eq1-clause-ok : goal.returns-then-self-eq1-clause-ok
returns-then-self-eq1-clause-ok c =
    let actor = c.args.self.now in
    rw c.quiet.ensures (exit_fails actor c.args.log.now c.plan_failure.new.log (quiet c.in_ok-outcome.outcome) c.args.status c.if-self-eq1.true (c.in_ok-outcome.ensures.ok (exit_names actor)))

pub returns-clause-ok : goal.returns-clause-ok
returns-clause-ok c =
    let actor = c.args.self.now in
    let code = c.exit_status.ensures ∙ ap exit_status (to_z-of_z w64 c.args.status c.ranges.status) in
    IfOk-weaker c.plan_ending.result
    (λ planned. Plans actor c.args.log.now c.plan_ending.new.log planned (effect_by actor (λ d. does (ending c.exit_status.result d))) (names_by actor ending_objects))
    (λ planned. Plans actor c.args.log.now c.plan_ending.new.log planned (effect_by actor (exit c.args.status)) (exit_names actor))
    (λ planned plans. exit_ends actor c.args.log.now c.plan_ending.new.log planned c.args.status c.exit_status.result c.if-self-eq1.false code plans)
    c.plan_ending.ensures.ok
