use Rattle.std.proofs.Common.{ap, sym}
use Rattle.tx_base.specs.declared.errors.Errno.TheVariants.{NotPermitted}
use Rattle.tx_change.specs.States.{state_of}
use Rattle.tx_kernel.proofs.Exited.{exit_done, exit_refused}
use Rattle.tx_kernel.proofs.SentBy.{done_sends, ending_sends, sends_same}
use Rattle.tx_kernel.specs.Actors.{caller_of, effect_by, me_of}
use Rattle.tx_kernel.specs.declared.planned.Sends.TheVariants.{Nothing}
use Rattle.tx_model.specs.Book.{exit}
use Rattle.tx_model.specs.Forms.{effect_of, fails}
use Rattle.tx_model.specs.Numbers.{error_answer}
use Rattle.tx_model.specs.Processes.{ending, exit_status}
use Rattle.tx_kernel.proofs.actor.Actor.sends_of_exit.Goals as goal

pub returns-then-self-eq1 : goal.returns-then-self-eq1
returns-then-self-eq1 c status =
    let actor = c.args.self.now in
    sends_same actor Nothing (effect_by actor (λ d. fails NotPermitted)) (effect_by actor (exit status))
    (λ held counted. sym (ap (effect_of actor.pid.0 (me_of actor)) (exit_refused (caller_of actor (state_of held actor.parts.now)) status c.if-self-eq1.true)))
    (done_sends actor (error_answer NotPermitted))

pub returns : goal.returns
returns c status =
    let actor = c.args.self.now in
    sends_same actor c.tells_parent.result (λ S. ending (exit_status status) (caller_of actor S)) (effect_by actor (exit status))
    (λ held counted. sym (ap (effect_of actor.pid.0 (me_of actor)) (exit_done (caller_of actor (state_of held actor.parts.now)) status c.if-self-eq1.false)))
    (ending_sends actor c.tells_parent.result (exit_status status) (me_of actor) c.tells_parent.ensures.at_once c.tells_parent.ensures.at_commit)
