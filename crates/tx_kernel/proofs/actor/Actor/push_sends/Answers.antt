use Rattle.std.proofs.Common.{ap, sym, subst}
use Rattle.tx_base.specs.declared.names.Sending.{Sending as TheSending}
use Rattle.tx_kernel.proofs.StepPlans.{quiet_step, posted_step}
use Rattle.tx_kernel.specs.Plans.{Plans, sent_at_once}
use Rattle.tx_kernel.specs.Steps.{PlansStep}
use Rattle.tx_kernel.specs.declared.planned.Sends.{Sends}
use Rattle.tx_kernel.proofs.actor.Actor.push_sends.Goals as goal

pub returns-in-Nothing-clause-ok : goal.returns-in-Nothing-clause-ok
returns-in-Nothing-clause-ok c = λ before rule objects plans.
    quiet_step c.args.self.now before c.args.log.now c.args.planned.now.outcome c.args.planned.now.sends rule objects (ap sent_at_once c.in-Nothing.is) plans

pub returns-in_ok-_answer-in-AtOnce-clause-ok : goal.returns-in_ok-_answer-in-AtOnce-clause-ok
returns-in_ok-_answer-in-AtOnce-clause-ok c = λ before rule objects plans.
    let actor = c.args.self.now in
    let m : TheSending = c.in-AtOnce.sending in
    let outcome = c.args.planned.now.outcome in
    subst (λ (sends : Sends). PlansStep actor before c.push_post.new.log outcome sends rule objects) (sym c.in-AtOnce.is)
    (posted_step c.laws.ensures actor before c.args.log.now c.push_post.new.log outcome m c.in_ok-_answer-in-AtOnce._answer rule objects
    (subst (λ (sends : Sends). Plans actor before c.args.log.now (record { outcome = outcome; sends = sends }) rule objects) c.in-AtOnce.is plans)
    c.in_ok-_answer-in-AtOnce.ensures.ok)

pub returns-in-AtCommit-clause-ok : goal.returns-in-AtCommit-clause-ok
returns-in-AtCommit-clause-ok c = λ before rule objects plans.
    quiet_step c.args.self.now before c.args.log.now c.args.planned.now.outcome c.args.planned.now.sends rule objects (ap sent_at_once c.in-AtCommit.is) plans
