use Rattle.std.proofs.Common.{refl}
use Rattle.tx_kernel.proofs.PostPlans.{failed_post, quiet_post, part_post}
use Rattle.tx_kernel.specs.Plans.{sending_of}
use Rattle.tx_kernel.proofs.actor.Actor.push_post.Goals as goal

pub returns-in_ok-push-in-Ok-Some-clause-ok : goal.returns-in_ok-push-in-Ok-Some-clause-ok
returns-in_ok-push-in-Ok-Some-clause-ok c =
    part_post c.args.self.now.parts.now c.args.log.now c.push.new.self (sending_of c.args.sending.now) c.args.sending.now.target c.in-Ok-Some.field-0 c.in-Ok-Some.part refl
    c.in-Ok-Some.field-0-is c.in-Ok-Some.ensures c.in_ok-push-in-Ok-Some.ensures.ok

pub returns-in-Ok-None-clause-ok : goal.returns-in-Ok-None-clause-ok
returns-in-Ok-None-clause-ok c = quiet_post c.args.self.now.parts.now c.args.log.now (sending_of c.args.sending.now) c.in-Ok-None.field-0 c.in-Ok-None.field-0-is c.in-Ok-None.ensures

pub returns-in-Err-clause-ok : goal.returns-in-Err-clause-ok
returns-in-Err-clause-ok c = failed_post c.args.self.now.parts.now c.args.log.now (sending_of c.args.sending.now) c.in-Err.errno c.in-Err.ensures
