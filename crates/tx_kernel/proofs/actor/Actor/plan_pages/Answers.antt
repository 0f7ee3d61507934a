use Rattle.tx_kernel.proofs.Owned.{pages_plan}
use Rattle.tx_kernel.proofs.actor.Actor.plan_pages.Goals as goal

pub returns-clause-ok : goal.returns-clause-ok
returns-clause-ok c = pages_plan c.args.self.now c.args.new.pages.items c.args.log.now c.push_pages.new.log c.push_answer.new.log c.requires c.in_ok-push_pages.ensures.ok c.in_ok-push_answer.ensures.ok
