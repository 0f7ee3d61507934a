use Rattle.std.proofs.Common.{◌≡◌, Some, rules}
use Rattle.tx_base.specs.Slots.{slot_at}
use Rattle.tx_kernel.proofs.PostPlans.{planned_at}
use Rattle.tx_kernel.specs.Plans.{sending_of}
use Rattle.tx_kernel.proofs.posts.plan_at.Goals as goal

pub returns-in-Some : goal.returns-in-Some
returns-in-Some c =
    let here : slot_at c.args.parts.now.procs c.args.sending.now.target.0 ≡ Some c.in-Some.target.now = search (rules, c.in-Some.ensures, c.proc.ensures) in
    planned_at c.args.parts.now (sending_of c.args.sending.now) c.in-Some.target.now c.plan_post.result here c.plan_post.ensures.pending c.plan_post.ensures.answer c.plan_post.ensures.after
