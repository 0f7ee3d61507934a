use Rattle.std.proofs.Common.{◌≡◌, ℤ, None, length, subst, w64}
use Rattle.std.proofs.lemmas.Int.{to_z-of_z}
use Rattle.tx_kernel.proofs.Refused.{running_told, tells_made, made_of}
use Rattle.tx_kernel.proofs.Waited.{ended_is, found_child, no_child, running_is}
use Rattle.tx_kernel.specs.Actors.{effect_by}
use Rattle.tx_kernel.specs.Trees.{child_at}
use Rattle.tx_model.specs.Book.{waitpid}
use Rattle.tx_model.specs.Processes.{pid_of}
use Rattle.tx_kernel.proofs.actor.Actor.waits_for_child.Goals as goal

pub returns-in_default : goal.returns-in_default
returns-in_default c =
    let actor = c.args.self.now in
    tells_made actor (effect_by actor (waitpid c.args.number c.args.nohang))
    (λ held counted. made_of actor _ (no_child actor c.args.number c.args.nohang held
    (subst (λ (z : ℤ). None ≡ child_at actor.pid.0 actor.parts.now.procs (pid_of (length actor.parts.now.procs) z)) (to_z-of_z w64 c.args.number c.ranges.number) c.in_default.ensures)) (λ rs. tt))

pub returns-in-Some-status : goal.returns-in-Some-status
returns-in-Some-status c =
    let actor = c.args.self.now in
    let child = c.in-Some.child in
    let is = found_child actor.pid.0 actor.parts.now.procs (length actor.parts.now.procs) c.args.number child c.ranges.number c.in-Some.ensures in
    tells_made actor (effect_by actor (waitpid c.args.number c.args.nohang))
    (λ held counted. made_of actor _ (ended_is actor c.args.number c.args.nohang held child c.in-Some-status.field-0 is c.in-Some-status.is) (λ rs. tt))

pub returns-in-None : goal.returns-in-None
returns-in-None c =
    let actor = c.args.self.now in
    let child = c.in-Some.child in
    running_told actor c.args.number c.args.nohang
    (λ held. running_is actor c.args.number c.args.nohang held child
    (found_child actor.pid.0 actor.parts.now.procs (length actor.parts.now.procs) c.args.number child c.ranges.number c.in-Some.ensures) c.in-None.is)
