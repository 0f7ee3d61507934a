use Rattle.std.proofs.Common.{◌≡◌, ◌+◌, ◌-◌, ◌∙◌, length, sym, arith}
use Rattle.tx_kernel.proofs.Childless.{no_orphans}
use Rattle.tx_kernel.proofs.Ends.{extends_by, orphans_step, orphans_end}
use Rattle.tx_kernel.specs.Endings.{child_at, orphan_changes, plain}
use Rattle.tx_kernel.proofs.actor.Actor.push_orphans.Goals as goal

pub returns-then-child_count-eq0-clause-ok : goal.returns-then-child_count-eq0-clause-ok
returns-then-child_count-eq0-clause-ok c =
    let actor = c.args.self.now in
    no_orphans actor.pid.0 (length actor.parts.now.procs + 1) actor.parts.now c.args.log.now (sym c.child_count.ensures ∙ c.if-child_count-eq0.true)

pub loop-below-preserved : goal.loop-below-preserved
loop-below-preserved c =
    let actor = c.args.self.now in
    let so_far = c.loop-below.invariant in
    let some = c.loop-below-test.true in
    let same : c.loop-below.below - 1 + 1 ≡ c.loop-below.below = omega arith in
    record {
      added = orphans_step actor.pid.0 (c.loop-below.below - 1 + 1) c.loop-below.below (plain actor.parts.now) c.loop-below.log c.push_orphan.new.log _ same c.in_ok-push_orphan.ensures.ok so_far.added;
      extends = extends_by c.args.log.now c.loop-below.log c.push_orphan.new.log (orphan_changes (child_at actor.pid.0 (c.loop-below.below - 1 + 1) (plain actor.parts.now))) so_far.extends c.in_ok-push_orphan.ensures.ok;
      few = omega arith;
    }

pub returns-clause-ok : goal.returns-clause-ok
returns-clause-ok c = orphans_end c.args.self.now.pid.0 c.loop-below.below c.args.self.now.parts.now c.loop-below.log _ c.loop-below-test.false c.loop-below.invariant.added
