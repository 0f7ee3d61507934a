use Rattle.std.proofs.Common.{w64, sym, refl}
use Rattle.std.proofs.lemmas.Int.{to_z-of_z}
use Rattle.tx_change.specs.States.{state_of}
use Rattle.tx_kernel.proofs.Piped.{writes_broken, writes_put}
use Rattle.tx_kernel.proofs.actor.Actor.writing_to.Goals as goal

pub returns-then-not-has_end-clause-effect : goal.returns-then-not-has_end-clause-effect
returns-then-not-has_end-clause-effect c fd held end =
    let actor = c.args.self.now in
    writes_broken actor c.args.desc fd c.args.address c.args.count c.in-Some.n held end
    (sym (simp (to_z-of_z w64 c.args.count c.ranges.count) at c.in-Some.ensures)) c.if-n-eq0.false (sym (simp (to_z-of_z w64 c.args.address c.ranges.address) at c.if-not-is_good.ensures))
    (sym (c.if-not-has_end.ensures (state_of held actor.parts.now) (λ d. refl)))

pub returns-clause-effect : goal.returns-clause-effect
returns-clause-effect c fd held end =
    let actor = c.args.self.now in
    writes_put actor c.args.desc fd c.args.address c.args.count c.in-Some.n c.putting.result held end
    (sym (simp (to_z-of_z w64 c.args.count c.ranges.count) at c.in-Some.ensures)) c.if-n-eq0.false (sym (simp (to_z-of_z w64 c.args.address c.ranges.address) at c.if-not-is_good.ensures))
    (sym (c.if-not-has_end.ensures (state_of held actor.parts.now) (λ d. refl))) c.putting.ensures
