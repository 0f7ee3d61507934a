use Rattle.std.proofs.Common.{arith, pos, refl, w64, to_z, of_z}
use Rattle.std.proofs.lemmas.Int.{to_z-of_z, to_z_pos}
use Rattle.tx_base.specs.declared.errors.Errno.TheVariants.{BadAddress}
use Rattle.tx_kernel.proofs.PageCalls.{not_loaded}
use Rattle.tx_kernel.proofs.PartsOwned.{owned_page}
use Rattle.tx_model.specs.Book.{load}
use Rattle.tx_model.specs.Forms.{answers, fails}
use Rattle.tx_kernel.proofs.actor.Actor.plan_load.Goals as goal

pub returns-in-Ok-clause-ok : goal.returns-in-Ok-clause-ok
returns-in-Ok-clause-ok c =
    owned_page c.plan_answer.result c.args.self.now c.args.log.now c.plan_answer.new.log (λ k. answers (pos c.in-Ok.byte)) (load c.args.address)
    (λ S. rw (simp (to_z-of_z w64 c.args.address c.ranges.address) at c.in-Ok.ensures) refl) (simp (to_z_pos w64 c.in-Ok.byte (omega arith)) at c.plan_answer.ensures.ok)

pub returns-in-Err-clause-ok : goal.returns-in-Err-clause-ok
returns-in-Err-clause-ok c =
    owned_page c.plan_error.result c.args.self.now c.args.log.now c.plan_error.new.log (λ k. fails BadAddress) (load c.args.address)
    (λ S. rw (simp (to_z-of_z w64 c.args.address c.ranges.address) at (not_loaded c.args.self.now.proc.now.space (to_z w64 (of_z w64 c.args.address)) c.in-Err.field-0 c.in-Err.ensures)) refl) c.plan_error.ensures.ok
