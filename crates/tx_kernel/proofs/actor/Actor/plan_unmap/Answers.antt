use Rattle.std.proofs.Common.{refl, w64}
use Rattle.std.proofs.lemmas.Int.{to_z-of_z}
use Rattle.tx_kernel.specs.Actors.{caller_of}
use Rattle.tx_model.specs.Book.{unmap}
use Rattle.tx_kernel.proofs.actor.Actor.plan_unmap.Goals as goal

pub returns-in-Ok-clause-ok : goal.returns-in-Ok-clause-ok
returns-in-Ok-clause-ok c =
    c.plan_page.ensures.page (unmap c.args.page) (λ S. simp (to_z-of_z w64 c.args.page c.ranges.page) at (c.in-Ok.ensures.answer (caller_of c.args.self.now S) refl))

pub returns-in-Err-clause-ok : goal.returns-in-Err-clause-ok
returns-in-Err-clause-ok c =
    c.plan_error.ensures.page (unmap c.args.page) (λ S. rw c.in-Err.ensures.errors at (simp (to_z-of_z w64 c.args.page c.ranges.page) at (c.in-Err.ensures.answer (caller_of c.args.self.now S) refl)))
