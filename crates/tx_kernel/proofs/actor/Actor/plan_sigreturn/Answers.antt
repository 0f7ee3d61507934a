use Rattle.std.proofs.Common.{Some, ◌∙◌, refl, ap, sym, rules}
use Rattle.std.proofs.lemmas.Int.{to_z-of_z}
use Rattle.std.specs.Int.{w64}
use Rattle.std.specs.Prelude.{FitsSigned}
use Rattle.tx_base.specs.Signals.{bits_of}
use Rattle.tx_model.specs.State.{Frame}
use Rattle.tx_base.specs.declared.errors.Errno.TheVariants.{InvalidArgument}
use Rattle.tx_kernel.proofs.PageLines.{misses}
use Rattle.tx_kernel.proofs.PartsOwned.{owned_page}
use Rattle.tx_kernel.proofs.Returned.{returned}
use Rattle.tx_kernel.specs.Actors.{me_of}
use Rattle.tx_model.specs.Book.{sigreturn}
use Rattle.tx_model.specs.Forms.{fails}
use Rattle.tx_model.specs.Signals.{newest_frame}
use Rattle.tx_kernel.proofs.actor.Actor.plan_sigreturn.Goals as goal

pub returns-in_default-clause-ok : goal.returns-in_default-clause-ok
returns-in_default-clause-ok c =
    let actor = c.args.self.now in
    owned_page c.plan_error.result actor c.args.log.now c.plan_error.new.log (λ d. fails InvalidArgument) (sigreturn)
    (λ S. misses (newest_frame (me_of actor).frames) _ _ (search rules)) c.plan_error.ensures.ok

pub returns-clause-ok : goal.returns-clause-ok
returns-clause-ok c =
    let frame : Frame = record { registers = c.frame.inside.registers; mask = bits_of c.frame.inside.mask } in
    let fits : FitsSigned w64 c.frame.inside.registers.ret = search rules in
    returned c.args.self.now c.args.log.now c.push_slots.new.log c.push.new.log c.push-2.new.log c.push_answer.new.self frame c.frame.inside.mask c.in_ok-none.none _ (to_z-of_z _ _ fits)
    c.in_ok-push_slots.ensures.ok c.in_ok-push.ensures.ok c.in_ok-push-2.ensures.ok c.in_ok-push_answer.ensures.ok refl (sym c.in-Some.ensures ∙ ap Some (sym c.frame.view_is)) c.in_ok-none.ensures c.len-few.ensures.fits
