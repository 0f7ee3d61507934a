use Rattle.std.proofs.Common.{rules}
use Rattle.tx_base.specs.declared.errors.Errno.TheVariants.{InvalidArgument}
use Rattle.tx_kernel.proofs.AnyCall.{answers_error}
use Rattle.tx_kernel.proofs.PartsOwned.{owned_page}
use Rattle.tx_kernel.specs.Actors.{caller_of}
use Rattle.tx_model.specs.Book.{page_of_call}
use Rattle.tx_model.specs.Forms.{fails}
use Rattle.tx_kernel.proofs.actor.Actor.plan_own.Goals as goal

pub returns-in_default-clause-ok : goal.returns-in_default-clause-ok
returns-in_default-clause-ok c alone =
    let actor = c.args.self.now in
    owned_page c.plan_error.result actor c.args.log.now c.plan_error.new.log (λ d. fails InvalidArgument) (page_of_call c.args.call.now).outcome
    (λ S. answers_error c.args.call.now alone (search rules) (caller_of actor S)) c.plan_error.ensures.ok
