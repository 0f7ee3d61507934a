use Rattle.std.proofs.Common.{◌+◌, is_some, not, ap, pos, sym, w64, ◌∙◌}
use Rattle.std.proofs.lemmas.Int.{to_z-of_z}
use Rattle.tx_base.specs.declared.errors.Errno.TheVariants.{BadAddress, InvalidArgument}
use Rattle.tx_base.specs.declared.limits.TheConstants.{CONSOLE_BYTES}
use Rattle.tx_base.specs.declared.steps.Reply.TheVariants.{Out}
use Rattle.tx_kernel.proofs.PageLines.{decides, finds, misses, passes}
use Rattle.tx_kernel.proofs.PartsOwned.{inside_is, owned_page}
use Rattle.tx_kernel.specs.Actors.{inside_of, me_of}
use Rattle.tx_model.specs.Book.{console_write, closed_inside}
use Rattle.tx_model.specs.Effects.{with_answer}
use Rattle.tx_model.specs.Forms.{answers, fails, stands}
use Rattle.tx_model.specs.Memory.{address_of, bytes_at, is_good, is_mapped}
use Rattle.tx_model.specs.Numbers.{below}
use Rattle.tx_kernel.proofs.actor.Actor.plan_console_write.Goals as goal

pub returns-then-is_some-clause-ok : goal.returns-then-is_some-clause-ok
returns-then-is_some-clause-ok c =
    let actor = c.args.self.now in
    owned_page c.plan_answer.result actor c.args.log.now c.plan_answer.new.log (λ d. answers closed_inside) (console_write c.args.address c.args.count)
    (λ S. decides (is_some (inside_of actor.inside)) _ _ (inside_is actor.inside ∙ sym c.if-is_some.ensures)) c.plan_answer.ensures.ok

pub returns-in_default-clause-ok : goal.returns-in_default-clause-ok
returns-in_default-clause-ok c =
    let actor = c.args.self.now in
    owned_page c.plan_error.result actor c.args.log.now c.plan_error.new.log (λ d. fails InvalidArgument) (console_write c.args.address c.args.count)
    (λ S. passes (is_some (inside_of actor.inside)) _ _ (inside_is actor.inside ∙ sym c.if-is_some.ensures)
    ∙ misses (below (CONSOLE_BYTES + 1) c.args.count) _ _ (sym (simp (to_z-of_z w64 c.args.count c.ranges.count) at c.in_default.ensures))) c.plan_error.ensures.ok

pub returns-then-not-is_good-clause-ok : goal.returns-then-not-is_good-clause-ok
returns-then-not-is_good-clause-ok c =
    let actor = c.args.self.now in
    owned_page c.plan_error-then-not-is_good.result actor c.args.log.now c.plan_error-then-not-is_good.new.log (λ d. fails BadAddress) (console_write c.args.address c.args.count)
    (λ S. passes (is_some (inside_of actor.inside)) _ _ (inside_is actor.inside ∙ sym c.if-is_some.ensures)
    ∙ finds (below (CONSOLE_BYTES + 1) c.args.count) c.in-Some.count _ _ (sym (simp (to_z-of_z w64 c.args.count c.ranges.count) at c.in-Some.ensures))
    ∙ decides (not (is_good is_mapped (me_of actor).memory c.args.address c.in-Some.count)) _ _
    (ap not (sym (simp (to_z-of_z w64 c.args.address c.ranges.address) at c.if-not-is_good.ensures)))) c.plan_error-then-not-is_good.ensures.ok

pub returns-clause-ok : goal.returns-clause-ok
returns-clause-ok c =
    let actor = c.args.self.now in
    owned_page c.plan_shown.result actor c.args.log.now c.plan_shown.new.log
    (λ d. stands (with_answer (pos c.in-Some.count) d.process) (Out (record { items = bytes_at d.process.memory (address_of c.args.address) c.in-Some.count }))) (console_write c.args.address c.args.count)
    (λ S. passes (is_some (inside_of actor.inside)) _ _ (inside_is actor.inside ∙ sym c.if-is_some.ensures)
    ∙ finds (below (CONSOLE_BYTES + 1) c.args.count) c.in-Some.count _ _ (sym (simp (to_z-of_z w64 c.args.count c.ranges.count) at c.in-Some.ensures))
    ∙ passes (not (is_good is_mapped (me_of actor).memory c.args.address c.in-Some.count)) _ _
    (ap not (sym (simp (to_z-of_z w64 c.args.address c.ranges.address) at c.if-not-is_good.ensures)))) (simp (to_z-of_z w64 c.args.address c.ranges.address) at c.plan_shown.ensures.ok)
