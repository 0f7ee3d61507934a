use Rattle.std.proofs.Common.{not, nat_lt, ap, sym, w64, rules, ◌∙◌, to_z, of_z}
use Rattle.std.proofs.lemmas.Bool.{le-ltb, lt-ltb}
use Rattle.std.proofs.lemmas.Int.{to_z-of_z}
use Rattle.std.specs.Prelude.{FitsSigned}
use Rattle.tx_base.specs.declared.errors.Errno.TheVariants.{InvalidArgument}
use Rattle.tx_base.specs.declared.limits.TheConstants.{LAST_POINT}
use Rattle.tx_base.specs.declared.steps.Reply.TheVariants.{Done}
use Rattle.tx_kernel.proofs.Owned.{own_reply}
use Rattle.tx_kernel.proofs.PageLines.{decides, passes}
use Rattle.tx_kernel.proofs.PartsOwned.{own_same, owned_page, part_more, part_none, part_whole}
use Rattle.tx_kernel.specs.Actors.{effect_by, me_of}
use Rattle.tx_kernel.specs.declared.planned.Outcome.TheVariants as outcome
use Rattle.tx_model.specs.Book.{jump, is_jump_taken}
use Rattle.tx_model.specs.Words.{last_ret, stands_at, own_effect}
use Rattle.tx_model.specs.Forms.{answers, effect_of, fails, stands}
use Rattle.tx_model.specs.State.{Process}
use Rattle.tx_proc.specs.Parts.{revised}
use Rattle.tx_proc.specs.declared.proc.Part.TheVariants.{Answer as SetAnswer}
use Rattle.tx_kernel.proofs.actor.Actor.plan_jump.Goals as goal

pub returns-then-point-gt-LAST_POINT-clause-ok : goal.returns-then-point-gt-LAST_POINT-clause-ok
returns-then-point-gt-LAST_POINT-clause-ok c =
    let actor = c.args.self.now in
    owned_page c.plan_error.result actor c.args.log.now c.plan_error.new.log (λ d. fails InvalidArgument) (jump c.args.point c.args.when)
    (λ S. decides (nat_lt LAST_POINT c.args.point) _ _ (lt-ltb LAST_POINT c.args.point c.if-point-gt-LAST_POINT.true)) c.plan_error.ensures.ok

pub returns-then-not-does_jump-clause-ok : goal.returns-then-not-does_jump-clause-ok
returns-then-not-does_jump-clause-ok c =
    let actor = c.args.self.now in
    let fits : FitsSigned w64 actor.proc.now.regs.ret = search rules in
    let same = to_z-of_z w64 actor.proc.now.regs.ret fits in
    owned_page c.plan_answer.result actor c.args.log.now c.plan_answer.new.log (λ d. answers (last_ret d.process)) (jump c.args.point c.args.when)
    (λ S. passes (nat_lt LAST_POINT c.args.point) _ _ (le-ltb LAST_POINT c.args.point c.if-point-gt-LAST_POINT.false)
    ∙ decides (not (is_jump_taken c.args.when (last_ret (me_of actor)))) _ _ (ap not (sym (simp same at c.if-not-does_jump.ensures)))) (simp same at c.plan_answer.ensures.ok)

pub returns-clause-ok : goal.returns-clause-ok
returns-clause-ok c =
    let actor = c.args.self.now in
    let me : Process = me_of actor in
    let fits : FitsSigned w64 actor.proc.now.regs.ret = search rules in
    let same = to_z-of_z w64 actor.proc.now.regs.ret fits in
    let ret = to_z w64 (of_z w64 actor.proc.now.regs.ret) in
    let part = SetAnswer (record { point = c.args.point; ret = ret }) in
    own_same actor c.args.log.now c.push_answer.new.self (outcome.Done ret) (λ S. own_reply actor (outcome.Done ret) (revised part me)) (effect_by actor (jump c.args.point c.args.when))
    (part_whole actor c.args.log.now c.push_answer.new.self (outcome.Done ret) (revised part)
    (part_more actor c.args.log.now c.args.log.now c.push_answer.new.self (λ q. q) part (part_none actor c.args.log.now) tt tt c.in_ok-push_answer.ensures.ok) tt)
    (λ S. (λ j. own_effect actor.pid.0 (record { process = record me { registers = record me.registers { point = c.args.point; ret = same j } }; reply = Done (same j) }))
    ∙ sym (ap (effect_of actor.pid.0 me) (passes (nat_lt LAST_POINT c.args.point) _ _ (le-ltb LAST_POINT c.args.point c.if-point-gt-LAST_POINT.false)
    ∙ passes (not (is_jump_taken c.args.when (last_ret me))) _ (stands (stands_at c.args.point me) (Done (last_ret me))) (ap not (sym (simp same at c.if-not-does_jump.ensures))))))
