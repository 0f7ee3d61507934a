use Rattle.std.proofs.Common.{◌≡◌, ◌||◌, ◌==◌, [], false, pos, Some, if◌then◌else◌, rules, ◌∙◌}
use Rattle.tx_base.specs.declared.errors.Errno.TheVariants.{InvalidArgument}
use Rattle.tx_kernel.proofs.PageLines.{decides, finds, misses, passes}
use Rattle.tx_kernel.proofs.PartsOwned.{owned_page}
use Rattle.tx_model.specs.Book.{sigaction}
use Rattle.tx_model.specs.Forms.{changes, fails}
use Rattle.tx_model.specs.SignalSets.{kill_signo}
use Rattle.tx_model.specs.Signals.{without_signal, is_bad_action, known_signal, with_action}
use Rattle.tx_model.specs.Words.{is_ignored}
use Rattle.tx_kernel.proofs.actor.Actor.plan_sigaction.Goals as goal

pub returns-in_default-clause-ok : goal.returns-in_default-clause-ok
returns-in_default-clause-ok c =
    owned_page c.plan_error.result c.args.self.now c.args.log.now c.plan_error.new.log (λ d. fails InvalidArgument) (sigaction c.args.signo c.args.action)
    (λ S. misses (known_signal c.args.signo) _ _ (search rules)) c.plan_error.ensures.ok

pub returns-then-eq-clause-ok : goal.returns-then-eq-clause-ok
returns-then-eq-clause-ok c =
    let here : known_signal c.args.signo ≡ Some c.in-Some.signo.0 = search rules in
    owned_page c.plan_error-then-eq.result c.args.self.now c.args.log.now c.plan_error-then-eq.new.log (λ d. fails InvalidArgument) (sigaction c.args.signo c.args.action)
    (λ S. finds (known_signal c.args.signo) c.in-Some.signo.0 _ _ here
    ∙ decides (c.in-Some.signo.0 == kill_signo || is_bad_action c.args.action) _ _ (search rules)) c.plan_error-then-eq.ensures.ok

pub returns-clause-ok : goal.returns-clause-ok
returns-clause-ok c =
    let here : known_signal c.args.signo ≡ Some c.in-Some.signo.0 = search rules in
    let good : (c.in-Some.signo.0 == kill_signo || is_bad_action c.args.action) ≡ false = search rules in
    owned_page c.plan_action.result c.args.self.now c.args.log.now c.plan_action.new.log
    (λ d. changes (pos 0) (with_action c.in-Some.signo.0 c.args.action (if is_ignored c.in-Some.signo.0 c.args.action then without_signal c.in-Some.signo.0 d.process else d.process)) [])
    (sigaction c.args.signo c.args.action)
    (λ S. finds (known_signal c.args.signo) c.in-Some.signo.0 _ _ here ∙ passes (c.in-Some.signo.0 == kill_signo || is_bad_action c.args.action) _ _ good) c.plan_action.ensures.ok
