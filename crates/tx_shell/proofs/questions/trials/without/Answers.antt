use Rattle.std.proofs.Common.{◌≡◌, ◌∙◌, Bool, None, Some, ap, false, if◌then◌else◌, sym, true}
use Rattle.tx_base.specs.declared.steps.Step.TheVariants.{KernelAbort}
use Rattle.tx_journal.specs.Trials.{shown_at, shown_with}
use Rattle.tx_model.specs.Membership.{is_live}
use Rattle.tx_model.specs.View.{View}
use Rattle.tx_shell.specs.Differences.{views_differing}
use Rattle.tx_shell.proofs.questions.trials.without.Goals as goal

pub returns-then-not-is_live-clause-answer : goal.returns-then-not-is_live-clause-answer
returns-then-not-is_live-clause-answer c =
    let k = c.args.session.now in
    let s = c.args.starter in
    let lines = views_differing (shown_at k) (shown_with k (KernelAbort (record { 0 = s }))) in
    let dead : is_live (shown_at k).table s ≡ false = ap (λ (V : View). is_live V.table s) (sym c.machine.ensures.view) ∙ sym c.is_live.ensures ∙ c.if-not-is_live.true in
    ap (λ (live : Bool). if live then Some lines else None) (sym dead)

pub returns-clause-answer : goal.returns-clause-answer
returns-clause-answer c =
    let k = c.args.session.now in
    let s = c.args.starter in
    let lines = views_differing (shown_at k) (shown_with k (KernelAbort (record { 0 = s }))) in
    let alive : is_live (shown_at k).table s ≡ true = ap (λ (V : View). is_live V.table s) (sym c.machine.ensures.view) ∙ sym c.is_live.ensures ∙ c.if-not-is_live.false in
    ap Some c.in_ok-_reply.ensures.lines ∙ ap (λ (live : Bool). if live then Some lines else None) (sym alive)
