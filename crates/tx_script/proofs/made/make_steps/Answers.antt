use Rattle.std.proofs.Common.{◌≡◌, ◌+◌, ◌<◌, ◌≤◌, ℕ, List, ◌∷◌, drop, get_or, length, sym, ap, ◌∙◌, subst, add-one, arith, drop-cons}
use Rattle.std.proofs.Math.ListN.{drop_of_length-le}
use Rattle.std.proofs.lemmas.List.{drop-set-lt}
use Rattle.tx_base.specs.declared.steps.Step.{Step}
use Rattle.tx_script.proofs.StepsMade.{StepsSoFar, one_step_more, steps_whole}
use Rattle.tx_script.proofs.made.make_steps.Goals as goal

pub loop-i-preserved : goal.loop-i-preserved
loop-i-preserved c =
    let i = c.loop-i.i in
    let first = c.args.session.now in
    let all = c.args.steps.now in
    let steps = c.loop-i.steps in
    let step : Step = get_or steps i c.index-steps-i.result in
    let here : i < length steps = subst (λ (n : ℕ). i < n) (sym c.loop-i.auto.steps) c.loop-i-test.true in
    let cut : drop i steps ≡ step ∷ drop (i + 1) steps =
    drop-cons steps i c.index-steps-i.result here
    ∙ ap (λ (n : ℕ). step ∷ drop n steps) (sym (add-one i)) in
    let made = c.in_ok-make_step.ensures in
    subst (StepsSoFar first c.make_step.new.session all) (sym (drop-set-lt (i + 1) steps i c.make_step.new.step (omega arith)))
    (one_step_more first c.loop-i.session c.make_step.new.session all step (drop (i + 1) steps) c.make_step.new.reply
    (subst (λ (xs : List Step). StepsSoFar first c.loop-i.session all xs) cut c.loop-i.invariant) made.answer made.history made.boot made.at_end)

pub returns-clause-history : goal.returns-clause-history
returns-clause-history c =
    steps_whole c.args.session.now c.loop-i.session c.args.steps.now (drop c.loop-i.i c.loop-i.steps) c.loop-i.invariant
    (drop_of_length-le c.loop-i.steps (subst (λ (n : ℕ). n ≤ c.loop-i.i) (sym c.loop-i.auto.steps) c.loop-i-test.false))
