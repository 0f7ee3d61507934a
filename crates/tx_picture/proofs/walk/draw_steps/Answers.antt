use Rattle.std.proofs.Common.{◌≡◌, ◌+◌, suc, ℕ, List, ◌∷◌, drop, refl, sym, ap, ◌∙◌, subst, add-one, drop-cons}
use Rattle.std.proofs.Math.ListN.{drop_of_length-le}
use Rattle.tx_base.specs.declared.steps.Step.{Step}
use Rattle.tx_picture.proofs.DrawnSteps.{DrawnSoFar, one_step_more, steps_whole}
use Rattle.tx_picture.specs.Drawn.{drawn_as}
use Rattle.tx_picture.proofs.walk.draw_steps.Goals as goal

pub loop-i-init : goal.loop-i-init
loop-i-init c start earlier after = record { history = earlier; after = after; leads = refl }

pub loop-i-preserved : goal.loop-i-preserved
loop-i-preserved c start earlier after =
    let i = c.loop-i.i in
    let steps = c.args.steps.now in
    let step = c.index-steps-i.result in
    let first = drawn_as c.args.drawing.now in
    let drawn = drawn_as c.loop-i.drawing in
    let cut : drop i steps ≡ step ∷ drop (i + 1) steps =
    drop-cons steps i c.index-steps-i.result c.loop-i-test.true
    ∙ ap (λ (x : Step). x ∷ drop (suc i) steps) (sym c.index-steps-i.is)
    ∙ ap (λ (n : ℕ). step ∷ drop n steps) (sym (add-one i)) in
    one_step_more start earlier steps first c.loop-i.machine c.draw_step.new.machine drawn (drawn_as c.draw_step.new.drawing) (i + 1) step (drop (i + 1) steps)
    (subst (λ (xs : List Step). DrawnSoFar start earlier steps first c.loop-i.machine drawn (i + 1) xs) cut (c.loop-i.invariant start earlier after))
    c.in_ok-draw_step.ensures.drawn (c.in_ok-draw_step.ensures.after start)

pub returns-clause-drawn : goal.returns-clause-drawn
returns-clause-drawn c start earlier after =
    steps_whole start earlier c.args.steps.now (drawn_as c.args.drawing.now) c.loop-i.machine (drawn_as c.loop-i.drawing) (c.loop-i.i + 1) (drop c.loop-i.i c.args.steps.now)
    (c.loop-i.invariant start earlier after) (drop_of_length-le c.args.steps.now c.loop-i-test.false)
