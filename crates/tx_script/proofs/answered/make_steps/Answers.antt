use Rattle.std.proofs.Common.{rules, ◌≡◌, ◌+◌, ◌++◌, suc, ℕ, List, [], ◌∷◌, drop, refl, sym, ap, ◌∙◌, subst, add-one, drop-cons}
use Rattle.std.proofs.Math.ListN.{drop_of_length-le}
use Rattle.tx_base.specs.declared.steps.Step.{Step}
use Rattle.tx_script.proofs.Reported.{RepliesSoFar, as_they_are, one_reply_more, replies_whole}
use Rattle.tx_script.proofs.answered.make_steps.Goals as goal

pub loop-i-init : goal.loop-i-init
loop-i-init c start earlier after = record { history = earlier; after = after; leads = refl; lines = refl }

pub loop-i-preserved : goal.loop-i-preserved
loop-i-preserved c start earlier after =
    let i = c.loop-i.i in
    let steps = c.args.steps.now in
    let step = c.index-steps-i.result in
    let before = c.args.replies.now.items in
    let reply = c.make_step.new.reply in
    let cut : drop i steps ≡ step ∷ drop (i + 1) steps =
    drop-cons steps i c.index-steps-i.result c.loop-i-test.true
    ∙ ap (λ (x : Step). x ∷ drop (suc i) steps) (sym c.index-steps-i.is)
    ∙ ap (λ (n : ℕ). step ∷ drop n steps) (sym (add-one i)) in
    let put : c.push.new.self.items ≡ c.loop-i.replies.items ++ reply ∷ [] = search rules in
    one_reply_more as_they_are start earlier steps before c.loop-i.machine c.make_step.new.machine c.loop-i.replies.items c.push.new.self.items (reply ∷ []) (i + 1) step (drop (i + 1) steps) reply
    (subst (λ (xs : List Step). RepliesSoFar as_they_are start earlier steps before c.loop-i.machine c.loop-i.replies.items (i + 1) xs) cut (c.loop-i.invariant start earlier after))
    c.in_ok-make_step.ensures.answer (c.in_ok-make_step.ensures.after start) (λ others. refl) put

pub returns-clause-replies : goal.returns-clause-replies
returns-clause-replies c start earlier after =
    (replies_whole as_they_are start earlier c.args.steps.now c.args.replies.now.items c.loop-i.machine c.loop-i.replies.items (c.loop-i.i + 1) (drop c.loop-i.i c.args.steps.now)
    (c.loop-i.invariant start earlier after) (drop_of_length-le c.args.steps.now c.loop-i-test.false) refl).0

pub returns-clause-after : goal.returns-clause-after
returns-clause-after c start earlier after =
    (replies_whole as_they_are start earlier c.args.steps.now c.args.replies.now.items c.loop-i.machine c.loop-i.replies.items (c.loop-i.i + 1) (drop c.loop-i.i c.args.steps.now)
    (c.loop-i.invariant start earlier after) (drop_of_length-le c.args.steps.now c.loop-i-test.false) refl).1
