use Rattle.std.proofs.Common.{rules, ◌≡◌, ◌+◌, ◌++◌, suc, ℕ, List, ◌∷◌, drop, string_bytes, refl, sym, ap, ◌∙◌, subst, add-one, drop-cons}
use Rattle.std.proofs.Math.ListN.{drop_of_length-le}
use Rattle.tx_base.specs.declared.steps.Step.{Step}
use Rattle.tx_script.proofs.Reported.{RepliesSoFar, one_reply_more, replies_whole}
use Rattle.tx_script.specs.Report.{line_text, lines_text}
use Rattle.tx_script.proofs.reports.put_replies.Goals as goal

pub loop-i-init : goal.loop-i-init
loop-i-init c = record {
  number = search rules;
  replies = λ start earlier after. record { history = earlier; after = after; leads = refl; lines = refl };
}

pub loop-i-preserved : goal.loop-i-preserved
loop-i-preserved c =
    let i = c.loop-i.i in
    let steps = c.args.steps.now in
    let step = c.index-steps-i.result in
    let reply = c.make_step.new.reply in
    let before = string_bytes c.args.text.now in
    let text = string_bytes c.loop-i.text in
    let cut : drop i steps ≡ step ∷ drop (i + 1) steps =
    drop-cons steps i c.index-steps-i.result c.loop-i-test.true
    ∙ ap (λ (x : Step). x ∷ drop (suc i) steps) (sym c.index-steps-i.is)
    ∙ ap (λ (n : ℕ). step ∷ drop n steps) (sym (add-one i)) in
    let put : string_bytes c.put_reply_line.new.text ≡ text ++ line_text (i + 1) reply =
    subst (λ (n : ℕ). string_bytes c.put_reply_line.new.text ≡ text ++ line_text n reply) c.loop-i.invariant.number c.in_ok-put_reply_line.ensures in
    record {
      number = c.in_ok-raise.ensures ∙ ap (λ (n : ℕ). n + 1) c.loop-i.invariant.number;
      replies = λ start earlier after. one_reply_more lines_text start earlier steps before c.loop-i.machine c.make_step.new.machine text (string_bytes c.put_reply_line.new.text) (line_text (i + 1) reply) (i + 1) step (drop (i + 1) steps) reply
          (subst (λ (xs : List Step). RepliesSoFar lines_text start earlier steps before c.loop-i.machine text (i + 1) xs) cut (c.loop-i.invariant.replies start earlier after))
          c.in_ok-make_step.ensures.answer (c.in_ok-make_step.ensures.after start) (λ others. refl) put;
    }

pub returns-clause-text : goal.returns-clause-text
returns-clause-text c start earlier after =
    (replies_whole lines_text start earlier c.args.steps.now (string_bytes c.args.text.now) c.loop-i.machine (string_bytes c.loop-i.text) (c.loop-i.i + 1) (drop c.loop-i.i c.args.steps.now)
    (c.loop-i.invariant.replies start earlier after) (drop_of_length-le c.args.steps.now c.loop-i-test.false) refl).0

pub returns-clause-after : goal.returns-clause-after
returns-clause-after c start earlier after =
    (replies_whole lines_text start earlier c.args.steps.now (string_bytes c.args.text.now) c.loop-i.machine (string_bytes c.loop-i.text) (c.loop-i.i + 1) (drop c.loop-i.i c.args.steps.now)
    (c.loop-i.invariant.replies start earlier after) (drop_of_length-le c.args.steps.now c.loop-i-test.false) refl).1
