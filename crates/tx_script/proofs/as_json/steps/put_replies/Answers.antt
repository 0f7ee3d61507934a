use Rattle.std.proofs.Common.{◌≡◌, ◌+◌, ◌++◌, ◌<◌, ◌≤◌, ℕ, List, ◌∷◌, drop, get_or, length, refl, string_bytes, sym, ap, ◌∙◌, subst, add-one, arith, drop-cons}
use Rattle.std.proofs.Math.ListN.{drop_of_length-le}
use Rattle.std.proofs.lemmas.List.{drop-set-lt}
use Rattle.tx_base.specs.declared.steps.Step.{Step}
use Rattle.tx_journal.specs.Entries.{history_of}
use Rattle.tx_journal.specs.Sessions.{start_of}
use Rattle.tx_json.specs.Answers.{step_answer}
use Rattle.tx_script.proofs.JsonLined.{one_reply_more, replies_whole}
use Rattle.tx_script.proofs.StepsMade.{no_steps, one_step_more, steps_whole, StepsSoFar}
use Rattle.tx_script.specs.JsonLines.{line_of, step_lines, text_of}
use Rattle.tx_script.proofs.as_json.steps.put_replies.Goals as goal

pub loop-i-init : goal.loop-i-init
loop-i-init c = (no_steps c.args.session.now c.args.steps.now c.requires, refl)

pub loop-i-preserved : goal.loop-i-preserved
loop-i-preserved c =
    let i = c.loop-i.i in
    let first = c.args.session.now in
    let old = c.loop-i.session in
    let new = c.make_step.new.session in
    let all = c.args.steps.now in
    let steps = c.loop-i.steps in
    let step : Step = get_or steps i c.index-steps-i.result in
    let reply = c.make_step.new.reply in
    let left = drop (i + 1) steps in
    let text = string_bytes c.loop-i.text in
    let here : i < length steps = subst (λ (n : ℕ). i < n) (sym c.loop-i.auto.steps) c.loop-i-test.true in
    let cut : drop i steps ≡ step ∷ left =
    drop-cons steps i c.index-steps-i.result here
    ∙ ap (λ (n : ℕ). step ∷ drop n steps) (sym (add-one i)) in
    let so = subst (λ (xs : List Step). StepsSoFar first old all xs) cut c.loop-i.invariant.0 in
    let made = c.in_ok-make_step.ensures in
    let whole = string_bytes c.args.text.now ++ text_of (step_lines (start_of first) (history_of first.entries) all) in
    let lines = c.loop-i.invariant.1 ∙ ap (λ (xs : List Step). text ++ text_of (step_lines (start_of first) (history_of old.entries) xs)) cut in
    let later = sym (drop-set-lt (i + 1) steps i c.make_step.new.step (omega arith)) in (
      subst (StepsSoFar first new all) later (one_step_more first old new all step left reply so made.answer made.history made.boot made.at_end),
      one_reply_more first old new all step left reply so made.answer made.history text (string_bytes c.put_reply.new.text) whole lines
          (c.in_ok-put_reply.ensures.text ∙ ap (λ (n : ℕ). text ++ line_of (step_answer n reply)) c.len.ensures)
          ∙ ap (λ (xs : List Step). string_bytes c.put_reply.new.text ++ text_of (step_lines (start_of first) (history_of new.entries) xs)) later,
    )

pub returns-clause-text : goal.returns-clause-text
returns-clause-text c =
    let first = c.args.session.now in
    let none = drop_of_length-le c.loop-i.steps (subst (λ (n : ℕ). n ≤ c.loop-i.i) (sym c.loop-i.auto.steps) c.loop-i-test.false) in
    replies_whole (start_of first) (history_of c.loop-i.session.entries) (string_bytes c.loop-i.text)
    (string_bytes c.args.text.now ++ text_of (step_lines (start_of first) (history_of first.entries) c.args.steps.now)) (drop c.loop-i.i c.loop-i.steps) c.loop-i.invariant.1 none

pub returns-clause-history : goal.returns-clause-history
returns-clause-history c =
    steps_whole c.args.session.now c.loop-i.session c.args.steps.now (drop c.loop-i.i c.loop-i.steps) c.loop-i.invariant.0 (drop_of_length-le c.loop-i.steps (subst (λ (n : ℕ). n ≤ c.loop-i.i) (sym c.loop-i.auto.steps) c.loop-i-test.false))
