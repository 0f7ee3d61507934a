use Rattle.std.proofs.Common.{◌≡◌, ◌++◌, ◌∷◌, List, [], sym, subst, ◌∙◌, ap, reverse, true≢false}
use Rattle.tx_base.specs.declared.steps.Accepted.{Accepted}
use Rattle.tx_base.specs.declared.steps.Step.{Step}
use Rattle.tx_content.specs.Content.{view_of}
use Rattle.tx_core.specs.Runs.{RunsFrom}
use Rattle.tx_model.specs.Answer.{IsAccepted}
use Rattle.tx_core.proofs.SoFar.{run_accepted, run_refused, answered_of, accepted_not}
use Rattle.tx_core.proofs.schedules.run_step.Goals as goal

pub returns-then-is_some-clause-run : goal.returns-then-is_some-clause-run
returns-then-is_some-clause-run c start earlier so =
    let step = c.args.step.now in
    let reply = c.step-reply.result.0 in
    let entries = c.args.history.now.items in
    let made : IsAccepted reply = c.step-reply.ensures.inverse.0 (sym c.if-is_some.ensures) in
    let items : entries ++ record { step = step; reply = reply } ∷ [] ≡ c.push_reserved.new.self.items =
    ap (λ (s : Step). entries ++ record { step = s; reply = reply } ∷ []) (sym c.copy-step.ensures)
    ∙ ap (λ (xs : List Accepted). xs ++ record { step = c.copy-step.result; reply = reply } ∷ []) (sym c.reserve.ensures.items)
    ∙ sym c.push_reserved.ensures.items in
    subst (λ (xs : List Accepted). RunsFrom start (earlier ++ step ∷ []) c.step-reply.new.self xs) items
    (run_accepted start earlier step c.args.machine.now c.step-reply.new.self entries reply so
    (answered_of (view_of c.args.machine.now) step reply c.step-reply.ensures.answer (accepted_not reply made)) made
    (c.step-reply.ensures.history made start (reverse entries) so.lawful so.view))

pub returns-clause-run : goal.returns-clause-run
returns-clause-run c start earlier so =
    let step = c.args.step.now in
    let reply = c.step-reply.result.0 in
    let entries = c.args.history.now.items in
    subst (λ (xs : List Accepted). RunsFrom start (earlier ++ step ∷ []) c.step-reply.new.self xs) (sym c.reserve.ensures.items)
    (run_refused start earlier step c.args.machine.now c.step-reply.new.self entries reply so
    (answered_of (view_of c.args.machine.now) step reply c.step-reply.ensures.answer (λ want. true≢false (sym (c.if-wants_memory.ensures.1 want))))
    (λ (made : IsAccepted reply). true≢false (sym (c.step-reply.ensures.inverse.1 made) ∙ sym c.if-is_some.ensures))
    (c.step-reply.ensures.refused (sym c.if-is_some.ensures)))
