use Rattle.std.proofs.Common.{◌≡◌, ◌∙◌, ap, map, string_bytes, subst, sym, true≢false}
use Rattle.tx_journal.proofs.Trial.{answer_is, answer_made, shown_made, shown_refused}
use Rattle.tx_journal.specs.Rows.{lines_of}
use Rattle.tx_journal.specs.Sessions.{SessionState, session_state}
use Rattle.tx_journal.specs.Trials.{answer_there, shown_with}
use Rattle.tx_journal.proofs.session.Session.trial.Goals as goal

pub returns-then-is_made-clause-reply : goal.returns-then-is_made-clause-reply
returns-then-is_made-clause-reply c =
    subst (λ (k : SessionState). c.step_into-is_made.new.reply ≡ answer_there k c.args.step.now) c.self.view_is
    (answer_made (session_state c.self.inside.machine c.self.inside.journal c.self.inside.width c.self.inside.count) c.args.step.now c.step_into-is_made.new.reply c.self.invariant.0 c.step_into-is_made.ensures.answer
    (c.step_into-is_made.ensures.inverse.0 c.if-is_made.true))

pub returns-then-is_made-clause-lines : goal.returns-then-is_made-clause-lines
returns-then-is_made-clause-lines c =
    subst (λ (k : SessionState). map string_bytes c.in_ok-texts.texts.items ≡ lines_of c.args.pieces.now (shown_with k c.args.step.now)) c.self.view_is
    (c.in_ok-texts.ensures.lines
    ∙ ap (lines_of c.args.pieces.now)
    (shown_made (session_state c.self.inside.machine c.self.inside.journal c.self.inside.width c.self.inside.count) c.args.step.now c.step_into-is_made.new.reply c.self.invariant.0 c.step_into-is_made.ensures.answer
    c.step_into-is_made.new.self (c.step_into-is_made.ensures.inverse.0 c.if-is_made.true) (c.step_into-is_made.ensures.history (c.step_into-is_made.ensures.inverse.0 c.if-is_made.true))))

pub returns-clause-reply : goal.returns-clause-reply
returns-clause-reply c =
    subst (λ (k : SessionState). c.step_into-is_made.new.reply ≡ answer_there k c.args.step.now) c.self.view_is
    (answer_is (session_state c.self.inside.machine c.self.inside.journal c.self.inside.width c.self.inside.count) c.args.step.now c.step_into-is_made.new.reply c.self.invariant.0 c.step_into-is_made.ensures.answer
    (λ wants. true≢false (sym (c.wants_memory.ensures.1 wants) ∙ c.if-wants_memory.false)))

pub returns-clause-lines : goal.returns-clause-lines
returns-clause-lines c =
    subst (λ (k : SessionState). map string_bytes c.in_ok-texts-2.texts.items ≡ lines_of c.args.pieces.now (shown_with k c.args.step.now)) c.self.view_is
    (c.in_ok-texts-2.ensures
    ∙ ap (lines_of c.args.pieces.now)
    (shown_refused (session_state c.self.inside.machine c.self.inside.journal c.self.inside.width c.self.inside.count) c.args.step.now c.step_into-is_made.new.reply c.self.invariant.0 c.step_into-is_made.ensures.answer
    c.step_into-is_made.new.self (λ accepted. true≢false (sym (c.step_into-is_made.ensures.inverse.1 accepted) ∙ c.if-is_made.false))
    (λ wants. true≢false (sym (c.wants_memory.ensures.1 wants) ∙ c.if-wants_memory.false)) (c.step_into-is_made.ensures.refused c.if-is_made.false)))
