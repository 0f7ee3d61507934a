use Rattle.std.proofs.Common.{◌≡◌, ◌∙◌, subst, sym, true≢false}
use Rattle.tx_journal.proofs.Trial.{answer_is, answer_made}
use Rattle.tx_journal.specs.Sessions.{SessionState, session_state}
use Rattle.tx_journal.specs.Trials.{answer_there}
use Rattle.tx_journal.proofs.session.Session.reply_to.Goals as goal

pub returns-then-is_made-clause-reply : goal.returns-then-is_made-clause-reply
returns-then-is_made-clause-reply c =
    subst (λ (k : SessionState). c.step_into-is_made.new.reply ≡ answer_there k c.args.step.now) c.self.view_is
    (answer_made (session_state c.self.inside.machine c.self.inside.journal c.self.inside.width c.self.inside.count) c.args.step.now c.step_into-is_made.new.reply c.self.invariant.0 c.step_into-is_made.ensures.answer
    (c.step_into-is_made.ensures.inverse.0 c.if-is_made.true))

pub returns-clause-reply : goal.returns-clause-reply
returns-clause-reply c =
    subst (λ (k : SessionState). c.step_into-is_made.new.reply ≡ answer_there k c.args.step.now) c.self.view_is
    (answer_is (session_state c.self.inside.machine c.self.inside.journal c.self.inside.width c.self.inside.count) c.args.step.now c.step_into-is_made.new.reply c.self.invariant.0 c.step_into-is_made.ensures.answer
    (λ wants. true≢false (sym (c.wants_memory.ensures.1 wants) ∙ c.if-wants_memory.false)))
