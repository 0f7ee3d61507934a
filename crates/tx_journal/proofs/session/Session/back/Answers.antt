use Rattle.std.proofs.Common.{◌≡◌, ◌+◌, length, subst, OnOk}
use Rattle.tx_journal.proofs.Moves.{back_moved, went_back}
use Rattle.tx_journal.proofs.Walked.{leads_back}
use Rattle.tx_journal.specs.Sessions.{position_of, session_state, SessionState}
use Rattle.tx_journal.proofs.session.Session.back.Goals as goal

pub back-requires : goal.back-requires
back-requires c = record { leads = leads_back (session_state c.self.inside.machine c.self.inside.journal c.self.inside.width c.self.inside.count) c.self.invariant.0 }

pub invariant_of-self : goal.invariant_of-self
invariant_of-self c =
    went_back c.self.inside.machine c.self.inside.journal c.self.inside.width c.self.inside.count c.self.invariant c.is_kept.ensures c.back.result c.back.new.machine c.back.new.self
    c.back.ensures.start c.back.ensures.back c.back.ensures.err c.back.ensures.machine_err

pub returns-clause-moved : goal.returns-clause-moved
returns-clause-moved c =
    subst (λ (k : SessionState). OnOk c.back.result (length c.back.new.self.inverses + 1 ≡ position_of k)) c.self.view_is
    (back_moved c.self.inside.machine c.self.inside.journal c.self.inside.width c.self.inside.count c.self.invariant c.back.result c.back.new.machine c.back.new.self c.back.ensures.start c.back.ensures.back)
