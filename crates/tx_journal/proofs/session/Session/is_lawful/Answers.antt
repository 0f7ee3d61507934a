use Rattle.std.proofs.Common.{[], subst}
use Rattle.tx_journal.specs.Entries.{history_of}
use Rattle.tx_journal.specs.Sessions.{SessionState, start_of}
use Rattle.tx_model.specs.Answer.{Agreement}
use Rattle.tx_moment.specs.Moments.{HasMoments}
use Rattle.tx_journal.proofs.session.Session.is_lawful.Goals as goal

pub returns-clause-agreement : goal.returns-clause-agreement
returns-clause-agreement c = subst (λ (k : SessionState). Agreement (start_of k) (history_of k.entries)) c.self.view_is (c.laws.ensures.agree _ [] _ c.self.invariant.0.lawful)

pub returns-clause-moments : goal.returns-clause-moments
returns-clause-moments c =
    let journal = c.self.invariant.0 in
    subst (λ (k : SessionState). HasMoments (start_of k) (history_of k.entries)) c.self.view_is (c.laws.ensures.moments _ _ journal.low journal.high _ journal.lawful)
