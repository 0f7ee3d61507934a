use Rattle.std.proofs.Common.{◌≤◌, length, subst}
use Rattle.tx_journal.specs.Sessions.{SessionState, position_of}
use Rattle.tx_journal.proofs.session.Session.position.Goals as goal

pub returns-clause-inside : goal.returns-clause-inside
returns-clause-inside c = subst (λ (k : SessionState). position_of k ≤ length k.entries) c.self.view_is c.self.invariant.0.few
