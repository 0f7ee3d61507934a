use Rattle.std.proofs.Common.{◌≡◌, subst}
use Rattle.tx_journal.proofs.Extended.{walks_view}
use Rattle.tx_journal.specs.Entries.{history_of}
use Rattle.tx_journal.specs.Sessions.{SessionState, made_of, start_of}
use Rattle.tx_content.specs.Content.{view_of}
use Rattle.tx_model.specs.View.{view}
use Rattle.tx_journal.proofs.session.Session.machine.Goals as goal

pub returns-clause-view : goal.returns-clause-view
returns-clause-view c =
    subst (λ (k : SessionState). view_of c.self.inside.machine ≡ view (start_of k) (history_of (made_of k))) c.self.view_is
    (walks_view _ c.self.inside.machine _ _ c.self.invariant.0.walks)
