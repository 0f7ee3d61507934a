-- Where a session is.
use Rattle.std.specs.Prelude.{ℕ, List}
use Rattle.tx_base.specs.declared.steps.Accepted.{Accepted}
use Rattle.tx_journal.specs.Entries.{history_of}
use Rattle.tx_journal.specs.Sessions.{made_of, position_of, start_of, SessionState}
use Rattle.tx_model.specs.View.{View, view}
use Rattle.tx_shell.specs.Origins.{Origin}
use Rattle.tx_shell.specs.declared.lines.versions.TextVersion.{TextVersion}

-- the history of all accepted steps, the newest first, and how many of them are made
pub record Place : Type 0 where
  pub history : List Accepted
  pub at : ℕ

abbrev pub place_of : SessionState → Place
place_of k = record { history = history_of k.entries; at = position_of k }

-- how it began
abbrev pub origin_of : TextVersion → SessionState → Origin
origin_of version k = record { version = version; width = k.width; count = k.count }

-- what there is to see of the steps that are made
abbrev pub view_at : SessionState → View
view_at k = view (start_of k) (history_of (made_of k))
