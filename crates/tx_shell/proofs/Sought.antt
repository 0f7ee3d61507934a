-- Walks that seek a change of a piece, as far as they are gone.
use Rattle.std.proofs.Common.{ℕ, ◌≤◌, List}
use Rattle.tx_journal.specs.Sessions.{SameJournal, SessionState, position_of}
use Rattle.tx_journal.specs.declared.pieces.Piece.{Piece}
use Rattle.tx_shell.specs.Changes.{shown_in, AllShow}

-- so far the piece stayed as it was, back from the first position
pub record GoneBack (first now : SessionState) (piece : Piece) (lines : List ℕ) : Type 0 where
  pub inside : position_of now ≤ position_of first
  pub same : AllShow (shown_in first piece) lines (position_of now) (position_of first)
  pub journal : SameJournal now first

-- so far it did, on from the first position
pub record GoneOn (first now : SessionState) (piece : Piece) (lines : List ℕ) : Type 0 where
  pub inside : position_of first ≤ position_of now
  pub same : AllShow (shown_in first piece) lines (position_of first) (position_of now)
  pub journal : SameJournal now first
