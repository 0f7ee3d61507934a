-- The pieces that a step may change cover what it changes.
use Rattle.std.proofs.Common.{◌≡◌, false, List, ◌∷◌, arith}
use Rattle.tx_base.specs.declared.steps.Accepted.{Accepted}
use Rattle.tx_base.specs.declared.steps.Reply.{Reply}
use Rattle.tx_base.specs.declared.steps.Step.{Step}
use Rattle.tx_journal.proofs.SameLines.{same_lines}
use Rattle.tx_journal.proofs.Walked.{lawful_to}
use Rattle.tx_journal.specs.Entries.{history_of}
use Rattle.tx_journal.specs.Pieces.{piece_text}
use Rattle.tx_journal.specs.Reach.{is_reached, reached_pieces, CoverChanges}
use Rattle.tx_journal.specs.ReachLaws.{ReachLaws}
use Rattle.tx_journal.specs.Sessions.{SessionState, start_of}
use Rattle.tx_journal.specs.Trials.{shown_at, shown_with, view_with}
use Rattle.tx_journal.specs.declared.pieces.Piece.{Piece}
use Rattle.tx_model.specs.Answer.{answer, IsAccepted, Lawful}
use Rattle.tx_model.specs.State.{State}
use Rattle.tx_model.specs.View.{View, view}

module _ (laws : ReachLaws) (start : State) (h : List Accepted) (step : Step) (lawful : Lawful start h) where
  abbrev V : View
  V = view start h

  after_accepted : (reply : Reply) → answer V step ≡ reply → IsAccepted reply → (piece : Piece) → is_reached V step piece ≡ false → piece_text piece V ≡ piece_text piece (view start (record { step = step; reply = reply } ∷ h))
  unfolding Lawful
  after_accepted reply is accepted piece unreached = grind (arith, same_lines)

  others_same : (piece : Piece) → is_reached V step piece ≡ false → piece_text piece V ≡ piece_text piece (view_with start h step)
  others_same piece unreached = grind (arith, after_accepted)

  pub covers : (found : List Piece) → found ≡ reached_pieces V step → CoverChanges V (view_with start h step) found
  covers found are = record { chosen = is_reached V step; are = are; others = others_same }

-- at the position of a session
pub covered : (laws : ReachLaws) (k : SessionState) (step : Step) → Lawful (start_of k) (history_of k.entries) → (now : View) → now ≡ shown_at k → (found : List Piece) → found ≡ reached_pieces now step → CoverChanges (shown_at k) (shown_with k step) found
covered laws k step lawful now seen found are = grind (arith, covers, lawful_to)
