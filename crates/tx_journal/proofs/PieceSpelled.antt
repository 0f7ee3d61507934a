-- The lines of a transaction, as a piece of the state that a machine has.
use Rattle.std.proofs.Common.{◌≡◌, ℕ, ◌≤◌, Option, List, ◌++◌, arith}
use Rattle.std.proofs.lemmas.Bool.{le-leb}
use Rattle.tx_base.specs.Slots.{slot_at}
use Rattle.tx_base.specs.declared.marks.Mark.{Mark}
use Rattle.tx_base.specs.declared.names.Pid.{Pid}
use Rattle.tx_journal.proofs.StateSpelled.{marks_are}
use Rattle.tx_journal.specs.Pieces.{piece_text}
use Rattle.tx_journal.specs.declared.pieces.Piece.TheVariants.{Txn}
use Rattle.tx_content.specs.Content.{view_of}
use Rattle.tx_content.specs.declared.content.Content.{Content}
use Rattle.tx_model.specs.State.{Sending}
use Rattle.tx_model.specs.View.{present}
use Rattle.tx_state_text.specs.Txns.{mark_text}

pub txn_spelled : (k : Content) (starter : Pid) (width : ℕ) (slots : ℕ → Option Mark) (held : List Sending) (before after : List ℕ) → width ≡ (view_of k).table.width → starter.0 ≤ width → slots ≡ slot_at k.marks →
    held ≡ (present (view_of k)).held starter.0 → after ≡ before ++ mark_text width slots starter.0 held (slots starter.0) → after ≡ before ++ piece_text (Txn starter) (view_of k)
txn_spelled k starter width slots held before after wide inside kept holds put = grind (arith, le-leb, marks_are)
