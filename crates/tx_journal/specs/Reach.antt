-- What a step may change of the state. Own rules.
use Rattle.std.specs.Prelude.{◌≡◌, ℕ, Bool, false, ◌==◌, ◌||◌, ◌&&◌, List, Option, Some, None, if◌then◌else◌}
use Rattle.std.specs.List.{filter}
use Rattle.tx_base.specs.declared.marks.Mark.{Mark}
use Rattle.tx_base.specs.declared.steps.Step.{Step}
use Rattle.tx_journal.specs.Lives.{has_place, starter_of}
use Rattle.tx_journal.specs.Pieces.{piece_text}
use Rattle.tx_journal.specs.Rows.{state_pieces}
use Rattle.tx_journal.specs.declared.pieces.Piece.{Piece}
use Rattle.tx_journal.specs.declared.pieces.Piece.TheVariants as pieces
use Rattle.tx_model.specs.Footprints.{footprint}
use Rattle.tx_model.specs.Membership.{Table}
use Rattle.tx_model.specs.State.{Object, Proc, Desc, Pipe, has_object}
use Rattle.tx_model.specs.View.{View, present}

-- a mark, if it is one of the transaction of s
abbrev pub own_mark : ℕ → Option Mark → Option Mark
own_mark s None = None
own_mark s (Some m) = if m.starter.0 == s then Some m else None

-- the table with only its members
abbrev pub own_table : ℕ → Table → Table
own_table s t = record t { marks = λ n. own_mark s (t.marks n) }

module _ (V : View) (step : Step) where
  -- whether the step names the object, as if no other transaction were live: so each process that
  -- it sends a signal is among what it names
  abbrev pub is_named : Object → Bool
  is_named o =
      has_object o (footprint (own_table (starter_of V.table step) V.table) step (present V))

  -- whether it aborts a transaction that has reserved the object
  abbrev pub is_given_up : Object → Bool
  is_given_up o = has_place V.table step && V.reserved (starter_of V.table step) o

  abbrev pub may_change : Object → Bool
  may_change o = is_named o || is_given_up o

  -- whether it may change the lines of a piece: an object's, or those of the transaction that it is
  -- a step of
  abbrev pub is_reached : Piece → Bool
  is_reached (pieces.Proc p) = may_change (Proc p.0)
  is_reached (pieces.Page p number) = may_change (Proc p.0)
  is_reached (pieces.Fd p fd) = may_change (Proc p.0)
  is_reached (pieces.Pending p) = may_change (Proc p.0)
  is_reached (pieces.Queue p) = may_change (Proc p.0)
  is_reached (pieces.Ids p) = may_change (Proc p.0)
  is_reached (pieces.Desc number) = may_change (Desc number.0)
  is_reached (pieces.Pipe number) = may_change (Pipe number.0)
  is_reached (pieces.Txn starter) = starter.0 == starter_of V.table step

  -- the pieces of the state that it may change
  abbrev pub reached_pieces : List Piece
  reached_pieces = filter is_reached (state_pieces V.table.width)

-- some pieces of a state, in its order: every other one has the same lines in both views
pub record CoverChanges (V W : View) (some : List Piece) : Type 0 where
  pub chosen : Piece → Bool
  pub are : some ≡ filter chosen (state_pieces V.table.width)
  pub others : (piece : Piece) → chosen piece ≡ false → piece_text piece V ≡ piece_text piece W
