-- What is kept of what a step may change.
use Rattle.std.specs.Prelude.{◌≡◌, true}
use Rattle.tx_base.specs.declared.steps.Step.{Step}
use Rattle.tx_journal.specs.Lives.{has_place, starter_of}
use Rattle.tx_journal.specs.Reach.{own_table}
use Rattle.tx_journal.specs.declared.pieces.Piece.{Piece}
use Rattle.tx_journal.specs.declared.pieces.Piece.TheVariants as pieces
use Rattle.tx_journal.specs.declared.reach.Reach.{Reach}
use Rattle.tx_model.specs.Footprints.{footprint}
use Rattle.tx_model.specs.State.{Proc, Desc, Pipe}
use Rattle.tx_model.specs.View.{View, present}
use Rattle.tx_reserve.specs.Footprints.{IsSetOf}
use Rattle.tx_reserve.specs.Objects.{is_small}

-- it is that of the step
pub record Reaches (reach : Reach) (V : View) (step : Step) : Type 0 where
  pub starter : reach.starter.0 ≡ starter_of V.table step
  pub aborts : reach.aborts ≡ has_place V.table step
  pub names :
      IsSetOf reach.names (footprint (own_table (starter_of V.table step) V.table) step (present V))

-- the piece is of an object of a number that one may have, or it is a transaction
abbrev pub IsSmall : Piece → Type 0
IsSmall (pieces.Proc p) = is_small (Proc p.0) ≡ true
IsSmall (pieces.Page p number) = is_small (Proc p.0) ≡ true
IsSmall (pieces.Fd p fd) = is_small (Proc p.0) ≡ true
IsSmall (pieces.Pending p) = is_small (Proc p.0) ≡ true
IsSmall (pieces.Queue p) = is_small (Proc p.0) ≡ true
IsSmall (pieces.Ids p) = is_small (Proc p.0) ≡ true
IsSmall (pieces.Desc number) = is_small (Desc number.0) ≡ true
IsSmall (pieces.Pipe number) = is_small (Pipe number.0) ≡ true
IsSmall (pieces.Txn starter) = Unit {0}
