-- How signals are shown, also those that a transaction holds until its commit.
use Rattle.std.specs.Prelude.{ℕ, ◌+◌, ◌-◌, Bool, true, ◌&&◌, ◌==◌, List, ◌++◌, Option, Some, None, codes, find, if◌then◌else◌, nat_le}
use Rattle.tx_base.specs.declared.names.Pid.{Pid}
use Rattle.tx_model.specs.Events.{process_of}
use Rattle.tx_picture.specs.Layout.{y_of}
use Rattle.tx_picture.specs.Svg.{shape_text}
use Rattle.tx_picture.specs.declared.elements.Shape.TheVariants.{Line}
use Rattle.tx_picture.specs.declared.held.Place.{Place}
use Rattle.tx_picture.specs.declared.rows.Row.{Row}
use Rattle.tx_picture.specs.declared.spans.End.{End}
use Rattle.tx_picture.specs.declared.spans.Span.{Span}

abbrev pub reaches : Option End → ℕ → Bool
reaches None row = true
reaches (Some end) row = nat_le row end.row

-- whether it is a stretch of process p, and has that row
abbrev pub covers : ℕ → ℕ → Span → Bool
covers p row strip = strip.process.0 == p && nat_le strip.from row && reaches strip.end row

abbrev pub end_of : Option Span → Option End
end_of None = None
end_of (Some strip) = strip.end

-- where the transaction ends that process p is a member of in a row
abbrev pub end_at : List Span → ℕ → ℕ → Option End
end_at strips p row = end_of (find (covers p row) strips)

-- down from the sender to where it stays
abbrev pub kept_text : Place → ℕ → List ℕ
kept_text place bottom =
    shape_text Line (codes "held")
    (record { 0 = place.x; 1 = place.y; 2 = place.x + 12; 3 = place.y })
    ++ shape_text Line (codes "held")
    (record { 0 = place.x + 12; 1 = place.y; 2 = place.x + 12; 3 = bottom })

-- on from a commit to the target, or dropped at an abort
abbrev pub sent_text : Place → ℕ → Bool → List ℕ
sent_text place bottom aborted =
    if aborted then shape_text Line (codes "dropped")
    (record { 0 = place.x + 12 - 6; 1 = bottom; 2 = place.x + 12 + 6; 3 = bottom })
    else shape_text Line (codes "signal")
    (record { 0 = place.x + 12; 1 = bottom; 2 = place.to; 3 = bottom })

-- a signal that is held, in a transaction that ends there
abbrev pub held_text : Place → ℕ → Option End → List ℕ
held_text place last None = kept_text place (y_of last + 8)
held_text place last (Some end) =
    kept_text place (y_of end.row + 8) ++ sent_text place (y_of end.row + 8) end.aborted

abbrev pub signal_by : Option End → Place → ℕ → Option Pid → List ℕ
signal_by end place last None =
    shape_text Line (codes "signal")
    (record { 0 = place.x; 1 = place.y; 2 = place.to; 3 = place.y })
signal_by end place last (Some holder) = held_text place last end

-- a signal: an arrow to its target, which is bent to the commit where a transaction holds it
unfoldable pub signal_text : Place → List Span → ℕ → ℕ → Row → List ℕ
signal_text place strips last number row =
    signal_by (end_at strips (process_of row.step) number) place last row.holder
