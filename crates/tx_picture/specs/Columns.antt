-- Which column a process has.
use Rattle.std.specs.Prelude.{ℕ, Bool, List, [], ◌∷◌, ◌++◌, min, fold, Option, Some, None, position, if◌then◌else◌, ◌==◌}
use Rattle.std.specs.List.{list_any}
use Rattle.tx_base.specs.declared.names.Pid.{Pid}
use Rattle.tx_model.specs.Events.{process_of}
use Rattle.tx_picture.specs.Drawn.{Drawn}
use Rattle.tx_picture.specs.Ties.{tie_of}
use Rattle.tx_picture.specs.declared.passages.Passage.{Passage}
use Rattle.tx_picture.specs.declared.rows.Row.{Row}
use Rattle.tx_picture.specs.declared.spans.Span.{Span}
use Rattle.tx_picture.specs.declared.ties.Tie.{Tie}
use Rattle.tx_picture.specs.declared.ties.Tie.TheVariants.{Holder, Child, Signal}
use Rattle.tx_picture.specs.declared.waits.Wait.{Wait}

abbrev pub is_at : ℕ → Pid → Bool
is_at p column = column.0 == p

-- a column for the process, if it has none
abbrev pub noted : List Pid → Pid → List Pid
noted columns process =
    if list_any (is_at process.0) columns then columns else columns ++ process ∷ []

abbrev pub noted_spans : List Pid → List Span → List Pid
noted_spans = fold (λ columns span. noted columns span.process)

abbrev pub noted_writers : List Pid → List Passage → List Pid
noted_writers = fold (λ columns passage. noted columns passage.writer)

-- the process that something leads to
abbrev pub noted_tie : List Pid → Option Tie → List Pid
noted_tie columns None = columns
noted_tie columns (Some (Holder starter)) = noted columns starter
noted_tie columns (Some (Child child)) = noted columns child
noted_tie columns (Some (Signal target)) = noted columns target

-- the process whose step it is, and that to which something leads from it
abbrev pub noted_row : List Pid → Row → List Pid
noted_row columns row =
    noted_tie (noted columns (record { 0 = process_of row.step })) (tie_of row.step row.reply)

abbrev pub noted_rows : List Pid → List Row → List Pid
noted_rows = fold noted_row

-- those who could end a wait
abbrev pub noted_waits : List Pid → List Wait → List Pid
noted_waits = fold (λ columns wait. noted columns wait.awaited)

-- the processes from the left to the right: in the order in which they come, and then those that
-- never run
abbrev pub columns_of : Drawn → List Pid
columns_of drawn =
    noted_waits
    (noted_rows
    (noted_writers (noted_spans (noted_spans [] drawn.lanes) drawn.strips) drawn.passages)
    drawn.rows) drawn.waits

-- the number of a column from the left
abbrev pub place : Option ℕ → ℕ
place None = 0
place (Some column) = min column 1000

abbrev pub column_of : List Pid → ℕ → ℕ
column_of columns p = place (position (is_at p) columns)
