-- Stretches of columns, as the steps of a schedule begin and end them. Own rules.
use Rattle.std.specs.Prelude.{ℕ, zero, suc, Bool, ◌&&◌, ◌==◌, List, [], ◌∷◌, ◌++◌, map, Option, Some, None, is_none, if◌then◌else◌}
use Rattle.std.specs.List.{list_any}
use Rattle.tx_base.specs.declared.names.Pid.{Pid}
use Rattle.tx_picture.specs.declared.spans.End.{End}
use Rattle.tx_picture.specs.declared.spans.Span.{Span}

-- an open stretch of process p
abbrev pub is_open_at : ℕ → Span → Bool
is_open_at p span = is_none span.end && span.process.0 == p

abbrev pub has_open : ℕ → List Span → Bool
has_open p spans = list_any (is_open_at p) spans

-- it ends there, if it is an open stretch of a process without a holder
abbrev pub ended_by : (ℕ → Option Pid) → End → Span → Span
ended_by holders end span =
    if is_none span.end && is_none (holders span.process.0)
    then record span { end = Some end }
    else span

-- a stretch of process p, whose it is, from a row on
abbrev pub opened : ℕ → Pid → ℕ → Span
opened p holder row = record { process = record { 0 = p }; holder = holder; from = row; end = None }

-- one of process p begins in a row, where it has a holder and no open stretch
abbrev pub begun : ℕ → Option Pid → ℕ → List Span → List Span
begun p None row spans = spans
begun p (Some holder) row spans =
    if has_open p spans then spans else spans ++ opened p holder row ∷ []

-- the same of each process of the numbers 1 to n, by who its holder is
unfoldable pub begun_upto : (ℕ → Option Pid) → ℕ → ℕ → List Span → List Span
begun_upto holders row zero spans = spans
begun_upto holders row (suc n) spans =
    begun (suc n) (holders (suc n)) row (begun_upto holders row n spans)

-- after a step, by who has a holder then: where a process has one a stretch of it is open, and
-- where it has none, none is
abbrev pub followed_upto : (ℕ → Option Pid) → End → ℕ → List Span → List Span
followed_upto holders end n spans = begun_upto holders end.row n (map (ended_by holders end) spans)
