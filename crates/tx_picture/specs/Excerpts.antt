-- What there is to draw of an excerpt of a schedule: of the steps from one to another. Own rules.
use Rattle.std.specs.Prelude.{ℕ, ◌-◌, Bool, true, List, drop, filter, length, map, min, nat_lt, Option, Some, None, option_map, take}
use Rattle.tx_base.specs.declared.steps.Step.{Step}
use Rattle.tx_lines.specs.declared.read.header.Header.{Header}
use Rattle.tx_picture.specs.Drawings.{drawing_of}
use Rattle.tx_picture.specs.Drawn.{Drawn}
use Rattle.tx_picture.specs.declared.excerpts.Excerpt.{Excerpt}
use Rattle.tx_picture.specs.declared.passages.Passage.{Passage}
use Rattle.tx_picture.specs.declared.spans.End.{End}
use Rattle.tx_picture.specs.declared.spans.Span.{Span}
use Rattle.tx_picture.specs.declared.waits.Wait.{Wait}

-- whether what ends there reaches past so many rows
abbrev pub reaches_past : ℕ → Option End → Bool
reaches_past before None = true
reaches_past before (Some end) = nat_lt before end.row

abbrev pub is_span_after : ℕ → Span → Bool
is_span_after before span = reaches_past before span.end

-- after so many rows: what was there before is in row 0, at the top edge
abbrev pub end_after : ℕ → End → End
end_after before end = record end { row = end.row - before }

abbrev pub span_after : ℕ → Span → Span
span_after before span =
    record span { from = span.from - before; end = option_map (end_after before) span.end }

abbrev pub spans_after : ℕ → List Span → List Span
spans_after before spans = map (span_after before) (filter (is_span_after before) spans)

-- what is read there
abbrev pub is_read_after : ℕ → Passage → Bool
is_read_after before passage = nat_lt before passage.read

abbrev pub passage_after : ℕ → Passage → Passage
passage_after before passage =
    record passage { written = passage.written - before; read = passage.read - before }

abbrev pub passages_after : ℕ → List Passage → List Passage
passages_after before passages = map (passage_after before) (filter (is_read_after before) passages)

-- who could end a wait there
abbrev pub is_wait_after : ℕ → Wait → Bool
is_wait_after before wait = nat_lt before wait.row

abbrev pub wait_after : ℕ → Wait → Wait
wait_after before wait = record wait { row = wait.row - before }

abbrev pub waits_after : ℕ → List Wait → List Wait
waits_after before waits = map (wait_after before) (filter (is_wait_after before) waits)

-- what there is to draw after so many rows
abbrev pub excerpt_of : ℕ → Drawn → Drawn
excerpt_of before drawn = record {
  before = before;
  rows = drop before drawn.rows;
  lanes = spans_after before drawn.lanes;
  strips = spans_after before drawn.strips;
  written = drawn.written;
  passages = passages_after before drawn.passages;
  waits = waits_after before drawn.waits;
}

-- the steps to the last one of an excerpt, and how many of them are before its first one
abbrev pub made_for : Excerpt → List Step → List Step
made_for excerpt steps = take excerpt.to steps

abbrev pub before_in : Excerpt → List Step → ℕ
before_in excerpt steps = min (excerpt.from - 1) (length (made_for excerpt steps))

-- those before it
abbrev pub steps_before : Excerpt → List Step → List Step
steps_before excerpt steps = take (before_in excerpt steps) (made_for excerpt steps)

-- what there is to draw of an excerpt of a schedule, as if its last step were the schedule's
abbrev pub drawing_in : Excerpt → Header → List Step → Drawn
drawing_in excerpt header steps =
    excerpt_of (before_in excerpt steps) (drawing_of header (made_for excerpt steps))
