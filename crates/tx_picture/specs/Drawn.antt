-- What there is to draw of a schedule.
use Rattle.std.specs.Prelude.{ℕ, List}
use Rattle.tx_picture.specs.declared.drawing.Drawing.{Drawing}
use Rattle.tx_picture.specs.declared.passages.Passage.{Passage}
use Rattle.tx_picture.specs.declared.passages.Written.{Written}
use Rattle.tx_picture.specs.declared.rows.Row.{Row}
use Rattle.tx_picture.specs.declared.spans.Span.{Span}
use Rattle.tx_picture.specs.declared.waits.Wait.{Wait}

pub record Drawn : Type 0 where
  -- how many steps are before the first row
  pub before : ℕ
  -- the steps with their answers, in order
  pub rows : List Row
  -- where each process runs
  pub lanes : List Span
  -- where each process is a member of a transaction: a transaction's box is the stretches of its
  -- members
  pub strips : List Span
  -- the writes to pipes, the newest first
  pub written : List Written
  -- what went through pipes, by the reads, the first one first
  pub passages : List Passage
  -- who could end a wait, by the steps that wait
  pub waits : List Wait

abbrev pub drawn_as : Drawing → Drawn
drawn_as drawing = record {
  before = drawing.before;
  rows = drawing.rows.items;
  lanes = drawing.lanes.items;
  strips = drawing.strips.items;
  written = drawing.written.items;
  passages = drawing.passages.items;
  waits = drawing.waits.items;
}
