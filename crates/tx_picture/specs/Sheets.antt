-- What rows are drawn by.
use Rattle.std.specs.Prelude.{ℕ, List, length}
use Rattle.tx_base.specs.declared.names.Pid.{Pid}
use Rattle.tx_picture.specs.Captions.{captioned_as, Captioned}
use Rattle.tx_picture.specs.Columns.{columns_of}
use Rattle.tx_picture.specs.Drawn.{Drawn}
use Rattle.tx_picture.specs.declared.sheets.Sheet.{Sheet}
use Rattle.tx_picture.specs.declared.spans.Span.{Span}

pub record Page : Type 0 where
  -- the processes that have a column, from the left to the right
  pub columns : List Pid
  -- where each process is a member of a transaction
  pub strips : List Span
  -- how many steps are before the first row
  pub before : ℕ
  -- the last row
  pub last : ℕ
  pub captioned : Captioned

abbrev pub page_as : Sheet → Page
page_as sheet =
    record {
      columns = sheet.columns.now;
      strips = sheet.strips.now;
      before = sheet.before;
      last = sheet.last;
      captioned = captioned_as sheet.captions.now;
    }

-- of what there is to draw
abbrev pub page_of : Captioned → Drawn → Page
page_of captioned drawn =
    record {
      columns = columns_of drawn;
      strips = drawn.strips;
      before = drawn.before;
      last = length drawn.rows;
      captioned = captioned;
    }
