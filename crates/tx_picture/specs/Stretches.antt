-- How stretches of columns are shown: lanes, and the boxes of transactions.
use Rattle.std.specs.Prelude.{ℕ, ◌+◌, ◌-◌, ◌==◌, List, [], ◌++◌, Option, Some, None, codes, if◌then◌else◌}
use Rattle.std.specs.Fmt.{decimal}
use Rattle.tx_base.specs.declared.names.Pid.{Pid}
use Rattle.tx_picture.specs.Layout.{x_of, y_of}
use Rattle.tx_picture.specs.Svg.{shape_text, words_text}
use Rattle.tx_picture.specs.declared.elements.Shape.TheVariants.{Rect, Line}
use Rattle.tx_picture.specs.declared.spans.End.{End}
use Rattle.tx_picture.specs.declared.spans.Span.{Span}

abbrev pub strip_class : Option End → List ℕ
strip_class None = codes "open"
strip_class (Some end) = if end.aborted then codes "aborted" else codes "committed"

-- where it ends: in the row of the step that ends it, or in the last row
abbrev pub last_row : ℕ → Option End → ℕ
last_row last None = last
last_row last (Some end) = end.row

-- the box of a member of a transaction, from the row in which it joins to that of the end, both
-- rows inside. Boxes side by side do not touch
abbrev pub box_text : ℕ → ℕ → Span → List ℕ
box_text x last strip =
    shape_text Rect (strip_class strip.end)
    (record {
      0 = x - 22;
      1 = y_of strip.from - 11;
      2 = 44;
      3 = y_of (last_row last strip.end) - y_of strip.from + 22;
    })

-- the broken top of a box that was there before the first row
abbrev pub torn_text : ℕ → ℕ → List ℕ
torn_text x from =
    if from == 0
    then shape_text Line (codes "torn")
    (record { 0 = x - 22; 1 = y_of 0 - 11; 2 = x + 22; 3 = y_of 0 - 11 })
    else []

abbrev pub strip_text : List Pid → ℕ → Span → List ℕ
strip_text columns last strip =
    let x = x_of columns strip.process.0 in box_text x last strip ++ torn_text x strip.from

-- the number of the transaction's starter, at the top of the box
abbrev pub starter_text : List Pid → Span → List ℕ
starter_text columns strip =
    words_text (codes "starter") (x_of columns strip.process.0 - 20) (y_of strip.from - 2)
    (decimal strip.holder.0)

-- the bar where a process ends
abbrev pub bar_text : ℕ → ℕ → Option End → List ℕ
bar_text x y None = []
bar_text x y (Some end) =
    shape_text Line (codes "end") (record { 0 = x - 8; 1 = y; 2 = x + 8; 3 = y })

-- a process that runs
abbrev pub lane_text : List Pid → ℕ → Span → List ℕ
lane_text columns last lane =
    let x = x_of columns lane.process.0 in
    let bottom = y_of (last_row last lane.end) + 8 in
    shape_text Line (codes "lane") (record { 0 = x; 1 = y_of lane.from; 2 = x; 3 = bottom })
    ++ bar_text x bottom lane.end
