-- How what goes through pipes is shown: by arrows from the marks of writes to those of reads.
use Rattle.std.specs.Prelude.{ℕ, ◌+◌, ◌*◌, ◌-◌, ◌/◌, ◌==◌, Bool, List, [], ◌∷◌, ◌++◌, codes, count_by, if◌then◌else◌, min}
use Rattle.tx_base.specs.declared.names.Pid.{Pid}
use Rattle.tx_picture.specs.Layout.{x_of, y_of}
use Rattle.tx_picture.specs.Svg.{shape_text}
use Rattle.tx_picture.specs.declared.elements.Shape.TheVariants.{Line}
use Rattle.tx_picture.specs.declared.fans.Fan.{Fan}
use Rattle.tx_picture.specs.declared.passages.Passage.{Passage}

-- the middle between two rows
abbrev pub y_between : ℕ → ℕ → ℕ
y_between row other = (y_of row + y_of other) / 2

-- whether an arrow leaves the mark of that row, or ends at it
abbrev pub leaves : ℕ → Passage → Bool
leaves row passage = passage.written == row

abbrev pub enters : ℕ → Passage → Bool
enters row passage = passage.read == row

-- how far an arrow is moved aside, where there are so many before it at its mark: it stays in the
-- row
abbrev pub aside : ℕ → ℕ
aside count = 3 * min count 3

-- how far an arrow begins below the mark of its write, and ends above that of its read
abbrev pub fan_of : List Passage → Passage → Fan
fan_of before passage = record {
  below = aside (count_by (leaves passage.written) before);
  above = aside (count_by (enters passage.read) before);
}

abbrev pub straight_text : ℕ → ℕ → Fan → Passage → List ℕ
straight_text x to fan passage =
    shape_text Line (codes "pipe")
    (record {
      0 = x;
      1 = y_of passage.written + fan.below;
      2 = to;
      3 = y_of passage.read - fan.above;
    })

-- beside the line of a process that reads what it wrote
abbrev pub bent_text : ℕ → Fan → Passage → List ℕ
bent_text x fan passage =
    let left = x - (14 + fan.below) in
    let y = y_between passage.written passage.read in
    shape_text Line (codes "bend")
    (record { 0 = x; 1 = y_of passage.written + fan.below; 2 = left; 3 = y })
    ++ shape_text Line (codes "pipe")
    (record { 0 = left; 1 = y; 2 = x; 3 = y_of passage.read - fan.above })

-- from the writer's column to the reader's
abbrev pub passage_text : List Pid → Fan → Passage → List ℕ
passage_text columns fan passage =
    if passage.writer.0
    == passage.reader.0 then bent_text (x_of columns passage.writer.0) fan passage
    else straight_text (x_of columns passage.writer.0) (x_of columns passage.reader.0) fan passage

-- the arrows of passages, of which those are before them
abbrev pub passages_text : List Pid → List Passage → List Passage → List ℕ
passages_text columns before [] = []
passages_text columns before (passage ∷ passages) =
    passage_text columns (fan_of before passage) passage
    ++ passages_text columns (before ++ passage ∷ []) passages
