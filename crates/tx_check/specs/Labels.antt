-- Which lines of a text are labels.
use Rattle.std.specs.Prelude.{◌≡◌, ◌≢◌, ℕ, zero, suc, ◌+◌, ◌<◌, ◌≤◌, ◌^◌, List, [], ◌∷◌, ◌++◌, length, map, if◌then◌else◌}
use Rattle.tx_check.specs.Numbered.{after_lines, behind, line_at}
use Rattle.tx_check.specs.Contexts.{begins_label}
use Rattle.tx_check.specs.declared.labels.LabelLine.{LabelLine}
use Rattle.tx_check.specs.declared.labels.LabelPlace.{LabelPlace}
use Rattle.tx_check.specs.declared.labels.Labels.{Labels}
use Rattle.tx_lines.specs.Programs.{label_front}
use Rattle.tx_lines.specs.Schedule.{first_line}
use Rattle.tx_translate.specs.MeantLines.{left_of, line_of}

-- the number of a label, and its line
abbrev pub label_at : LabelLine → ℕ × List ℕ
label_at label = (label.number, line_of label.line)

-- labels before that line, and the line where it is one
abbrev pub with_label : ℕ → List ℕ → List (ℕ × List ℕ) → List (ℕ × List ℕ)
with_label number line labels = if begins_label line then labels ++ (number, line) ∷ [] else labels

-- the labels among so many lines, of which the first has that number
abbrev pub labels_in : ℕ → ℕ → List ℕ → List (ℕ × List ℕ)
labels_in zero number text = []
labels_in (suc count) number text =
    if begins_label (first_line text)
    then (number, first_line text) ∷ labels_in count (number + 1) (behind text)
    else labels_in count (number + 1) (behind text)

-- the known labels are those among the lines that were searched
pub record AreKnown (labels : Labels) : Type 0 where
  pub known : map label_at labels.known.items ≡ labels_in labels.passed 1 (left_of labels.text)
  pub behind : left_of labels.behind ≡ after_lines labels.passed (left_of labels.text)
  pub room : labels.passed + length labels.behind.left.now < 2 ^ 64

-- the line at that place is the first label of that name
pub record IsFirstLabel (text name : List ℕ) (place : LabelPlace) : Type 0 where
  pub some : 1 ≤ place.number
  pub found : line_at place.number text ≡ label_front ++ name
  pub first : (earlier : ℕ) → 1 ≤ earlier → earlier < place.number
      → line_at earlier text ≢ label_front ++ name
