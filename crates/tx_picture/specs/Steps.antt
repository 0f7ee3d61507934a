-- How the steps of a schedule are shown: each by a mark in its process's column and in its own row,
-- in order.
use Rattle.std.specs.Prelude.{ℕ, ℤ, pos, negsuc, ◌+◌, Bool, List, [], ◌∷◌, ◌++◌, map, Option, Some, None, codes, if◌then◌else◌}
use Rattle.std.specs.Fmt.{decimal}
use Rattle.tx_base.specs.declared.names.Pid.{Pid}
use Rattle.tx_base.specs.declared.steps.Reply.{Reply}
use Rattle.tx_base.specs.declared.steps.Reply.TheVariants.{Done, No}
use Rattle.tx_base.specs.declared.steps.Step.{Step}
use Rattle.tx_lines.specs.Lines.{step_text}
use Rattle.tx_model.specs.Events.{process_of}
use Rattle.tx_picture.specs.Captions.{is_anew, line_of, short}
use Rattle.tx_picture.specs.Heads.{name_text}
use Rattle.tx_picture.specs.Held.{signal_text}
use Rattle.tx_picture.specs.Layout.{guide_left, is_wide, words_left, x_of, y_of}
use Rattle.tx_picture.specs.Sheets.{Page}
use Rattle.tx_picture.specs.Svg.{shape_text, titled_text, words_text}
use Rattle.tx_picture.specs.Ties.{tie_of}
use Rattle.tx_picture.specs.declared.elements.Shape.TheVariants.{Ellipse, Line}
use Rattle.tx_picture.specs.declared.rows.Row.{Row}
use Rattle.tx_picture.specs.declared.ties.Tie.{Tie}
use Rattle.tx_picture.specs.declared.ties.Tie.TheVariants.{Holder, Child, Signal}
use Rattle.tx_translate.specs.Lines.{spaced}
use Rattle.tx_translate.specs.Words.{words_in}
use Rattle.tx_state_text.specs.Replies.{named_reply_text}

-- the mark of a call's answer: an error is a number below zero
abbrev pub answer_class : ℤ → List ℕ
answer_class (pos n) = codes "accepted"
answer_class (negsuc n) = codes "failed"

abbrev pub mark_class : Reply → List ℕ
mark_class (No why) = codes "refused"
mark_class (Done ret) = answer_class ret
mark_class reply = codes "accepted"

abbrev pub mark_text : ℕ → ℕ → Reply → List ℕ
mark_text x y reply = shape_text Ellipse (mark_class reply) (record { 0 = x; 1 = y; 2 = 5; 3 = 5 })

-- a line of a class in a row
abbrev pub line_text : List ℕ → ℕ → ℕ → ℕ → List ℕ
line_text class x y to = shape_text Line class (record { 0 = x; 1 = y; 2 = to; 3 = y })

-- what leads from a mark to another column
abbrev pub tie_text : Page → ℕ → Row → Option Tie → List ℕ
tie_text page number row None = []
tie_text page number row (Some (Holder starter)) =
    line_text (codes "refusal") (x_of page.columns (process_of row.step)) (y_of number)
    (x_of page.columns starter.0)
tie_text page number row (Some (Child child)) =
    line_text (codes "fork") (x_of page.columns (process_of row.step)) (y_of number)
    (x_of page.columns child.0)
tie_text page number row (Some (Signal target)) =
    signal_text
    (record {
      x = x_of page.columns (process_of row.step);
      y = y_of number;
      to = x_of page.columns target.0;
    }) page.strips page.last number row

abbrev pub tied_text : Page → ℕ → Row → List ℕ
tied_text page number row = tie_text page number row (tie_of row.step row.reply)

-- the name of a child below its fork, where its number was that of another process
abbrev pub child_text : Page → ℕ → Pid → List ℕ
child_text page number child =
    let k = page.before + number in
    if is_anew page.captioned child.0 k then name_text page k (y_of number + 14) child else []

abbrev pub anew_text : Page → ℕ → Option Tie → List ℕ
anew_text page number None = []
anew_text page number (Some (Holder starter)) = []
anew_text page number (Some (Child child)) = child_text page number child
anew_text page number (Some (Signal target)) = []

-- words with a space between each two
abbrev pub joined : List (List ℕ) → List ℕ
joined [] = []
joined (word ∷ words) = word ++ spaced words

-- a step: each word as its author wrote it, shown so, or as version 2 spells it where there is no
-- such line
abbrev pub step_words : (List ℕ → List ℕ) → Option (List ℕ) → Step → List ℕ
step_words shown None step = step_text step
step_words shown (Some line) step = joined (map shown (words_in line))

-- what a step is, and what it was answered, with the name of an error
abbrev pub words_of : (List ℕ → List ℕ) → Page → ℕ → Row → List ℕ
words_of shown page number row =
    step_words shown (line_of page.captioned (page.before + number)) row.step
    ++ (codes " : " ++ named_reply_text row.reply)

-- as it is shown, and the whole
abbrev pub shown_words : Page → ℕ → Row → List ℕ
shown_words = words_of (short 24)

abbrev pub whole_words : Page → ℕ → Row → List ℕ
whole_words = words_of (λ word. word)

-- at the left of the columns, where there are many
abbrev pub left_text : Bool → ℕ → List ℕ → List ℕ → List ℕ
left_text wide y shown whole = if wide then titled_text (codes "left") 24 y shown whole else []

-- its number, and its text
abbrev pub label_text : Page → ℕ → Row → List ℕ
label_text page number row =
    let y = y_of number + 4 in
    let shown = shown_words page number row in
    let whole = whole_words page number row in
    words_text (codes "number") 64 y (decimal (page.before + number))
    ++ (left_text (is_wide page.columns) y shown whole
    ++ titled_text (codes "step") (words_left page.columns + 8) y shown whole)

abbrev pub row_text : Page → ℕ → Row → List ℕ
row_text page number row =
    let x = x_of page.columns (process_of row.step) in
    line_text (codes "guide") (guide_left page.columns x) (y_of number) (words_left page.columns)
    ++ (tied_text page number row ++ (mark_text x (y_of number) row.reply
    ++ (anew_text page number (tie_of row.step row.reply) ++ label_text page number row)))

-- steps, of which the first is in that row
abbrev pub rows_text : Page → ℕ → List Row → List ℕ
rows_text page number [] = []
rows_text page number (row ∷ rows) = row_text page number row ++ rows_text page (number + 1) rows
