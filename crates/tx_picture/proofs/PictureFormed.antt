-- Each part of a picture is well formed, and so is the whole.
use Rattle.std.proofs.Common.{ℕ, zero, suc, ◌+◌, ◌*◌, ◌-◌, ◌==◌, List, [], ◌∷◌, ◌++◌, Bool, codes, refl, true, false, if◌then◌else◌, Option, Some, None}
use Rattle.std.specs.Fmt.{decimal}
use Rattle.std.specs.List.{flat_map}
use Rattle.tx_base.specs.declared.names.Pid.{Pid}
use Rattle.tx_model.specs.Events.{process_of}
use Rattle.tx_picture.proofs.WellFormed.{a_number, a_word, each_formed, meanings_formed, shape_formed, style_formed, titled_formed, with_one, words_formed}
use Rattle.tx_picture.specs.Arrows.{bent_text, fan_of, passage_text, passages_text, straight_text}
use Rattle.tx_picture.specs.Captions.{is_anew, name_of, short, Captioned}
use Rattle.tx_picture.specs.Drawn.{Drawn}
use Rattle.tx_picture.specs.Heads.{head_text, heads_text, heads_upto, name_text, named_text}
use Rattle.tx_picture.specs.Held.{end_at, held_text, kept_text, sent_text, signal_by, signal_text}
use Rattle.tx_picture.specs.Layout.{guide_left, heads_above, heads_y, is_wide, words_left, x_of, y_of}
use Rattle.tx_picture.specs.Pictures.{between, body_text, drawn_text, inner_text, legend_text, margin_of, meanings_text, moved_text, picture_of, point_text, seen_text, size_text, style_text, widest, width_of}
use Rattle.tx_picture.specs.Sheets.{page_of, Page}
use Rattle.tx_picture.specs.Steps.{anew_text, label_text, left_text, line_text, mark_class, mark_text, row_text, rows_text, shown_words, tie_text, tied_text, whole_words}
use Rattle.tx_picture.specs.Stretches.{bar_text, box_text, lane_text, last_row, starter_text, strip_class, strip_text, torn_text}
use Rattle.tx_picture.specs.Svg.{attribute, numbered, shape_text, titled_text, words_text}
use Rattle.tx_picture.specs.Ties.{tie_of}
use Rattle.tx_picture.specs.Waits.{own_wait_text, wait_text}
use Rattle.tx_picture.specs.WellFormed.{AreAttributes, IsContent, IsValue, IsWellFormed, root, one, numeral, word, joined, nothing, holding, beside}
use Rattle.tx_picture.specs.declared.elements.Shape.TheVariants.{Ellipse, Line, Rect}
use Rattle.tx_picture.specs.declared.fans.Fan.{Fan}
use Rattle.tx_picture.specs.declared.held.Place.{Place}
use Rattle.tx_picture.specs.declared.passages.Passage.{Passage}
use Rattle.tx_picture.specs.declared.rows.Row.{Row}
use Rattle.tx_picture.specs.declared.spans.End.{End}
use Rattle.tx_picture.specs.declared.spans.Span.{Span}
use Rattle.tx_picture.specs.declared.ties.Tie.{Tie}
use Rattle.tx_picture.specs.declared.ties.Tie.TheVariants.{Holder, Child, Signal}
use Rattle.tx_picture.specs.declared.waits.Wait.{Wait}

torn_formed : (x : ℕ) (is_first : Bool) → IsContent (if is_first then shape_text Line (codes "torn") (record { 0 = x - 22; 1 = y_of 0 - 11; 2 = x + 22; 3 = y_of 0 - 11 }) else [])
torn_formed x true = shape_formed Line (codes "torn") _
torn_formed x false = nothing

strip_formed : (columns : List Pid) (last : ℕ) (strip : Span) → IsContent (strip_text columns last strip)
strip_formed columns last strip =
    let x = x_of columns strip.process.0 in
    beside (box_text x last strip) (torn_text x strip.from) (shape_formed Rect (strip_class strip.end) _) (torn_formed x (strip.from == 0))

bar_formed : (x y : ℕ) (end : Option End) → IsContent (bar_text x y end)
bar_formed x y None = nothing
bar_formed x y (Some end) = shape_formed Line (codes "end") _

lane_formed : (columns : List Pid) (last : ℕ) (lane : Span) → IsContent (lane_text columns last lane)
lane_formed columns last lane =
    let x = x_of columns lane.process.0 in
    let bottom = y_of (last_row last lane.end) + 8 in
    beside (shape_text Line (codes "lane") (record { 0 = x; 1 = y_of lane.from; 2 = x; 3 = bottom })) (bar_text x bottom lane.end)
    (shape_formed Line (codes "lane") (record { 0 = x; 1 = y_of lane.from; 2 = x; 3 = bottom })) (bar_formed x bottom lane.end)

apart_formed : (x to : ℕ) (fan : Fan) (passage : Passage) (same : Bool) → IsContent (if same then bent_text x fan passage else straight_text x to fan passage)
apart_formed x to fan passage true = beside (shape_text Line (codes "bend") _) (shape_text Line (codes "pipe") _) (shape_formed Line (codes "bend") _) (shape_formed Line (codes "pipe") _)
apart_formed x to fan passage false = shape_formed Line (codes "pipe") _

passage_formed : (columns : List Pid) (fan : Fan) (passage : Passage) → IsContent (passage_text columns fan passage)
passage_formed columns fan passage = apart_formed (x_of columns passage.writer.0) (x_of columns passage.reader.0) fan passage (passage.writer.0 == passage.reader.0)

passages_formed : (columns : List Pid) (before passages : List Passage) → IsContent (passages_text columns before passages)
passages_formed columns before [] = nothing
passages_formed columns before (passage ∷ passages) =
    beside (passage_text columns (fan_of before passage) passage) (passages_text columns (before ++ passage ∷ []) passages) (passage_formed columns (fan_of before passage) passage)
    (passages_formed columns (before ++ passage ∷ []) passages)

kept_formed : (place : Place) (bottom : ℕ) → IsContent (kept_text place bottom)
kept_formed place bottom = beside (shape_text Line (codes "held") _) (shape_text Line (codes "held") _) (shape_formed Line (codes "held") _) (shape_formed Line (codes "held") _)

sent_formed : (place : Place) (bottom : ℕ) (aborted : Bool) → IsContent (sent_text place bottom aborted)
sent_formed place bottom true = shape_formed Line (codes "dropped") _
sent_formed place bottom false = shape_formed Line (codes "signal") _

held_formed : (place : Place) (last : ℕ) (end : Option End) → IsContent (held_text place last end)
held_formed place last None = kept_formed place (y_of last + 8)
held_formed place last (Some end) =
    beside (kept_text place (y_of end.row + 8)) (sent_text place (y_of end.row + 8) end.aborted) (kept_formed place (y_of end.row + 8)) (sent_formed place (y_of end.row + 8) end.aborted)

signal_by_formed : (end : Option End) (place : Place) (last : ℕ) (holder : Option Pid) → IsContent (signal_by end place last holder)
signal_by_formed end place last None = shape_formed Line (codes "signal") _
signal_by_formed end place last (Some holder) = held_formed place last end

signal_formed : (place : Place) (strips : List Span) (last number : ℕ) (row : Row) → IsContent (signal_text place strips last number row)
unfolding signal_text
signal_formed place strips last number row = signal_by_formed (end_at strips (process_of row.step) number) place last row.holder

own_wait_formed : (x y : ℕ) → IsContent (own_wait_text x y)
own_wait_formed x y = beside (shape_text Line (codes "waiting") _) (shape_text Line (codes "wait") _) (shape_formed Line (codes "waiting") _) (shape_formed Line (codes "wait") _)

awaited_formed : (columns : List Pid) (wait : Wait) (own : Bool)
    → IsContent (if own then own_wait_text (x_of columns wait.waiter.0) (y_of wait.row)
    else shape_text Line (codes "wait") (record { 0 = x_of columns wait.waiter.0; 1 = y_of wait.row; 2 = x_of columns wait.awaited.0; 3 = y_of wait.row }))
awaited_formed columns wait true = own_wait_formed (x_of columns wait.waiter.0) (y_of wait.row)
awaited_formed columns wait false = shape_formed Line (codes "wait") _

wait_formed : (columns : List Pid) (wait : Wait) → IsContent (wait_text columns wait)
wait_formed columns wait = awaited_formed columns wait (wait.waiter.0 == wait.awaited.0)

tie_formed : (page : Page) (number : ℕ) (row : Row) (tie : Option Tie) → IsContent (tie_text page number row tie)
tie_formed page number row None = nothing
tie_formed page number row (Some (Holder starter)) = shape_formed Line (codes "refusal") _
tie_formed page number row (Some (Child child)) = shape_formed Line (codes "fork") _
tie_formed page number row (Some (Signal target)) = signal_formed _ page.strips page.last number row

named_formed : (x y : ℕ) (name : Option (List ℕ)) → IsContent (named_text x y name)
named_formed x y None = nothing
named_formed x y (Some name) = titled_formed (codes "name") x y (short 8 name) name

name_formed : (page : Page) (k y : ℕ) (process : Pid) → IsContent (name_text page k y process)
name_formed page k y process = named_formed (x_of page.columns process.0) y (name_of page.captioned process.0 k)

child_formed : (page : Page) (k y : ℕ) (child : Pid) (anew : Bool) → IsContent (if anew then name_text page k y child else [])
child_formed page k y child true = name_formed page k y child
child_formed page k y child false = nothing

anew_formed : (page : Page) (number : ℕ) (tie : Option Tie) → IsContent (anew_text page number tie)
anew_formed page number None = nothing
anew_formed page number (Some (Holder starter)) = nothing
anew_formed page number (Some (Child child)) = child_formed page (page.before + number) (y_of number + 14) child (is_anew page.captioned child.0 (page.before + number))
anew_formed page number (Some (Signal target)) = nothing

left_formed : (wide : Bool) (y : ℕ) (shown whole : List ℕ) → IsContent (left_text wide y shown whole)
left_formed true y shown whole = titled_formed (codes "left") 24 y shown whole
left_formed false y shown whole = nothing

label_formed : (page : Page) (number : ℕ) (row : Row) → IsContent (label_text page number row)
label_formed page number row =
    let y = y_of number + 4 in
    let x = words_left page.columns + 8 in
    let shown = shown_words page number row in
    let whole = whole_words page number row in
    let left = left_text (is_wide page.columns) y shown whole in
    let step = titled_text (codes "step") x y shown whole in
    let count = decimal (page.before + number) in
    beside (words_text (codes "number") 64 y count) (left ++ step) (words_formed (codes "number") 64 y count)
    (beside left step (left_formed (is_wide page.columns) y shown whole) (titled_formed (codes "step") x y shown whole))

row_formed : (page : Page) (number : ℕ) (row : Row) → IsContent (row_text page number row)
row_formed page number row =
    let x = x_of page.columns (process_of row.step) in
    let guide = line_text (codes "guide") (guide_left page.columns x) (y_of number) (words_left page.columns) in
    let tied = tied_text page number row in
    let mark = mark_text x (y_of number) row.reply in
    let anew = anew_text page number (tie_of row.step row.reply) in
    let label = label_text page number row in
    beside guide (tied ++ (mark ++ (anew ++ label))) (shape_formed Line (codes "guide") _)
    (beside tied (mark ++ (anew ++ label)) (tie_formed page number row (tie_of row.step row.reply))
    (beside mark (anew ++ label) (shape_formed Ellipse (mark_class row.reply) _)
    (beside anew label (anew_formed page number (tie_of row.step row.reply)) (label_formed page number row))))

rows_formed : (page : Page) (number : ℕ) (rows : List Row) → IsContent (rows_text page number rows)
rows_formed page number [] = nothing
rows_formed page number (row ∷ rows) = beside (row_text page number row) (rows_text page (number + 1) rows) (row_formed page number row) (rows_formed page (number + 1) rows)

between_value : (front back : List ℕ) (n : ℕ) → IsValue front → IsValue back → IsValue (between front n back)
unfolding between
between_value front back n before rest = joined front (decimal n ++ back) before (joined (decimal n) back (numeral n) rest)

size_names : List (List ℕ)
size_names = codes "xmlns" ∷ codes "width" ∷ codes "height" ∷ codes "viewBox" ∷ []

size_formed : (width height : ℕ) → AreAttributes size_names (size_text width height)
unfolding size_text seen_text size_names
size_formed width height =
    let w = numbered (codes "width") width in
    let h = numbered (codes "height") height in
    let value = between (codes "0 0 ") width (codes " ") ++ decimal height in
    let seen = attribute (codes "viewBox") value in
    with_one (codes "xmlns") _ _ (w ++ (h ++ seen)) (a_word (codes "xmlns") (codes "http://www.w3.org/2000/svg") refl)
    (with_one (codes "width") _ w (h ++ seen) (a_number (codes "width") width refl)
    (with_one (codes "height") _ h seen (a_number (codes "height") height refl)
    (one (codes "viewBox") value refl
    (joined (between (codes "0 0 ") width (codes " ")) (decimal height) (between_value (codes "0 0 ") (codes " ") width (word (codes "0 0 ")) (word (codes " "))) (numeral height)))))

moved_formed : (x y : ℕ) → AreAttributes (codes "transform" ∷ []) (moved_text x y)
unfolding moved_text point_text
moved_formed x y =
    let first = between (codes "translate(") x (codes ",") in
    let second = between [] y (codes ")") in
    one (codes "transform") (first ++ second) refl
    (joined first second (between_value (codes "translate(") (codes ",") x (word (codes "translate(")) (word (codes ","))) (between_value [] (codes ")") y (word []) (word (codes ")"))))

legend_formed : (y : ℕ) → IsContent (legend_text y)
unfolding legend_text
legend_formed y = holding (codes "g") _ (moved_text 72 y) meanings_text refl (moved_formed 72 y) refl meanings_formed

head_formed : (page : Page) (line : ℕ) (process : Pid) → IsContent (head_text page line process)
head_formed page line process =
    beside (words_text (codes "head") (x_of page.columns process.0) (heads_y line) (decimal process.0)) (name_text page (page.before + 40 * line) (heads_y line + 10) process)
    (words_formed (codes "head") (x_of page.columns process.0) (heads_y line) (decimal process.0)) (name_formed page (page.before + 40 * line) (heads_y line + 10) process)

heads_formed : (page : Page) (line : ℕ) → IsContent (heads_text page line)
heads_formed page line =
    beside (words_text (codes "number") 64 (heads_y line) (codes "process")) (flat_map (head_text page line) page.columns) (words_formed (codes "number") 64 (heads_y line) (codes "process"))
    (each_formed (head_text page line) page.columns (head_formed page line))

all_heads_formed : (page : Page) (count : ℕ) → IsContent (heads_upto page count)
all_heads_formed page zero = nothing
all_heads_formed page (suc count) = beside (heads_upto page count) (heads_text page count) (all_heads_formed page count) (heads_formed page count)

drawn_formed : (page : Page) (drawn : Drawn) → IsContent (drawn_text page drawn)
unfolding drawn_text
drawn_formed page drawn =
    let columns = page.columns in
    let strips = flat_map (strip_text columns page.last) page.strips in
    let lanes = flat_map (lane_text columns page.last) drawn.lanes in
    let passages = passages_text columns [] drawn.passages in
    let waits = flat_map (wait_text columns) drawn.waits in
    let rows = rows_text page 1 drawn.rows in
    let starters = flat_map (starter_text columns) page.strips in
    beside strips (lanes ++ (passages ++ (waits ++ (rows ++ starters)))) (each_formed (strip_text columns page.last) page.strips (strip_formed columns page.last))
    (beside lanes (passages ++ (waits ++ (rows ++ starters))) (each_formed (lane_text columns page.last) drawn.lanes (lane_formed columns page.last))
    (beside passages (waits ++ (rows ++ starters)) (passages_formed columns [] drawn.passages)
    (beside waits (rows ++ starters) (each_formed (wait_text columns) drawn.waits (wait_formed columns))
    (beside rows starters (rows_formed page 1 drawn.rows)
    (each_formed (starter_text columns) page.strips (λ strip. words_formed (codes "starter") (x_of columns strip.process.0 - 20) (y_of strip.from - 2) (decimal strip.holder.0)))))))

body_formed : (page : Page) (margin : ℕ) (drawn : Drawn) → IsContent (body_text page margin drawn)
unfolding body_text
body_formed page margin drawn =
    let count = heads_above page.last + 1 in
    let heads = heads_upto page count in
    holding (codes "g") _ (moved_text margin 0) (drawn_text page drawn ++ heads) refl (moved_formed margin 0) refl
    (beside (drawn_text page drawn) heads (drawn_formed page drawn) (all_heads_formed page count))

inner_formed : (page : Page) (margin : ℕ) (drawn : Drawn) → IsContent (inner_text page margin drawn)
inner_formed page margin drawn =
    let legend = legend_text (y_of page.last + 32) in
    beside style_text (body_text page margin drawn ++ legend) style_formed
    (beside (body_text page margin drawn) legend (body_formed page margin drawn) (legend_formed (y_of page.last + 32)))

-- the whole picture
pub picture_formed : (captioned : Captioned) (drawn : Drawn) → IsWellFormed (picture_of captioned drawn)
unfolding size_names
picture_formed captioned drawn =
    let page = page_of captioned drawn in
    let most = widest page 1 0 drawn.rows in
    let width = width_of page.columns most in
    let size = size_text width (y_of page.last + 88) in
    let margin = margin_of page.columns most in
    root (codes "svg") size_names size (inner_text page margin drawn) refl (size_formed width (y_of page.last + 88)) refl (inner_formed page margin drawn)
