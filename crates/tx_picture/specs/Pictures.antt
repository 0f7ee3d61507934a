-- The picture of what there is to draw.
use Rattle.std.specs.Prelude.{ℕ, ◌+◌, ◌*◌, List, [], ◌∷◌, ◌++◌, codes, length, min, if◌then◌else◌, nat_lt}
use Rattle.std.specs.Fmt.{decimal}
use Rattle.std.specs.List.{flat_map}
use Rattle.tx_base.specs.declared.names.Pid.{Pid}
use Rattle.tx_picture.specs.Arrows.{passages_text}
use Rattle.tx_picture.specs.Captions.{Captioned}
use Rattle.tx_picture.specs.Drawn.{Drawn}
use Rattle.tx_picture.specs.Heads.{heads_upto}
use Rattle.tx_picture.specs.Layout.{heads_above, is_wide, words_left, y_of}
use Rattle.tx_picture.specs.Sheets.{page_of, Page}
use Rattle.tx_picture.specs.Steps.{rows_text, shown_words}
use Rattle.tx_picture.specs.Stretches.{lane_text, starter_text, strip_text}
use Rattle.tx_picture.specs.Svg.{attribute, element, numbered, worded}
use Rattle.tx_picture.specs.Waits.{wait_text}
use Rattle.tx_picture.specs.declared.rows.Row.{Row}
use Rattle.tx_picture.specs.declared.styles.TheConstants.{LEGEND, STYLE}

abbrev pub longer : ℕ → ℕ → ℕ
longer a b = if nat_lt a b then b else a

-- how many characters the longest text of a step has, or so many as are known; the first step is in
-- that row
abbrev pub widest : Page → ℕ → ℕ → List Row → ℕ
widest page number most [] = most
widest page number most (row ∷ rows) =
    widest page (number + 1) (longer most (length (shown_words page number row))) rows

-- how wide the texts are, of which the longest has so many characters
abbrev pub words_width : ℕ → ℕ
words_width most = 8 * min most 2000

-- how far what is drawn is moved to the right, for the texts to its left
abbrev pub margin_of : List Pid → ℕ → ℕ
margin_of columns most = if is_wide columns then words_width most else 0

-- the legend has room in each picture
abbrev pub width_of : List Pid → ℕ → ℕ
width_of columns most =
    longer 480 (margin_of columns most + words_left columns + words_width most + 24)

-- a number between two texts
unfoldable pub between : List ℕ → ℕ → List ℕ → List ℕ
between front number back = front ++ (decimal number ++ back)

-- what is seen, all of it
unfoldable pub seen_text : ℕ → ℕ → List ℕ
seen_text width height =
    attribute (codes "viewBox") (between (codes "0 0 ") width (codes " ") ++ decimal height)

unfoldable pub size_text : ℕ → ℕ → List ℕ
size_text width height =
    worded (codes "xmlns") (codes "http://www.w3.org/2000/svg")
    ++ (numbered (codes "width") width
    ++ (numbered (codes "height") height ++ seen_text width height))

unfoldable pub style_text : List ℕ
style_text = STYLE.now

unfoldable pub meanings_text : List ℕ
meanings_text = LEGEND.now

-- to where it is moved
unfoldable pub point_text : ℕ → ℕ → List ℕ
point_text x y = between (codes "translate(") x (codes ",") ++ between [] y (codes ")")

unfoldable pub moved_text : ℕ → ℕ → List ℕ
moved_text x y = attribute (codes "transform") (point_text x y)

unfoldable pub legend_text : ℕ → List ℕ
legend_text y = element (codes "g") (moved_text 72 y) meanings_text

-- the boxes of transactions behind all else, then the processes, what goes through pipes, who could
-- end waits, and the steps, and the numbers of the boxes
unfoldable pub drawn_text : Page → Drawn → List ℕ
drawn_text page drawn =
    flat_map (strip_text page.columns page.last) page.strips
    ++ (flat_map (lane_text page.columns page.last) drawn.lanes
    ++ (passages_text page.columns [] drawn.passages
    ++ (flat_map (wait_text page.columns) drawn.waits
    ++ (rows_text page 1 drawn.rows ++ flat_map (starter_text page.columns) page.strips))))

-- that, and the numbers of the processes in front of it, moved to the right
unfoldable pub body_text : Page → ℕ → Drawn → List ℕ
body_text page margin drawn =
    element (codes "g") (moved_text margin 0)
    (drawn_text page drawn ++ heads_upto page (heads_above page.last + 1))

abbrev pub inner_text : Page → ℕ → Drawn → List ℕ
inner_text page margin drawn =
    style_text ++ (body_text page margin drawn ++ legend_text (y_of page.last + 32))

abbrev pub picture_in : Page → Drawn → List ℕ
picture_in page drawn =
    let most = widest page 1 0 drawn.rows in
    element (codes "svg") (size_text (width_of page.columns most) (y_of page.last + 88))
    (inner_text page (margin_of page.columns most) drawn)

-- the whole picture
abbrev pub picture_of : Captioned → Drawn → List ℕ
picture_of captioned drawn = picture_in (page_of captioned drawn) drawn
