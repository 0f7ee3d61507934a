-- The parts of a picture are well-formed content.
use Rattle.std.proofs.Common.{ℕ, List, [], ◌∷◌, ◌++◌, Bool, true, false, codes, if◌then◌else◌, length, nat_lt, refl, IsTrue}
use Rattle.std.specs.Fmt.{decimal}
use Rattle.std.specs.List.{flat_map}
use Rattle.tx_picture.specs.Pictures.{meanings_text, style_text}
use Rattle.tx_picture.specs.Svg.{element, escaped, numbered, numbers_text, shape_name, shape_text, title_text, titled_text, worded, words_text}
use Rattle.tx_picture.specs.WellFormed.{are_distinct, is_name, AreAttributes, IsContent, none, one, more, numeral, word, nothing, words, empty, holding, beside}
use Rattle.tx_picture.specs.declared.elements.Numbers.{Numbers}
use Rattle.tx_picture.specs.declared.elements.Shape.{Shape}
use Rattle.tx_picture.specs.declared.elements.Shape.TheVariants.{Rect, Line, Ellipse}

pub a_number : (name : List ℕ) (n : ℕ) → IsTrue (is_name name) → AreAttributes (name ∷ []) (numbered name n)
a_number name n named = one name (decimal n) named (numeral n)

pub a_word : (name bytes : List ℕ) → IsTrue (is_name name) → AreAttributes (name ∷ []) (worded name bytes)
a_word name bytes named = one name (escaped bytes) named (word bytes)

pub with_one : (name : List ℕ) (names : List (List ℕ)) (first rest : List ℕ) → AreAttributes (name ∷ []) first → AreAttributes names rest → AreAttributes (name ∷ names) (first ++ rest)
with_one name names first rest are others = more (name ∷ []) names first rest are others

with_word : (name bytes : List ℕ) (names : List (List ℕ)) (rest : List ℕ) → IsTrue (is_name name) → AreAttributes names rest → AreAttributes (name ∷ names) (worded name bytes ++ rest)
with_word name bytes names rest named are = with_one name names (worded name bytes) rest (a_word name bytes named) are

-- the names of a shape's attributes
shape_names : Shape → List (List ℕ)
shape_names Rect = codes "x" ∷ codes "y" ∷ codes "width" ∷ codes "height" ∷ []
shape_names Line = codes "x1" ∷ codes "y1" ∷ codes "x2" ∷ codes "y2" ∷ []
shape_names Ellipse = codes "cx" ∷ codes "cy" ∷ codes "rx" ∷ codes "ry" ∷ []

four : (a b c d : List ℕ) (n : Numbers) → IsTrue (is_name a) → IsTrue (is_name b) → IsTrue (is_name c) → IsTrue (is_name d)
    → AreAttributes (a ∷ b ∷ c ∷ d ∷ []) (numbered a n.0 ++ (numbered b n.1 ++ (numbered c n.2 ++ numbered d n.3)))
four a b c d n first second third fourth =
    with_one a _ _ _ (a_number a n.0 first) (with_one b _ _ _ (a_number b n.1 second) (with_one c _ _ _ (a_number c n.2 third) (a_number d n.3 fourth)))

numbers_are : (shape : Shape) (n : Numbers) → AreAttributes (shape_names shape) (numbers_text shape n)
unfolding shape_names
numbers_are Rect n = four (codes "x") (codes "y") (codes "width") (codes "height") n refl refl refl refl
numbers_are Line n = four (codes "x1") (codes "y1") (codes "x2") (codes "y2") n refl refl refl refl
numbers_are Ellipse n = four (codes "cx") (codes "cy") (codes "rx") (codes "ry") n refl refl refl refl

shape_named : (shape : Shape) → IsTrue (is_name (shape_name shape))
shape_named Rect = refl
shape_named Line = refl
shape_named Ellipse = refl

shape_distinct : (shape : Shape) → IsTrue (are_distinct (codes "class" ∷ shape_names shape))
unfolding shape_names
shape_distinct Rect = refl
shape_distinct Line = refl
shape_distinct Ellipse = refl

pub shape_formed : (shape : Shape) (class : List ℕ) (n : Numbers) → IsContent (shape_text shape class n)
unfolding shape_text
shape_formed shape class n =
    empty (shape_name shape) (codes "class" ∷ shape_names shape) (worded (codes "class") class ++ numbers_text shape n) (shape_named shape)
    (with_word (codes "class") class (shape_names shape) (numbers_text shape n) refl (numbers_are shape n)) (shape_distinct shape)

-- a text, whatever it has in it
placed_formed : (class : List ℕ) (x y : ℕ) (inner : List ℕ) → IsContent inner
    → IsContent (element (codes "text") (worded (codes "class") class ++ (numbered (codes "x") x ++ numbered (codes "y") y)) inner)
placed_formed class x y inner formed =
    let placed = numbered (codes "x") x ++ numbered (codes "y") y in
    holding (codes "text") _ (worded (codes "class") class ++ placed) inner refl
    (with_word (codes "class") class _ placed refl (with_one (codes "x") _ _ _ (a_number (codes "x") x refl) (a_number (codes "y") y refl))) refl
    formed

pub words_formed : (class : List ℕ) (x y : ℕ) (bytes : List ℕ) → IsContent (words_text class x y bytes)
unfolding words_text
words_formed class x y bytes = placed_formed class x y (escaped bytes) (words bytes)

if_cut_formed : (whole : List ℕ) (cut : Bool) → IsContent (if cut then element (codes "title") [] (escaped whole) else [])
if_cut_formed whole true = holding (codes "title") _ _ _ refl none refl (words whole)
if_cut_formed whole false = nothing

pub titled_formed : (class : List ℕ) (x y : ℕ) (shown whole : List ℕ) → IsContent (titled_text class x y shown whole)
unfolding titled_text
titled_formed class x y shown whole =
    placed_formed class x y (title_text shown whole ++ escaped shown)
    (beside (title_text shown whole) (escaped shown) (if_cut_formed whole (nat_lt (length shown) (length whole))) (words shown))

pub each_formed : {A : Type 0} (text : A → List ℕ) (items : List A) → ((item : A) → IsContent (text item)) → IsContent (flat_map text items)
each_formed text [] formed = nothing
each_formed text (item ∷ items) formed = beside (text item) (flat_map text items) (formed item) (each_formed text items formed)

-- each part of what is in every picture
pub style_formed : IsContent style_text
unfolding style_text
style_formed = beside _ _ (words (codes "\n")) (beside _ _ (holding (codes "style") _ _ _ refl none refl (words (codes "\ntext{font:13px monospace;fill:#000}\n.number{fill:#555;text-anchor:end}\n.left{text-anchor:end}\n.starter{font-size:10px;font-weight:bold;stroke:#fff;stroke-width:3;paint-order:stroke}\n.head{font-weight:bold;text-anchor:middle;stroke:#fff;stroke-width:4;paint-order:stroke}\n.name{font-size:10px;text-anchor:middle;stroke:#fff;stroke-width:3;paint-order:stroke}\nline{stroke:#000;stroke-width:2}\n.guide{stroke:#999;stroke-width:1;stroke-dasharray:1 4}\n.end{stroke-width:3}\n.refusal{stroke-dasharray:5 3;marker-end:url(#head)}\n.signal{stroke-width:1.5;marker-end:url(#head)}\n.held{stroke-width:1.5;stroke-dasharray:2 2}\n.dropped{stroke-width:3}\n.bend{stroke-width:1.5;stroke-dasharray:8 3 2 3}\n.pipe{stroke-width:1.5;stroke-dasharray:8 3 2 3;marker-end:url(#taken)}\n.waiting,.wait{stroke-width:1.5;stroke-dasharray:0 4;stroke-linecap:round}\n.wait{marker-end:url(#awaited)}\n.accepted{fill:#000}\n.refused{fill:#fff;stroke:#000;stroke-width:2}\n.failed{fill:url(#failed);stroke:#000;stroke-width:2}\n.blank{stop-color:#fff}\n.committed{fill:url(#committed);stroke:#0072b2;stroke-width:2}\n.aborted{fill:url(#aborted);stroke:#d55e00;stroke-width:2;stroke-dasharray:6 3}\n.open{fill:#eee;stroke:#555;stroke-width:2;stroke-dasharray:2 3}\n.torn{stroke:#fff;stroke-width:4;stroke-dasharray:5 4}\n"))) (beside _ _ (holding (codes "defs") _ _ _ refl none refl (beside _ _ (holding (codes "pattern") _ _ _ refl (with_word (codes "id") (codes "committed") _ _ refl (with_word (codes "width") (codes "8") _ _ refl (with_word (codes "height") (codes "8") _ _ refl (with_word (codes "patternUnits") (codes "userSpaceOnUse") _ _ refl none)))) refl (beside _ _ (empty (codes "rect") _ _ refl (with_word (codes "width") (codes "8") _ _ refl (with_word (codes "height") (codes "8") _ _ refl (with_word (codes "fill") (codes "#e1f0fa") _ _ refl none))) refl) (empty (codes "path") _ _ refl (with_word (codes "d") (codes "M-2,2 L2,-2 M0,8 L8,0 M6,10 L10,6") _ _ refl (with_word (codes "stroke") (codes "#56b4e9") _ _ refl none)) refl))) (beside _ _ (holding (codes "pattern") _ _ _ refl (with_word (codes "id") (codes "aborted") _ _ refl (with_word (codes "width") (codes "8") _ _ refl (with_word (codes "height") (codes "8") _ _ refl (with_word (codes "patternUnits") (codes "userSpaceOnUse") _ _ refl none)))) refl (beside _ _ (empty (codes "rect") _ _ refl (with_word (codes "width") (codes "8") _ _ refl (with_word (codes "height") (codes "8") _ _ refl (with_word (codes "fill") (codes "#fdf0e3") _ _ refl none))) refl) (empty (codes "path") _ _ refl (with_word (codes "d") (codes "M-2,6 L2,10 M0,0 L8,8 M6,-2 L10,2 M-2,2 L2,-2 M0,8 L8,0 M6,10 L10,6") _ _ refl (with_word (codes "stroke") (codes "#e69f00") _ _ refl none)) refl))) (beside _ _ (holding (codes "linearGradient") _ _ _ refl (with_word (codes "id") (codes "failed") _ _ refl none) refl (beside _ _ (empty (codes "stop") _ _ refl (with_word (codes "offset") (codes "0.5") _ _ refl none) refl) (empty (codes "stop") _ _ refl (with_word (codes "class") (codes "blank") _ _ refl (with_word (codes "offset") (codes "0.5") _ _ refl none)) refl))) (beside _ _ (holding (codes "marker") _ _ _ refl (with_word (codes "id") (codes "head") _ _ refl (with_word (codes "viewBox") (codes "0 0 10 10") _ _ refl (with_word (codes "refX") (codes "9") _ _ refl (with_word (codes "refY") (codes "5") _ _ refl (with_word (codes "markerWidth") (codes "7") _ _ refl (with_word (codes "markerHeight") (codes "7") _ _ refl (with_word (codes "orient") (codes "auto") _ _ refl none))))))) refl (empty (codes "path") _ _ refl (with_word (codes "d") (codes "M0,0 L10,5 L0,10 z") _ _ refl none) refl)) (beside _ _ (holding (codes "marker") _ _ _ refl (with_word (codes "id") (codes "taken") _ _ refl (with_word (codes "viewBox") (codes "0 0 10 10") _ _ refl (with_word (codes "refX") (codes "14") _ _ refl (with_word (codes "refY") (codes "5") _ _ refl (with_word (codes "markerWidth") (codes "8") _ _ refl (with_word (codes "markerHeight") (codes "8") _ _ refl (with_word (codes "orient") (codes "auto") _ _ refl none))))))) refl (empty (codes "path") _ _ refl (with_word (codes "d") (codes "M1,1 L9,5 L1,9 z") _ _ refl (with_word (codes "fill") (codes "#fff") _ _ refl (with_word (codes "stroke") (codes "#000") _ _ refl none))) refl)) (holding (codes "marker") _ _ _ refl (with_word (codes "id") (codes "awaited") _ _ refl (with_word (codes "viewBox") (codes "0 0 6 6") _ _ refl (with_word (codes "refX") (codes "5") _ _ refl (with_word (codes "refY") (codes "3") _ _ refl (with_word (codes "markerWidth") (codes "6") _ _ refl (with_word (codes "markerHeight") (codes "6") _ _ refl (with_word (codes "orient") (codes "auto") _ _ refl none))))))) refl (empty (codes "path") _ _ refl (with_word (codes "d") (codes "M1,1 L5,3 L1,5") _ _ refl (with_word (codes "fill") (codes "none") _ _ refl (with_word (codes "stroke") (codes "#000") _ _ refl none))) refl)))))))) (empty (codes "rect") _ _ refl (with_word (codes "width") (codes "100%") _ _ refl (with_word (codes "height") (codes "100%") _ _ refl (with_word (codes "fill") (codes "#fff") _ _ refl none))) refl)))

pub meanings_formed : IsContent meanings_text
unfolding meanings_text
meanings_formed = beside _ _ (words (codes "\n")) (beside _ _ (empty (codes "rect") _ _ refl (with_word (codes "class") (codes "committed") _ _ refl (with_word (codes "width") (codes "24") _ _ refl (with_word (codes "height") (codes "16") _ _ refl none))) refl) (beside _ _ (holding (codes "text") _ _ _ refl (with_word (codes "x") (codes "32") _ _ refl (with_word (codes "y") (codes "13") _ _ refl none)) refl (words (codes "committed"))) (beside _ _ (empty (codes "rect") _ _ refl (with_word (codes "class") (codes "aborted") _ _ refl (with_word (codes "x") (codes "120") _ _ refl (with_word (codes "width") (codes "24") _ _ refl (with_word (codes "height") (codes "16") _ _ refl none)))) refl) (beside _ _ (holding (codes "text") _ _ _ refl (with_word (codes "x") (codes "152") _ _ refl (with_word (codes "y") (codes "13") _ _ refl none)) refl (words (codes "aborted"))) (beside _ _ (empty (codes "rect") _ _ refl (with_word (codes "class") (codes "open") _ _ refl (with_word (codes "x") (codes "224") _ _ refl (with_word (codes "width") (codes "24") _ _ refl (with_word (codes "height") (codes "16") _ _ refl none)))) refl) (beside _ _ (holding (codes "text") _ _ _ refl (with_word (codes "x") (codes "256") _ _ refl (with_word (codes "y") (codes "13") _ _ refl none)) refl (words (codes "open"))) (beside _ _ (empty (codes "ellipse") _ _ refl (with_word (codes "class") (codes "refused") _ _ refl (with_word (codes "cx") (codes "312") _ _ refl (with_word (codes "cy") (codes "8") _ _ refl (with_word (codes "rx") (codes "5") _ _ refl (with_word (codes "ry") (codes "5") _ _ refl none))))) refl) (beside _ _ (holding (codes "text") _ _ _ refl (with_word (codes "x") (codes "324") _ _ refl (with_word (codes "y") (codes "13") _ _ refl none)) refl (words (codes "refused"))) (beside _ _ (empty (codes "line") _ _ refl (with_word (codes "class") (codes "signal") _ _ refl (with_word (codes "y1") (codes "36") _ _ refl (with_word (codes "x2") (codes "24") _ _ refl (with_word (codes "y2") (codes "36") _ _ refl none)))) refl) (beside _ _ (holding (codes "text") _ _ _ refl (with_word (codes "x") (codes "32") _ _ refl (with_word (codes "y") (codes "41") _ _ refl none)) refl (words (codes "signal"))) (beside _ _ (empty (codes "line") _ _ refl (with_word (codes "class") (codes "pipe") _ _ refl (with_word (codes "x1") (codes "120") _ _ refl (with_word (codes "y1") (codes "36") _ _ refl (with_word (codes "x2") (codes "150") _ _ refl (with_word (codes "y2") (codes "36") _ _ refl none))))) refl) (beside _ _ (empty (codes "ellipse") _ _ refl (with_word (codes "class") (codes "accepted") _ _ refl (with_word (codes "cx") (codes "150") _ _ refl (with_word (codes "cy") (codes "36") _ _ refl (with_word (codes "rx") (codes "5") _ _ refl (with_word (codes "ry") (codes "5") _ _ refl none))))) refl) (beside _ _ (holding (codes "text") _ _ _ refl (with_word (codes "x") (codes "160") _ _ refl (with_word (codes "y") (codes "41") _ _ refl none)) refl (words (codes "pipe"))) (beside _ _ (empty (codes "line") _ _ refl (with_word (codes "class") (codes "refusal") _ _ refl (with_word (codes "x1") (codes "224") _ _ refl (with_word (codes "y1") (codes "36") _ _ refl (with_word (codes "x2") (codes "248") _ _ refl (with_word (codes "y2") (codes "36") _ _ refl none))))) refl) (beside _ _ (holding (codes "text") _ _ _ refl (with_word (codes "x") (codes "256") _ _ refl (with_word (codes "y") (codes "41") _ _ refl none)) refl (words (codes "in the way"))) (beside _ _ (empty (codes "ellipse") _ _ refl (with_word (codes "class") (codes "failed") _ _ refl (with_word (codes "cx") (codes "352") _ _ refl (with_word (codes "cy") (codes "36") _ _ refl (with_word (codes "rx") (codes "5") _ _ refl (with_word (codes "ry") (codes "5") _ _ refl none))))) refl) (holding (codes "text") _ _ _ refl (with_word (codes "x") (codes "364") _ _ refl (with_word (codes "y") (codes "41") _ _ refl none)) refl (words (codes "error")))))))))))))))))))
