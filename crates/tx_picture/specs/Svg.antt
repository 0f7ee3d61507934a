-- The text of a picture in SVG: elements, each of which is closed, and texts, in which each byte
-- with a meaning of its own is escaped.
use Rattle.std.specs.Prelude.{ℕ, List, [], ◌∷◌, ◌++◌, codes, if◌then◌else◌, length, nat_lt, ◌==◌}
use Rattle.std.specs.Fmt.{decimal}
use Rattle.std.specs.List.{flat_map}
use Rattle.tx_picture.specs.declared.elements.Numbers.{Numbers}
use Rattle.tx_picture.specs.declared.elements.Shape.{Shape}
use Rattle.tx_picture.specs.declared.elements.Shape.TheVariants.{Rect, Line, Ellipse}

-- a line's end or printable ASCII; another one is shown as a question mark
abbrev pub shown_byte : ℕ → List ℕ
shown_byte byte =
    if byte == 10
    then 10 ∷ []
    else (if nat_lt byte 32 then codes "?" else (if nat_lt 126 byte then codes "?" else byte ∷ []))

abbrev pub escaped_byte : ℕ → List ℕ
escaped_byte byte =
    if byte == 38
    then codes "&amp;"
    else (if byte == 60
    then codes "&lt;"
    else (if byte == 62
    then codes "&gt;"
    else (if byte == 34 then codes "&quot;" else shown_byte byte)))

abbrev pub escaped : List ℕ → List ℕ
escaped bytes = flat_map escaped_byte bytes

abbrev pub attribute : List ℕ → List ℕ → List ℕ
attribute name value = 32 ∷ (name ++ (codes "=\"" ++ (value ++ codes "\"")))

-- an attribute that is a number, or a word
abbrev pub numbered : List ℕ → ℕ → List ℕ
numbered name number = attribute name (decimal number)

abbrev pub worded : List ℕ → List ℕ → List ℕ
worded name word = attribute name (escaped word)

-- an element with nothing in it, and one with something
abbrev pub empty_element : List ℕ → List ℕ → List ℕ
empty_element name attributes = 60 ∷ (name ++ (attributes ++ codes "/>\n"))

abbrev pub element : List ℕ → List ℕ → List ℕ → List ℕ
element name attributes inner =
    60 ∷ (name ++ (attributes ++ 62 ∷ (inner ++ (codes "</" ++ (name ++ codes ">\n")))))

abbrev pub shape_name : Shape → List ℕ
shape_name Rect = codes "rect"
shape_name Line = codes "line"
shape_name Ellipse = codes "ellipse"

-- the attributes of a shape
abbrev pub numbers_text : Shape → Numbers → List ℕ
numbers_text Rect n =
    numbered (codes "x") n.0
    ++ (numbered (codes "y") n.1 ++ (numbered (codes "width") n.2 ++ numbered (codes "height") n.3))
numbers_text Line n =
    numbered (codes "x1") n.0
    ++ (numbered (codes "y1") n.1 ++ (numbered (codes "x2") n.2 ++ numbered (codes "y2") n.3))
numbers_text Ellipse n =
    numbered (codes "cx") n.0
    ++ (numbered (codes "cy") n.1 ++ (numbered (codes "rx") n.2 ++ numbered (codes "ry") n.3))

-- a shape of a class
unfoldable pub shape_text : Shape → List ℕ → Numbers → List ℕ
shape_text shape class numbers =
    empty_element (shape_name shape) (worded (codes "class") class ++ numbers_text shape numbers)

-- a text of a class, at a place
unfoldable pub words_text : List ℕ → ℕ → ℕ → List ℕ → List ℕ
words_text class x y words =
    element (codes "text")
    (worded (codes "class") class ++ (numbered (codes "x") x ++ numbered (codes "y") y))
    (escaped words)

-- the whole of a text that is cut
abbrev pub title_text : List ℕ → List ℕ → List ℕ
title_text shown whole =
    if nat_lt (length shown) (length whole) then element (codes "title") [] (escaped whole) else []

-- a text of a class, at a place, which is shown so; the whole of it is its title where it is cut
unfoldable pub titled_text : List ℕ → ℕ → ℕ → List ℕ → List ℕ → List ℕ
titled_text class x y shown whole =
    element (codes "text")
    (worded (codes "class") class ++ (numbered (codes "x") x ++ numbered (codes "y") y))
    (title_text shown whole ++ escaped shown)
