-- What is a well-formed document of XML: one element holds all, each that is opened is closed, none
-- has an attribute twice, and a text between them is escaped.
use Rattle.std.specs.Prelude.{ℕ, Bool, true, false, ◌&&◌, ◌||◌, not, List, [], ◌∷◌, ◌++◌, nat_le, IsTrue}
use Rattle.std.specs.Fmt.{decimal}
use Rattle.std.specs.List.{list_all, list_any}
use Rattle.std.specs.Str.{bytes_eq}
use Rattle.tx_picture.specs.Svg.{attribute, element, empty_element, escaped}

abbrev pub is_letter : ℕ → Bool
is_letter byte = (nat_le 97 byte && nat_le byte 122) || (nat_le 65 byte && nat_le byte 90)

abbrev pub is_name_byte : ℕ → Bool
is_name_byte byte = is_letter byte || (nat_le 48 byte && nat_le byte 57)

-- a letter, and then letters and digits
abbrev pub is_name : List ℕ → Bool
is_name [] = false
is_name (byte ∷ bytes) = is_letter byte && list_all is_name_byte bytes

-- a value of an attribute: escaped texts and numbers
pub data IsValue : List ℕ → Type 0 where
  word : (bytes : List ℕ) → IsValue (escaped bytes)
  numeral : (n : ℕ) → IsValue (decimal n)
  joined : (first second : List ℕ) → IsValue first → IsValue second → IsValue (first ++ second)

-- attributes of these names
pub data AreAttributes : List (List ℕ) → List ℕ → Type 0 where
  none : AreAttributes [] []
  one : (name value : List ℕ) → IsTrue (is_name name) → IsValue value
      → AreAttributes (name ∷ []) (attribute name value)
  more : (names others : List (List ℕ)) (first second : List ℕ) → AreAttributes names first
      → AreAttributes others second → AreAttributes (names ++ others) (first ++ second)

-- none is there twice
abbrev pub are_distinct : List (List ℕ) → Bool
are_distinct [] = true
are_distinct (name ∷ names) = not (list_any (bytes_eq name) names) && are_distinct names

-- what an element may hold: texts and elements
pub data IsContent : List ℕ → Type 0 where
  nothing : IsContent []
  words : (bytes : List ℕ) → IsContent (escaped bytes)
  empty : (name : List ℕ) (names : List (List ℕ)) (attributes : List ℕ) → IsTrue (is_name name)
      → AreAttributes names attributes → IsTrue (are_distinct names)
      → IsContent (empty_element name attributes)
  holding : (name : List ℕ) (names : List (List ℕ)) (attributes inner : List ℕ)
      → IsTrue (is_name name) → AreAttributes names attributes → IsTrue (are_distinct names)
      → IsContent inner
      → IsContent (element name attributes inner)
  beside : (first second : List ℕ) → IsContent first → IsContent second
      → IsContent (first ++ second)

-- one element
pub data IsWellFormed : List ℕ → Type 0 where
  root : (name : List ℕ) (names : List (List ℕ)) (attributes inner : List ℕ) → IsTrue (is_name name)
      → AreAttributes names attributes → IsTrue (are_distinct names) → IsContent inner
      → IsWellFormed (element name attributes inner)
