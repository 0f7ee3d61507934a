-- What reads tokens one after another: what was read, and the tokens after it.
use Rattle.std.specs.Prelude.{ℕ, ℤ, zero, suc, Bool, List, [], ◌∷◌, length, Option, Some, None, if◌then◌else◌}
use Rattle.std.specs.Str.{bytes_eq}
use Rattle.json.specs.Json.{after_end_array}
use Rattle.json.specs.Token.{Token}
use Rattle.tx_reads_back.specs.Numbers.{bytes_of, count_of, number_of}

abbrev pub Read : Type 0 → Type 0
Read A = List Token → Option (A × List Token)

-- one thing, if it is there, and then another by what the first one is
infixl 10 ◌>>=◌
abbrev pub ◌>>=◌ : {A B : Type 0} → Option A → (A → Option B) → Option B
None >>= next = None
Some one >>= next = next one

-- what follows a key of that name
abbrev pub after_key : List ℕ → List Token → Option (List Token)
after_key name (Token.key found ∷ rest) = if bytes_eq found name then Some rest else None
after_key name _ = None

-- the text of a number, a string, and true or false
abbrev pub digits_at : Read (List ℕ)
digits_at (Token.number digits ∷ rest) = Some (digits, rest)
digits_at _ = None

abbrev pub string_at : Read (List ℕ)
string_at (Token.string word ∷ rest) = Some (word, rest)
string_at _ = None

abbrev pub flag_at : Read Bool
flag_at (Token.boolean flag ∷ rest) = Some (flag, rest)
flag_at _ = None

-- a count, and a number that may be negative
unfoldable pub count_at : Read ℕ
count_at tokens = do
  digits ← digits_at tokens
  count ← count_of digits.0
  Some (count, digits.1)

unfoldable pub number_at : Read ℤ
number_at tokens = do
  digits ← digits_at tokens
  number ← number_of digits.0
  Some (number, digits.1)

-- a member of that name
unfoldable pub count_in : List ℕ → Read ℕ
count_in name tokens = after_key name tokens >>= count_at

unfoldable pub number_in : List ℕ → Read ℤ
number_in name tokens = after_key name tokens >>= number_at

unfoldable pub word_in : List ℕ → Read (List ℕ)
word_in name tokens = after_key name tokens >>= string_at

unfoldable pub flag_in : List ℕ → Read Bool
flag_in name tokens = after_key name tokens >>= flag_at

-- the bytes that a member spells by hex digits
unfoldable pub bytes_in : List ℕ → Read (List ℕ)
bytes_in name tokens = do
  word ← word_in name tokens
  bytes ← bytes_of word.0
  Some (bytes, word.1)

-- what follows a bracket
abbrev pub after_begin : List Token → Option (List Token)
after_begin (Token.begin_object ∷ rest) = Some rest
after_begin _ = None

abbrev pub after_end : List Token → Option (List Token)
after_end (Token.end_object ∷ rest) = Some rest
after_end _ = None

abbrev pub after_list : List Token → Option (List Token)
after_list (Token.begin_array ∷ rest) = Some rest
after_list _ = None

-- an object whose members are read so
unfoldable pub object_by : {A : Type 0} → Read A → Read A
object_by members tokens = do
  inside ← after_begin tokens
  found ← members inside
  rest ← after_end found.1
  Some (found.0, rest)

-- the items of a list up to its end: the number bounds them
abbrev pub items_step : {A : Type 0} → Read A → Read (List A) → List Token → Option (List Token)
    → Option (List A × List Token)
items_step item more tokens (Some rest) = Some ([], rest)
items_step item more tokens None = do
  one ← item tokens
  items ← more one.1
  Some (one.0 ∷ items.0, items.1)

unfoldable pub items_by : {A : Type 0} → Read A → ℕ → Read (List A)
items_by item zero tokens = None
items_by item (suc most) tokens =
    items_step item (items_by item most) tokens (after_end_array tokens)

-- a member of that name that is a list; it has no more items than there are tokens
unfoldable pub list_in : {A : Type 0} → List ℕ → Read A → Read (List A)
list_in name item tokens = do
  list ← after_key name tokens
  inside ← after_list list
  items_by item (suc (length inside)) inside

-- what is read is all there is
abbrev pub whole : {A : Type 0} → Option (A × List Token) → Option A
whole None = None
whole (Some (read, [])) = Some read
whole (Some (read, token ∷ rest)) = None
