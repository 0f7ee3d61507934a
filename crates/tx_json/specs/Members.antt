-- The tokens of members of an object, and of what they hold.
use Rattle.std.specs.Prelude.{ℕ, ℤ, Bool, List, [], ◌∷◌, ◌++◌}
use Rattle.std.specs.Fmt.{decimal, signed_decimal}
use Rattle.json.specs.Token.{Token}

-- a key and a count
unfoldable pub count_member : List ℕ → ℕ → List Token
count_member name count = Token.key name ∷ Token.number (decimal count) ∷ []

-- a key and a number that may be negative
unfoldable pub number_member : List ℕ → ℤ → List Token
number_member name number = Token.key name ∷ Token.number (signed_decimal number) ∷ []

-- a key and a word
unfoldable pub word_member : List ℕ → List ℕ → List Token
word_member name word = Token.key name ∷ Token.string word ∷ []

-- a key, and true or false
unfoldable pub flag_member : List ℕ → Bool → List Token
flag_member name flag = Token.key name ∷ Token.boolean flag ∷ []

-- a key without a value
unfoldable pub null_member : List ℕ → List Token
null_member name = Token.key name ∷ Token.null ∷ []

-- a key, and an object after it
unfoldable pub object_key : List ℕ → List Token
object_key name = Token.key name ∷ []

-- the brackets of an object and of an array
unfoldable pub begin_object : List Token
begin_object = Token.begin_object ∷ []

unfoldable pub end_object : List Token
end_object = Token.end_object ∷ []

unfoldable pub begin_list : List ℕ → List Token
begin_list name = Token.key name ∷ Token.begin_array ∷ []

unfoldable pub end_list : List Token
end_list = Token.end_array ∷ []

-- a key and an array
abbrev pub list_member : List ℕ → List Token → List Token
list_member name items = begin_list name ++ (items ++ end_list)
