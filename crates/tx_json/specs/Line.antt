-- A line of JSON.
use Rattle.std.specs.Prelude.{◌≡◌, ◌≢◌, ℕ, List, [], ◌∷◌, ◌++◌, All}
use Rattle.json.specs.Print.{print}
use Rattle.json.specs.Token.{Token, begin_object, end_object, begin_array, end_array, key, string, number, boolean, null, bad}
use Rattle.json.specs.Written.{Written}

-- no byte of it is a line end
abbrev pub HasNoEnd : List ℕ → Type 0
HasNoEnd text = All (λ byte. byte ≢ 10) text

-- the text is the JSON of the tokens, then a line end, and has no other line end
pub record IsLineOf (tokens : List Token) (text : List ℕ) : Type 0 where
  pub printed : text ≡ print tokens ++ 10 ∷ []
  pub one_line : HasNoEnd (print tokens)

-- a number has no line end; whatever else a token has is escaped
abbrev pub IsOnOneLine : Token → Type 0
IsOnOneLine begin_object = Unit {0}
IsOnOneLine end_object = Unit {0}
IsOnOneLine begin_array = Unit {0}
IsOnOneLine end_array = Unit {0}
IsOnOneLine (key name) = Unit {0}
IsOnOneLine (string word) = Unit {0}
IsOnOneLine (number digits) = HasNoEnd digits
IsOnOneLine (boolean flag) = Unit {0}
IsOnOneLine null = Unit {0}
IsOnOneLine bad = Unit {0}

-- a writer of a line began empty, and has only such tokens
pub record IsLine (written : Written) : Type 0 where
  pub begins : written.before ≡ []
  pub one_line : All IsOnOneLine written.tokens
