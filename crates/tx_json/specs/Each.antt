-- Tokens one after another.
use Rattle.std.specs.Prelude.{ℕ, zero, suc, List, [], ◌∷◌, ◌++◌}
use Rattle.json.specs.Token.{Token}

-- the tokens of each item, in order
abbrev pub each_tokens : {A : Type 0} → (A → List Token) → List A → List Token
each_tokens tokens [] = []
each_tokens tokens (item ∷ items) = tokens item ++ each_tokens tokens items

-- the tokens of each number below a limit, in order
unfoldable pub upto : (ℕ → List Token) → ℕ → List Token
upto tokens zero = []
upto tokens (suc limit) = upto tokens limit ++ tokens limit
