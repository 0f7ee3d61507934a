-- Texts one after another.
use Rattle.std.specs.Prelude.{ℕ, zero, suc, List, [], ◌∷◌, ◌++◌}

-- the text of each item, in order
abbrev pub each_text : {A : Type 0} → (A → List ℕ) → List A → List ℕ
each_text text [] = []
each_text text (item ∷ items) = text item ++ each_text text items

-- the text of each number below a limit, in order
unfoldable pub upto : (ℕ → List ℕ) → ℕ → List ℕ
upto text zero = []
upto text (suc limit) = upto text limit ++ text limit
