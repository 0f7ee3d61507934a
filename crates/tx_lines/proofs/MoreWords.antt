-- Words that are appended one by one.
use Rattle.std.proofs.Common.{ℕ, List, [], ◌∷◌}
use Rattle.tx_lines.specs.Words.{joined}

-- words, with a space before each
abbrev pub more_words : List (List ℕ) → List ℕ
more_words [] = []
more_words (word ∷ words) = 32 ∷ joined word words
