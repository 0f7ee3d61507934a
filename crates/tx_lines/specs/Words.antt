-- The words of a line.
use Rattle.std.specs.Prelude.{ℕ, List, [], ◌∷◌, ◌++◌, Option, Some, None, nat_eq, if◌then◌else◌}

-- the same parts, with one byte more at the front
abbrev pub with_front : ℕ → Option (List ℕ × List ℕ) → Option (List ℕ × List ℕ)
with_front byte None = None
with_front byte (Some parts) = Some (byte ∷ parts.0, parts.1)

-- the text before the first byte of that kind, and the text after it
abbrev pub parts_at : ℕ → List ℕ → Option (List ℕ × List ℕ)
parts_at mark [] = None
parts_at mark (byte ∷ bytes) =
    if nat_eq byte mark then Some ([], bytes) else with_front byte (parts_at mark bytes)

-- the text before the first space, and the text after it
abbrev pub first_word : List ℕ → Option (List ℕ × List ℕ)
first_word line = parts_at 32 line

-- a first word, and others with a space before each
abbrev pub joined : List ℕ → List (List ℕ) → List ℕ
joined word [] = word
joined word (next ∷ words) = word ++ 32 ∷ joined next words
