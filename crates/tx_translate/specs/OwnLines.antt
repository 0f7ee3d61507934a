-- The lines of a text that a person wrote. A line ends with byte 10, or where the text ends; one
-- byte 13 right before its end is no part of it.
use Rattle.std.specs.Prelude.{ℕ, List, [], ◌∷◌, map, nat_eq, if◌then◌else◌}

-- the same parts, with one byte more at the front of the first
abbrev pub with_byte : ℕ → List (List ℕ) → List (List ℕ)
with_byte byte [] = (byte ∷ []) ∷ []
with_byte byte (part ∷ parts) = (byte ∷ part) ∷ parts

-- the lines without byte 10
abbrev pub ended_lines : List ℕ → List (List ℕ)
ended_lines [] = []
ended_lines (byte ∷ bytes) =
    if nat_eq byte 10 then [] ∷ ended_lines bytes else with_byte byte (ended_lines bytes)

-- a line without the byte 13 at its end, where it has one
abbrev pub without_return : List ℕ → List ℕ
without_return [] = []
without_return (byte ∷ []) = if nat_eq byte 13 then [] else byte ∷ []
without_return (byte ∷ next ∷ bytes) = byte ∷ without_return (next ∷ bytes)

-- the lines without their ends
abbrev pub own_lines : List ℕ → List (List ℕ)
own_lines text = map without_return (ended_lines text)
