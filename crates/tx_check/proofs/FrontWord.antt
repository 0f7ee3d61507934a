-- The first word of a line is no longer than the line.
use Rattle.std.proofs.Common.{◌≡◌, ◌≤◌, ℕ, List, [], ◌∷◌, Option, Some, None, length, ap, inl, inr, arith}
use Rattle.std.proofs.lemmas.Bool.Decides.{eqb_tells}
use Rattle.tx_check.specs.Kinds.{front_by, front_word}
use Rattle.tx_lines.specs.Words.{first_word, with_front}

one_more : (byte : ℕ) (bytes : List ℕ) (found : Option (List ℕ × List ℕ)) → length (front_by bytes found) ≤ length bytes → length (front_by (byte ∷ bytes) (with_front byte found)) ≤ length (byte ∷ bytes)
one_more byte bytes None few = omega arith
one_more byte bytes (Some parts) few = omega (arith, few)

front_short : (line : List ℕ) → length (front_word line) ≤ length line
front_short [] = omega arith
front_short (byte ∷ bytes) =
    elim (eqb_tells byte 32) [ inl h ↦ rw h.0 (omega arith) | inr h ↦ rw h.0 (one_more byte bytes (first_word bytes) (front_short bytes)) ]

pub found_short : (line word rest : List ℕ) → Some (word, rest) ≡ first_word line → length word ≤ length line
found_short line word rest found = let same : word ≡ front_word line = ap (front_by line) found in omega (arith, ap length same, front_short line)
