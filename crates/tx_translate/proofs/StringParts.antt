-- The bytes of a string, one after another.
use Rattle.std.proofs.Common.{ℕ, zero, suc, ◌<◌, List, [], ◌∷◌, ◌++◌, Option, Some, None, arith}
use Rattle.hex.specs.Hex.{IsBytes}

-- what is meant after some bytes
abbrev pub after_bytes : List ℕ → Option (List ℕ) → Option (List ℕ)
after_bytes bytes None = None
after_bytes bytes (Some later) = Some (bytes ++ later)

-- one byte more
pub bytes_push : (bytes : List ℕ) (byte : ℕ) → IsBytes bytes → byte < 256 → IsBytes (bytes ++ byte ∷ [])
bytes_push [] byte are small zero = small
bytes_push [] byte are small (suc i) = omega arith
bytes_push (first ∷ bytes) byte are small zero = are 0
bytes_push (first ∷ bytes) byte are small (suc i) = bytes_push bytes byte (λ k. are (suc k)) small i
