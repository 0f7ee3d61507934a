-- The spelling of bytes.
use Rattle.std.specs.Prelude.{ℕ, ◌/◌, ◌%◌, List, [], ◌∷◌, codes, slice_index}
use Rattle.hex.specs.Hex.{encode_lower, lower_digits}

-- the two digits of a byte
abbrev pub two_digits : ℕ → List ℕ
two_digits byte = slice_index lower_digits (byte / 16) ∷ slice_index lower_digits (byte % 16) ∷ []

-- bytes in hex digits, or `-` for none
abbrev pub bytes_text : List ℕ → List ℕ
bytes_text [] = codes "-"
bytes_text (byte ∷ bytes) = encode_lower (byte ∷ bytes)
