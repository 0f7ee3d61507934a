-- The numbers that digits spell, each in its one spelling, and the bytes that hex digits spell.
use Rattle.std.specs.Prelude.{ℕ, ℤ, zero, suc, pos, negsuc, ◌+◌, ◌-◌, ◌*◌, List, [], ◌∷◌, Option, Some, None, fold, if◌then◌else◌, nat_eq, option_map, option_and_then, Result, Ok, Err}
use Rattle.std.specs.Fmt.{decimal}
use Rattle.std.specs.Str.{bytes_eq}
use Rattle.hex.specs.Hex.{decode_of}

-- what digits come to
abbrev pub value_of : List ℕ → ℕ
value_of digits = fold (λ value digit. value * 10 + (digit - 48)) 0 digits

-- the count that a text spells: that of which it is the digits
unfoldable pub count_of : List ℕ → Option ℕ
count_of text = if bytes_eq (decimal (value_of text)) text then Some (value_of text) else None

abbrev pub negative_of : ℕ → Option ℤ
negative_of zero = None
negative_of (suc n) = Some (negsuc n)

-- the number that a text spells, with `-` before a negative one
unfoldable pub number_of : List ℕ → Option ℤ
number_of [] = None
number_of (first ∷ rest) =
    if nat_eq first 45
    then option_and_then negative_of (count_of rest)
    else option_map pos (count_of (first ∷ rest))

abbrev pub unless_faulty : {A E : Type 0} → Result A E → Option A
unless_faulty (Ok found) = Some found
unless_faulty (Err fault) = None

-- the bytes that a text spells, two hex digits each
unfoldable pub bytes_of : List ℕ → Option (List ℕ)
bytes_of text = unless_faulty (decode_of text)
