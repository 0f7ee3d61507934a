-- The bytes that a string means.
use Rattle.std.specs.Prelude.{ℕ, Bool, true, false, ◌&&◌, List, [], ◌∷◌, length, nat_eq, nat_le, Option, Some, None, if◌then◌else◌}

-- the byte that an escape means, by the byte after its `\`; nothing where there is no such escape
abbrev pub escape_of : ℕ → Option ℕ
escape_of byte =
    if nat_eq byte 110 then Some 10
    else if nat_eq byte 116 then Some 9
    else if nat_eq byte 48 then Some 0
    else if nat_eq byte 34 then Some 34
    else if nat_eq byte 92 then Some 92
    else None

-- the same bytes after one more, where both are there
abbrev pub after_first : Option ℕ → Option (List ℕ) → Option (List ℕ)
after_first None later = None
after_first (Some byte) None = None
after_first (Some byte) (Some bytes) = Some (byte ∷ bytes)

-- a string ends where its word does
abbrev pub at_close : List ℕ → Option (List ℕ)
at_close [] = Some []
at_close (byte ∷ bytes) = None

-- the bytes that what is left of a string means, whether or not a `\` is the last byte before;
-- nothing where its end is missing, where more follows at once, or where it has another escape
abbrev pub meant_from : Bool → List ℕ → Option (List ℕ)
meant_from escaped [] = None
meant_from true (byte ∷ bytes) = after_first (escape_of byte) (meant_from false bytes)
meant_from false (byte ∷ bytes) =
    if nat_eq byte 34 then at_close bytes
    else if nat_eq byte 92 then meant_from true bytes
    else after_first (Some byte) (meant_from false bytes)

-- bytes that one store may have: 1 to 64
abbrev pub storable : Option (List ℕ) → Option (List ℕ)
storable None = None
storable (Some bytes) =
    if nat_le 1 (length bytes) && nat_le (length bytes) 64 then Some bytes else None

-- the bytes that a string means after its first `"`
abbrev pub meant : List ℕ → Option (List ℕ)
meant string = storable (meant_from false string)
