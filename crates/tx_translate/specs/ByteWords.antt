-- The words for bytes: a string, `0x` and hex digits, or hex digits.
use Rattle.std.specs.Prelude.{ℕ, ◌%◌, Bool, ◌&&◌, List, [], ◌∷◌, drop, length, map, take, nat_eq, nat_le, codes, Option, Some, None, if◌then◌else◌}
use Rattle.std.specs.Char.{is_ascii_hexdigit, to_ascii_lowercase}
use Rattle.std.specs.List.{list_all}
use Rattle.std.specs.Str.{bytes_eq}
use Rattle.hex.specs.Hex.{encode_lower}
use Rattle.tx_translate.specs.Strings.{meant}

-- whether a word is hex digits for 1 to 64 bytes
abbrev pub is_hex : List ℕ → Bool
is_hex digits =
    nat_le 1 (length digits)
    && (nat_le (length digits) 128
    && (nat_eq (length digits % 2) 0 && list_all is_ascii_hexdigit digits))

-- the digits of a word, without `0x` where it begins so
abbrev pub digits_of : List ℕ → List ℕ
digits_of word = if bytes_eq (take 2 word) (codes "0x") then drop 2 word else word

-- digits in lower case, where they are digits, in place of the word
abbrev pub lower_or : List ℕ → List ℕ → List ℕ
lower_or word digits = if is_hex digits then map to_ascii_lowercase digits else word

-- bytes in hex digits, where there are some, in place of the word
abbrev pub hex_or : List ℕ → Option (List ℕ) → List ℕ
hex_or word None = word
hex_or word (Some bytes) = encode_lower bytes

-- a word with lower-case hex digits for its bytes
abbrev pub plain_bytes : List ℕ → List ℕ
plain_bytes [] = []
plain_bytes (byte ∷ bytes) =
    if nat_eq byte 34
    then hex_or (byte ∷ bytes) (meant bytes)
    else lower_or (byte ∷ bytes) (digits_of (byte ∷ bytes))
