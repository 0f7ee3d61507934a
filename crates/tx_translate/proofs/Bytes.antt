-- The bytes of words: which values they have.
use Rattle.std.proofs.Common.{◌≡◌, ℕ, suc, zero, ◌+◌, ◌/◌, ◌%◌, ◌<◌, ◌≤◌, ◌^◌, Bool, true, nat_lt, ◌&&◌, List, [], ◌∷◌, ◌++◌, codes, length, get_or, refl, arith, length-append, ltb-true}
use Rattle.std.proofs.lemmas.Fmt.{decimal_by_steps, decimal_nonempty}
use Rattle.std.specs.Fmt.{decimal, signed_decimal}
use Rattle.std.specs.Int.{w64}
use Rattle.std.specs.List.{list_all}
use Rattle.std.specs.Prelude.{ℤ, pos, negsuc, FitsSigned}
use Rattle.hex.specs.Hex.{encode_lower, encode_with, lower_digits, IsBytes}
use Rattle.tx_lines.specs.ListedSets.{AreRising}
use Rattle.tx_lines.specs.Lists.{list_text, more_text}
use Rattle.tx_lines.specs.NumberFacts.{mag_small}
use Rattle.tx_translate.proofs.Tests.{and_parts}

-- all bytes are above the one number and below the other
abbrev pub AreWithin : ℕ → ℕ → List ℕ → Type 0
AreWithin low high [] = Unit {0}
AreWithin low high (byte ∷ bytes) = (low < byte) × (byte < high) × AreWithin low high bytes

pub within_append : (low high : ℕ) (first second : List ℕ) → AreWithin low high first → AreWithin low high second → AreWithin low high (first ++ second)
within_append low high [] second a b = b
within_append low high (byte ∷ first) second a b = (a.0, a.1, within_append low high first second a.2 b)

pub within_wider : (low high low' high' : ℕ) (bytes : List ℕ) → low' ≤ low → high ≤ high' → AreWithin low high bytes → AreWithin low' high' bytes
within_wider low high low' high' [] l h are = tt
within_wider low high low' high' (byte ∷ bytes) l h are =
    let above : low < byte = are.0 in
    let below : byte < high = are.1 in
    (omega arith, omega arith, within_wider low high low' high' bytes l h are.2)

-- the digits of a number
pub digits_within : (n : ℕ) → n < 2 ^ 64 → AreWithin 47 58 (decimal n)
digits_within n small =
    decimal_by_steps (λ m ds. AreWithin 47 58 ds) (λ m less. (omega arith, omega arith, tt))
    (λ m ds more so. within_append 47 58 ds ((48 + m % 10) ∷ []) so (omega arith, omega arith, tt)) n small

-- a word of the alphabet of version 2
pub record IsBare (word : List ℕ) : Type 0 where
  pub within : AreWithin 35 128 word
  pub some : 0 < length word

abbrev pub AllBare : List (List ℕ) → Type 0
AllBare [] = Unit {0}
AllBare (word ∷ words) = IsBare word × AllBare words

pub bare_decimal : (n : ℕ) → n < 2 ^ 64 → IsBare (decimal n)
bare_decimal n small = record { within = within_wider 47 58 35 128 (decimal n) (omega arith) (omega arith) (digits_within n small); some = decimal_nonempty n small }

pub bare_signed : (z : ℤ) → FitsSigned w64 z → IsBare (signed_decimal z)
bare_signed (pos n) fits = bare_decimal n (omega (arith, mag_small (pos n) fits))
bare_signed (negsuc n) fits =
    let digits = bare_decimal (suc n) (omega (arith, mag_small (negsuc n) fits)) in
    record { within = (omega arith, omega arith, digits.within); some = omega arith }

-- a byte below a limit begins the word
pub record IsLow (limit : ℕ) (word : List ℕ) : Type 0 where
  pub byte : ℕ
  pub bytes : List ℕ
  pub parts : word ≡ byte ∷ bytes
  pub below : byte < limit

low_within : (low high : ℕ) (word : List ℕ) → 0 < length word → AreWithin low high word → IsLow high word
low_within low high [] some are = absurd (omega (arith, some))
low_within low high (byte ∷ bytes) some are = record { byte = byte; bytes = bytes; parts = refl; below = are.1 }

-- a byte above a limit begins the word
pub record IsHigh (limit : ℕ) (word : List ℕ) : Type 0 where
  pub byte : ℕ
  pub bytes : List ℕ
  pub parts : word ≡ byte ∷ bytes
  pub above : limit < byte

high_within : (low high : ℕ) (word : List ℕ) → 0 < length word → AreWithin low high word → IsHigh low word
high_within low high [] some are = absurd (omega (arith, some))
high_within low high (byte ∷ bytes) some are = record { byte = byte; bytes = bytes; parts = refl; above = are.0 }

pub high_decimal : (n : ℕ) → n < 2 ^ 64 → IsHigh 47 (decimal n)
high_decimal n small = high_within 47 58 (decimal n) (decimal_nonempty n small) (digits_within n small)

pub low_decimal : (n : ℕ) → n < 2 ^ 64 → IsLow 58 (decimal n)
low_decimal n small = low_within 47 58 (decimal n) (decimal_nonempty n small) (digits_within n small)

pub low_signed : (z : ℤ) → FitsSigned w64 z → IsLow 58 (signed_decimal z)
low_signed (pos n) fits = low_decimal n (omega (arith, mag_small (pos n) fits))
low_signed (negsuc n) fits = record { byte = 45; bytes = decimal (suc n); parts = refl; below = omega arith }

-- hex digits
within_at : (low high : ℕ) (bytes : List ℕ) (i : ℕ) → AreWithin low high bytes → i < length bytes → (low < get_or bytes i 0) × (get_or bytes i 0 < high)
within_at low high [] i are inside = absurd (omega (arith, inside))
within_at low high (byte ∷ bytes) zero are inside = (are.0, are.1)
within_at low high (byte ∷ bytes) (suc i) are inside = within_at low high bytes i are.2 (omega (arith, inside))

-- a test of the bytes of a literal
abbrev pub is_bare : List ℕ → Bool
is_bare word = nat_lt 0 (length word) && list_all (λ byte. nat_lt 35 byte && nat_lt byte 128) word

tested : (bytes : List ℕ) → list_all (λ byte. nat_lt 35 byte && nat_lt byte 128) bytes ≡ true → AreWithin 35 128 bytes
tested [] h = tt
tested (byte ∷ bytes) h =
    let here = and_parts (nat_lt 35 byte && nat_lt byte 128) (list_all (λ byte. nat_lt 35 byte && nat_lt byte 128) bytes) h in
    let both = and_parts (nat_lt 35 byte) (nat_lt byte 128) here.0 in
    (ltb-true 35 byte both.0, ltb-true byte 128 both.1, tested bytes here.1)

pub bare : (word : List ℕ) → is_bare word ≡ true → IsBare word
bare word h =
    let parts = and_parts (nat_lt 0 (length word)) (list_all (λ byte. nat_lt 35 byte && nat_lt byte 128) word) h in
    record { within = tested word parts.1; some = ltb-true 0 (length word) parts.0 }

digit_within : (k : ℕ) → k < 16 → (35 < get_or lower_digits k 0) × (get_or lower_digits k 0 < 128)
digit_within k small = within_at 35 128 lower_digits k (tested lower_digits refl) small

hex_within : (bytes : List ℕ) → IsBytes bytes → AreWithin 35 128 (encode_lower bytes)
unfolding encode_with
hex_within [] are = tt
hex_within (byte ∷ bytes) are =
    let small : byte < 256 = are 0 in
    let high = digit_within (byte / 16) (omega arith) in
    let low = digit_within (byte % 16) (omega arith) in
    (high.0, high.1, (low.0, low.1, hex_within bytes (λ i. are (suc i))))

pub bare_hex : (bytes : List ℕ) → IsBytes bytes → 0 < length bytes → IsBare (encode_lower bytes)
unfolding encode_with
bare_hex [] are some = absurd (omega (arith, some))
bare_hex (byte ∷ bytes) are some = record { within = hex_within (byte ∷ bytes) are; some = omega arith }

more_within : (above : ℕ) (signos : List ℕ) → AreRising above signos → AreWithin 35 128 (more_text signos)
more_within above [] rising = tt
more_within above (signo ∷ signos) rising =
    let small : signo < 2 ^ 8 = rising.1 in
    (omega arith, omega arith, within_append 35 128 (decimal signo) (more_text signos) (bare_decimal signo (omega arith)).within (more_within signo signos rising.3))

pub bare_list : (signos : List ℕ) → AreRising 0 signos → IsBare (list_text signos)
bare_list [] rising = bare (codes "-") refl
bare_list (signo ∷ signos) rising =
    let small : signo < 2 ^ 8 = rising.1 in
    let first = bare_decimal signo (omega arith) in
    record {
      within = within_append 35 128 (decimal signo) (more_text signos) first.within (more_within signo signos rising.3);
      some = omega (arith, first.some, length-append (decimal signo) (more_text signos));
    }
