-- The spelling of bytes in version 2 means these bytes.
use Rattle.std.proofs.Common.{◌≡◌, ◌≢◌, ℕ, suc, zero, ◌*◌, ◌/◌, ◌%◌, ◌<◌, ◌≤◌, Bool, true, false, not, ◌&&◌, nat_eq, List, [], ◌∷◌, codes, length, map, get_or, refl, ap, ◌∙◌, arith, eq-eqb, eqb-true}
use Rattle.std.proofs.lemmas.Bool.{both_ways, le-leb}
use Rattle.std.specs.Char.{is_ascii_hexdigit, to_ascii_lowercase}
use Rattle.std.specs.List.{list_all}
use Rattle.hex.specs.Hex.{encode_lower, encode_with, lower_digits, IsBytes}
use Rattle.tx_translate.specs.ByteWords.{digits_of, is_hex, lower_or, plain_bytes}
use Rattle.tx_translate.proofs.Unnamed.{differ}
use Rattle.tx_translate.proofs.Tests.{and_parts}

-- a digit that stays, and begins neither a string nor `0x`
pub record IsLowerDigit (byte : ℕ) : Type 0 where
  pub digit : is_ascii_hexdigit byte ≡ true
  pub lower : to_ascii_lowercase byte ≡ byte
  pub quote : nat_eq byte 34 ≡ false
  pub mark : nat_eq byte 120 ≡ false

abbrev is_lower : ℕ → Bool
is_lower byte = is_ascii_hexdigit byte && (nat_eq (to_ascii_lowercase byte) byte && (not (nat_eq byte 34) && not (nat_eq byte 120)))

not_parts : (a : Bool) → not a ≡ true → a ≡ false
not_parts true h = absurd (both_ways false refl h)
not_parts false h = refl

lower_digit : (byte : ℕ) → is_lower byte ≡ true → IsLowerDigit byte
lower_digit byte h =
    let a = and_parts (is_ascii_hexdigit byte) (nat_eq (to_ascii_lowercase byte) byte && (not (nat_eq byte 34) && not (nat_eq byte 120))) h in
    let b = and_parts (nat_eq (to_ascii_lowercase byte) byte) (not (nat_eq byte 34) && not (nat_eq byte 120)) a.1 in
    let d = and_parts (not (nat_eq byte 34)) (not (nat_eq byte 120)) b.1 in
    record {
      digit = a.0;
      lower = eqb-true (to_ascii_lowercase byte) byte b.0;
      quote = not_parts (nat_eq byte 34) d.0;
      mark = not_parts (nat_eq byte 120) d.1;
    }

among : (digits : List ℕ) (k : ℕ) → list_all is_lower digits ≡ true → k < length digits → IsLowerDigit (get_or digits k 0)
among [] k all inside = absurd (omega (arith, inside))
among (byte ∷ digits) zero all inside = lower_digit byte (and_parts (is_lower byte) (list_all is_lower digits) all).0
among (byte ∷ digits) (suc k) all inside = among digits k (and_parts (is_lower byte) (list_all is_lower digits) all).1 (omega (arith, inside))

digit_at : (k : ℕ) → k < 16 → IsLowerDigit (get_or lower_digits k 0)
digit_at k small = among lower_digits k refl small

-- the digits of bytes
record AreDigits (word : List ℕ) (count : ℕ) : Type 0 where
  pub size : length word ≡ 2 * count
  pub digits : list_all is_ascii_hexdigit word ≡ true
  pub lower : map to_ascii_lowercase word ≡ word

hex_digits : (bytes : List ℕ) → IsBytes bytes → AreDigits (encode_lower bytes) (length bytes)
unfolding encode_with
hex_digits [] are = record { size = refl; digits = refl; lower = refl }
hex_digits (byte ∷ bytes) are =
    let small : byte < 256 = are 0 in
    let high = digit_at (byte / 16) (omega arith) in
    let low = digit_at (byte % 16) (omega arith) in
    let later = hex_digits bytes (λ i. are (suc i)) in
    record {
      size = omega (arith, later.size);
      digits = rw (high.digit, low.digit) later.digits;
      lower = rw (high.lower, low.lower) (ap (λ (t : List ℕ). get_or lower_digits (byte / 16) 0 ∷ get_or lower_digits (byte % 16) 0 ∷ t) later.lower);
    }

is_word : (word : List ℕ) (count : ℕ) → AreDigits word count → 0 < count → count ≤ 64 → is_hex word ≡ true
is_word word count are some few =
    let size : length word ≡ 2 * count = are.size in
    let least = le-leb 1 (length word) (omega arith) in
    let most = le-leb (length word) 128 (omega arith) in
    let even : nat_eq (length word % 2) 0 ≡ true = eq-eqb (length word % 2) 0 (omega arith) in
    rw (least, most, even) are.digits

apart : (byte other : ℕ) → nat_eq byte other ≡ false → byte ≢ other
apart byte other h e = both_ways (nat_eq byte other) h (eq-eqb byte other e)

no_mark : (high low : ℕ) (word : List ℕ) → nat_eq low 120 ≡ false → digits_of (high ∷ low ∷ word) ≡ high ∷ low ∷ word
no_mark high low word other =
    let differs = differ (high ∷ low ∷ []) (codes "0x") (λ e. apart low 120 other (ap (λ (t : List ℕ). get_or t 1 0) e)) in
    rw differs refl

word_stays : (high low : ℕ) (word : List ℕ) (count : ℕ) → nat_eq high 34 ≡ false → nat_eq low 120 ≡ false → AreDigits (high ∷ low ∷ word) count → 0 < count → count ≤ 64 →
    plain_bytes (high ∷ low ∷ word) ≡ high ∷ low ∷ word
word_stays high low word count quote mark are some few =
    let here : lower_or (high ∷ low ∷ word) (high ∷ low ∷ word) ≡ high ∷ low ∷ word = rw (is_word (high ∷ low ∷ word) count are some few) are.lower in
    rw quote (ap (lower_or (high ∷ low ∷ word)) (no_mark high low word mark) ∙ here)

pub bytes_stay : (bytes : List ℕ) → IsBytes bytes → 0 < length bytes → length bytes ≤ 64 → plain_bytes (encode_lower bytes) ≡ encode_lower bytes
unfolding encode_with
bytes_stay [] are some few = refl
bytes_stay (byte ∷ bytes) are some few =
    let small : byte < 256 = are 0 in
    let high = digit_at (byte / 16) (omega arith) in
    let low = digit_at (byte % 16) (omega arith) in
    word_stays (get_or lower_digits (byte / 16) 0) (get_or lower_digits (byte % 16) 0) (encode_lower bytes) (length (byte ∷ bytes)) high.quote low.mark (hex_digits (byte ∷ bytes) are) some few
