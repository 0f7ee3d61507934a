-- The hex text of some bytes.
use Rattle.std.proofs.Common.{◌≡◌, ℕ, zero, suc, ◌+◌, ◌*◌, ◌/◌, ◌%◌, ◌<◌, ◌≤◌, List, [], ◌∷◌, ◌++◌, Ok, length, take, get_or, slice_index, refl, ap, ◌∙◌, sym, arith}
use Rattle.std.proofs.lemmas.List.{append_assoc, length_push, take_all, take_more}
use Rattle.hex.specs.Hex.{IsBytes, decode_of, encode_lower, encode_with, lower_digits}
use Rattle.hex.proofs.HexLemmas.{decode_of-encode_lower, length-encode_with}
use Rattle.tx_lines.specs.Bytes.{two_digits}

-- it has two digits for each byte
pub count_of : (word bytes : List ℕ) → word ≡ encode_lower bytes → length word ≡ 2 * length bytes
count_of word bytes e = omega (arith, ap length e, length-encode_with lower_digits bytes)

-- the two digits of a byte
high_digit : (bytes : List ℕ) (i : ℕ) → i < length bytes → get_or (encode_lower bytes) (2 * i) 0 ≡ slice_index lower_digits (get_or bytes i 0 / 16)
unfolding encode_with
high_digit [] i inside = absurd (omega arith)
high_digit (byte ∷ bytes) zero inside = refl
high_digit (byte ∷ bytes) (suc i) inside =
    let two : 2 * suc i ≡ suc (suc (2 * i)) = omega arith in
    rw two (high_digit bytes i (omega arith))

low_digit : (bytes : List ℕ) (i : ℕ) → i < length bytes → get_or (encode_lower bytes) (2 * i + 1) 0 ≡ slice_index lower_digits (get_or bytes i 0 % 16)
unfolding encode_with
low_digit [] i inside = absurd (omega arith)
low_digit (byte ∷ bytes) zero inside = refl
low_digit (byte ∷ bytes) (suc i) inside =
    let two : 2 * suc i + 1 ≡ suc (suc (2 * i + 1)) = omega arith in
    rw two (low_digit bytes i (omega arith))

-- where a word is the text of some bytes, its digits are those of the bytes
pub digits_at : (word bytes : List ℕ) (i : ℕ) → word ≡ encode_lower bytes → IsBytes bytes → i < length word / 2
    → (get_or word (2 * i) 0 ≡ slice_index lower_digits (get_or bytes i 0 / 16)) × (get_or word (2 * i + 1) 0 ≡ slice_index lower_digits (get_or bytes i 0 % 16)) × (get_or bytes i 0 / 16 < 16)
digits_at word bytes i e are inside =
    let count = count_of word bytes e in
    let at : i < length bytes = omega arith in
    let small : get_or bytes i 0 < 256 = are i in
    rw e (high_digit bytes i at, low_digit bytes i at, omega arith)

-- the text of one byte more
pub hex_push : (bytes : List ℕ) (byte : ℕ) → encode_lower (bytes ++ byte ∷ []) ≡ encode_lower bytes ++ two_digits byte
unfolding encode_with
hex_push [] byte = refl
hex_push (first ∷ bytes) byte = ap (λ (t : List ℕ). slice_index lower_digits (first / 16) ∷ slice_index lower_digits (first % 16) ∷ t) (hex_push bytes byte)

bytes_push : (bytes : List ℕ) (byte : ℕ) → IsBytes bytes → byte < 256 → IsBytes (bytes ++ byte ∷ [])
bytes_push [] byte are small zero = small
bytes_push [] byte are small (suc i) = omega arith
bytes_push (first ∷ bytes) byte are small zero = are 0
bytes_push (first ∷ bytes) byte are small (suc i) = bytes_push bytes byte (λ k. are (suc k)) small i

-- so far: the first pairs of digits of the word are the text of the bytes
pub record PairsSoFar (word : List ℕ) (at : ℕ) (bytes : List ℕ) : Type 0 where
  pub spelled : take (2 * at) word ≡ encode_lower bytes
  pub count : length bytes ≡ at
  pub are : IsBytes bytes

pub no_pair : (word : List ℕ) → PairsSoFar word 0 []
unfolding encode_with
no_pair word = record { spelled = refl; count = refl; are = λ i. omega arith }

-- one pair more
pub pair_more : (word : List ℕ) (at : ℕ) (bytes more : List ℕ) (high low : ℕ) → PairsSoFar word at bytes → at < length word / 2 → get_or word (2 * at) 0 ≡ slice_index lower_digits high → high < 16
    → get_or word (2 * at + 1) 0 ≡ slice_index lower_digits low → low < 16 → more ≡ bytes ++ (16 * high + low) ∷ [] → PairsSoFar word (at + 1) more
pair_more word at bytes more high low so inside first high_small second low_small pushed =
    let byte : ℕ = 16 * high + low in
    let two : 2 * (at + 1) ≡ 2 * at + 1 + 1 = omega arith in
    let upper : byte / 16 ≡ high = omega arith in
    let lower : byte % 16 ≡ low = omega arith in
    let one : take (2 * at + 1) word ≡ take (2 * at) word ++ (get_or word (2 * at) 0 ∷ []) = take_more word (2 * at) 0 (omega arith) in
    let both : take (2 * at + 1 + 1) word ≡ take (2 * at + 1) word ++ (get_or word (2 * at + 1) 0 ∷ []) = take_more word (2 * at + 1) 0 (omega arith) in
    let text : encode_lower (bytes ++ byte ∷ []) ≡ encode_lower bytes ++ (slice_index lower_digits high ∷ slice_index lower_digits low ∷ []) =
    hex_push bytes byte ∙ ap (λ (n : ℕ). encode_lower bytes ++ (slice_index lower_digits n ∷ slice_index lower_digits (byte % 16) ∷ [])) upper
    ∙ ap (λ (n : ℕ). encode_lower bytes ++ (slice_index lower_digits high ∷ slice_index lower_digits n ∷ [])) lower in
    record {
      spelled = rw (two, both, one, pushed, text, append_assoc, so.spelled, first, second) refl;
      count = omega (arith, ap length pushed, length_push bytes byte, so.count);
      are = rw pushed (bytes_push bytes byte so.are (omega arith));
    }

-- no digit is left
pub all_pairs : (word : List ℕ) (at : ℕ) (bytes : List ℕ) → PairsSoFar word at bytes → length word % 2 ≡ 0 → length word / 2 ≤ at → word ≡ encode_lower bytes
all_pairs word at bytes so even none = sym (take_all (2 * at) word (omega arith)) ∙ so.spelled

-- one text is of no other bytes
pub same_bytes : (word : List ℕ) (some others : List ℕ) → IsBytes some → IsBytes others → word ≡ encode_lower some → word ≡ encode_lower others → some ≡ others
same_bytes word some others are too e f =
    let first : decode_of (encode_lower some) ≡ Ok some = decode_of-encode_lower some are in
    let second : decode_of (encode_lower others) ≡ Ok others = decode_of-encode_lower others too in
    let same : Ok some ≡ Ok others = sym first ∙ ap decode_of (sym e ∙ f) ∙ second in
    cc
