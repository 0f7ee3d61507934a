-- The hex digits of sixteen bytes at once, in the lanes of vectors.
use Rattle.std.proofs.Common.{◌≡◌, ℕ, zero, suc, ◌+◌, ◌-◌, ◌/◌, ◌%◌, ◌^◌, ◌<◌, Bool, true, ◌&&◌, cond, eqb, ltb, eqb-true, ltb-true, subst, List, [], ◌∷◌, ◌++◌, map, length, drop, take, get_or, slice_index, replicate, bit_and, refl, sym, ap, ◌∙◌, inl, inr, arith, w8}
use Rattle.std.proofs.lemmas.Bool.{and_parts, cases_lt}
use Rattle.std.proofs.lemmas.List.{append_assoc, take-append-drop}
use Rattle.std.proofs.lemmas.Nat.{and_le_r, and_mask}
use Rattle.std.proofs.lemmas.Simd.{Each1-all, Each1-weaker, Each1-zip2, Each2-splat, length-zip2, map-map, tops_compared, zip2_splat}
use Rattle.std.proofs.lemmas.Str.{IsUtf8-from_ascii}
use Rattle.std.proofs.lemmas.Str.Ascii.{IsAscii-cons, IsAscii-nil}
use Rattle.std.specs.Str.{IsAscii, IsUtf8}
use Rattle.hex.proofs.HexLemmas.{IsAscii-encode_with}
use lib.Lanes.{zip2, sel_l, top, Each1}
use Rattle.hex.specs.Hex.{encode_lower, encode_with, lower_digits}

-- ---- the digit of a number

abbrev pub sum_lane : ℕ → ℕ → ℕ
sum_lane a b = (a + b) % 2 ^ 8

abbrev digit_lane : ℕ → ℕ
digit_lane number = cond (ltb number 10) (sum_lane number 48) (sum_lane number 87)

-- the first so many are the digits of the table
are_digits : ℕ → Bool
are_digits zero = true
are_digits (suc number) = eqb (digit_lane number) (slice_index lower_digits number) && are_digits number

digit_below : (count number : ℕ) → are_digits count ≡ true → number < count → digit_lane number ≡ slice_index lower_digits number
unfolding are_digits
digit_below zero number holds below = absurd (omega arith)
digit_below (suc count) number holds below =
    let parts = and_parts (eqb (digit_lane count) (slice_index lower_digits count)) (are_digits count) holds in
    elim (cases_lt number count) [
      | inl earlier ↦ digit_below count number parts.1 earlier
      | inr last ↦ let same : number ≡ count = omega arith in rw same (eqb-true _ _ parts.0)
    ]

digit_is : (number : ℕ) → number < 16 → digit_lane number ≡ slice_index lower_digits number
unfolding are_digits
digit_is number small = digit_below 16 number refl small

lanes_are : (numbers : List ℕ) → Each1 (λ number. number < 16) numbers
    → sel_l (map (λ a. ltb a 10) numbers) (map (λ a. sum_lane a 48) numbers) (map (λ a. sum_lane a 87) numbers) ≡ map (slice_index lower_digits) numbers
lanes_are [] small = refl
lanes_are (number ∷ numbers) small =
    let first : digit_lane number ≡ slice_index lower_digits number = digit_is number small.0 in
    let rest = lanes_are numbers small.1 in
    ap (λ (d : ℕ). d ∷ sel_l (map (λ a. ltb a 10) numbers) (map (λ a. sum_lane a 48) numbers) (map (λ a. sum_lane a 87) numbers)) first
    ∙ ap (λ (t : List ℕ). slice_index lower_digits number ∷ t) rest

-- the lanes that are chosen are the digits of the numbers
pub chosen_digits : (numbers : List ℕ) → length numbers ≡ 16 → Each1 (λ number. number < 16) numbers
    → sel_l (map (top 7) (zip2 (λ a b. cond (ltb a b) (2 ^ 8 - 1) 0) numbers (replicate 16 10))) (zip2 sum_lane numbers (replicate 16 48)) (zip2 sum_lane numbers (replicate 16 87))
    ≡ map (slice_index lower_digits) numbers
chosen_digits numbers lanes small =
    let marks = tops_compared w8 ltb numbers (replicate 16 10) ∙ zip2_splat ltb numbers 16 10 lanes in
    let decimal = zip2_splat sum_lane numbers 16 48 lanes in
    let letter = zip2_splat sum_lane numbers 16 87 lanes in
    ap (λ (m : List Bool). sel_l m (zip2 sum_lane numbers (replicate 16 48)) (zip2 sum_lane numbers (replicate 16 87))) marks
    ∙ ap (λ (d : List ℕ). sel_l (map (λ a. ltb a 10) numbers) d (zip2 sum_lane numbers (replicate 16 87))) decimal
    ∙ ap (λ (l : List ℕ). sel_l (map (λ a. ltb a 10) numbers) (map (λ a. sum_lane a 48) numbers) l) letter
    ∙ lanes_are numbers small

-- ---- the digits are text

are_ascii : List ℕ → Bool
are_ascii [] = true
are_ascii (byte ∷ bytes) = ltb byte 128 && are_ascii bytes

ascii_by : (bytes : List ℕ) → are_ascii bytes ≡ true → IsAscii bytes
unfolding are_ascii
ascii_by [] holds = IsAscii-nil
ascii_by (byte ∷ bytes) holds =
    let parts = and_parts (ltb byte 128) (are_ascii bytes) holds in
    IsAscii-cons byte bytes (ltb-true byte 128 parts.0) (ascii_by bytes parts.1)

ascii_digits : IsAscii lower_digits
unfolding are_ascii
ascii_digits = ascii_by lower_digits refl

pub text_of_digits : (text bytes : List ℕ) → text ≡ encode_lower bytes → IsUtf8 text
text_of_digits text bytes e = subst IsUtf8 (sym e) (IsUtf8-from_ascii _ (IsAscii-encode_with lower_digits bytes ascii_digits))

-- ---- the two halves of each byte

abbrev pub down : ℕ → ℕ → ℕ
down a b = a / 2 ^ b

pub high_lanes : (bytes : List ℕ) → length bytes ≡ 16 → length (zip2 down bytes (replicate 16 4)) ≡ 16
high_lanes bytes lanes = length-zip2 down bytes (replicate 16 4) lanes ∙ lanes

pub low_lanes : (bytes : List ℕ) → length bytes ≡ 16 → length (zip2 bit_and bytes (replicate 16 15)) ≡ 16
low_lanes bytes lanes = length-zip2 bit_and bytes (replicate 16 15) lanes ∙ lanes

pub high_small : (bytes : List ℕ) → Each1 (λ byte. byte < 256) bytes → Each1 (λ number. number < 16) (zip2 down bytes (replicate 16 4))
high_small bytes fits =
    Each1-zip2 down (λ j. j < 16) bytes (replicate 16 4) (Each2-splat (λ a b. down a b < 16) bytes 16 4 (Each1-weaker (λ a. a < 256) (λ a. a / 16 < 16) (λ a h. omega arith) bytes fits))

pub low_small : (bytes : List ℕ) → Each1 (λ number. number < 16) (zip2 bit_and bytes (replicate 16 15))
low_small bytes =
    Each1-zip2 bit_and (λ j. j < 16) bytes (replicate 16 15) (Each2-splat (λ a b. bit_and a b < 16) bytes 16 15 (Each1-all (λ a. bit_and a 15 < 16) (λ a. omega (arith, and_le_r a 15)) bytes))

low_digits : (bytes : List ℕ) → map (λ byte. slice_index lower_digits (bit_and byte 15)) bytes ≡ map (λ byte. slice_index lower_digits (byte % 16)) bytes
low_digits [] = refl
low_digits (byte ∷ bytes) =
    ap (λ (k : ℕ). slice_index lower_digits k ∷ map (λ b. slice_index lower_digits (bit_and b 15)) bytes) (and_mask byte 4)
    ∙ ap (λ (t : List ℕ). slice_index lower_digits (byte % 16) ∷ t) (low_digits bytes)

-- ---- the digits of both halves, one after the other

abbrev pub woven : List ℕ → List ℕ
woven both = get_or both 0 0 ∷ get_or both 16 0 ∷ get_or both 1 0 ∷ get_or both 17 0 ∷ get_or both 2 0 ∷ get_or both 18 0 ∷ get_or both 3 0 ∷ get_or both 19 0 ∷ get_or both 4 0 ∷ get_or both 20 0 ∷ get_or both 5 0 ∷ get_or both 21 0 ∷ get_or both 6 0 ∷ get_or both 22 0 ∷ get_or both 7 0 ∷ get_or both 23 0 ∷ get_or both 8 0 ∷ get_or both 24 0 ∷ get_or both 9 0 ∷ get_or both 25 0 ∷ get_or both 10 0 ∷ get_or both 26 0 ∷ get_or both 11 0 ∷ get_or both 27 0 ∷ get_or both 12 0 ∷ get_or both 28 0 ∷ get_or both 13 0 ∷ get_or both 29 0 ∷ get_or both 14 0 ∷ get_or both 30 0 ∷ get_or both 15 0 ∷ get_or both 31 0 ∷ []

woven_digits : (bytes : List ℕ) → length bytes ≡ 16
    → woven (map (λ byte. slice_index lower_digits (byte / 16)) bytes ++ map (λ byte. slice_index lower_digits (byte % 16)) bytes) ≡ encode_lower bytes
unfolding encode_with
woven_digits [] lanes = absurd (omega arith)
woven_digits (b0 ∷ []) lanes = absurd (omega arith)
woven_digits (b0 ∷ b1 ∷ []) lanes = absurd (omega arith)
woven_digits (b0 ∷ b1 ∷ b2 ∷ []) lanes = absurd (omega arith)
woven_digits (b0 ∷ b1 ∷ b2 ∷ b3 ∷ []) lanes = absurd (omega arith)
woven_digits (b0 ∷ b1 ∷ b2 ∷ b3 ∷ b4 ∷ []) lanes = absurd (omega arith)
woven_digits (b0 ∷ b1 ∷ b2 ∷ b3 ∷ b4 ∷ b5 ∷ []) lanes = absurd (omega arith)
woven_digits (b0 ∷ b1 ∷ b2 ∷ b3 ∷ b4 ∷ b5 ∷ b6 ∷ []) lanes = absurd (omega arith)
woven_digits (b0 ∷ b1 ∷ b2 ∷ b3 ∷ b4 ∷ b5 ∷ b6 ∷ b7 ∷ []) lanes = absurd (omega arith)
woven_digits (b0 ∷ b1 ∷ b2 ∷ b3 ∷ b4 ∷ b5 ∷ b6 ∷ b7 ∷ b8 ∷ []) lanes = absurd (omega arith)
woven_digits (b0 ∷ b1 ∷ b2 ∷ b3 ∷ b4 ∷ b5 ∷ b6 ∷ b7 ∷ b8 ∷ b9 ∷ []) lanes = absurd (omega arith)
woven_digits (b0 ∷ b1 ∷ b2 ∷ b3 ∷ b4 ∷ b5 ∷ b6 ∷ b7 ∷ b8 ∷ b9 ∷ b10 ∷ []) lanes = absurd (omega arith)
woven_digits (b0 ∷ b1 ∷ b2 ∷ b3 ∷ b4 ∷ b5 ∷ b6 ∷ b7 ∷ b8 ∷ b9 ∷ b10 ∷ b11 ∷ []) lanes = absurd (omega arith)
woven_digits (b0 ∷ b1 ∷ b2 ∷ b3 ∷ b4 ∷ b5 ∷ b6 ∷ b7 ∷ b8 ∷ b9 ∷ b10 ∷ b11 ∷ b12 ∷ []) lanes = absurd (omega arith)
woven_digits (b0 ∷ b1 ∷ b2 ∷ b3 ∷ b4 ∷ b5 ∷ b6 ∷ b7 ∷ b8 ∷ b9 ∷ b10 ∷ b11 ∷ b12 ∷ b13 ∷ []) lanes = absurd (omega arith)
woven_digits (b0 ∷ b1 ∷ b2 ∷ b3 ∷ b4 ∷ b5 ∷ b6 ∷ b7 ∷ b8 ∷ b9 ∷ b10 ∷ b11 ∷ b12 ∷ b13 ∷ b14 ∷ []) lanes = absurd (omega arith)
woven_digits (b0 ∷ b1 ∷ b2 ∷ b3 ∷ b4 ∷ b5 ∷ b6 ∷ b7 ∷ b8 ∷ b9 ∷ b10 ∷ b11 ∷ b12 ∷ b13 ∷ b14 ∷ b15 ∷ []) lanes = refl
woven_digits (b0 ∷ b1 ∷ b2 ∷ b3 ∷ b4 ∷ b5 ∷ b6 ∷ b7 ∷ b8 ∷ b9 ∷ b10 ∷ b11 ∷ b12 ∷ b13 ∷ b14 ∷ b15 ∷ b16 ∷ more) lanes = absurd (omega arith)

-- the digits of sixteen bytes, by those of their halves
pub all_digits : (bytes high low : List ℕ) → length bytes ≡ 16 → high ≡ map (slice_index lower_digits) (zip2 down bytes (replicate 16 4)) → low ≡ map (slice_index lower_digits) (zip2 bit_and bytes (replicate 16 15))
    → woven (high ++ low) ≡ encode_lower bytes
all_digits bytes high low lanes first second =
    let upper : high ≡ map (λ byte. slice_index lower_digits (byte / 16)) bytes =
    first ∙ ap (map (slice_index lower_digits)) (zip2_splat down bytes 16 4 lanes) ∙ map-map (slice_index lower_digits) (λ byte. down byte 4) bytes in
    let lower : low ≡ map (λ byte. slice_index lower_digits (byte % 16)) bytes =
    second ∙ ap (map (slice_index lower_digits)) (zip2_splat bit_and bytes 16 15 lanes) ∙ map-map (slice_index lower_digits) (λ byte. bit_and byte 15) bytes ∙ low_digits bytes in
    ap (λ (h : List ℕ). woven (h ++ low)) upper ∙ ap (λ (l : List ℕ). woven (map (λ byte. slice_index lower_digits (byte / 16)) bytes ++ l)) lower ∙ woven_digits bytes lanes

-- ---- the digits of a front and of the rest

digits_append : (front rest : List ℕ) → encode_lower (front ++ rest) ≡ encode_lower front ++ encode_lower rest
unfolding encode_with
digits_append [] rest = refl
digits_append (byte ∷ front) rest = ap (λ (t : List ℕ). slice_index lower_digits (byte / 16) ∷ slice_index lower_digits (byte % 16) ∷ t) (digits_append front rest)

-- the digits of the first so many bytes more
pub block_more : (count : ℕ) (start text now bytes rest : List ℕ) → start ++ encode_lower bytes ≡ text ++ encode_lower rest → now ≡ text ++ encode_lower (take count rest)
    → start ++ encode_lower bytes ≡ now ++ encode_lower (drop count rest)
block_more count start text now bytes rest so_far more =
    so_far ∙ ap (λ (r : List ℕ). text ++ encode_lower r) (sym (take-append-drop count rest)) ∙ ap (λ (d : List ℕ). text ++ d) (digits_append (take count rest) (drop count rest))
    ∙ sym (append_assoc text (encode_lower (take count rest)) (encode_lower (drop count rest))) ∙ ap (λ (t : List ℕ). t ++ encode_lower (drop count rest)) (sym more)
