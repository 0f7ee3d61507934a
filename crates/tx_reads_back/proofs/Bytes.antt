-- Bytes in a text.
use Rattle.std.proofs.Common.{◌≡◌, ℕ, suc, ◌<◌, ◌/◌, ◌%◌, List, [], ◌∷◌, ◌++◌, None, Ok, drop, slice_index, refl, sym, ap, ◌∙◌, arith}
use Rattle.hex.specs.Hex.{IsBytes, decode_of, encode_lower, encode_with, hex_digit_value, lower_digits}
use Rattle.hex.proofs.HexLemmas.{decode_of-encode_lower}
use Rattle.tx_lines.specs.Bytes.{bytes_text, two_digits}

one_byte : (byte : ℕ) → byte < 256 → IsBytes (byte ∷ [])
one_byte byte small = grind arith

-- two digits determine a byte
pub byte_unique : (a b : ℕ) (r s : List ℕ) → a < 256 → b < 256 → two_digits a ++ r ≡ two_digits b ++ s → (a ≡ b) × (r ≡ s)
unfolding encode_with
byte_unique a b r s a_small b_small e =
    let high : slice_index lower_digits (a / 16) ≡ slice_index lower_digits (b / 16) = cc in
    let low : slice_index lower_digits (a % 16) ≡ slice_index lower_digits (b % 16) = cc in
    let two : encode_lower (a ∷ []) ≡ encode_lower (b ∷ []) = λ j. high j ∷ low j ∷ [] in
    let both : Ok (a ∷ []) ≡ Ok (b ∷ []) = sym (decode_of-encode_lower (a ∷ []) (one_byte a a_small)) ∙ ap decode_of two ∙ decode_of-encode_lower (b ∷ []) (one_byte b b_small) in
    (cc, ap (drop 2) e)

-- what is no digit is not the first of a byte
no_digit : (other byte : ℕ) → byte < 256 → hex_digit_value other ≡ None → other ≡ slice_index lower_digits (byte / 16) → ⊥
no_digit other byte small none e = grind (arith, slice_index)

encoded_unique : (a b r s : List ℕ) → IsBytes a → IsBytes b → encode_lower a ++ 10 ∷ r ≡ encode_lower b ++ 10 ∷ s → (a ≡ b) × (r ≡ s)
unfolding encode_with
encoded_unique [] [] r s in_a in_b e = (refl, ap (drop 1) e)
encoded_unique [] (y ∷ b) r s in_a in_b e = absurd (no_digit 10 y (in_b 0) refl (cc))
encoded_unique (x ∷ a) [] r s in_a in_b e = absurd (no_digit 10 x (in_a 0) refl (cc))
encoded_unique (x ∷ a) (y ∷ b) r s in_a in_b e =
    let first = byte_unique x y (encode_lower a ++ 10 ∷ r) (encode_lower b ++ 10 ∷ s) (in_a 0) (in_b 0) e in
    let rest = encoded_unique a b r s (λ i. in_a (suc i)) (λ i. in_b (suc i)) first.1 in
    ((λ j. first.0 j ∷ rest.0 j), rest.1)

-- bytes end with their line
pub bytes_unique : (a b r s : List ℕ) → IsBytes a → IsBytes b → bytes_text a ++ 10 ∷ r ≡ bytes_text b ++ 10 ∷ s → (a ≡ b) × (r ≡ s)
unfolding encode_with
bytes_unique [] [] r s in_a in_b e = (refl, ap (drop 2) e)
bytes_unique [] (y ∷ b) r s in_a in_b e = absurd (no_digit 45 y (in_b 0) refl (cc))
bytes_unique (x ∷ a) [] r s in_a in_b e = absurd (no_digit 45 x (in_a 0) refl (cc))
bytes_unique (x ∷ a) (y ∷ b) r s in_a in_b e = encoded_unique (x ∷ a) (y ∷ b) r s in_a in_b e
