-- Numbers and bytes are read as they are spelled.
use Rattle.std.proofs.Common.{◌≡◌, ◌∙◌, ◌<◌, ◌≤◌, ◌+◌, ◌-◌, ◌*◌, ◌%◌, ◌^◌, ℕ, ℤ, suc, pos, negsuc, true, List, [], ◌∷◌, Some, ap, arith, get_or, option_and_then, refl}
use Rattle.std.proofs.lemmas.Fmt.{decimal_by_steps, decimal_digit, first_decimal}
use Rattle.std.proofs.lemmas.List.Sums.{fold-append}
use Rattle.std.proofs.lemmas.Bool.{ne_eqb}
use Rattle.std.proofs.lemmas.Slice.Eq.{bytes_eq-Decides}
use Rattle.std.specs.Fmt.{decimal, signed_decimal}
use Rattle.std.specs.Int.{w64}
use Rattle.std.specs.Prelude.{FitsSigned}
use Rattle.std.specs.Str.{bytes_eq}
use Rattle.hex.specs.Hex.{encode_lower, IsBytes}
use Rattle.hex.proofs.HexLemmas.{decode_of-encode_lower}
use Rattle.tx_reads_back.specs.Numbers.{bytes_of, count_of, negative_of, number_of, unless_faulty, value_of}

pub same_bytes : (word : List ℕ) → bytes_eq word word ≡ true
same_bytes word = (bytes_eq-Decides word word).1 refl

-- the digits of a number come to it
value_decimal : (n : ℕ) → n < 2 ^ 64 → value_of (decimal n) ≡ n
value_decimal n small =
    decimal_by_steps (λ n digits. value_of digits ≡ n) (λ n one. omega arith)
    (λ n digits more before.
    fold-append (λ value digit. value * 10 + (digit - 48)) 0 digits ((48 + n % 10) ∷ [])
    ∙ ap (λ (value : ℕ). value * 10 + ((48 + n % 10) - 48)) before ∙ omega arith) n small

pub count_read : (n : ℕ) → n < 2 ^ 64 → count_of (decimal n) ≡ Some n
unfolding count_of
count_read n small = rw (value_decimal n small, same_bytes (decimal n)) refl

-- no digits begin with `-`
number_by_digits : (digits : List ℕ) (n : ℕ) → 48 ≤ get_or digits 0 0 → count_of digits ≡ Some n → number_of digits ≡ Some (pos n)
unfolding number_of
number_by_digits digits n first found = grind (arith, ne_eqb, pos)

first_digit : (n : ℕ) → n < 2 ^ 64 → 48 ≤ get_or (decimal n) 0 0
first_digit n small = grind (arith, decimal_digit, first_decimal)

negative_read : (n : ℕ) → count_of (decimal (suc n)) ≡ Some (suc n) → number_of (45 ∷ decimal (suc n)) ≡ Some (negsuc n)
unfolding number_of
negative_read n found = ap (option_and_then negative_of) found

pub number_read : (z : ℤ) → FitsSigned w64 z → number_of (signed_decimal z) ≡ Some z
number_read (pos n) fits = let small : n < 2 ^ 63 = fits.sfits in number_by_digits (decimal n) n (first_digit n (omega (arith, small))) (count_read n (omega (arith, small)))
number_read (negsuc n) fits = let small : n < 2 ^ 63 = fits.sfits in negative_read n (count_read (suc n) (omega (arith, small)))

pub bytes_read : (bytes : List ℕ) → IsBytes bytes → bytes_of (encode_lower bytes) ≡ Some bytes
unfolding bytes_of
bytes_read bytes are = ap unless_faulty (decode_of-encode_lower bytes are)
