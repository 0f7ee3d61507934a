-- Facts of numbers and of their digits. They follow from the library's definitions and are proved
-- here, so nobody has to believe them.
use Rattle.std.proofs.Common.{ℕ, ◌^◌, ◌<◌}
use Rattle.std.proofs.lemmas.Str.Parse.{IsNumeralModel, numerals_by_value, tells_digits}
use Rattle.std.specs.Int.{w64}
use Rattle.std.specs.Prelude.{ℤ, pos, FitsSigned}
use Rattle.std.specs.Str.Parse.{AllDigits, digits_value}
use lib.Signed.{mag}

-- decimal digits are as the laws of numerals ask
pub own : IsNumeralModel (AllDigits 10) (digits_value 10)
own = numerals_by_value (AllDigits 10) tells_digits

pub mag_small : (z : ℤ) → FitsSigned w64 z → mag z < 2 ^ 63
mag_small z fits = fits.sfits

pub pos_fits : (n : ℕ) → n < 2 ^ 63 → FitsSigned w64 (pos n)
pos_fits n small = record { sfits = small }
