-- The words of lines: no byte of theirs ends a line or a word or marks a label, and they are short.
use Rattle.std.proofs.Common.{◌≡◌, ℕ, zero, suc, ◌/◌, ◌%◌, ◌*◌, ◌<◌, ◌≤◌, ◌^◌, Bool, true, false, cond, not, ◌&&◌, nat_eq, nat_le, List, [], ◌∷◌, ◌++◌, length, refl, ap, sym, subst, ◌∙◌, arith, length-append, leb-true}
use Rattle.hex.proofs.HexLemmas.{length-encode_with}
use Rattle.hex.specs.Hex.{encode_lower, encode_with, lower_digits}
use Rattle.std.proofs.lemmas.Bool.{both_ways, ne_eqb}
use Rattle.std.proofs.lemmas.Fmt.{decimal_is_IsNumeral, length-decimal-le, length_signed_le}
use Rattle.std.proofs.lemmas.List.Folds.{list_all-append}
use Rattle.std.specs.Char.{digit_value}
use Rattle.std.specs.Fmt.{decimal, signed_decimal}
use Rattle.std.specs.Int.{w64}
use Rattle.std.specs.List.{filter, list_all}
use Rattle.std.specs.Prelude.{ℤ, pos, negsuc, slice_index, FitsSigned}
use Rattle.std.specs.Str.Parse.{AllDigits}
use Rattle.tx_base.specs.Signals.{bits_of}
use Rattle.tx_check.proofs.InLine.{both_true}
use Rattle.tx_lines.specs.Arguments.{word_of, Argument, FitsArgument}
use Rattle.tx_lines.specs.Instructions.{is_letter, is_name, is_name_byte}
use Rattle.tx_lines.specs.ListedSets.{AreRising}
use Rattle.tx_lines.specs.Lists.{list_text, more_text}
use Rattle.tx_lines.specs.NumberFacts.{mag_small}
use Rattle.tx_lines.specs.SetFacts.{members_rise}
use Rattle.tx_lines.specs.Sets.{members}
use Rattle.tx_model.specs.SignalSets.{is_in_set, realtime_signals, standard_signals}

-- whether a byte neither ends a line or a word nor begins the name of a label
abbrev pub is_plain : ℕ → Bool
is_plain byte = not (nat_eq byte 10) && (not (nat_eq byte 32) && not (nat_eq byte 64))

-- so are all bytes of a word, and it has at most so many
pub record IsPlain (most : ℕ) (word : List ℕ) : Type 0 where
  pub plain : list_all is_plain word ≡ true
  pub few : length word ≤ most

all_both : (xs ys : List ℕ) → list_all is_plain xs ≡ true → list_all is_plain ys ≡ true → list_all is_plain (xs ++ ys) ≡ true
all_both xs ys first second = list_all-append is_plain xs ys ∙ rw (first, second) refl

plain_byte : (byte : ℕ) → (byte ≡ 10 → ⊥) → (byte ≡ 32 → ⊥) → (byte ≡ 64 → ⊥) → is_plain byte ≡ true
plain_byte byte end space mark = rw (ne_eqb byte 10 end, ne_eqb byte 32 space, ne_eqb byte 64 mark) refl

-- numbers
plain_digits : (bytes : List ℕ) → AllDigits 10 bytes → list_all is_plain bytes ≡ true
plain_digits [] digits = refl
plain_digits (byte ∷ bytes) digits =
    let here = plain_byte byte
    (λ e. let digit : digit_value 10 < 10 = subst (λ (b : ℕ). digit_value b < 10) e digits.0 in omega arith)
    (λ e. let digit : digit_value 32 < 10 = subst (λ (b : ℕ). digit_value b < 10) e digits.0 in omega arith)
    (λ e. let digit : digit_value 64 < 10 = subst (λ (b : ℕ). digit_value b < 10) e digits.0 in omega arith) in
    rw (here, plain_digits bytes digits.1) refl

plain_decimal : (n : ℕ) → n < 2 ^ 64 → list_all is_plain (decimal n) ≡ true
plain_decimal n small = plain_digits (decimal n) (decimal_is_IsNumeral n small).0.1

-- a number that has at most so many digits
pub short_decimal : (most n : ℕ) → 0 < most → n < 10 ^ most → n < 2 ^ 64 → IsPlain most (decimal n)
short_decimal most n some less small = record { plain = plain_decimal n small; few = length-decimal-le most n some less small }

short_signed : (z : ℤ) → FitsSigned w64 z → IsPlain 20 (signed_decimal z)
short_signed (pos n) fits = record {
  plain = plain_decimal n (omega (arith, mag_small (pos n) fits));
  few = length_signed_le 19 (pos n) (omega (arith, mag_small (pos n) fits)) (mag_small (pos n) fits);
}
short_signed (negsuc n) fits = record {
  plain = plain_decimal (suc n) (omega (arith, mag_small (negsuc n) fits));
  few = length_signed_le 19 (negsuc n) (omega (arith, mag_small (negsuc n) fits)) (mag_small (negsuc n) fits);
}

-- bytes
plain_at : (bytes : List ℕ) (at : ℕ) → list_all is_plain bytes ≡ true → is_plain (slice_index bytes at) ≡ true
plain_at [] at plain = refl
plain_at (byte ∷ bytes) zero plain = (both_true (is_plain byte) (list_all is_plain bytes) plain).0
plain_at (byte ∷ bytes) (suc at) plain = plain_at bytes at (both_true (is_plain byte) (list_all is_plain bytes) plain).1

plain_hex : (bytes : List ℕ) → list_all is_plain (encode_lower bytes) ≡ true
unfolding encode_with
plain_hex [] = refl
plain_hex (byte ∷ bytes) = rw (plain_at lower_digits (byte / 16) refl, plain_at lower_digits (byte % 16) refl, plain_hex bytes) refl

short_hex : (bytes : List ℕ) → length bytes ≤ 64 → IsPlain 128 (encode_lower bytes)
short_hex bytes few = record { plain = plain_hex bytes; few = omega (arith, few, length-encode_with lower_digits bytes) }

-- sets
short_more : (above : ℕ) (signos : List ℕ) → AreRising above signos → IsPlain (4 * length signos) (more_text signos)
short_more above [] rising = record { plain = refl; few = omega arith }
short_more above (signo ∷ signos) rising =
    let small : signo < 2 ^ 8 = rising.1 in
    let first = short_decimal 3 signo (omega arith) (omega arith) (omega arith) in
    let later = short_more signo signos rising.3 in
    record {
      plain = all_both (decimal signo) (more_text signos) first.plain later.plain;
      few = omega (arith, first.few, later.few, length-append (decimal signo) (more_text signos));
    }

short_list : (signos : List ℕ) → length signos ≤ 19 → AreRising 0 signos → IsPlain 80 (list_text signos)
short_list [] few rising = record { plain = refl; few = omega arith }
short_list (signo ∷ signos) few rising =
    let small : signo < 2 ^ 8 = rising.1 in
    let first = short_decimal 3 signo (omega arith) (omega arith) (omega arith) in
    let later = short_more signo signos rising.3 in
    record {
      plain = all_both (decimal signo) (more_text signos) first.plain later.plain;
      few = omega (arith, few, first.few, later.few, length-append (decimal signo) (more_text signos));
    }

fewer : (p : ℕ → Bool) (xs : List ℕ) → length (filter p xs) ≤ length xs
fewer p [] = omega arith
fewer p (x ∷ xs) = by (p x) (fewer p xs)
  where
    by : (b : Bool) → length (filter p xs) ≤ length xs → length (cond b (x ∷ filter p xs) (filter p xs)) ≤ length (x ∷ xs)
    by true less = omega (arith, less)
    by false less = omega (arith, less)

few_members : (set : ℕ) → length (members set) ≤ 19
unfolding members
few_members set = fewer (λ signo. is_in_set set signo) (standard_signals ++ realtime_signals)

-- names of labels
plain_letter : (byte : ℕ) → is_letter byte ≡ true → is_plain byte ≡ true
plain_letter byte h =
    let low = leb-true 97 byte (both_true (nat_le 97 byte) (nat_le byte 122) h).0 in
    plain_byte byte (λ e. omega (arith, e, low)) (λ e. omega (arith, e, low)) (λ e. omega (arith, e, low))

plain_name_byte : (byte : ℕ) → is_name_byte byte ≡ true → is_plain byte ≡ true
plain_name_byte byte h = plain_byte byte (λ e. other 10 e h refl) (λ e. other 32 e h refl) (λ e. other 64 e h refl)
  where
    other : (one : ℕ) → byte ≡ one → is_name_byte byte ≡ true → is_name_byte one ≡ false → ⊥
    other one e named none = both_ways (is_name_byte one) none (ap is_name_byte (sym e) ∙ named)

plain_name_bytes : (bytes : List ℕ) → list_all is_name_byte bytes ≡ true → list_all is_plain bytes ≡ true
plain_name_bytes [] h = refl
plain_name_bytes (byte ∷ bytes) h =
    let parts = both_true (is_name_byte byte) (list_all is_name_byte bytes) h in
    rw (plain_name_byte byte parts.0, plain_name_bytes bytes parts.1) refl

pub short_name : (name : List ℕ) → is_name name ≡ true → IsPlain 16 name
short_name [] h = absurd (both_ways false refl h)
short_name (byte ∷ bytes) h =
    let parts = both_true (is_letter byte) (list_all is_name_byte bytes && nat_le (length bytes) 15) h in
    let later = both_true (list_all is_name_byte bytes) (nat_le (length bytes) 15) parts.1 in
    record {
      plain = rw (plain_letter byte parts.0, plain_name_bytes bytes later.0) refl;
      few = omega (arith, leb-true (length bytes) 15 later.1);
    }

-- the most bytes of an argument's word
abbrev pub room : Argument → ℕ
room (Argument.Number number) = 20
room (Argument.Point point) = 17
room (Argument.Chosen limit number) = 5
room (Argument.Word word) = length word
room (Argument.Bytes bytes) = 128
room (Argument.Signals set) = 80

-- whether the word of an argument that fits is plain: what the table of calls says of its words and limits
abbrev pub has_plain : Argument → Bool
has_plain (Argument.Word word) = list_all is_plain word
has_plain (Argument.Chosen limit number) = nat_le limit (2 ^ 16)
has_plain argument = true

pub plain_argument : (argument : Argument) → FitsArgument argument → has_plain argument ≡ true → IsPlain (room argument) (word_of argument)
plain_argument (Argument.Number number) fits holds = short_signed number fits
plain_argument (Argument.Point point) fits holds =
    let small : point < 2 ^ 32 = fits in
    short_decimal 17 point (omega arith) (omega arith) (omega arith)
plain_argument (Argument.Chosen limit number) fits holds =
    let most : limit ≤ 2 ^ 16 = leb-true limit (2 ^ 16) holds in
    let less : number < limit = fits in
    short_decimal 5 number (omega arith) (omega arith) (omega arith)
plain_argument (Argument.Word word) fits holds = record { plain = holds; few = omega arith }
plain_argument (Argument.Bytes bytes) fits holds = short_hex bytes fits.2
plain_argument (Argument.Signals set) fits holds = short_list (members (bits_of set)) (few_members (bits_of set)) (members_rise (bits_of set))

-- a label's mark is only in front of its name
pub plain_slot : (slot : ℕ) → slot < 8 → IsPlain 2 (36 ∷ decimal slot)
plain_slot slot small =
    let digits = short_decimal 1 slot (omega arith) (omega arith) (omega arith) in
    record { plain = rw digits.plain refl; few = omega (arith, digits.few) }
