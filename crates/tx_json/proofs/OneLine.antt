-- The JSON of tokens has no line's end.
use Rattle.std.proofs.Common.{◌≡◌, ◌≢◌, ◌<◌, ◌==◌, ◌||◌, ◌&&◌, ◌/◌, ◌%◌, ◌^◌, ◌+◌, ℕ, ℤ, suc, pos, negsuc, Bool, true, false, cond, List, [], ◌∷◌, ◌++◌, nat_lt, arith, ap, subst, sym, refl, Result, Ok, Err, ◌∙◌}
use Rattle.std.proofs.lemmas.Fmt.{decimal_by_steps}
use Rattle.std.proofs.lemmas.List.Elements.{All-append, All-cons, All-head, All-nil, All-push, All-same, All-tail}
use Rattle.std.specs.Char.{digit_char}
use Rattle.std.specs.Fmt.{decimal, signed_decimal}
use Rattle.std.specs.Int.{w64}
use Rattle.std.specs.List.{All}
use Rattle.std.specs.Prelude.{FitsSigned}
use Rattle.json.specs.Print.{begins, ends, escape, escape_byte, escape_letter, print, print_from, quoted, separator, token_text}
use Rattle.json.specs.Token.{Token, begin_object, end_object, begin_array, end_array, key, string, number, boolean, null, bad}
use Rattle.json.specs.Written.{Written, Writes}
use Rattle.tx_json.specs.Line.{HasNoEnd, IsLine, IsLineOf, IsOnOneLine}

abbrev IsNoEnd : ℕ → Type 0
IsNoEnd byte = byte ≢ 10

-- by the two cases of a choice
chosen : {A : Type 0} (P : A → Type 0) (b : Bool) (x y : A) → (b ≡ true → P x) → (b ≡ false → P y) → P (cond b x y)
chosen P true x y one other = one refl
chosen P false x y one other = other refl

one_byte : (byte : ℕ) → IsNoEnd byte → HasNoEnd (byte ∷ [])
one_byte byte other = All-cons IsNoEnd byte [] other (All-nil IsNoEnd)

-- numbers

pub decimal_has_no_end : (n : ℕ) → n < 2 ^ 64 → HasNoEnd (decimal n)
decimal_has_no_end n fits =
    decimal_by_steps (λ n digits. HasNoEnd digits) (λ n small. one_byte (48 + n) (λ e. absurd (omega (arith, e))))
    (λ n digits large before. All-push IsNoEnd digits (48 + n % 10) before (λ e. absurd (omega (arith, e)))) n fits

pub signed_has_no_end : (z : ℤ) → FitsSigned w64 z → HasNoEnd (signed_decimal z)
signed_has_no_end (pos n) fits = let small : n < 2 ^ 63 = fits.sfits in decimal_has_no_end n (omega (arith, small))
signed_has_no_end (negsuc n) fits = All-cons IsNoEnd 45 (decimal (suc n)) (λ e. absurd (omega (arith, e))) (let small : n < 2 ^ 63 = fits.sfits in decimal_has_no_end (suc n) (omega (arith, small)))

-- strings

digit_no_end : (d : ℕ) → IsNoEnd (digit_char d)
digit_no_end d = chosen IsNoEnd (nat_lt d 10) (48 + d) (87 + d) (λ low e. absurd (omega (arith, e))) (λ high e. absurd (omega (arith, e)))

letter_no_end : (x : ℕ) → IsNoEnd (escape_letter x)
letter_no_end x =
    chosen IsNoEnd ((x == 34) || (x == 92)) x _ (λ is e. let bad : false ≡ true = subst (λ (n : ℕ). ((n == 34) || (n == 92)) ≡ true) e is in absurd (cc))
    (λ _. chosen IsNoEnd (x == 8) 98 _ (λ _ e. absurd (omega (arith, e)))
    (λ _. chosen IsNoEnd (x == 12) 102 _ (λ _ e. absurd (omega (arith, e)))
    (λ _. chosen IsNoEnd (x == 10) 110 _ (λ _ e. absurd (omega (arith, e)))
    (λ _. chosen IsNoEnd (x == 13) 114 _ (λ _ e. absurd (omega (arith, e)))
    (λ _. chosen IsNoEnd (x == 9) 116 0 (λ _ e. absurd (omega (arith, e))) (λ _ e. absurd (omega (arith, e))))))))

two_bytes : (a b : ℕ) → IsNoEnd a → IsNoEnd b → HasNoEnd (a ∷ b ∷ [])
two_bytes a b one two = All-cons IsNoEnd a (b ∷ []) one (one_byte b two)

four_bytes : (a b c d : ℕ) → IsNoEnd a → IsNoEnd b → IsNoEnd c → IsNoEnd d → HasNoEnd (a ∷ b ∷ c ∷ d ∷ [])
four_bytes a b c d one two three four = All-cons IsNoEnd a (b ∷ c ∷ d ∷ []) one (All-cons IsNoEnd b (c ∷ d ∷ []) two (two_bytes c d three four))

escaped_byte : (x : ℕ) → HasNoEnd (escape_byte x)
unfolding escape_byte
escaped_byte x =
    let high : ℕ = digit_char (x / 16) in
    let low : ℕ = digit_char (x % 16) in
    chosen HasNoEnd (nat_lt 0 (escape_letter x)) (92 ∷ escape_letter x ∷ []) _
    (λ _. two_bytes 92 (escape_letter x) (λ e. absurd (omega (arith, e))) (letter_no_end x))
    (λ _. chosen HasNoEnd (nat_lt x 32) (92 ∷ 117 ∷ 48 ∷ 48 ∷ high ∷ low ∷ []) (x ∷ [])
    (λ _. All-append IsNoEnd (92 ∷ 117 ∷ 48 ∷ 48 ∷ []) (high ∷ low ∷ [])
    (four_bytes 92 117 48 48 (λ e. absurd (omega (arith, e))) (λ e. absurd (omega (arith, e))) (λ e. absurd (omega (arith, e))) (λ e. absurd (omega (arith, e))))
    (two_bytes high low (digit_no_end (x / 16)) (digit_no_end (x % 16))))
    (λ above. one_byte x (λ e. let bad : true ≡ false = subst (λ (n : ℕ). nat_lt n 32 ≡ false) e above in absurd (cc))))

escaped : (s : List ℕ) → HasNoEnd (escape s)
escaped [] = All-nil IsNoEnd
escaped (x ∷ s) = All-append IsNoEnd (escape_byte x) (escape s) (escaped_byte x) (escaped s)

quoted_no_end : (s : List ℕ) → HasNoEnd (quoted s)
quoted_no_end s = All-cons IsNoEnd 34 (escape s ++ 34 ∷ []) (λ e. absurd (omega (arith, e))) (All-push IsNoEnd (escape s) 34 (escaped s) (λ e. absurd (omega (arith, e))))

-- tokens

token_no_end : (t : Token) → IsOnOneLine t → HasNoEnd (token_text t)
token_no_end begin_object line = one_byte 123 (λ e. absurd (omega (arith, e)))
token_no_end end_object line = one_byte 125 (λ e. absurd (omega (arith, e)))
token_no_end begin_array line = one_byte 91 (λ e. absurd (omega (arith, e)))
token_no_end end_array line = one_byte 93 (λ e. absurd (omega (arith, e)))
token_no_end (key s) line = All-push IsNoEnd (quoted s) 58 (quoted_no_end s) (λ e. absurd (omega (arith, e)))
token_no_end (string s) line = quoted_no_end s
token_no_end (number s) line = line
token_no_end (boolean true) line = four_bytes 116 114 117 101 (λ e. absurd (omega (arith, e))) (λ e. absurd (omega (arith, e))) (λ e. absurd (omega (arith, e))) (λ e. absurd (omega (arith, e)))
token_no_end (boolean false) line = All-cons IsNoEnd 102 (97 ∷ 108 ∷ 115 ∷ 101 ∷ []) (λ e. absurd (omega (arith, e))) (four_bytes 97 108 115 101 (λ e. absurd (omega (arith, e))) (λ e. absurd (omega (arith, e))) (λ e. absurd (omega (arith, e))) (λ e. absurd (omega (arith, e))))
token_no_end null line = four_bytes 110 117 108 108 (λ e. absurd (omega (arith, e))) (λ e. absurd (omega (arith, e))) (λ e. absurd (omega (arith, e))) (λ e. absurd (omega (arith, e)))
token_no_end bad line = All-nil IsNoEnd

separator_no_end : (after : Bool) (t : Token) → HasNoEnd (separator after t)
separator_no_end after t = chosen HasNoEnd (after && begins t) (44 ∷ []) [] (λ _. one_byte 44 (λ e. absurd (omega (arith, e)))) (λ _. All-nil IsNoEnd)

printed_from : (after : Bool) (ts : List Token) → All IsOnOneLine ts → HasNoEnd (print_from after ts)
unfolding print_from
printed_from after [] lines = All-nil IsNoEnd
printed_from after (t ∷ ts) lines =
    All-append IsNoEnd (separator after t) (token_text t ++ print_from (ends t) ts) (separator_no_end after t)
    (All-append IsNoEnd (token_text t) (print_from (ends t) ts) (token_no_end t (All-head IsOnOneLine t ts lines)) (printed_from (ends t) ts (All-tail IsOnOneLine t ts lines)))

pub printed_on_one_line : (ts : List Token) → All IsOnOneLine ts → HasNoEnd (print ts)
printed_on_one_line = printed_from false

-- a token more, or none where a growth is refused
written : {E : Type 0} (r : Result (Unit {0}) E) (old new : Written) (t : Token) → IsOnOneLine t → IsLine old → Writes r old new t → IsLine new
written (Ok done) old new t fits line writes = record {
  begins = writes.room.0 ∙ line.begins;
  one_line = All-same IsOnOneLine new.tokens (old.tokens ++ t ∷ []) writes.ok (All-push IsOnOneLine old.tokens t line.one_line fits);
}
written (Err refused) old new t fits line writes = record { begins = writes.room.0 ∙ line.begins; one_line = All-same IsOnOneLine new.tokens old.tokens writes.err line.one_line }

pub count_written : {E : Type 0} (old new : Written) (r : Result (Unit {0}) E) (count : ℕ) → count < 2 ^ 64 → IsLine old → Writes r old new (number (decimal count)) → IsLine new
count_written old new r count fits line writes = written r old new (number (decimal count)) (decimal_has_no_end count fits) line writes

pub signed_written : {E : Type 0} (old new : Written) (r : Result (Unit {0}) E) (signed told : ℤ) → FitsSigned w64 signed → told ≡ signed → IsLine old → Writes r old new (number (signed_decimal told)) → IsLine new
signed_written old new r signed told fits same line writes =
    written r old new (number (signed_decimal told)) (subst (λ (z : ℤ). HasNoEnd (signed_decimal z)) (sym same) (signed_has_no_end signed fits)) line writes

-- the text of a line, once it is whole
pub line_of : (line : Written) (bytes text : List ℕ) → IsLine line → bytes ≡ line.before ++ print line.tokens → text ≡ bytes ++ 10 ∷ [] → IsLineOf line.tokens text
line_of line bytes text is whole ended = record {
  printed = ended ∙ ap (λ (t : List ℕ). t ++ 10 ∷ []) (whole ∙ ap (λ (t : List ℕ). t ++ print line.tokens) is.begins);
  one_line = printed_on_one_line line.tokens is.one_line;
}
