-- A line that spells a step means itself, in each version.
use Rattle.std.proofs.Common.{◌≡◌, ◌≢◌, ℕ, ◌<◌, ◌^◌, false, not, List, [], ◌∷◌, ◌++◌, codes, get_or, length, nat_eq, nat_lt, option_map, Option, Some, refl, ap, sym, ◌∙◌, arith}
use Rattle.std.proofs.Math.Bool.{and-false}
use Rattle.std.proofs.lemmas.Bool.{ne_eqb}
use Rattle.std.proofs.lemmas.Bool.Decides.{nat_tests}
use Rattle.std.proofs.lemmas.Fmt.{decimal_is_IsNumeral}
use Rattle.std.specs.Char.{digit_value}
use Rattle.std.specs.Fmt.{decimal}
use Rattle.std.specs.Str.{bytes_eq}
use Rattle.std.specs.Str.Parse.{AllDigits}
use Rattle.tx_base.specs.declared.steps.Step.{Step}
use Rattle.tx_base.specs.declared.steps.Step.TheVariants as steps
use Rattle.tx_lines.specs.Calls.{call_text}
use Rattle.tx_lines.specs.Lines.{step_text, FitsStep}
use Rattle.tx_lines.specs.declared.read.header.TextKind.TheVariants.{Schedule}
use Rattle.tx_translate.specs.Laws.{StepsStay, StepStays}
use Rattle.tx_translate.specs.Lines.{plain_line}
use Rattle.tx_translate.specs.Names.{naming_in}
use Rattle.tx_translate.specs.OwnLines.{without_return}
use Rattle.tx_translate.specs.Words.{word_from}
use Rattle.tx_translate.specs.declared.reading.Reading.TheVariants.{InWord}
use Rattle.tx_translate.specs.declared.stage.Stage.TheVariants.{Within}
use Rattle.tx_shell.specs.Meanings.{asks_of_step, first_word, meant_line, or_naming, spelled_line, third_line, usual_words}
use Rattle.tx_shell.specs.Standings.{quit_line}
use Rattle.tx_shell.specs.declared.lines.versions.TextVersion.{TextVersion}
use Rattle.tx_shell.specs.declared.lines.versions.TextVersion.TheVariants.{One, Two, Three}

-- a line begins with a digit, or with the `k` of the kernel
record BeginsAsStep (line : List ℕ) : Type 0 where
  pub byte : ℕ
  pub bytes : List ℕ
  pub parts : line ≡ byte ∷ bytes
  pub low : byte < 108
  pub high : 47 < byte
  pub kernel : 57 < byte → byte ≡ 107

first_digit : (bytes rest : List ℕ) → 0 < length bytes → AllDigits 10 bytes → BeginsAsStep (bytes ++ rest)
first_digit [] rest some digits = absurd (omega (arith, some))
first_digit (byte ∷ bytes) rest some digits =
    let few : digit_value byte < 10 = digits.0 in
    record { byte = byte; bytes = bytes ++ rest; parts = refl; low = grind (arith, nat_tests, few); high = grind (arith, nat_tests, few); kernel = λ above. absurd (grind (arith, nat_tests, few, above)) }

first_number : (n : ℕ) (rest : List ℕ) → n < 2 ^ 16 → BeginsAsStep (decimal n ++ rest)
first_number n rest small = let numeral = (decimal_is_IsNumeral n (omega arith)).0 in first_digit (decimal n) rest numeral.0 numeral.1

begins_as_step : (step : Step) → FitsStep step → BeginsAsStep (step_text step)
begins_as_step (steps.Call pid call) fits = first_number pid.0 (32 ∷ call_text call) fits.0
begins_as_step (steps.Deliver pid signo) fits = first_number pid.0 (32 ∷ (codes "deliver " ++ decimal signo.0)) fits.0
begins_as_step (steps.KernelAbort starter) fits = record { byte = 107; bytes = codes "ernel" ++ 32 ∷ decimal starter.0; parts = refl; low = omega arith; high = omega arith; kernel = λ above. refl }

-- no step begins with another letter than `k`, or with `?`
module _ (line : List ℕ) (begins : BeginsAsStep line) where
  differs : (b : ℕ) → 57 < b → (b ≡ 107 → ⊥) → nat_eq begins.byte b ≡ false
  differs b above other = ne_eqb begins.byte b (λ same. other (sym same ∙ begins.kernel (omega (arith, same, above))))

  other_words : (b : ℕ) (rest : List ℕ) → 57 < b → (b ≡ 107 → ⊥) → bytes_eq line (b ∷ rest) ≡ false
  other_words b rest above other = ap (λ (l : List ℕ). bytes_eq l (b ∷ rest)) begins.parts ∙ rw (differs b above other) refl

  stays_usual : usual_words line ≡ line
  stays_usual = rw (other_words 101 (codes "xit") (omega arith) (λ e. omega (arith, e))) (rw (other_words 63 [] (omega arith) (λ e. omega (arith, e))) refl)

  -- its first word begins with that byte
  no_blank : (b : ℕ) → b < 47 → nat_eq begins.byte b ≡ false
  no_blank b below = ne_eqb begins.byte b (λ same. absurd (omega (arith, same, below, begins.high)))

  word_begins : (word : List ℕ) × (first_word (begins.byte ∷ begins.bytes) ≡ begins.byte ∷ word)
  word_begins =
      rw (no_blank 32 (omega arith)) (rw (no_blank 9 (omega arith)) (rw (no_blank 35 (omega arith)) (rw (no_blank 34 (omega arith)) (word_from InWord begins.bytes, refl))))

  no_asking : (b : ℕ) (rest : List ℕ) → 57 < b → (b ≡ 107 → ⊥) → bytes_eq (first_word line) (b ∷ rest) ≡ false
  no_asking b rest above other =
      ap (λ (l : List ℕ). bytes_eq (first_word l) (b ∷ rest)) begins.parts ∙ ap (λ (w : List ℕ). bytes_eq w (b ∷ rest)) word_begins.1 ∙ rw (differs b above other) refl

  asks_none : asks_of_step (first_word line) ≡ false
  asks_none = rw (no_asking 116 (codes "ry") (omega arith) (λ e. omega (arith, e))) (no_asking 119 (codes "hy") (omega arith) (λ e. omega (arith, e)))

  third_stays : plain_line (Within Schedule) (without_return line) ≡ Some line → third_line line ≡ Some line
  third_stays means = rw asks_none (rw (and-false (not (nat_lt 512 (length line)))) (ap (λ (plain : Option (List ℕ)). or_naming plain (naming_in (without_return line))) means))

-- a step is no line that ends a session
pub no_quit : (step : Step) → FitsStep step → step_text step ≢ quit_line
no_quit step fits quits =
    let begins = begins_as_step step fits in
    let first : begins.byte ≡ 113 = ap (λ (line : List ℕ). get_or line 0 0) (sym begins.parts ∙ quits) in
    absurd (omega (arith, first, begins.low))

own_spelling : (version : TextVersion) (step : Step) → FitsStep step → StepStays step → spelled_line version (step_text step) ≡ Some (step_text step)
own_spelling One step fits stays = ap Some stays.one
own_spelling Two step fits stays = ap Some stays.one
own_spelling Three step fits stays = ap third_line stays.one ∙ third_stays (step_text step) (begins_as_step step fits) stays.means

own_meaning : (version : TextVersion) (step : Step) → FitsStep step → StepStays step → meant_line version (step_text step) ≡ Some (step_text step)
own_meaning version step fits stays = ap (option_map usual_words) (own_spelling version step fits stays) ∙ ap Some (stays_usual (step_text step) (begins_as_step step fits))

-- a line that spells a step means that step
pub step_meant : StepsStay → (version : TextVersion) (line : List ℕ) (step : Step) → FitsStep step → line ≡ step_text step → meant_line version line ≡ Some (step_text step)
step_meant law version line step fits spelled = ap (meant_line version) spelled ∙ own_meaning version step fits (law step fits)
