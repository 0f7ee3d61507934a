-- A line that asks for nothing by numbers after its first word.
use Rattle.std.proofs.Common.{◌≡◌, ◌≢◌, ℕ, ◌<◌, ◌^◌, List, ◌∷◌, ◌++◌, Option, None, Some, codes}
use Rattle.std.proofs.lemmas.Option.{none-some}
use Rattle.std.specs.Fmt.{decimal}
use Rattle.tx_shell.specs.Answers.{ask_text, FitsAsk, IsOfNumbers}
use Rattle.tx_shell.specs.declared.lines.asks.Ask.TheVariants as asks
use Rattle.tx_shell.specs.declared.lines.asks.Ask.{Ask}
use Rattle.tx_shell.specs.declared.lines.versions.TextVersion.{TextVersion}

-- the line does not begin so
abbrev BeginsOther : List ℕ → List ℕ → Type 0
BeginsOther line front = (rest : List ℕ) → line ≢ front ++ rest

-- no number after that front is read
abbrev ReadsNone : List ℕ → List ℕ → Option ℕ → Type 0
ReadsNone line front found = (n : ℕ) → n < 2 ^ 8 → line ≡ front ++ decimal n → found ≡ Some n

none_there : (line front : List ℕ) → ReadsNone line front None → (n : ℕ) → n < 2 ^ 8 → line ≢ front ++ decimal n
none_there line front only n small spelled = none-some n (only n small spelled)

pub no_numbers : (line : List ℕ) → BeginsOther line (codes "steps ") → BeginsOther line (codes "diff ") → BeginsOther line (codes "without ") → BeginsOther line (codes "owns ")
    → ReadsNone line (codes "holds pipe ") None → ReadsNone line (codes "holds desc ") None → (version : TextVersion) (ask : Ask) → IsOfNumbers ask → FitsAsk version ask → line ≢ ask_text ask
no_numbers line steps diff without owns pipe desc version (asks.StepsFrom first) is fits = steps (decimal first)
no_numbers line steps diff without owns pipe desc version (asks.StepsBetween first last) is fits = steps (decimal first ++ 32 ∷ decimal last)
no_numbers line steps diff without owns pipe desc version (asks.Diff from to) is fits = diff (decimal from ++ 32 ∷ decimal to)
no_numbers line steps diff without owns pipe desc version (asks.Without starter) is fits = without (decimal starter)
no_numbers line steps diff without owns pipe desc version (asks.OwnsOf starter) is fits = owns (decimal starter)
no_numbers line steps diff without owns pipe desc version (asks.HoldsPipe number) is fits = none_there line (codes "holds pipe ") pipe number.0 fits
no_numbers line steps diff without owns pipe desc version (asks.HoldsDesc number) is fits = none_there line (codes "holds desc ") desc number.0 fits
no_numbers line steps diff without owns pipe desc version other is fits = absurd is
