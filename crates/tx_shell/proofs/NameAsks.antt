-- A line that gives no name to a process.
use Rattle.std.proofs.Common.{◌≡◌, ◌≢◌, ℕ, ◌≤◌, true, List, ◌∷◌, ◌++◌, codes}
use Rattle.std.proofs.lemmas.List.{append_cancel_left}
use Rattle.std.specs.Fmt.{decimal}
use Rattle.tx_translate.specs.Names.{is_name}
use Rattle.tx_shell.specs.Answers.{ask_text, FitsAsk, IsOfName}
use Rattle.tx_shell.specs.declared.lines.asks.Ask.TheVariants as asks
use Rattle.tx_shell.specs.declared.lines.asks.Ask.{Ask}
use Rattle.tx_shell.specs.declared.lines.versions.TextVersion.{TextVersion}

-- no words are the number of a process and a name
abbrev pub NamesNone : List ℕ → Type 0
NamesNone words = (process : ℕ) (name : List ℕ) → 1 ≤ process → process ≤ 256 → is_name name ≡ true → words ≢ decimal process ++ 32 ∷ name

pub no_name : (version : TextVersion) (words : List ℕ) → NamesNone words → (ask : Ask) → IsOfName ask → FitsAsk version ask → codes "name " ++ words ≢ ask_text ask
no_name version words none (asks.Name process name) is fits spelled =
    none process.0 name.now fits.1.0 fits.1.1 fits.2 (append_cancel_left (codes "name ") words (decimal process.0 ++ 32 ∷ name.now) spelled)
no_name version words none other is fits spelled = absurd is
