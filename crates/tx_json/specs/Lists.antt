-- Lists of numbers and of signals.
use Rattle.std.specs.Prelude.{ℕ, ℤ, List, [], ◌∷◌, if◌then◌else◌}
use Rattle.std.specs.Fmt.{decimal, signed_decimal}
use Rattle.json.specs.Token.{Token}
use Rattle.tx_base.specs.declared.limits.TheConstants.{SIGNALS}
use Rattle.tx_json.specs.Each.{each_tokens, upto}
use Rattle.tx_json.specs.Members.{list_member}
use Rattle.tx_model.specs.SignalSets.{is_in_set}

-- a number of a list
unfoldable pub count_item : ℕ → List Token
count_item count = Token.number (decimal count) ∷ []

unfoldable pub number_item : ℤ → List Token
number_item number = Token.number (signed_decimal number) ∷ []

-- a key and a list of numbers
abbrev pub numbers_member : List ℕ → List ℤ → List Token
numbers_member name numbers = list_member name (each_tokens number_item numbers)

-- a signal, where it is in a set
abbrev pub signal_item : ℕ → ℕ → List Token
signal_item set signo = if is_in_set set signo then count_item signo else []

-- a key and the signals of a set, rising
abbrev pub set_member : List ℕ → ℕ → List Token
set_member name set = list_member name (upto (λ signo. signal_item set signo) SIGNALS)
