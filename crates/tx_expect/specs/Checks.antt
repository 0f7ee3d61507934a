-- The report on a text and on its expectations.
use Rattle.std.specs.Prelude.{ℕ, List, [], ◌⊎◌}
use Rattle.tx_check.specs.Readers.{IsSaidFor}
use Rattle.tx_check.specs.declared.readers.Reader.TheVariants.{Any}

-- that is the report on a text: the one of a check; or, where that is empty, what is wrong with its
-- expectations, of which nothing is said here
abbrev pub SaysToo : List ℕ → List ℕ → Type 0
SaysToo text report = IsSaidFor Any text report ⊎ IsSaidFor Any text []
