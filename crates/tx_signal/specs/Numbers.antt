-- The numbers of signals.
use Rattle.std.specs.Prelude.{ℕ, ◌≤◌}
use Rattle.tx_base.specs.declared.names.Signo.{Signo}

abbrev pub number_of : Signo → ℕ
number_of signo = signo.0

-- the number of a realtime signal
pub record IsRealtime (number : ℕ) : Type 0 where
  pub low : 32 ≤ number
  pub high : number ≤ 39
