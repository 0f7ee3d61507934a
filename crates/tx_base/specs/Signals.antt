-- Sets of signals and actions, as numbers see them.
use Rattle.std.specs.Prelude.{ℕ}
use Rattle.tx_base.specs.declared.signals.SigSet.{SigSet}

-- the set as a number: the bit of signal n is 2 ^ n
abbrev pub bits_of : SigSet → ℕ
bits_of set = set.0

abbrev pub set_of_bits : ℕ → SigSet
set_of_bits bits = record { 0 = bits }
