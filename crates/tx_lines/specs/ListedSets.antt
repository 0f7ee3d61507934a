-- The sets of signals that a text can hold.
use Rattle.std.specs.Prelude.{◌≡◌, ℕ, ◌<◌, ◌^◌, true, List, [], ◌∷◌, ◌++◌}
use Rattle.std.specs.Fmt.{decimal}
use Rattle.tx_base.specs.Signals.{bits_of}
use Rattle.tx_base.specs.declared.signals.SigSet.{SigSet}
use Rattle.tx_model.specs.SignalSets.{is_known, set_of}
use Rattle.tx_lines.specs.Lists.{more_text}
use Rattle.tx_lines.specs.Sets.{members}

-- a set that a text can hold: it has only known signals
abbrev pub FitsSet : SigSet → Type 0
FitsSet set = bits_of set ≡ set_of (members (bits_of set))

-- known signals that rise from above a number on
abbrev pub AreRising : ℕ → List ℕ → Type 0
AreRising above [] = Unit {0}
AreRising above (signo ∷ signos) =
    (above < signo) × (signo < 2 ^ 8) × (is_known signo ≡ true) × AreRising signo signos

-- some known signals from above a number on, as a list spells them
pub record AreListed (above : ℕ) (list : List ℕ) (first : ℕ) (others : List ℕ) : Type 0 where
  pub rising : AreRising above (first ∷ others)
  pub text : list ≡ decimal first ++ more_text others
