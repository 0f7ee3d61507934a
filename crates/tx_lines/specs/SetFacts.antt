-- Facts of sets of signals: their members rise. They follow from the definitions and are proved
-- here, so nobody has to believe them.
use Rattle.std.proofs.Common.{◌≡◌, ℕ, ◌<◌, ◌≤◌, Bool, true, false, cond, ◌&&◌, List, [], ◌∷◌, ◌++◌, refl, arith}
use Rattle.std.specs.Prelude.{nat_lt}
use Rattle.std.specs.List.{filter}
use Rattle.std.proofs.lemmas.Bool.{both_ways, ltb-true}
use Rattle.tx_model.specs.SignalSets.{standard_signals, realtime_signals, is_in_set, is_known}
use Rattle.tx_lines.specs.ListedSets.{AreRising}
use Rattle.tx_lines.specs.Sets.{members}

and_parts : (a b : Bool) → (a && b) ≡ true → (a ≡ true) × (b ≡ true)
and_parts true b h = (refl, h)
and_parts false b h = absurd (both_ways false refl h)

-- a number that rises from above another rises from above a lower one
lower : (above below : ℕ) (signos : List ℕ) → below ≤ above → AreRising above signos
    → AreRising below signos
lower above below [] less rising = tt
lower above below (signo ∷ signos) less rising =
    let first : above < signo = rising.0 in (omega arith, rising.1, rising.2, rising.3)

-- whether known signals rise
rises : ℕ → List ℕ → Bool
rises above [] = true
rises above (signo ∷ signos) =
    nat_lt above signo && (nat_lt signo 256 && (is_known signo && rises signo signos))

sound : (above : ℕ) (signos : List ℕ) → rises above signos ≡ true → AreRising above signos
unfolding rises
sound above [] h = tt
sound above (signo ∷ signos) h =
    let a =
    and_parts (nat_lt above signo) (nat_lt signo 256 && (is_known signo && rises signo signos))
    h in
    let b = and_parts (nat_lt signo 256) (is_known signo && rises signo signos) a.1 in
    let d = and_parts (is_known signo) (rises signo signos) b.1 in
    (ltb-true above signo a.0, ltb-true signo 256 b.0, d.0, sound signo signos d.1)

-- the known signals rise
pub all_rising : AreRising 0 (standard_signals ++ realtime_signals)
unfolding rises
all_rising = sound 0 (standard_signals ++ realtime_signals) refl

rising_filter : (p : ℕ → Bool) (above : ℕ) (signos : List ℕ) → AreRising above signos
    → AreRising above (filter p signos)
rising_filter p above [] rising = tt
rising_filter p above (signo ∷ signos) rising =
    by (filter p signos) (rising_filter p signo signos rising.3) (p signo)
  where
    by : (rest : List ℕ) → AreRising signo rest → (b : Bool)
        → AreRising above (cond b (signo ∷ rest) rest)
    by rest after true = (rising.0, rising.1, rising.2, after)
    by rest after false =
        let first : above < signo = rising.0 in lower signo above rest (omega arith) after

-- the members of a set rise
pub members_rise : (set : ℕ) → AreRising 0 (members set)
unfolding members
members_rise set =
    rising_filter (λ signo. is_in_set set signo) 0 (standard_signals ++ realtime_signals) all_rising
