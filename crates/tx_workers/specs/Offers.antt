-- The signal that a turn delivers. Own rules.
use Rattle.std.specs.Prelude.{ℕ, Bool, true, false, not, ◌&&◌, List, ◌∷◌, ◌++◌, Option, is_some}
use Rattle.std.specs.List.{find}
use Rattle.tx_base.specs.declared.signals.Action.{Action}
use Rattle.tx_base.specs.declared.signals.Action.TheVariants.{Usual, Ignore, Catch}
use Rattle.tx_model.specs.Deliveries.{action_at, delivered_value, is_deferred}
use Rattle.tx_model.specs.Words.{is_full}
use Rattle.tx_model.specs.Effects.{Inside}
use Rattle.tx_model.specs.SignalSets.{kill_signo, realtime_signals, standard_signals}
use Rattle.tx_model.specs.State.{Process}

-- the signals in the order in which turns deliver them: SIGKILL, the standard ones, the realtime
-- ones
abbrev pub in_order : List ℕ
in_order = kill_signo ∷ (standard_signals ++ realtime_signals)

abbrev pub is_catch : Action → Bool
is_catch Usual = false
is_catch Ignore = false
is_catch (Catch point mask) = true

-- whether the signal is caught, and there is no room for what is saved then
abbrev pub is_passed_over : Process → ℕ → Bool
is_passed_over me signo = is_full me && is_catch (action_at signo me)

-- whether a turn may deliver the signal
abbrev pub is_offered : Option Inside → Process → ℕ → Bool
is_offered inside me signo =
    is_some (delivered_value signo me)
    && (not (is_deferred inside signo) && not (is_passed_over me signo))

-- the signal that a turn delivers to a process that is inside that transaction, if it delivers one
abbrev pub offered : Option Inside → Process → Option ℕ
offered inside me = find (is_offered inside me) in_order
