-- The known signals, and sets of signals as numbers: the bit of signal n is 2 ^ n (POSIX.1-2017,
-- XBD, signal.h). The numbers are own ones, those of Linux.
use Rattle.std.specs.Prelude.{ℕ, ◌-◌, ◌^◌, Bool, false, ◌||◌, List, [], ◌∷◌, ◌==◌, bit_and, bit_or}
use Rattle.std.specs.Int.{bit_at}
use Rattle.tx_base.specs.declared.signals.TheConstants.{SIGKILL, SIGPIPE, SIGCHLD}

-- SIGHUP, SIGINT, SIGQUIT, SIGABRT, SIGKILL, SIGUSR1, SIGUSR2, SIGPIPE, SIGALRM, SIGTERM, SIGCHLD
abbrev pub standard_signals : List ℕ
standard_signals = 1 ∷ 2 ∷ 3 ∷ 6 ∷ 9 ∷ 10 ∷ 12 ∷ 13 ∷ 14 ∷ 15 ∷ 17 ∷ []

abbrev pub realtime_signals : List ℕ
realtime_signals = 32 ∷ 33 ∷ 34 ∷ 35 ∷ 36 ∷ 37 ∷ 38 ∷ 39 ∷ []

abbrev pub kill_signo : ℕ
kill_signo = SIGKILL.0

abbrev pub broken_pipe_signo : ℕ
broken_pipe_signo = SIGPIPE.0

abbrev pub child_signo : ℕ
child_signo = SIGCHLD.0

abbrev pub is_one_of : List ℕ → ℕ → Bool
is_one_of [] n = false
is_one_of (m ∷ ms) n = m == n || is_one_of ms n

abbrev pub is_realtime : ℕ → Bool
is_realtime = is_one_of realtime_signals

abbrev pub is_known : ℕ → Bool
is_known signo = is_one_of standard_signals signo || is_realtime signo

abbrev pub is_in_set : ℕ → ℕ → Bool
is_in_set set signo = bit_at set signo == 1

abbrev pub with_one_more : ℕ → ℕ → ℕ
with_one_more set signo = bit_or set (2 ^ signo)

-- the signals of the first set that are not in the second
abbrev pub set_difference : ℕ → ℕ → ℕ
set_difference set other = set - bit_and set other

abbrev pub without_one : ℕ → ℕ → ℕ
without_one set signo = set_difference set (2 ^ signo)

abbrev pub set_of : List ℕ → ℕ
set_of [] = 0
set_of (signo ∷ signos) = with_one_more (set_of signos) signo

-- what a mask may hold: SIGKILL and the numbers that are not known are dropped
abbrev pub maskable : ℕ → ℕ
maskable set =
    without_one (bit_and set (bit_or (set_of standard_signals) (set_of realtime_signals)))
    kill_signo
