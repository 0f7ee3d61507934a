-- How many of what is held members sent.
use Rattle.std.proofs.Common.{◌≡◌, ◌≤◌, ◌+◌, List, [], ◌∷◌, ◌++◌, length, map, arith, pos, Option, Some, None}
use Rattle.tx_base.specs.declared.names.Sending.{Sending as TheSending}
use Rattle.tx_kernel.specs.Plans.{sender_of, sending_of}
use Rattle.tx_model.specs.Book.{sender_count, member_sends}
use Rattle.tx_model.specs.State.{Sender}

-- of one more signal behind them
pub sent_more : (ms : List TheSending) (m : TheSending) → member_sends (map sending_of (ms ++ m ∷ [])) ≡ member_sends (map sending_of ms) + sender_count (sender_of m.from)
unfolding member_sends
sent_more [] m = omega arith
sent_more (x ∷ ms) m = let rest = sent_more ms m in omega (arith, rest)

pub sender_le : (from : Option Sender) → sender_count from ≤ 1
sender_le None = omega arith
sender_le (Some from) = omega arith

pub sent_few : (ms : List TheSending) → member_sends (map sending_of ms) ≤ length ms
unfolding member_sends
sent_few [] = omega arith
sent_few (x ∷ ms) = let one = sender_le (sender_of x.from) in let rest = sent_few ms in omega (arith, one, rest)

-- what stands at no place
abbrev pub no_sending : TheSending
no_sending = record { target = record { 0 = 0 }; signo = record { 0 = 0 }; value = pos 0; from = None }
