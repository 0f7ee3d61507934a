use Rattle.std.proofs.Common.{◌≡◌, ◌++◌, ℕ, drop, map, option_map, true}
use Rattle.tx_model.specs.State.{Proc}
use Rattle.tx_step.specs.Faces.{sent, sent_at_commit}
use Rattle.tx_step.specs.InWay.{gives_two_answers, least_target, least_with, passing}
use Rattle.tx_kernel.specs.Plans.{sending_of}
use Rattle.tx_reserve.specs.Objects.{is_in}
use Rattle.tx_reserve.specs.Reservations.{lesser_of, number_of}
use Rattle.tx_step.proofs.in_way.least_target.Given as goal

-- a process that was asked counts no more
abbrev pub invariant-loop-place : goal.invariant-loop-place
invariant-loop-place l = record {
  least :
      least_with (gives_two_answers l.content (option_map number_of l.own) (sent l.first l.held)) (map sending_of (drop l.place l.held) ++ sent_at_commit l.first) (option_map number_of l.least)
      ≡ least_target (gives_two_answers l.content (option_map number_of l.own) (sent l.first l.held)) (sent l.first l.held);
  counted : (n : ℕ) → is_in l.asked (Proc n) ≡ true →
      lesser_of (option_map number_of l.least) (passing (gives_two_answers l.content (option_map number_of l.own) (sent l.first l.held)) n) ≡ option_map number_of l.least;
}
