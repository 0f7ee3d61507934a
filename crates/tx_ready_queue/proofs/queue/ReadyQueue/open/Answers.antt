use Rattle.std.proofs.Common.{◌≡◌, ◌-◌, length, arith, ap, sym, subst, ◌∙◌}
use Rattle.std.proofs.lemmas.List.FromFn.{length-range_with_len}
use Rattle.tx_ready_queue.specs.declared.rule.Hand.{Hand}
use Rattle.tx_ready_queue.specs.Hands.{HoldsEach}
use Rattle.tx_ready_queue.specs.Stations.{Standing}
use Rattle.tx_ready_queue.proofs.Each.{puts_next, holds_each}
use Rattle.tx_ready_queue.proofs.queue.ReadyQueue.open.Goals as goal
use Rattle.tx_ready_queue.proofs.queue.ReadyQueue.open.Goals.{else-loop-number-test, then-loop-number-test+else-number-count}

pub give-requires-clause-room : goal.give-requires-clause-room
give-requires-clause-room g c =
    let put : length c.loop-number.station.hand.put ≡ c.loop-number.number - 1 =
    ap (λ (v : Hand). length v.put) c.loop-number.invariant.1 ∙ length-range_with_len 1 (c.loop-number.number - 1) in
    omega (arith, c.requires.count.1)

pub loop-number-preserved : goal.loop-number-preserved
loop-number-preserved g c = (c.give.ensures.queue, c.give.ensures.put ∙ puts_next _ _ _ (omega arith) (omega arith) c.loop-number.invariant.1)

pub returns-clause-numbers : goal.returns-clause-numbers
returns-clause-numbers g c = elim c.loop-number-test.branch [
  | else-loop-number-test w ↦ absurd (omega (arith, c.requires.count.0))
  | then-loop-number-test+else-number-count w ↦ ap (λ (s : Standing). s.hand) w.station-is ∙ w.give.ensures.put ∙ puts_next _ _ _ (omega arith) (omega arith) c.loop-number.invariant.1
]

pub returns-clause-each : goal.returns-clause-each
returns-clause-each g c = subst (λ (held : Hand). HoldsEach c.args.count held) (sym (returns-clause-numbers g c)) (holds_each 65536 c.args.count)
