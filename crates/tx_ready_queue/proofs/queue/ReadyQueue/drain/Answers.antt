use Rattle.std.proofs.Common.{arith, refl, [], ◌∷◌, ◌++◌, ◌∙◌}
use Rattle.crossbeam_queue.specs.Passes.{view}
use Rattle.tx_ready_queue.proofs.Drains.{has_room, drains_more, drained_all}
use Rattle.tx_ready_queue.proofs.Moves.{gets, learns}
use Rattle.tx_ready_queue.proofs.queue.ReadyQueue.drain.Goals as goal

pub loop-init : goal.loop-init
loop-init g c = (c.requires.queue, [], record { whole = c.requires.whole; put = refl; counted = c.none-left.ensures; evens = λ weight. omega arith })

pub pop_as-requires-clause-rule : goal.pop_as-requires-clause-rule
pop_as-requires-clause-rule g c = (gets _ _ (omega (arith, c.loop.invariant.2.whole)), learns _ _)

pub count-requires-clause-room : goal.count-requires-clause-room
count-requires-clause-room g c = has_room (view c.args.pass.now) (view c.loop.pass) (view c.pop_as.new.pass) _ _ _ c.loop.invariant.2 c.in-Some-pop_as.ensures.rule c.requires.room

pub loop-preserved : goal.loop-preserved
loop-preserved g c = (
  (c.pop_as.ensures.queue.0 ∙ c.loop.invariant.0.0, c.pop_as.ensures.queue.2 ∙ c.loop.invariant.0.1),
  c.loop.invariant.1 ++ c.in-Some-pop_as.number ∷ [],
  drains_more (view c.args.pass.now) (view c.loop.pass) (view c.pop_as.new.pass) _ _ _ _ c.loop.invariant.2 c.in-Some-pop_as.ensures.rule (c.count.ensures _ c.loop.invariant.2.counted),
)

pub returns-in-None-pop_as : goal.returns-in-None-pop_as
returns-in-None-pop_as g c =
    let held = c.in-None-pop_as.ensures.rule.1 in drained_all (view c.args.pass.now) (view c.loop.pass) _ _ held.0 c.loop.invariant.2 held.1 held.2
