use Rattle.std.proofs.Common.{◌≡◌, ◌<◌, ◌+◌, ◌-◌, ◌++◌, ℕ, List, length, take, drop, arith, ap, ◌∙◌}
use Rattle.std.proofs.Math.ListN.{set}
use Rattle.std.proofs.lemmas.List.{take-set-le}
use Rattle.tx_change.proofs.Applied.{still_sized}
use Rattle.tx_change.proofs.Reverts.{named_cut, undone_cut, reverted_cut}
use Rattle.tx_change.specs.declared.change.Change.{Change}
use Rattle.tx_change.specs.Exchange.{AreWithin, sizes_of, undone, reverted}
use Rattle.tx_change.proofs.run.revert.Goals as goal

pub swap-requires : goal.swap-requires
swap-requires c =
    let items : List Change = c.loop-i.changes.items in
    let one : c.loop-i.i ≡ c.loop-i.i - 1 + 1 = omega arith in
    let there : c.loop-i.i - 1 < length items = omega arith in
    let named : AreWithin (sizes_of c.args.parts.now) (take (c.loop-i.i - 1 + 1) items) = rw one at c.loop-i.invariant.named in
    let read = c.index_mut.ensures.value in
    rw c.loop-i.invariant.sized (rw (← read) at (named_cut (sizes_of c.args.parts.now) items (c.loop-i.i - 1) c.index_mut.result.now there named).1)

pub loop-i-preserved : goal.loop-i-preserved
loop-i-preserved c =
    let items : List Change = c.loop-i.changes.items in
    let i : ℕ = c.loop-i.i - 1 in
    let change : Change = c.index_mut.result.now in
    let one : i + 1 ≡ c.loop-i.i = omega arith in
    let there : i < length items = omega arith in
    let read = c.index_mut.ensures.value in
    let front = ap (λ n. take n items) one in
    let behind = ap (λ n. drop n items) one in
    let kept : take i (set items i c.swap.new.self) ≡ take i items = take-set-le i items i c.swap.new.self (omega arith) in
    let named : AreWithin (sizes_of c.args.parts.now) (take (i + 1) items) = rw (← one) at c.loop-i.invariant.named in
    let now = c.swap.ensures in
    let held = c.loop-i.invariant in
    record {
      parts =
          (λ j. undone (now.parts j) (take i (set items i c.swap.new.self)))
          ∙ undone_cut c.loop-i.parts items i change c.swap.new.self there read ∙ ap (undone c.loop-i.parts) front ∙ held.parts;
      changes =
          (λ j. reverted (now.parts j) (take i (set items i (now.change j))) ++ drop i (set items i (now.change j)))
          ∙ reverted_cut c.loop-i.parts items i change there read ∙ (λ j. reverted c.loop-i.parts (front j) ++ behind j) ∙ held.changes;
      named = rw kept (named_cut (sizes_of c.args.parts.now) items i change there named).0;
      sized = ap sizes_of now.parts ∙ still_sized c.loop-i.parts change ∙ held.sized;
      few = omega arith;
    }
