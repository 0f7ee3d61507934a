use Rattle.std.proofs.Common.{◌≡◌, ◌∙◌, ◌++◌, arith}
use Rattle.tx_change.specs.States.{state_of}
use Rattle.tx_content.specs.Content.{held_of, view_of}
use Rattle.tx_model.specs.View.{present}
use Rattle.tx_waits.proofs.Gathered.{below_more, below_none}
use Rattle.tx_waits.specs.Holders.{each_below, holders_in, is_sought}
use Rattle.tx_waits.proofs.holders.add_holders.Goals as goal

pub loop-process-init : goal.loop-process-init
loop-process-init c = λ held.
    let S = state_of held c.parts-parts.result.now in below_none (holders_in (is_sought S c.args.sought) S) c.args.found.now.items

pub loop-process-preserved : goal.loop-process-preserved
loop-process-preserved c = λ held.
    let S = state_of held c.parts-parts.result.now in
    below_more (holders_in (is_sought S c.args.sought) S) c.loop-process.process c.args.found.now.items c.loop-process.found.items c.add_holders_in.new.found.items (c.loop-process.invariant held)
    (c.in_ok-add_holders_in.ensures held)

pub returns : goal.returns
returns c =
    let held = held_of c.args.machine.now in
    let shown : state_of held c.parts-parts.result.now ≡ present (view_of c.args.machine.now) = c.parts-parts.ensures.state in
    let done : c.loop-process.process ≡ 257 = omega arith in
    c.loop-process.invariant held ∙ (λ i. c.args.found.now.items ++ each_below (holders_in (is_sought (shown i) c.args.sought) (shown i)) (done i))
