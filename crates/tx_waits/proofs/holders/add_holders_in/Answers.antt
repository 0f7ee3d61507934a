use Rattle.std.proofs.Common.{◌≡◌, ◌∙◌, ◌++◌, ℕ, ap, arith}
use Rattle.tx_base.specs.declared.limits.TheConstants.{DESCRIPTORS}
use Rattle.tx_change.specs.States.{state_of}
use Rattle.tx_waits.proofs.Gathered.{below_more, below_none}
use Rattle.tx_waits.specs.Holders.{each_below, holder_at, is_sought}
use Rattle.tx_waits.proofs.holders.add_holders_in.Goals as goal

pub loop-descriptor-init : goal.loop-descriptor-init
loop-descriptor-init c = λ held.
    let S = state_of held c.args.parts.now in below_none (holder_at (is_sought S c.args.sought) S c.args.process) c.args.found.now.items

pub loop-descriptor-preserved : goal.loop-descriptor-preserved
loop-descriptor-preserved c = λ held.
    let S = state_of held c.args.parts.now in
    below_more (holder_at (is_sought S c.args.sought) S c.args.process) c.loop-descriptor.descriptor c.args.found.now.items c.loop-descriptor.found.items c.add_holder.new.found.items
    (c.loop-descriptor.invariant held) (c.in_ok-add_holder.ensures held)

pub returns : goal.returns
returns c = λ held.
    let S = state_of held c.args.parts.now in
    let done : c.loop-descriptor.descriptor ≡ DESCRIPTORS = omega arith in
    c.loop-descriptor.invariant held ∙ ap (λ (n : ℕ). c.args.found.now.items ++ each_below (holder_at (is_sought S c.args.sought) S c.args.process) n) done
