use Rattle.std.proofs.Common.{◌≡◌, ℕ, ◌+◌, ◌≤◌, [], None, replicate, length, arith, ap, subst, ◌∙◌}
use Rattle.tx_base.specs.Slots.{slot_at}
use Rattle.tx_change.specs.Boot.{booted_slot}
use Rattle.tx_proc.specs.Parts.{process_of, process_in}
use Rattle.tx_base.specs.SlotFacts.{length-with_slot}
use Rattle.tx_change.proofs.Booted.{booted_next, booted_places, booted_state}
use Rattle.tx_change.proofs.Counted.{counts_booted}
use Rattle.tx_change.specs.States.{state_of}
use Rattle.tx_change.specs.declared.parts.Parts.{Parts}
use Rattle.tx_model.specs.State.{boot_state}
use Rattle.tx_change.proofs.parts.Parts.boot.Goals as goal

pub loop-done-preserved : goal.loop-done-preserved
loop-done-preserved c =
    let so_far = c.loop-done.invariant in
    let width = so_far.width in
    let more = c.loop-done-test.true in
    let fits = c.requires in
    let there : c.loop-done.done + 1 ≤ length c.loop-done.procs = omega arith in
    let is = ap process_of c.in_ok-boxed.ensures ∙ c.booted.ensures in
    rw c.put.ensures record {
      width = length-with_slot c.loop-done.procs (c.loop-done.done + 1) _ ∙ so_far.width;
      procs = booted_next c.loop-done.procs c.loop-done.done c.in_ok-boxed.boxed there so_far.procs is;
      places = booted_places c.loop-done.procs c.loop-done.done c.in_ok-boxed.boxed there so_far.places is;
    }

state_is : (parts : Parts) (width count done : ℕ) → length parts.procs ≡ width → done ≡ count → ((n : ℕ) → process_in (slot_at parts.procs n) ≡ booted_slot done n) →
    parts.descs ≡ replicate 64 None → parts.pipes ≡ replicate 32 None → state_of (λ starter. []) parts ≡ boot_state width count
state_is parts width count done sized all procs descs pipes =
    booted_state parts width count sized (subst (λ (k : ℕ). (n : ℕ) → process_in (slot_at parts.procs n) ≡ booted_slot k n) all procs) descs pipes

pub returns-clause-state : goal.returns-clause-state
returns-clause-state c =
    let ended = c.loop-done.auto.done-end in
    let over = c.loop-done-test.false in
    state_is _ c.args.width c.args.count c.loop-done.done c.loop-done.invariant.width (omega arith) c.loop-done.invariant.procs c.new-2.ensures c.new-3.ensures

pub returns-clause-counts : goal.returns-clause-counts
returns-clause-counts c =
    let ended = c.loop-done.auto.done-end in
    let over = c.loop-done-test.false in
    counts_booted _ c.args.width c.args.count c.none_named_at_first.ensures.none
    (state_is _ c.args.width c.args.count c.loop-done.done c.loop-done.invariant.width (omega arith) c.loop-done.invariant.procs c.new-2.ensures c.new-3.ensures)
    c.new-2.ensures
