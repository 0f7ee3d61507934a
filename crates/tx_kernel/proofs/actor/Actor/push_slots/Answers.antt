use Rattle.std.proofs.Common.{◌+◌, List, pos, rules, slice_index_or, arith, ap, subst, sym, to_z, ◌∙◌}
use Rattle.std.specs.Prelude.{FitsSigned}
use Rattle.std.specs.Int.{w64}
use Rattle.std.proofs.lemmas.Int.{to_z-of_z}
use Rattle.tx_kernel.proofs.PartsOwned.{extends_more}
use Rattle.tx_kernel.proofs.Returned.{slots_more, slots_put, slots_same}
use Rattle.tx_change.specs.declared.change.Change.{Change}
use Rattle.tx_kernel.specs.Plans.{Extends}
use Rattle.tx_kernel.specs.Returns.{SlotsPut}
use Rattle.tx_kernel.proofs.actor.Actor.push_slots.Goals as goal
use Rattle.tx_kernel.proofs.actor.Actor.push_slots.Goals.{then-value-self+in_ok-push, else-value-self}

pub loop-number-preserved : goal.loop-number-preserved
loop-number-preserved c =
    let actor = c.args.self.now in
    let before = c.args.log.now in
    let slots = c.args.slots.now in
    let n = c.loop-number.number in
    let Put : List Change → Type 0 = λ now. SlotsPut actor before now slots (n + 1) × Extends before now in
    let fits : FitsSigned w64 (slice_index_or slots n (pos 0)) = search rules in
    let same = to_z-of_z w64 (slice_index_or slots n (pos 0)) fits in
    let old = slice_index_or actor.proc.now.regs.slots n (pos 0) in
    elim c.if-value-self.branch [
      | then-value-self+in_ok-push w ↦ subst Put (sym w.log-is) (
        slots_more actor before c.loop-number.log w.push.new.log slots n _ c.requires c.loop-number.invariant.0 c.told-slots (search rules) same w.in_ok-push.ensures.ok,
        extends_more before c.loop-number.log w.push.new.log _ c.loop-number.invariant.1 w.in_ok-push.ensures.ok,
      )
      | else-value-self w ↦ subst Put (sym w.log-is) (
        slots_same actor before c.loop-number.log slots n c.requires c.loop-number.invariant.0 c.told-slots (search rules)
            (let fits_old : FitsSigned w64 old = search rules in sym (to_z-of_z w64 old fits_old) ∙ ap (to_z w64) (sym w.if-value-self.false) ∙ same),
        c.loop-number.invariant.1,
      )
    ]

pub returns-clause-ok : goal.returns-clause-ok
returns-clause-ok c = slots_put c.args.self.now c.args.log.now c.loop-number.log c.args.slots.now c.loop-number.number c.requires c.loop-number.invariant.0 c.told-slots (omega (arith, c.loop-number-test.false, c.loop-number.auto.number-end))
