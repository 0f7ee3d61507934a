-- A post changes what is pending, and nothing else.
use Rattle.std.proofs.Common.{◌≡◌, ℕ, [], Ok, Option, Some, None, option_map, IsSome, ◌==◌, refl, ap, sym, subst, ◌∙◌, inl, inr, eqb-true}
use Rattle.std.proofs.lemmas.Bool.{cases_Bool}
use Rattle.tx_base.specs.SlotFacts.{length-with_slot, slot_at-with_slot}
use Rattle.tx_base.specs.Signals.{bits_of}
use Rattle.tx_base.specs.Slots.{slot_at, with_slot}
use Rattle.tx_base.specs.declared.names.Pid.{Pid}
use Rattle.tx_change.specs.Exchange.{parts_after, sizes_of, IsPid}
use Rattle.tx_change.specs.declared.change.Change.TheVariants.{Part as SetPart}
use Rattle.tx_change.specs.declared.parts.Parts.{Parts}
use Rattle.tx_kernel.specs.PostFacts.{same_slot}
use Rattle.tx_kernel.specs.Posts.{IsButPending, IsOfPending, PlansAt}
use Rattle.tx_model.specs.State.{Sending}
use Rattle.tx_proc.specs.Parts.{edited_once, queue_swapped, with_pending}
use Rattle.tx_proc.specs.declared.proc.Part.{Part}
use Rattle.tx_proc.specs.declared.proc.Part.TheVariants.{Pending, Queued, Frame}
use Rattle.tx_proc.specs.declared.proc.Proc.{Proc}
use Rattle.tx_signal.specs.Parts.{PendingView}

-- a part of what is pending replaced is something else pending
replaced : (part : Part) (slot : Option Proc) → IsOfPending (Some part) → (pending : PendingView) × (option_map (λ proc. edited_once proc part) slot ≡ option_map (with_pending pending) slot)
replaced part None is = (record { standard = 0; queued = [] }, refl)
replaced (Pending set) (Some proc) is = (record proc.pending { standard = bits_of set }, refl)
replaced (Queued place entry) (Some proc) is = (record proc.pending { queued = queue_swapped place entry proc.pending.queued }, refl)
replaced (Frame x) (Some proc) is = absurd is
replaced part (Some proc) is = absurd is

pub but_pending : (before after : Parts) (m : Sending) (pid : Pid) (found : Option Part) (part : Part) → pid.0 ≡ m.target → found ≡ Some part → PlansAt before m (Ok found) →
    after ≡ parts_after before (SetPart pid part) → IsButPending before after
but_pending before after m pid found part target is at made = subst (IsButPending before) (sym made) (record {
  width = length-with_slot before.procs pid.0 edited;
  each = each;
  descs = refl;
  pipes = refl;
})
  where
    edited : Option Proc
    edited = option_map (λ proc. edited_once proc part) (slot_at before.procs pid.0)

    there : IsPid (sizes_of before) pid.0
    there = subst (IsPid (sizes_of before)) (sym target) (at.there (subst IsSome (sym is) refl))

    each : (n : ℕ) → (pending : PendingView) × (slot_at (with_slot before.procs pid.0 edited) n ≡ option_map (with_pending pending) (slot_at before.procs n))
    each n = elim (cases_Bool (n == pid.0)) [
      | inl e ↦
          let one = replaced part (slot_at before.procs pid.0) (subst IsOfPending is at.pending) in
          (one.0, slot_at-with_slot before.procs pid.0 edited n there.low there.high ∙ rw e (one.1 ∙ ap (λ (k : ℕ). option_map (with_pending one.0) (slot_at before.procs k)) (sym (eqb-true n pid.0 e))))
      | inr e ↦
          let one = same_slot (slot_at before.procs n) in
          (one.0, slot_at-with_slot before.procs pid.0 edited n there.low there.high ∙ rw e one.1)
    ]
