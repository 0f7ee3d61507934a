-- Facts of contents. They follow from the definitions and are proved here, so nobody has to believe
-- them.
use Rattle.std.proofs.Common.{◌≡◌, ℕ, Some, refl, sym, ap, subst, ◌∙◌, eq-eqb}
use Rattle.tx_base.specs.SlotFacts.{slot_there}
use Rattle.tx_base.specs.Slots.{slot_at}
use Rattle.tx_kernel.specs.Actors.{IsActor, IsWhole}
use Rattle.tx_kernel.specs.declared.actor.Actor.{Actor}
use Rattle.tx_laws.specs.TwoStates.{is_owner}
use Rattle.tx_content.specs.Content.{IsTxn}
use Rattle.tx_content.specs.Made.{IsRunning}
use Rattle.tx_content.specs.declared.content.Content.{Content}
use Rattle.tx_model.specs.State.{Proc}
use Rattle.tx_txn.specs.Marks.{IsCovered}
use Rattle.tx_txn.specs.declared.txn.Txn.{Txn}

-- the transaction's objects cover its members
pub is_covered : (k : Content) (s : ℕ) (txn : Txn) (t : ℕ) → t ≡ s → IsTxn k s txn
    → IsCovered t k.marks txn.objects
is_covered k s txn t is was = subst (λ (n : ℕ). IsCovered n k.marks txn.objects) (sym is)
    (λ p of. was.objects (Proc p) ∙ ap (is_owner s) (was.own p of) ∙ eq-eqb s s refl)

-- a process that exists and runs makes its steps
pub is_actor : (actor : Actor) → IsWhole actor.parts.now
    → slot_at actor.parts.now.procs actor.pid.0 ≡ Some actor.proc.now
    → IsRunning (slot_at actor.parts.now.procs actor.pid.0) → IsActor actor
is_actor actor whole there running =
    let bounds = slot_there actor.parts.now.procs actor.pid.0 actor.proc.now there in
    record {
      whole = whole;
      number = record { low = bounds.0; high = bounds.1 };
      there = there;
      runs = subst IsRunning there running;
    }
