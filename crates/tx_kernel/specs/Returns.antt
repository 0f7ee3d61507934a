-- The slots that a caught signal saved, put in place one after another.
use Rattle.std.specs.Prelude.{ℕ, ℤ, List, ◌++◌, drop, take}
use Rattle.tx_change.specs.declared.change.Change.{Change}
use Rattle.tx_kernel.specs.Own.{PlansPart}
use Rattle.tx_kernel.specs.declared.actor.Actor.{Actor}
use Rattle.tx_model.specs.State.{Process}

abbrev pub with_slots : List ℤ → Process → Process
with_slots slots me =
    record me {
      registers = record { point = me.registers.point; ret = me.registers.ret; slots = slots };
    }

-- the first of these slots, this many, are in place
pub record SlotsPut (actor : Actor) (before now : List Change) (slots : List ℤ) (count : ℕ)
    : Type 0 where
  pub plan :
      PlansPart actor before now
      (λ me. with_slots (take count slots ++ drop count me.registers.slots) me)
