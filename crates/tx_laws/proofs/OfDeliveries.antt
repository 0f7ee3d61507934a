-- What deliveries owe.
use Rattle.std.proofs.Common.{ℕ, Bool, true, false, [], ℤ, Option, Some, None, if◌then◌else◌, refl}
use Rattle.tx_base.specs.declared.steps.Refusal.TheVariants.{NotDeliverable, Deferred, FramesFull}
use Rattle.tx_base.specs.declared.steps.Reply.{Reply}
use Rattle.tx_base.specs.declared.steps.Reply.TheVariants.{Done}
use Rattle.tx_model.specs.State.{Process}
use Rattle.tx_model.specs.Effects.{Inside}
use Rattle.tx_model.specs.Words.{Own, delivery_effect, delivery_objects, is_full}
use Rattle.tx_model.specs.Forms.{caller, effect_of, stands, refuses, ◌or◌, ◌when◌}
use Rattle.tx_model.specs.Processes.{ending_objects}
use Rattle.tx_model.specs.Deliveries.{delivered_value, without_delivered, action_at, at_catch_point, killed_status, is_deferred, reaction, is_killing, ends_by}
use Rattle.tx_model.specs.Signals.{disposition, Disposition, Ignored, Fatal, Caught}
use Rattle.tx_laws.proofs.Owed.{IsLocal}
use Rattle.tx_laws.proofs.InPlace.{in_place, idle_local, own_local}
use Rattle.tx_laws.proofs.OfProcesses.{ending_local}

module _ (inside : Option Inside) (p signo : ℕ) (me : Process) where
  abbrev own : Process → Reply → Own
  own q reply = record { process = q; reply = reply }

  acts_local : (value : ℤ) (what : Disposition)
      → IsLocal inside p me (λ S. effect_of p me (reaction signo value what (caller inside p (without_delivered signo me) S))) (λ S. if is_killing what then ending_objects (caller inside p me S) else [])
  acts_local value Ignored = own_local inside p me (own (without_delivered signo me) (Done me.registers.ret)) (in_place me _ refl refl refl)
  acts_local value Fatal = ending_local inside p (killed_status signo) me (without_delivered signo me) refl refl
  acts_local value (Caught point mask) = by (is_full me)
    where
      by : (b : Bool) → IsLocal inside p me (λ S. effect_of p me ((refuses FramesFull when b) (stands (at_catch_point signo value point mask (without_delivered signo me)) (Done value)))) (λ S. [])
      by true = idle_local inside p me FramesFull
      by false = own_local inside p me (own (at_catch_point signo value point mask (without_delivered signo me)) (Done value)) (in_place me _ refl refl refl)

  pub delivery_local : IsLocal inside p me (λ S. delivery_effect inside p signo me S) (λ S. delivery_objects inside p signo me S)
  delivery_local = by (delivered_value signo me)
    where
      what : Disposition
      what = disposition signo (action_at signo me)

      now : (value : ℤ) (b : Bool) → IsLocal inside p me (λ S. effect_of p me ((refuses Deferred when b) (reaction signo value what (caller inside p (without_delivered signo me) S))))
          (λ S. if (if b then false else is_killing what) then ending_objects (caller inside p me S) else [])
      now value true = idle_local inside p me Deferred
      now value false = acts_local value what

      by : (o : Option ℤ)
          → IsLocal inside p me (λ S. effect_of p me ((o or refuses NotDeliverable) λ value. (refuses Deferred when is_deferred inside signo) (reaction signo value what (caller inside p (without_delivered signo me) S))))
          (λ S. if ends_by inside signo me o then ending_objects (caller inside p me S) else [])
      by None = idle_local inside p me NotDeliverable
      by (Some value) = now value (is_deferred inside signo)
