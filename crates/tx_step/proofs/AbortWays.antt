-- What the note that an abort stands for names, and who makes it.
use Rattle.std.proofs.Common.{◌≡◌, ◌≤◌, arith, ℕ, ℤ, Bool, true, false, [], ◌∷◌, length, Option, Some, None, if◌then◌else◌, refl, sym, ap, subst, ◌∙◌, eqb-true}
use Rattle.tx_base.specs.Slots.{slot_at}
use Rattle.tx_base.specs.declared.marks.Mark.{Mark}
use Rattle.tx_model.specs.ObjectFacts.{same_is}
use Rattle.tx_step.proofs.Refusals.{between}
use Rattle.tx_step.specs.InWay.{IsOfMember, starter_in}
use Rattle.tx_base.specs.SlotFacts.{slot_there}
use Rattle.tx_content.specs.Content.{now_of, IsShaped}
use Rattle.tx_content.specs.Insides.{IsFootprint}
use Rattle.tx_content.specs.declared.content.Content.{Content}
use Rattle.tx_model.specs.Events.{Note, effect, objects}
use Rattle.tx_model.specs.History.{event_footprint, targets}
use Rattle.tx_model.specs.Membership.{is_live, is_of}
use Rattle.tx_model.specs.State.{Object, Proc, has_object, is_between, same_object}
use Rattle.tx_reserve.specs.Footprints.{IsSetOf}
use Rattle.tx_reserve.specs.Objects.{is_small}
use Rattle.tx_reserve.specs.declared.objects.Objects.{Objects}
use Rattle.tx_txn.specs.Marks.{table_at}

starter_there : (k : Content) (s : ℕ) (mark : Option Mark) → slot_at k.marks s ≡ mark → is_of s mark ≡ true → IsShaped k → is_between 256 s ≡ true
starter_there k s None at live shaped = cc
starter_there k s (Some m) at live shaped =
    let bounds : (1 ≤ s) × (s ≤ length k.marks) = slot_there k.marks s m at in
    let few : length k.marks ≤ 256 = subst (λ (w : ℕ). w ≤ 256) (sym shaped.marks) shaped.few in
    between 256 s bounds.0 (omega (arith, bounds.1, few))

note_names : (k : Content) (s : ℕ) (r : ℤ) (o : Object) → has_object o (event_footprint (table_at k.marks) (Note s r) (now_of k)) ≡ (if same_object o (Proc s) then true else false)
unfolding event_footprint objects effect targets has_object
note_names k s r o = refl

-- the set of the starter alone is what the note names
pub note_footprint : (k : Content) (s : ℕ) (r : ℤ) (set : Objects) → IsShaped k → is_live (table_at k.marks) s ≡ true → IsSetOf set (Proc s ∷ []) → IsFootprint k (Note s r) set
unfolding has_object
note_footprint k s r set shaped live is o shared = is.each o ∙ by (same_object o (Proc s)) refl ∙ sym (note_names k s r o)
  where
    none : (b : Bool) → (if b then false else false) ≡ false
    none true = refl
    none false = refl

    by : (b : Bool) → same_object o (Proc s) ≡ b → (if is_small o then (if b then true else false) else false) ≡ (if b then true else false)
    by true e = rw (ap is_small (same_is o (Proc s) e) ∙ starter_there k s (slot_at k.marks s) refl live shaped) refl
    by false e = none (is_small o)

starter_self : (s : ℕ) (mark : Option Mark) → is_of s mark ≡ true → Some s ≡ starter_in mark
starter_self s None h = cc
starter_self s (Some m) h = ap Some (sym (eqb-true m.starter.0 s h))

-- the starter is a member of its own transaction
pub note_member : (k : Content) (s : ℕ) (r : ℤ) → is_live (table_at k.marks) s ≡ true → IsOfMember k (Some s) (Note s r)
unfolding objects has_object
note_member k s r live = record { member = starter_self s (slot_at k.marks s) live; holds = λ u h. cc }

-- the note sends nothing
pub note_sends : (k : Content) (s : ℕ) (r : ℤ) → (effect (Note s r) (now_of k)).sends ≡ []
unfolding effect
note_sends k s r = refl
