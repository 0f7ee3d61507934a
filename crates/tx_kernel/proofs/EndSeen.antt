-- The end of a process leaves of its parent what a post sees.
use Rattle.std.proofs.Common.{◌≡◌, ℕ, Bool, true, false, List, [], ◌∷◌, ◌++◌, option_map, Option, Some, None, ◌==◌, if◌then◌else◌, refl, ap}
use Rattle.tx_base.specs.declared.names.Pid.{Pid}
use Rattle.tx_change.specs.Counts.{desc_changes, slot_after}
use Rattle.tx_change.specs.declared.change.Change.{Change}
use Rattle.tx_change.specs.declared.change.Change.TheVariants.{Slot, Part, Description, Pipe}
use Rattle.tx_change.specs.declared.pipes.PipePart.TheVariants.{Whole}
use Rattle.tx_desc.specs.declared.plans.NewDesc.{NewDesc}
use Rattle.tx_kernel.specs.Endings.{gone_changes, orphan_changes}
use Rattle.tx_kernel.specs.Posts.{IsSeen}
use Rattle.tx_model.specs.Descriptors.{has_description}
use Rattle.tx_model.specs.State.{Process, State}
use Rattle.tx_proc.specs.Parts.{edited_once, process_in}
use Rattle.tx_proc.specs.declared.proc.Part.TheVariants.{Parent}
use Rattle.tx_proc.specs.declared.proc.Proc.{Proc}

-- a process that gets another parent is seen as before
parent_seen : (slot now : Option Proc) (parent : Pid) → IsSeen slot (process_in now) → IsSeen slot (process_in (option_map (λ proc. edited_once proc (Parent parent)) now))
parent_seen slot None parent seen = seen
parent_seen None (Some x) parent seen = absurd seen
parent_seen (Some proc) (Some x) parent seen = ap (λ (q : Process). record q { parent = parent.0 }) seen

pub orphans_seen : (n : ℕ) (qs : List ℕ) (slot now : Option Proc) → IsSeen slot (process_in now) → IsSeen slot (process_in (slot_after n (orphan_changes qs) now))
orphans_seen n [] slot now seen = seen
orphans_seen n (q ∷ qs) slot now seen = orphans_seen n qs slot _ (by (n == q))
  where
    by : (b : Bool) → IsSeen slot (process_in (if b then option_map (λ proc. edited_once proc (Parent (record { 0 = 1 }))) now else now))
    by true = parent_seen slot now (record { 0 = 1 }) seen
    by false = seen

pub gone_slot : (n : ℕ) (ks : List ℕ) (S : State) (slot : Option Proc) → slot_after n (gone_changes ks S) slot ≡ slot
unfolding gone_changes
gone_slot n [] S slot = refl
gone_slot n (k ∷ ks) S slot = by (has_description k S) (gone_slot n ks S slot)
  where
    by : (b : Bool) → slot_after n (gone_changes ks S) slot ≡ slot →
        slot_after n (if b then gone_changes ks S else Pipe (record { 0 = k }) (Whole None) ∷ gone_changes ks S) slot ≡ slot
    by true rest = rest
    by false rest = rest

pub descs_slot : (n : ℕ) (descs : List NewDesc) (behind : List Change) (slot : Option Proc) → slot_after n (desc_changes descs ++ behind) slot ≡ slot_after n behind slot
descs_slot n [] behind slot = refl
descs_slot n (new ∷ descs) behind slot = descs_slot n descs behind slot

pub slot_after-append : (n : ℕ) (front behind : List Change) (slot : Option Proc) → slot_after n (front ++ behind) slot ≡ slot_after n behind (slot_after n front slot)
slot_after-append n [] behind slot = refl
slot_after-append n (Slot pid new ∷ front) behind slot = slot_after-append n front behind _
slot_after-append n (Part pid part ∷ front) behind slot = slot_after-append n front behind _
slot_after-append n (Description d opened ∷ front) behind slot = slot_after-append n front behind slot
slot_after-append n (Pipe q part ∷ front) behind slot = slot_after-append n front behind slot
