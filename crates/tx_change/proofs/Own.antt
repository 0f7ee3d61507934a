-- Exchanges of parts of one process.
use Rattle.std.proofs.Common.{◌≡◌, ℕ, ◌≤◌, List, [], ◌∷◌, Option, Some, None, option_map, length, ap, refl, ◌∙◌, sym}
use Rattle.tx_base.specs.Slots.{slot_at, with_slot}
use Rattle.tx_base.specs.SlotFacts.{slot_twice, slot_same, slot_now, length-with_slot}
use Rattle.tx_change.proofs.Applied.{place_in_part}
use Rattle.tx_change.specs.declared.change.Change.{Change}
use Rattle.tx_change.specs.declared.change.Change.TheVariants.{Slot, Part, Description, Pipe}
use Rattle.tx_change.specs.declared.parts.Parts.{Parts}
use Rattle.tx_change.specs.Exchange.{parts_after, change_after, object_of, Sizes, sizes_of, IsWithin, AreNamed, applied, exchanged, undone, reverted}
use Rattle.tx_change.specs.Own.{edited_by, edited, edited_back, IsOf, AreOf}
use Rattle.tx_model.specs.State.{Proc as TheProc}
use Rattle.tx_proc.specs.PartFacts.{still_sized}
use Rattle.tx_proc.specs.Laws.{IsSized}
use Rattle.tx_proc.specs.declared.proc.Proc.{Proc}

pub object-own : (n : ℕ) (change : Change) → IsOf n change → object_of change ≡ TheProc n
object-own n (Part pid part) own = ap TheProc own.0
object-own n (Slot pid slot) own = absurd own
object-own n (Description number opened) own = absurd own
object-own n (Pipe number part) own = absurd own

pub IsWithin-own : (n : ℕ) (sizes : Sizes) (change : Change) → 1 ≤ n → n ≤ sizes.procs → IsOf n change → IsWithin sizes change
IsWithin-own n sizes (Part pid part) low high own = (record { low = rw own.0 low; high = rw own.0 high }, own.1)
IsWithin-own n sizes (Slot pid slot) low high own = absurd own
IsWithin-own n sizes (Description number opened) low high own = absurd own
IsWithin-own n sizes (Pipe number part) low high own = absurd own

pub AreNamed-own : (n : ℕ) (parts : Parts) (changes : List Change) → 1 ≤ n → n ≤ length parts.procs → AreOf n changes → AreNamed parts changes
AreNamed-own n parts [] low high own = tt
AreNamed-own n parts (change ∷ changes) low high own = (IsWithin-own n (sizes_of parts) change low high own.0, AreNamed-own n parts changes low high own.1)

-- an exchanged change is one of the same process
pub IsOf-exchanged : (n : ℕ) (parts : Parts) (change : Change) → IsOf n change → IsOf n (change_after parts change)
IsOf-exchanged n parts (Part pid part) own = (own.0, place_in_part (slot_at parts.procs pid.0) part own.1)
IsOf-exchanged n parts (Slot pid slot) own = absurd own
IsOf-exchanged n parts (Description number opened) own = absurd own
IsOf-exchanged n parts (Pipe number part) own = absurd own

pub AreOf-exchanged : (n : ℕ) (parts : Parts) (changes : List Change) → AreOf n changes → AreOf n (exchanged parts changes)
AreOf-exchanged n parts [] own = tt
AreOf-exchanged n parts (change ∷ changes) own = (IsOf-exchanged n parts change own.0, AreOf-exchanged n (parts_after parts change) changes own.1)

pub AreOf-reverted : (n : ℕ) (parts : Parts) (changes : List Change) → AreOf n changes → AreOf n (reverted parts changes)
AreOf-reverted n parts [] own = tt
AreOf-reverted n parts (change ∷ changes) own = (IsOf-exchanged n (undone parts changes) change own.0, AreOf-reverted n parts changes own.1)

option_map-twice : (slot : Option Proc) (first last : Proc → Proc) → option_map last (option_map first slot) ≡ option_map (λ proc. last (first proc)) slot
option_map-twice None first last = refl
option_map-twice (Some proc) first last = refl

option_map-same : (slot : Option Proc) → option_map (λ (proc : Proc). proc) slot ≡ slot
option_map-same None = refl
option_map-same (Some proc) = refl

in_procs : (parts : Parts) {one other : List (Option Proc)} → one ≡ other → record parts { procs = one } ≡ record parts { procs = other }
in_procs parts same = ap (λ (procs : List (Option Proc)). record parts { procs = procs }) same

-- the parts with the process of a number edited
abbrev pub with_edit : ℕ → (Proc → Proc) → Parts → Parts
with_edit n edit parts = record parts { procs = with_slot parts.procs n (option_map edit (slot_at parts.procs n)) }

pub parts_after-own : (n : ℕ) (parts : Parts) (change : Change) → IsOf n change → parts_after parts change ≡ with_edit n (λ proc. edited_by proc change) parts
parts_after-own n parts (Part pid part) own = ap (λ (k : ℕ). with_edit k (λ proc. edited_by proc (Part pid part)) parts) own.0
parts_after-own n parts (Slot pid slot) own = absurd own
parts_after-own n parts (Description number opened) own = absurd own
parts_after-own n parts (Pipe number part) own = absurd own

-- nothing is replaced by nothing
no_edit : (n : ℕ) (parts : Parts) → 1 ≤ n → parts ≡ with_edit n (λ (proc : Proc). proc) parts
no_edit n parts low = in_procs parts (sym (ap (with_slot parts.procs n) (option_map-same (slot_at parts.procs n)) ∙ slot_same parts.procs n low))

-- an edit of a slot that was edited before
edit_again : (n : ℕ) (parts : Parts) (first last : Proc → Proc) → 1 ≤ n → n ≤ length parts.procs →
    with_edit n last (with_edit n first parts) ≡ with_edit n (λ proc. last (first proc)) parts
edit_again n parts first last low high =
    let slot : Option Proc = slot_at parts.procs n in
    let next : List (Option Proc) = with_slot parts.procs n (option_map first slot) in
    in_procs parts
    (ap (λ (s : Option Proc). with_slot next n (option_map last s)) (slot_now parts.procs n (option_map first slot) low high)
    ∙ slot_twice parts.procs n (option_map first slot) (option_map last (option_map first slot))
    ∙ ap (with_slot parts.procs n) (option_map-twice slot first last))

-- exchanges of parts of process n replace its slot alone
pub applied-own : (n : ℕ) (parts : Parts) (changes : List Change) → 1 ≤ n → n ≤ length parts.procs → AreOf n changes →
    applied parts changes ≡ with_edit n (λ proc. edited proc changes) parts
applied-own n parts [] low high own = no_edit n parts low
applied-own n parts (change ∷ changes) low high own =
    let next : Parts = with_edit n (λ proc. edited_by proc change) parts in
    let sized : length next.procs ≡ length parts.procs = length-with_slot parts.procs n _ in
    ap (λ (p : Parts). applied p changes) (parts_after-own n parts change own.0) ∙ applied-own n next changes low (rw sized high) own.1
    ∙ edit_again n parts (λ proc. edited_by proc change) (λ proc. edited proc changes) low high

pub undone-own : (n : ℕ) (parts : Parts) (changes : List Change) → 1 ≤ n → n ≤ length parts.procs → AreOf n changes →
    undone parts changes ≡ with_edit n (λ proc. edited_back proc changes) parts
undone-own n parts [] low high own = no_edit n parts low
undone-own n parts (change ∷ changes) low high own =
    let next : Parts = with_edit n (λ proc. edited_back proc changes) parts in
    ap (λ (p : Parts). parts_after p change) (undone-own n parts changes low high own.1) ∙ parts_after-own n next change own.0
    ∙ edit_again n parts (λ proc. edited_back proc changes) (λ proc. edited_by proc change) low high

-- what the slot of process n has then, and that the others have what they had
pub slot_at-applied-own : (n : ℕ) (parts : Parts) (changes : List Change) → 1 ≤ n → n ≤ length parts.procs → AreOf n changes →
    slot_at (applied parts changes).procs n ≡ option_map (λ proc. edited proc changes) (slot_at parts.procs n)
slot_at-applied-own n parts changes low high own =
    ap (λ (p : Parts). slot_at p.procs n) (applied-own n parts changes low high own) ∙ slot_now parts.procs n _ low high

-- edits leave a place for each number
pub once_sized : (proc : Proc) (change : Change) → IsSized proc → IsSized (edited_by proc change)
once_sized proc (Part pid part) sized = still_sized proc part sized
once_sized proc (Slot pid slot) sized = sized
once_sized proc (Description number opened) sized = sized
once_sized proc (Pipe number part) sized = sized

pub edited_sized : (proc : Proc) (changes : List Change) → IsSized proc → IsSized (edited proc changes)
edited_sized proc [] sized = sized
edited_sized proc (change ∷ changes) sized = edited_sized (edited_by proc change) changes (once_sized proc change sized)

pub back_sized : (proc : Proc) (changes : List Change) → IsSized proc → IsSized (edited_back proc changes)
back_sized proc [] sized = sized
back_sized proc (change ∷ changes) sized = once_sized (edited_back proc changes) change (back_sized proc changes sized)
