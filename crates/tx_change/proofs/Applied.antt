-- Exchanges one after another, and back.
use Rattle.std.proofs.Common.{◌≡◌, ℕ, List, [], ◌∷◌, ◌++◌, Option, Some, None, length, ap, refl, ◌∙◌, sym, subst, length-set}
use Rattle.tx_base.specs.SlotFacts.{length-with_slot}
use Rattle.tx_change.proofs.Twice.{back}
use Rattle.tx_change.specs.declared.change.Change.{Change}
use Rattle.tx_change.specs.declared.change.Change.TheVariants.{Slot, Part, Description, Pipe}
use Rattle.tx_change.specs.declared.parts.Parts.{Parts}
use Rattle.tx_change.specs.Exchange.{parts_after, change_after, Sizes, sizes_of, IsWithin, IsNamed, AreWithin, AreNamed, applied, exchanged, undone, reverted}
use Rattle.tx_change.specs.PartLaws.{PartLaws}
use Rattle.tx_proc.specs.Parts.{part_in, HasPlace}
use Rattle.tx_proc.specs.declared.proc.Part.{Part as ProcPart}
use Rattle.tx_proc.specs.declared.proc.Proc.{Proc}
use Rattle.tx_proc.specs.PartFacts.{place_of_part}

-- there are as many numbers as before
pub still_sized : (parts : Parts) (change : Change) → sizes_of (parts_after parts change) ≡ sizes_of parts
still_sized parts (Slot pid slot) = ap (λ (n : ℕ). record { procs = n; descs = length parts.descs; pipes = length parts.pipes }) (length-with_slot parts.procs pid.0 slot)
still_sized parts (Part pid part) = ap (λ (n : ℕ). record { procs = n; descs = length parts.descs; pipes = length parts.pipes }) (length-with_slot parts.procs pid.0 _)
still_sized parts (Description number opened) = ap (λ (n : ℕ). record { procs = length parts.procs; descs = n; pipes = length parts.pipes }) (length-set parts.descs number.0 opened)
still_sized parts (Pipe number part) = ap (λ (n : ℕ). record { procs = length parts.procs; descs = length parts.descs; pipes = n }) (length-set parts.pipes number.0 _)

pub sizes-applied : (parts : Parts) (changes : List Change) → sizes_of (applied parts changes) ≡ sizes_of parts
sizes-applied parts [] = refl
sizes-applied parts (change ∷ changes) = sizes-applied (parts_after parts change) changes ∙ still_sized parts change

pub sizes-undone : (parts : Parts) (changes : List Change) → sizes_of (undone parts changes) ≡ sizes_of parts
sizes-undone parts [] = refl
sizes-undone parts (change ∷ changes) = still_sized (undone parts changes) change ∙ sizes-undone parts changes

pub length-applied : (parts : Parts) (changes : List Change) → length (applied parts changes).procs ≡ length parts.procs
length-applied parts changes = ap (λ (sizes : Sizes). sizes.procs) (sizes-applied parts changes)

pub length-undone : (parts : Parts) (changes : List Change) → length (undone parts changes).procs ≡ length parts.procs
length-undone parts changes = ap (λ (sizes : Sizes). sizes.procs) (sizes-undone parts changes)

-- what is named depends on how many numbers there are alone
pub IsNamed-sized : (parts other : Parts) (change : Change) → sizes_of other ≡ sizes_of parts → IsNamed parts change → IsNamed other change
IsNamed-sized parts other change sized named = subst (λ (sizes : Sizes). IsWithin sizes change) (sym sized) named

pub AreNamed-sized : (parts other : Parts) (changes : List Change) → sizes_of other ≡ sizes_of parts → AreNamed parts changes → AreNamed other changes
AreNamed-sized parts other changes sized named = subst (λ (sizes : Sizes). AreWithin sizes changes) (sym sized) named

pub AreWithin-append : (sizes : Sizes) (front behind : List Change) → AreWithin sizes front → AreWithin sizes behind → AreWithin sizes (front ++ behind)
AreWithin-append sizes [] behind first last = last
AreWithin-append sizes (change ∷ front) behind first last = (first.0, AreWithin-append sizes front behind first.1 last)

-- an exchanged change names the same part
pub place_in_part : (slot : Option Proc) (part : ProcPart) → HasPlace part → HasPlace (part_in slot part)
place_in_part None part place = place
place_in_part (Some proc) part place = place_of_part proc part place

pub IsWithin-exchanged : (sizes : Sizes) (parts : Parts) (change : Change) → IsWithin sizes change → IsWithin sizes (change_after parts change)
IsWithin-exchanged sizes parts (Slot pid slot) named = named
IsWithin-exchanged sizes parts (Part pid part) named = (named.0, place_in_part _ part named.1)
IsWithin-exchanged sizes parts (Description number opened) named = named
IsWithin-exchanged sizes parts (Pipe number part) named = named

pub AreWithin-exchanged : (sizes : Sizes) (parts : Parts) (changes : List Change) → AreWithin sizes changes → AreWithin sizes (exchanged parts changes)
AreWithin-exchanged sizes parts [] named = tt
AreWithin-exchanged sizes parts (change ∷ changes) named =
    (IsWithin-exchanged sizes parts change named.0, AreWithin-exchanged sizes (parts_after parts change) changes named.1)

pub AreWithin-reverted : (sizes : Sizes) (parts : Parts) (changes : List Change) → AreWithin sizes changes → AreWithin sizes (reverted parts changes)
AreWithin-reverted sizes parts [] named = tt
AreWithin-reverted sizes parts (change ∷ changes) named =
    (IsWithin-exchanged sizes (undone parts changes) change named.0, AreWithin-reverted sizes parts changes named.1)

-- to exchange all again, the last one first, puts the parts back
pub undone_exchanged : (laws : PartLaws) (parts : Parts) (changes : List Change) → AreNamed parts changes → undone (applied parts changes) (exchanged parts changes) ≡ parts
undone_exchanged laws parts [] named = refl
undone_exchanged laws parts (change ∷ changes) named =
    let next : Parts = parts_after parts change in
    let rest = undone_exchanged laws next changes (AreNamed-sized parts next changes (still_sized parts change) named.1) in
    ap (λ (p : Parts). parts_after p (change_after parts change)) rest ∙ back laws parts change named.0

-- to exchange what was taken back again, the first one first, puts the parts back too
pub applied_reverted : (laws : PartLaws) (parts : Parts) (changes : List Change) → AreNamed parts changes → applied (undone parts changes) (reverted parts changes) ≡ parts
applied_reverted laws parts [] named = refl
applied_reverted laws parts (change ∷ changes) named =
    let before : Parts = undone parts changes in
    ap (λ (p : Parts). applied p (reverted parts changes)) (back laws before change (IsNamed-sized parts before change (sizes-undone parts changes) named.0))
    ∙ applied_reverted laws parts changes named.1

pub applied-append : (parts : Parts) (front behind : List Change) → applied parts (front ++ behind) ≡ applied (applied parts front) behind
applied-append parts [] behind = refl
applied-append parts (change ∷ front) behind = applied-append (parts_after parts change) front behind

pub undone-append : (parts : Parts) (front behind : List Change) → undone parts (front ++ behind) ≡ undone (undone parts behind) front
undone-append parts [] behind = refl
undone-append parts (change ∷ front) behind = ap (λ (p : Parts). parts_after p change) (undone-append parts front behind)

pub reverted-append : (parts : Parts) (front behind : List Change) → reverted parts (front ++ behind) ≡ reverted (undone parts behind) front ++ reverted parts behind
reverted-append parts [] behind = refl
reverted-append parts (change ∷ front) behind =
    (λ i. change_after (undone-append parts front behind i) change ∷ reverted-append parts front behind i)

-- underscores, for lists of lemmas
pub undone_last : (parts : Parts) (front : List Change) (change : Change) → undone parts (front ++ (change ∷ [])) ≡ undone (parts_after parts change) front
undone_last parts front change = undone-append parts front (change ∷ [])

pub reverted_last : (parts : Parts) (front : List Change) (change : Change) →
    reverted parts (front ++ (change ∷ [])) ≡ reverted (parts_after parts change) front ++ (change_after parts change ∷ [])
reverted_last parts front change = reverted-append parts front (change ∷ [])
