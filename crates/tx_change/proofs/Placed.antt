-- Processes keep their places.
use Rattle.std.proofs.Common.{◌≡◌, ◌≤◌, ℕ, Bool, true, false, List, [], ◌∷◌, length, option_map, Option, Some, None, ◌==◌, if◌then◌else◌, refl, ap, ◌∙◌, sym, subst}
use Rattle.tx_base.specs.Slots.{slot_at, with_slot}
use Rattle.tx_base.specs.SlotFacts.{slot_at-with_slot}
use Rattle.tx_change.specs.Exchange.{parts_after, change_after, applied, exchanged, undone, reverted, Sizes, IsWithin, AreWithin, IsNamed, AreNamed}
use Rattle.tx_change.specs.Laws.{HasPlaces, HasPlacesFor, HaveAllPlaces, BringsPlaces, BringPlaces}
use Rattle.tx_change.specs.declared.change.Change.{Change}
use Rattle.tx_change.specs.declared.change.Change.TheVariants.{Slot, Part, Description, Pipe}
use Rattle.tx_change.specs.declared.parts.Parts.{Parts}
use Rattle.tx_change.proofs.Applied.{still_sized, sizes-undone}
use Rattle.tx_change.proofs.Twice.{back, twice}
use Rattle.tx_change.proofs.Own.{once_sized}
use Rattle.tx_change.specs.PartLaws.{PartLaws}
use Rattle.tx_proc.specs.Parts.{edited_once}
use Rattle.tx_proc.specs.declared.proc.Part.{Part as ThePart}
use Rattle.tx_proc.specs.declared.proc.Proc.{Proc}

-- a number's process is another one, which has its places
placed : (procs : List (Option Proc)) (p : ℕ) (slot : Option Proc) → 1 ≤ p → p ≤ length procs → HasPlaces slot → ((n : ℕ) → HasPlaces (slot_at procs n)) →
    (n : ℕ) → HasPlaces (slot_at (with_slot procs p slot) n)
placed procs p slot low high new old n = subst HasPlaces (sym (slot_at-with_slot procs p slot n low high)) (by (n == p))
  where
    by : (b : Bool) → HasPlaces (if b then slot else slot_at procs n)
    by true = new
    by false = old n

edited_placed : (slot : Option Proc) (part : ThePart) → HasPlaces slot → HasPlaces (option_map (λ proc. edited_once proc part) slot)
edited_placed None part sized = tt
edited_placed (Some proc) part sized = once_sized proc (Part (record { 0 = 0 }) part) sized

once_placed : (parts : Parts) (change : Change) → IsNamed parts change → BringsPlaces change → HaveAllPlaces parts → HaveAllPlaces (parts_after parts change)
once_placed parts (Slot pid slot) named brings places = placed parts.procs pid.0 slot named.low named.high brings places
once_placed parts (Part pid part) named brings places =
    placed parts.procs pid.0 (option_map (λ proc. edited_once proc part) (slot_at parts.procs pid.0)) named.0.low named.0.high
    (edited_placed (slot_at parts.procs pid.0) part (places pid.0)) places
once_placed parts (Description number opened) named brings places = places
once_placed parts (Pipe number part) named brings places = places

pub places_stay : (parts : Parts) (changes : List Change) → AreNamed parts changes → BringPlaces changes → HaveAllPlaces parts → HaveAllPlaces (applied parts changes)
places_stay parts [] named brings places = places
places_stay parts (change ∷ changes) named brings places =
    places_stay (parts_after parts change) changes
    (subst (λ (sizes : Sizes). AreWithin sizes changes) (sym (still_sized parts change)) named.1)
    brings.1 (once_placed parts change named.0 brings.0 places)

-- what is taken out of a number has its places
once_brings : (parts : Parts) (change : Change) → HaveAllPlaces parts → BringsPlaces (change_after parts change)
once_brings parts (Slot pid slot) places = places pid.0
once_brings parts (Part pid part) places = tt
once_brings parts (Description number opened) places = tt
once_brings parts (Pipe number part) places = tt

pub exchanged_bring : (parts : Parts) (changes : List Change) → AreNamed parts changes → BringPlaces changes → HaveAllPlaces parts → BringPlaces (exchanged parts changes)
exchanged_bring parts [] named brings places = tt
exchanged_bring parts (change ∷ changes) named brings places = (
  once_brings parts change places,
  exchanged_bring (parts_after parts change) changes
      (subst (λ (sizes : Sizes). AreWithin sizes changes) (sym (still_sized parts change)) named.1)
      brings.1 (once_placed parts change named.0 brings.0 places),
)

pub named_undone : (parts : Parts) (change : Change) (changes : List Change) → IsNamed parts change → IsNamed (undone parts changes) change
named_undone parts change changes named = subst (λ (sizes : Sizes). IsWithin sizes change) (sym (sizes-undone parts changes)) named

pub undone_placed : (parts : Parts) (changes : List Change) → AreNamed parts changes → BringPlaces changes → HaveAllPlaces parts → HaveAllPlaces (undone parts changes)
undone_placed parts [] named brings places = places
undone_placed parts (change ∷ changes) named brings places =
    once_placed (undone parts changes) change (named_undone parts change changes named.0) brings.0 (undone_placed parts changes named.1 brings.1 places)

has_places : (parts : Parts) (change : Change) → HaveAllPlaces parts → HasPlacesFor parts change
has_places parts (Slot pid slot) places = tt
has_places parts (Part pid part) places = places pid.0
has_places parts (Description number opened) places = tt
has_places parts (Pipe number part) places = tt

-- to exchange what was taken back again gives the changes back too
pub log_comes_back : (laws : PartLaws) (parts : Parts) (changes : List Change) → AreNamed parts changes → BringPlaces changes → HaveAllPlaces parts →
    exchanged (undone parts changes) (reverted parts changes) ≡ changes
log_comes_back laws parts [] named brings places = refl
log_comes_back laws parts (change ∷ changes) named brings places =
    let before : Parts = undone parts changes in
    let there : IsNamed before change = named_undone parts change changes named.0 in
    let again : change_after (parts_after before change) (change_after before change) ≡ change
    = twice laws before change there (has_places before change (undone_placed parts changes named.1 brings.1 places)) in
    (λ i. again i ∷ exchanged (back laws before change there i) (reverted parts changes))
    ∙ ap (λ (cs : List Change). change ∷ cs) (log_comes_back laws parts changes named.1 brings.1 places)
