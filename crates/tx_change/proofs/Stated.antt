-- What exchanges make of the state that the parts mean.
use Rattle.std.proofs.Common.{◌≡◌, ℕ, ◌<◌, ◌≤◌, Bool, true, false, List, [], ◌∷◌, Option, None, if◌then◌else◌, ◌==◌, slice_index_or, slice_set, length, ap, refl, ◌∙◌, inl, inr, eqb-true}
use Rattle.std.proofs.lemmas.Bool.{eqb-false, cases_Bool}
use Rattle.std.proofs.lemmas.List.{get_or-set_same, get_or-set_other}
use Rattle.tx_base.specs.Slots.{slot_at, with_slot}
use Rattle.tx_base.specs.SlotFacts.{length-with_slot, slot_at-with_slot}
use Rattle.tx_change.proofs.Applied.{still_sized, AreNamed-sized}
use Rattle.tx_change.specs.Exchange.{parts_after, pipe_at, object_of, applied, IsNamed, AreNamed}
use Rattle.tx_change.specs.Pipes.{piped_in}
use Rattle.tx_change.specs.States.{state_of, changed, changed_by}
use Rattle.tx_change.specs.declared.change.Change.{Change}
use Rattle.tx_change.specs.declared.change.Change.TheVariants.{Slot, Part, Description, Pipe}
use Rattle.tx_change.specs.declared.parts.Parts.{Parts}
use Rattle.tx_desc.specs.Descriptions.{described, description_at}
use Rattle.tx_desc.specs.declared.opened.Opened.{Opened}
use Rattle.tx_model.specs.State.{Process, State, Sending, Object, Proc as TheProc, Desc, Pipe as ThePipe, Held, same_object}
use Rattle.tx_model.specs.StateLaws.{state_ext, EqualAt}
use Rattle.tx_proc.specs.PartFacts.{revised_in}
use Rattle.tx_proc.specs.Parts.{process_in}
use Rattle.tx_proc.specs.declared.proc.Proc.{Proc}

process_if : (b : Bool) (slot other : Option Proc) → process_in (if b then slot else other) ≡ (if b then process_in slot else process_in other)
process_if true slot other = refl
process_if false slot other = refl

-- what each number has after one is replaced
pub procs_with : (procs : List (Option Proc)) (p : ℕ) (slot : Option Proc) (n : ℕ) → 1 ≤ p → p ≤ length procs →
    process_in (slot_at (with_slot procs p slot) n) ≡ (if n == p then process_in slot else process_in (slot_at procs n))
procs_with procs p slot n low high = ap process_in (slot_at-with_slot procs p slot n low high) ∙ process_if (n == p) slot (slot_at procs n)

-- what each number has after one entry of a list is replaced
pub number_with : {A : Type 0} (items : List (Option A)) (k : ℕ) (new : Option A) (n : ℕ) → k < length items →
    slice_index_or (slice_set items k new) n None ≡ (if n == k then new else slice_index_or items n None)
number_with items k new n there = elim (cases_Bool (n == k)) [
  | inl e ↦ rw e (ap (λ (m : ℕ). slice_index_or (slice_set items k new) m None) (eqb-true n k e) ∙ get_or-set_same items k new None there)
  | inr e ↦ rw e (get_or-set_other items k n new None (eqb-false n k e))
]

pub pipes_with : (pipes : List (Option (List ℕ))) (k : ℕ) (pipe : Option (List ℕ)) (n : ℕ) → k < length pipes →
    pipe_at (slice_set pipes k pipe) n ≡ (if n == k then pipe else pipe_at pipes n)
pipes_with pipes k pipe n there = number_with pipes k pipe n there

described_if : (b : Bool) (opened other : Option Opened) → described (if b then opened else other) ≡ (if b then described opened else described other)
described_if true opened other = refl
described_if false opened other = refl

descs_with : (descs : List (Option Opened)) (k : ℕ) (opened : Option Opened) (n : ℕ) → k < length descs →
    description_at (slice_set descs k opened) n ≡ (if n == k then described opened else description_at descs n)
descs_with descs k opened n there = ap described (number_with descs k opened n there) ∙ described_if (n == k) opened (slice_index_or descs n None)

part_of_state : (held : ℕ → List Sending) (parts : Parts) (change : Change) → IsNamed parts change → (o : Object) →
    EqualAt (state_of held (parts_after parts change)) (changed change (state_of held parts)) o
part_of_state held parts (Slot pid slot) named (TheProc n) = procs_with parts.procs pid.0 slot n named.low named.high
part_of_state held parts (Slot pid slot) named (Desc n) = refl
part_of_state held parts (Slot pid slot) named (ThePipe n) = refl
part_of_state held parts (Slot pid slot) named (Held n) = refl
part_of_state held parts (Part pid part) named (TheProc n) =
    procs_with parts.procs pid.0 _ n named.0.low named.0.high
    ∙ ap (λ (x : Option Process). if n == pid.0 then x else process_in (slot_at parts.procs n)) (revised_in (slot_at parts.procs pid.0) part)
part_of_state held parts (Part pid part) named (Desc n) = refl
part_of_state held parts (Part pid part) named (ThePipe n) = refl
part_of_state held parts (Part pid part) named (Held n) = refl
part_of_state held parts (Description number opened) named (TheProc n) = refl
part_of_state held parts (Description number opened) named (Desc n) = descs_with parts.descs number.0 opened n named
part_of_state held parts (Description number opened) named (ThePipe n) = refl
part_of_state held parts (Description number opened) named (Held n) = refl
part_of_state held parts (Pipe number part) named (TheProc n) = refl
part_of_state held parts (Pipe number part) named (Desc n) = refl
part_of_state held parts (Pipe number part) named (ThePipe n) = pipes_with parts.pipes number.0 (piped_in (pipe_at parts.pipes number.0) part) n named
part_of_state held parts (Pipe number part) named (Held n) = refl

width_of_state : (held : ℕ → List Sending) (parts : Parts) (change : Change) → length (parts_after parts change).procs ≡ (changed change (state_of held parts)).width
width_of_state held parts (Slot pid slot) = length-with_slot parts.procs pid.0 slot
width_of_state held parts (Part pid part) = length-with_slot parts.procs pid.0 _
width_of_state held parts (Description number opened) = refl
width_of_state held parts (Pipe number part) = refl

pub changes_state : (held : ℕ → List Sending) (parts : Parts) (change : Change) → IsNamed parts change →
    state_of held (parts_after parts change) ≡ changed change (state_of held parts)
changes_state held parts change named =
    state_ext (state_of held (parts_after parts change)) (changed change (state_of held parts)) (width_of_state held parts change) (part_of_state held parts change named)

pub changes_state_in_turn : (held : ℕ → List Sending) (parts : Parts) (changes : List Change) → AreNamed parts changes →
    state_of held (applied parts changes) ≡ changed_by changes (state_of held parts)
changes_state_in_turn held parts [] named = refl
changes_state_in_turn held parts (change ∷ changes) named =
    changes_state_in_turn held (parts_after parts change) changes (AreNamed-sized parts (parts_after parts change) changes (still_sized parts change) named.1)
    ∙ ap (changed_by changes) (changes_state held parts change named.0)

pub other_object : (change : Change) (S : State) (o : Object) → same_object o (object_of change) ≡ false → EqualAt (changed change S) S o
other_object (Slot pid slot) S (TheProc n) apart = rw apart refl
other_object (Slot pid slot) S (Desc n) apart = refl
other_object (Slot pid slot) S (ThePipe n) apart = refl
other_object (Slot pid slot) S (Held n) apart = refl
other_object (Part pid part) S (TheProc n) apart = rw apart refl
other_object (Part pid part) S (Desc n) apart = refl
other_object (Part pid part) S (ThePipe n) apart = refl
other_object (Part pid part) S (Held n) apart = refl
other_object (Description number opened) S (TheProc n) apart = refl
other_object (Description number opened) S (Desc n) apart = rw apart refl
other_object (Description number opened) S (ThePipe n) apart = refl
other_object (Description number opened) S (Held n) apart = refl
other_object (Pipe number part) S (TheProc n) apart = refl
other_object (Pipe number part) S (Desc n) apart = refl
other_object (Pipe number part) S (ThePipe n) apart = rw apart refl
other_object (Pipe number part) S (Held n) apart = refl

pub names_its_object : (held : ℕ → List Sending) (parts : Parts) (change : Change) → IsNamed parts change → (o : Object) → same_object o (object_of change) ≡ false →
    EqualAt (state_of held (parts_after parts change)) (state_of held parts) o
names_its_object held parts change named o apart =
    rw (changes_state held parts change named) (other_object change (state_of held parts) o apart)
