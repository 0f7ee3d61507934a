-- Two exchanges of one part are nothing, one leaves all else, and those of two parts commute.
use Rattle.std.proofs.Common.{◌≡◌, ◌≢◌, ℕ, ◌-◌, ◌≤◌, Bool, true, false, not, List, Option, Some, None, option_map, if◌then◌else◌, ◌==◌, slice_index_or, slice_set, arith, ap, refl, sym, ◌∙◌, eqb-true}
use Rattle.std.proofs.lemmas.Bool.{eqb-false}
use Rattle.std.proofs.lemmas.List.{set-set, set_comm, set-get_or, get_or-set_same, get_or-set_other}
use Rattle.tx_base.specs.Slots.{slot_at, with_slot}
use Rattle.tx_base.specs.SlotFacts.{slot_twice, slot_same, slot_now, slot_other}
use Rattle.tx_desc.specs.declared.opened.Opened.{Opened}
use Rattle.tx_change.proofs.Piped.{piped_twice, pipe_part_twice}
use Rattle.tx_change.specs.Exchange.{parts_after, change_after, pipe_at, sizes_of, IsPid, IsNamed}
use Rattle.tx_change.specs.Laws.{HasPlaces, HasPlacesFor, are_apart}
use Rattle.tx_change.specs.PartLaws.{PartLaws}
use Rattle.tx_change.specs.Pipes.{piped_in, part_in as pipe_part_in}
use Rattle.tx_change.specs.declared.change.Change.{Change}
use Rattle.tx_change.specs.declared.change.Change.TheVariants.{Slot, Part as PartOf, Description, Pipe}
use Rattle.tx_change.specs.declared.parts.Parts.{Parts}
use Rattle.tx_change.specs.declared.pipes.PipePart.{PipePart}
use Rattle.tx_proc.specs.Parts.{is_same_part, edited_once, part_in, HasPlace}
use Rattle.tx_proc.specs.declared.proc.Part.{Part}
use Rattle.tx_proc.specs.declared.proc.Proc.{Proc}

-- a process number's slot after an exchange of a part
abbrev edit : Part → Option Proc → Option Proc
edit part slot = option_map (λ proc. edited_once proc part) slot

edit_twice : (laws : PartLaws) (slot : Option Proc) (part : Part) → edit (part_in slot part) (edit part slot) ≡ slot
edit_twice laws None part = refl
edit_twice laws (Some proc) part = ap Some (laws.back proc part)

held_twice : (laws : PartLaws) (slot : Option Proc) (part : Part) → HasPlaces slot → HasPlace part → part_in (edit part slot) (part_in slot part) ≡ part
held_twice laws None part sized place = refl
held_twice laws (Some proc) part sized place = (laws.twice proc part sized place).1

held_other : (laws : PartLaws) (slot : Option Proc) (part other : Part) → is_same_part part other ≡ false → part_in (edit part slot) other ≡ part_in slot other
held_other laws None part other apart = refl
held_other laws (Some proc) part other apart = laws.others proc part other apart

edit_commute : (laws : PartLaws) (slot : Option Proc) (part other : Part) → is_same_part part other ≡ false → edit other (edit part slot) ≡ edit part (edit other slot)
edit_commute laws None part other apart = refl
edit_commute laws (Some proc) part other apart = ap Some (laws.either proc part other apart)

with_procs : (parts : Parts) (one other : List (Option Proc)) → one ≡ other → record parts { procs = one } ≡ record parts { procs = other }
with_procs parts one other same = ap (λ (procs : List (Option Proc)). record parts { procs = procs }) same

with_descs : (parts : Parts) (one other : List (Option Opened)) → one ≡ other → record parts { descs = one } ≡ record parts { descs = other }
with_descs parts one other same = ap (λ (descs : List (Option Opened)). record parts { descs = descs }) same

with_pipes : (parts : Parts) (one other : List (Option (List ℕ))) → one ≡ other → record parts { pipes = one } ≡ record parts { pipes = other }
with_pipes parts one other same = ap (λ (pipes : List (Option (List ℕ))). record parts { pipes = pipes }) same

pub back : (laws : PartLaws) (parts : Parts) (change : Change) → IsNamed parts change → parts_after (parts_after parts change) (change_after parts change) ≡ parts
back laws parts (Slot pid slot) named =
    with_procs parts _ parts.procs (slot_twice parts.procs pid.0 slot (slot_at parts.procs pid.0) ∙ slot_same parts.procs pid.0 named.low)
back laws parts (PartOf pid part) named =
    let slot : Option Proc = slot_at parts.procs pid.0 in
    let next : List (Option Proc) = with_slot parts.procs pid.0 (edit part slot) in
    with_procs parts _ parts.procs
    (ap (λ (s : Option Proc). with_slot next pid.0 (edit (part_in slot part) s)) (slot_now parts.procs pid.0 (edit part slot) named.0.low named.0.high)
    ∙ ap (with_slot next pid.0) (edit_twice laws slot part) ∙ slot_twice parts.procs pid.0 (edit part slot) slot ∙ slot_same parts.procs pid.0 named.0.low)
back laws parts (Description number opened) named =
    with_descs parts _ parts.descs (set-set parts.descs number.0 opened (slice_index_or parts.descs number.0 None) ∙ set-get_or parts.descs number.0 None)
back laws parts (Pipe number part) named =
    let pipe : Option (List ℕ) = pipe_at parts.pipes number.0 in
    let next : List (Option (List ℕ)) = slice_set parts.pipes number.0 (piped_in pipe part) in
    with_pipes parts _ parts.pipes
    (ap (λ (x : Option (List ℕ)). slice_set next number.0 (piped_in x (pipe_part_in pipe part))) (get_or-set_same parts.pipes number.0 (piped_in pipe part) None named)
    ∙ ap (slice_set next number.0) (piped_twice laws pipe part) ∙ set-set parts.pipes number.0 (piped_in pipe part) pipe ∙ set-get_or parts.pipes number.0 None)

pub twice : (laws : PartLaws) (parts : Parts) (change : Change) → IsNamed parts change → HasPlacesFor parts change → change_after (parts_after parts change) (change_after parts change) ≡ change
twice laws parts (Slot pid slot) named places = ap (Slot pid) (slot_now parts.procs pid.0 slot named.low named.high)
twice laws parts (PartOf pid part) named places =
    let slot : Option Proc = slot_at parts.procs pid.0 in
    ap (λ (s : Option Proc). PartOf pid (part_in s (part_in slot part))) (slot_now parts.procs pid.0 (edit part slot) named.0.low named.0.high)
    ∙ ap (PartOf pid) (held_twice laws slot part places named.1)
twice laws parts (Description number opened) named places = ap (Description number) (get_or-set_same parts.descs number.0 opened None named)
twice laws parts (Pipe number part) named places =
    let pipe : Option (List ℕ) = pipe_at parts.pipes number.0 in
    ap (λ (x : Option (List ℕ)). Pipe number (pipe_part_in x (pipe_part_in pipe part))) (get_or-set_same parts.pipes number.0 (piped_in pipe part) None named)
    ∙ ap (Pipe number) (pipe_part_twice laws pipe part)

differ : (n m : ℕ) → not (n == m) ≡ true → m ≢ n
differ n m apart same = by (n == m) (λ e. eqb-false n m e (sym same)) apart
  where
    by : (b : Bool) → (b ≡ false → ⊥) → not b ≡ true → ⊥
    by true e h = cc
    by false e h = e refl

not_true : (b : Bool) → not b ≡ true → b ≡ false
not_true true h = sym h
not_true false h = refl

-- what another slot has, or another pipe
other_slot : (parts : Parts) (n m : ℕ) (slot : Option Proc) → 1 ≤ n → not (n == m) ≡ true → slot_at (with_slot parts.procs n slot) m ≡ slot_at parts.procs m
other_slot parts n m slot low apart = slot_other parts.procs n m slot low (differ n m apart)

other_pipe : (parts : Parts) (n m : ℕ) (pipe : Option (List ℕ)) → not (n == m) ≡ true → pipe_at (slice_set parts.pipes n pipe) m ≡ pipe_at parts.pipes m
other_pipe parts n m pipe apart = get_or-set_other parts.pipes n m pipe None (differ n m apart)

-- one process's parts, by whether the numbers are the same
parts_apart : (laws : PartLaws) (parts : Parts) (n m : ℕ) (part other : Part) → IsPid (sizes_of parts) n → (if n == m then not (is_same_part part other) else true) ≡ true →
    part_in (slot_at (with_slot parts.procs n (edit part (slot_at parts.procs n))) m) other ≡ part_in (slot_at parts.procs m) other
parts_apart laws parts n m part other there apart = by (n == m) refl apart
  where
    by : (b : Bool) → (n == m) ≡ b → (if b then not (is_same_part part other) else true) ≡ true →
        part_in (slot_at (with_slot parts.procs n (edit part (slot_at parts.procs n))) m) other ≡ part_in (slot_at parts.procs m) other
    by true e h =
        let same : n ≡ m = eqb-true n m e in
        rw (← same)
        (ap (λ (s : Option Proc). part_in s other) (slot_now parts.procs n (edit part (slot_at parts.procs n)) there.low there.high)
        ∙ held_other laws (slot_at parts.procs n) part other (not_true (is_same_part part other) h))
    by false e h = ap (λ (s : Option Proc). part_in s other) (other_slot parts n m (edit part (slot_at parts.procs n)) there.low (ap not e))

pub change_else : (laws : PartLaws) (parts : Parts) (change other : Change) → IsNamed parts change → are_apart change other ≡ true → change_after (parts_after parts change) other ≡ change_after parts other
change_else laws parts (Slot pid slot) (Slot p new) named apart = ap (Slot p) (other_slot parts pid.0 p.0 slot named.low apart)
change_else laws parts (Slot pid slot) (PartOf p new) named apart = ap (λ (s : Option Proc). PartOf p (part_in s new)) (other_slot parts pid.0 p.0 slot named.low apart)
change_else laws parts (Slot pid slot) (Description k new) named apart = refl
change_else laws parts (Slot pid slot) (Pipe k new) named apart = refl
change_else laws parts (PartOf pid part) (Slot p new) named apart = ap (Slot p) (other_slot parts pid.0 p.0 _ named.0.low apart)
change_else laws parts (PartOf pid part) (PartOf p new) named apart = ap (PartOf p) (parts_apart laws parts pid.0 p.0 part new named.0 apart)
change_else laws parts (PartOf pid part) (Description k new) named apart = refl
change_else laws parts (PartOf pid part) (Pipe k new) named apart = refl
change_else laws parts (Description number opened) (Description k new) named apart = ap (Description k) (get_or-set_other parts.descs number.0 k.0 opened None (differ number.0 k.0 apart))
change_else laws parts (Description number opened) other named apart = refl
change_else laws parts (Pipe number part) (Pipe k new) named apart = ap (λ (x : Option (List ℕ)). Pipe k (pipe_part_in x new)) (other_pipe parts number.0 k.0 _ apart)
change_else laws parts (Pipe number part) other named apart = refl

slots_commute : (procs : List (Option Proc)) (n m : ℕ) (slot other : Option Proc) → 1 ≤ n → 1 ≤ m → m ≢ n →
    with_slot (with_slot procs n slot) m other ≡ with_slot (with_slot procs m other) n slot
slots_commute procs n m slot other first second apart =
    let elsewhere : n - 1 ≢ m - 1 = omega arith in
    set_comm procs (n - 1) (m - 1) slot other elsewhere

-- the slot of a number changed in this way
abbrev slot_changed : ℕ → (Option Proc → Option Proc) → List (Option Proc) → List (Option Proc)
slot_changed n change procs = with_slot procs n (change (slot_at procs n))

apart_commute : (parts : Parts) (n m : ℕ) (change other : Option Proc → Option Proc) → 1 ≤ n → 1 ≤ m → not (n == m) ≡ true →
    slot_changed m other (slot_changed n change parts.procs) ≡ slot_changed n change (slot_changed m other parts.procs)
apart_commute parts n m change other first second apart =
    let procs : List (Option Proc) = parts.procs in
    let one : List (Option Proc) = slot_changed n change procs in
    let two : List (Option Proc) = slot_changed m other procs in
    let differs : m ≢ n = differ n m apart in
    ap (λ (s : Option Proc). with_slot one m (other s)) (slot_other procs n m (change (slot_at procs n)) first differs)
    ∙ slots_commute procs n m (change (slot_at procs n)) (other (slot_at procs m)) first second differs
    ∙ sym (ap (λ (s : Option Proc). with_slot two n (change s)) (slot_other procs m n (other (slot_at procs m)) second (λ same. differs (sym same))))

-- one slot changed twice
slot_again : (parts : Parts) (n : ℕ) (change other : Option Proc → Option Proc) → IsPid (sizes_of parts) n →
    slot_changed n other (slot_changed n change parts.procs) ≡ with_slot parts.procs n (other (change (slot_at parts.procs n)))
slot_again parts n change other there =
    let procs : List (Option Proc) = parts.procs in
    ap (λ (s : Option Proc). with_slot (slot_changed n change procs) n (other s)) (slot_now procs n (change (slot_at procs n)) there.low there.high)
    ∙ slot_twice procs n (change (slot_at procs n)) (other (change (slot_at procs n)))

parts_commute : (laws : PartLaws) (parts : Parts) (n m : ℕ) (part other : Part) → IsPid (sizes_of parts) n → IsPid (sizes_of parts) m →
    (if n == m then not (is_same_part part other) else true) ≡ true →
    slot_changed m (edit other) (slot_changed n (edit part) parts.procs) ≡ slot_changed n (edit part) (slot_changed m (edit other) parts.procs)
parts_commute laws parts n m part other here there apart = by (n == m) refl apart
  where
    by : (b : Bool) → (n == m) ≡ b → (if b then not (is_same_part part other) else true) ≡ true →
        slot_changed m (edit other) (slot_changed n (edit part) parts.procs) ≡ slot_changed n (edit part) (slot_changed m (edit other) parts.procs)
    by true e h =
        rw (← eqb-true n m e)
        (slot_again parts n (edit part) (edit other) here
        ∙ ap (with_slot parts.procs n) (edit_commute laws (slot_at parts.procs n) part other (not_true (is_same_part part other) h))
        ∙ sym (slot_again parts n (edit other) (edit part) here))
    by false e h = apart_commute parts n m (edit part) (edit other) here.low there.low (ap not e)

-- what a pipe number has changed in this way
abbrev pipe_changed : ℕ → PipePart → List (Option (List ℕ)) → List (Option (List ℕ))
pipe_changed n part pipes = slice_set pipes n (piped_in (pipe_at pipes n) part)

pipes_commute : (parts : Parts) (n m : ℕ) (part other : PipePart) → not (n == m) ≡ true →
    pipe_changed m other (pipe_changed n part parts.pipes) ≡ pipe_changed n part (pipe_changed m other parts.pipes)
pipes_commute parts n m part other apart =
    let pipes : List (Option (List ℕ)) = parts.pipes in
    let one : List (Option (List ℕ)) = pipe_changed n part pipes in
    let two : List (Option (List ℕ)) = pipe_changed m other pipes in
    let differs : m ≢ n = differ n m apart in
    ap (λ (x : Option (List ℕ)). slice_set one m (piped_in x other)) (get_or-set_other pipes n m (piped_in (pipe_at pipes n) part) None differs)
    ∙ set_comm pipes n m (piped_in (pipe_at pipes n) part) (piped_in (pipe_at pipes m) other) (λ same. differs (sym same))
    ∙ sym (ap (λ (x : Option (List ℕ)). slice_set two n (piped_in x part)) (get_or-set_other pipes m n (piped_in (pipe_at pipes m) other) None (λ same. differs (sym same))))

pub changes_commute : (laws : PartLaws) (parts : Parts) (change other : Change) → IsNamed parts change → IsNamed parts other → are_apart change other ≡ true →
    parts_after (parts_after parts change) other ≡ parts_after (parts_after parts other) change
changes_commute laws parts (Slot pid slot) (Slot p new) named there apart =
    with_procs parts _ _ (apart_commute parts pid.0 p.0 (λ s. slot) (λ s. new) named.low there.low apart)
changes_commute laws parts (Slot pid slot) (PartOf p new) named there apart =
    with_procs parts _ _ (apart_commute parts pid.0 p.0 (λ s. slot) (edit new) named.low there.0.low apart)
changes_commute laws parts (Slot pid slot) (Description k new) named there apart = refl
changes_commute laws parts (Slot pid slot) (Pipe k new) named there apart = refl
changes_commute laws parts (PartOf pid part) (Slot p new) named there apart =
    with_procs parts _ _ (apart_commute parts pid.0 p.0 (edit part) (λ s. new) named.0.low there.low apart)
changes_commute laws parts (PartOf pid part) (PartOf p new) named there apart =
    with_procs parts _ _ (parts_commute laws parts pid.0 p.0 part new named.0 there.0 apart)
changes_commute laws parts (PartOf pid part) (Description k new) named there apart = refl
changes_commute laws parts (PartOf pid part) (Pipe k new) named there apart = refl
changes_commute laws parts (Description number opened) (Description k new) named there apart =
    with_descs parts _ _ (set_comm parts.descs number.0 k.0 opened new (λ same. differ number.0 k.0 apart (sym same)))
changes_commute laws parts (Description number opened) other named there apart = refl
changes_commute laws parts (Pipe number part) (Pipe k new) named there apart = with_pipes parts _ _ (pipes_commute parts number.0 k.0 part new apart)
changes_commute laws parts (Pipe number part) other named there apart = refl
