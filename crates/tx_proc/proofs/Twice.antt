-- Two exchanges of one part are nothing, one leaves all else, and those of two parts commute.
use Rattle.std.proofs.Common.{◌≡◌, ℕ, ℤ, zero, suc, ◌+◌, ◌-◌, ◌≤◌, Bool, true, false, List, [], ◌∷◌, ◌++◌, Option, Some, None, get_or, slice_get, slice_set, nat_le, if◌then◌else◌, nat_lt, length, take, ◌<◌, arith, ap, refl, sym, ◌∙◌, length-append}
use Rattle.std.proofs.lemmas.Bool.{eqb-false, leb-true, le-ltb, lt-ltb, ltb-true, ltb-false}
use Rattle.std.proofs.Math.Seq.{take-length}
use Rattle.std.proofs.lemmas.List.Edits.{length-remove, length-insert}
use Rattle.std.specs.List.{remove, insert}
use Rattle.std.proofs.lemmas.Option.{slice_get-get_or}
use Rattle.std.proofs.lemmas.List.{take_more, length-take-le, set-set, set_comm, set-get_or, get_or-set_same, get_or-set_other, take_at}
use Rattle.tx_base.specs.declared.signals.Action.{Action as Act}
use Rattle.tx_base.specs.declared.limits.TheConstants.{QUEUED, FRAMES}
use Rattle.tx_desc.specs.Places.{number_in}
use Rattle.tx_model.specs.Memory.{PageView}
use Rattle.tx_model.specs.State.{Queued as Entry, Frame as Saved}
use Rattle.tx_proc.proofs.Names.{desc_same, number_back}
use Rattle.tx_proc.specs.Laws.{IsSized}
use Rattle.tx_proc.specs.Parts.{is_same_part, edited_once, part_of, desc_in, queue_swapped, queue_given, frames_swapped, frame_given, HasPlace}
use Rattle.tx_proc.specs.declared.proc.Part.{Part}
use Rattle.tx_proc.specs.declared.proc.Part.TheVariants.{Answer, Register, Page, Descriptor, Action, Queued, Frame}
use Rattle.tx_proc.specs.declared.proc.Proc.{Proc}
use Rattle.tx_signal.specs.Entries.{entry_swapped}
use Rattle.tx_signal.specs.Laws.{EntryComesBack, QueueComesBack}

-- an exchange makes no queue too long
entry_swapped_fits : (place : ℕ) (entry : Option Entry) (queue : List Entry) → length queue ≤ QUEUED → length (entry_swapped place entry queue) ≤ QUEUED
entry_swapped_fits place None queue fits = by (nat_lt place (length queue)) refl
  where
    by : (b : Bool) → nat_lt place (length queue) ≡ b → length (if b then remove queue place else queue) ≤ QUEUED
    by true e = let left = length-remove queue place (ltb-true place (length queue) e) in omega (arith, left, fits)
    by false e = fits
entry_swapped_fits place (Some entry) queue fits = by (nat_le place (length queue)) refl (nat_lt (length queue) QUEUED) refl
  where
    by : (b : Bool) → nat_le place (length queue) ≡ b → (c : Bool) → nat_lt (length queue) QUEUED ≡ c →
        length (if (if b then c else false) then insert queue place entry else queue) ≤ QUEUED
    by true e true f =
        let more = length-insert queue place entry (leb-true place (length queue) e) in let room = ltb-true (length queue) QUEUED f in
        omega (arith, more, room)
    by true e false f = fits
    by false e c f = fits

-- the newest frame is taken out and put in again
frame_back : (frames : List Saved) (frame : Saved) → length frames - 1 < length frames → take (length frames - 1) frames ++ get_or frames (length frames - 1) frame ∷ [] ≡ frames
frame_back frames frame there =
    let whole : length frames - 1 + 1 ≡ length frames = omega arith in
    sym (take_more frames (length frames - 1) frame there) ∙ ap (λ (n : ℕ). take n frames) whole ∙ take-length frames

newest_last : (frames : List Saved) (frame : Saved) → slice_get (frames ++ frame ∷ []) (length frames) ≡ Some frame
newest_last [] frame = refl
newest_last (first ∷ frames) frame = newest_last frames frame

frames_twice : (frame : Option Saved) (frames : List Saved) →
    (frames_swapped (frame_given frame frames) (frames_swapped frame frames) ≡ frames)
    × (frame_given (frame_given frame frames) (frames_swapped frame frames) ≡ frame)
frames_twice None [] = (refl, refl)
frames_twice None (first ∷ rest) = by (nat_lt FRAMES (length frames)) refl
  where
    frames : List Saved
    frames = first ∷ rest

    by : (b : Bool) → nat_lt FRAMES (length frames) ≡ b →
        (frames_swapped (frame_given None frames) (frames_swapped None frames) ≡ frames)
        × (frame_given (frame_given None frames) (frames_swapped None frames) ≡ None)
    by true e = rw e (rw e (refl, refl))
    by false e =
        let fits = ltb-false FRAMES (length frames) e in
        let there : length frames - 1 < length frames = omega arith in
        let long = length-take-le (length frames - 1) frames (omega arith) in
        let still = lt-ltb (length (take (length frames - 1) frames)) FRAMES (omega (arith, long, fits)) in
        rw (e, slice_get-get_or frames (length frames - 1) first there) (rw still (frame_back frames first there, refl))
frames_twice (Some frame) frames = by (nat_lt (length frames) FRAMES) refl
  where
    by : (b : Bool) → nat_lt (length frames) FRAMES ≡ b →
        (frames_swapped (frame_given (Some frame) frames) (frames_swapped (Some frame) frames) ≡ frames)
        × (frame_given (frame_given (Some frame) frames) (frames_swapped (Some frame) frames) ≡ Some frame)
    by true e =
        let below = ltb-true (length frames) FRAMES e in
        let long = length-append frames (frame ∷ []) in
        let still = le-ltb FRAMES (length (frames ++ frame ∷ [])) (omega (arith, long)) in
        let last : length (frames ++ frame ∷ []) - 1 ≡ length frames = omega (arith, long) in
        rw e (rw still (rw last (take_at frames (frame ∷ []) (length frames) refl, newest_last frames frame)))
    by false e = rw e (rw e (refl, refl))

-- a replaced place of a list read again
read_back : {A : Type 0} (items : List A) (place : ℕ) (item : A) → get_or (slice_set items place item) place (get_or items place item) ≡ item
read_back [] place item = refl
read_back (first ∷ items) zero item = refl
read_back (first ∷ items) (suc place) item = read_back items place item

module _ (queue_back : QueueComesBack) (entry_back : EntryComesBack) where
  -- the queue and the entry come back
  queue_twice : (place : ℕ) (entry : Option Entry) (queue : List Entry) →
      (queue_swapped place (queue_given place entry queue) (queue_swapped place entry queue) ≡ queue)
      × (queue_given place (queue_given place entry queue) (queue_swapped place entry queue) ≡ entry)
  queue_twice place entry queue = by (nat_lt QUEUED (length queue)) refl
    where
      by : (b : Bool) → nat_lt QUEUED (length queue) ≡ b →
          (queue_swapped place (queue_given place entry queue) (queue_swapped place entry queue) ≡ queue)
          × (queue_given place (queue_given place entry queue) (queue_swapped place entry queue) ≡ entry)
      by true e = rw e (rw e (refl, refl))
      by false e =
          let fits = ltb-false QUEUED (length queue) e in
          let still = le-ltb QUEUED (length (entry_swapped place entry queue)) (entry_swapped_fits place entry queue fits) in
          rw e (rw still (queue_back place entry queue fits, entry_back place entry queue fits))

  pub edited_twice : (proc : Proc) (part : Part) → edited_once (edited_once proc part) (part_of proc part) ≡ proc
  edited_twice proc (Register slot) =
      ap (λ (slots : List ℤ). record proc { regs = record proc.regs { slots = slots } })
      (set-set proc.regs.slots slot.number slot.value (get_or proc.regs.slots slot.number slot.value) ∙ set-get_or proc.regs.slots slot.number slot.value)
  edited_twice proc (Page number page) =
      ap (λ (space : List (Option PageView)). record proc { space = space }) (set-set proc.space number page (get_or proc.space number None) ∙ set-get_or proc.space number None)
  edited_twice proc (Descriptor number name) =
      ap (λ (descriptors : List (Option ℕ)). record proc { descriptors = descriptors })
      (set-set proc.descriptors number (number_in name) _
      ∙ ap (slice_set proc.descriptors number) (number_back (get_or proc.descriptors number None)) ∙ set-get_or proc.descriptors number None)
  edited_twice proc (Action signo action) =
      ap (λ (actions : List Act). record proc { actions = actions })
      (set-set proc.actions signo.0 action (get_or proc.actions signo.0 action) ∙ set-get_or proc.actions signo.0 action)
  edited_twice proc (Queued place entry) =
      ap (λ (queue : List Entry). record proc { pending = record proc.pending { queued = queue } }) (queue_twice place entry proc.pending.queued).0
  edited_twice proc (Frame frame) = ap (λ (frames : List Saved). record proc { frames = frames }) (frames_twice frame proc.frames).0
  edited_twice proc part = refl

  pub part_twice : (proc : Proc) (part : Part) → IsSized proc → HasPlace part → part_of (edited_once proc part) (part_of proc part) ≡ part
  part_twice proc (Register slot) sized below = ap (λ (v : ℤ). Register (record slot { value = v })) (read_back proc.regs.slots slot.number slot.value)
  part_twice proc (Page number page) sized below =
      let pages = sized.pages in ap (Page number) (get_or-set_same proc.space number page None (omega arith))
  part_twice proc (Descriptor number name) sized below =
      let descriptors = sized.descriptors in
      ap (λ (x : Option ℕ). Descriptor number (desc_in x)) (get_or-set_same proc.descriptors number (number_in name) None (omega arith)) ∙ ap (Descriptor number) (desc_same name)
  part_twice proc (Action signo action) sized below = ap (Action signo) (read_back proc.actions signo.0 action)
  part_twice proc (Queued place entry) sized below = ap (Queued place) (queue_twice place entry proc.pending.queued).1
  part_twice proc (Frame frame) sized below = ap Frame (frames_twice frame proc.frames).1
  part_twice proc part sized below = refl

pub nothing_else : (proc : Proc) (part other : Part) → is_same_part part other ≡ false → part_of (edited_once proc part) other ≡ part_of proc other
nothing_else proc (Page number page) (Page k new) apart =
    ap (Page k) (get_or-set_other proc.space number k page None (λ same. eqb-false number k apart (sym same)))
nothing_else proc (Descriptor number name) (Descriptor k new) apart =
    ap (λ (x : Option ℕ). Descriptor k (desc_in x)) (get_or-set_other proc.descriptors number k (number_in name) None (λ same. eqb-false number k apart (sym same)))
nothing_else proc (Action signo action) (Action k new) apart =
    ap (Action k) (get_or-set_other proc.actions signo.0 k.0 action new (λ same. eqb-false signo.0 k.0 apart (sym same)))
nothing_else proc (Register slot) (Register new) apart =
    ap (λ (v : ℤ). Register (record new { value = v })) (get_or-set_other proc.regs.slots slot.number new.number slot.value new.value (λ same. eqb-false slot.number new.number apart (sym same)))
-- two others are the same, or have nothing of one another
nothing_else proc part (Answer new) apart = cc
nothing_else proc part other apart = cc

pub commute : (proc : Proc) (part other : Part) → is_same_part part other ≡ false → edited_once (edited_once proc part) other ≡ edited_once (edited_once proc other) part
commute proc (Page number page) (Page k new) apart =
    ap (λ (space : List (Option PageView)). record proc { space = space }) (set_comm proc.space number k page new (eqb-false number k apart))
commute proc (Descriptor number name) (Descriptor k new) apart =
    ap (λ (descriptors : List (Option ℕ)). record proc { descriptors = descriptors }) (set_comm proc.descriptors number k (number_in name) (number_in new) (eqb-false number k apart))
commute proc (Action signo action) (Action k new) apart =
    ap (λ (actions : List Act). record proc { actions = actions }) (set_comm proc.actions signo.0 k.0 action new (eqb-false signo.0 k.0 apart))
commute proc (Register slot) (Register new) apart =
    ap (λ (slots : List ℤ). record proc { regs = record proc.regs { slots = slots } }) (set_comm proc.regs.slots slot.number new.number slot.value new.value (eqb-false slot.number new.number apart))
-- two others are the same, or have nothing of one another
commute proc part (Answer new) apart = cc
commute proc part other apart = cc
