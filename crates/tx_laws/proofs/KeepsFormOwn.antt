-- The calls that concern their own process alone keep the sizes of what it has.
use Rattle.std.proofs.Common.{◌≡◌, ℕ, zero, suc, ◌+◌, ◌-◌, ◌≤◌, Bool, true, false, List, [], ◌∷◌, length, take, ℤ, Option, Some, None, if◌then◌else◌, ◌==◌, slice_get, bit_and, ◌^◌, refl, sym, ap, ◌∙◌, subst, arith}
use Rattle.std.proofs.lemmas.List.{length-set}
use Rattle.tx_base.specs.declared.signals.Action.{Action}
use Rattle.tx_model.specs.Memory.{Memory, stored_memory, put_byte, put_bytes}
use Rattle.tx_model.specs.State.{Process, Frame, Queued}
use Rattle.tx_model.specs.Effects.{with_answer}
use Rattle.tx_model.specs.Signals.{with_action, maskable_action, without_signal, queued_others, newest_frame, with_frame}
use Rattle.tx_laws.specs.WellFormed.{AllSaved, HasSizes}
use Rattle.tx_laws.proofs.KeepsFormParts.{StaysPlaced}

-- the sizes are kept, and nothing comes to be pending where nothing was
pub record KeepsSizes (me new : Process) : Type 0 where
  pub pending : me.pending ≡ 0 → new.pending ≡ 0
  pub queued : length me.queued ≡ 0 → length new.queued ≡ 0
  pub sizes : HasSizes me → HasSizes new

pub stays_from : (n : ℕ) (me new : Process) → new.parent ≡ me.parent → new.status ≡ me.status → KeepsSizes me new → StaysPlaced n me new
stays_from n me new parent status k = record { parent = parent; status = status; pending = λ z. k.pending; queued = λ z. k.queued; sizes = k.sizes }

-- lists of the same sizes, and the same signals and frames
pub plain : (me new : Process) → new.pending ≡ me.pending → new.queued ≡ me.queued → new.frames ≡ me.frames → length new.registers.slots ≡ length me.registers.slots
    → length new.memory ≡ length me.memory → length new.descriptors ≡ length me.descriptors → length new.actions ≡ length me.actions → KeepsSizes me new
plain me new pending queued frames slots pages descriptors actions = record {
  pending = λ h. pending ∙ h;
  queued = λ h. ap (λ (xs : List Queued). length xs) queued ∙ h;
  sizes = λ h. record {
    slots = slots ∙ h.slots;
    pages = pages ∙ h.pages;
    descriptors = descriptors ∙ h.descriptors;
    actions = actions ∙ h.actions;
    frames = subst (λ (xs : List Frame). length xs ≤ 4) (sym frames) h.frames;
    saved = subst (λ (xs : List Frame). AllSaved xs) (sym frames) h.saved;
    queued = subst (λ (xs : List Queued). length xs ≤ 16) (sym queued) h.queued;
  };
}

pub sizes_trans : (me now new : Process) → KeepsSizes me now → KeepsSizes now new → KeepsSizes me new
sizes_trans me now new k l = record { pending = λ h. l.pending (k.pending h); queued = λ h. l.queued (k.queued h); sizes = λ h. l.sizes (k.sizes h) }

pub noted_sizes : (r : ℤ) (me new : Process) → KeepsSizes me new → KeepsSizes me (with_answer r new)
noted_sizes r me new k = sizes_trans me new (with_answer r new) k (plain new (with_answer r new) refl refl refl refl refl refl refl)

-- what is discarded is fewer
others_fewer : (signo : ℕ) (entries : List Queued) → length (queued_others signo entries) ≤ length entries
others_fewer signo [] = omega arith
others_fewer signo (entry ∷ entries) = by (entry.signo == signo) (others_fewer signo entries)
  where
    by : (b : Bool) → length (queued_others signo entries) ≤ length entries
        → length (if b then queued_others signo entries else entry ∷ queued_others signo entries) ≤ suc (length entries)
    by true h = omega arith
    by false h = omega arith

pub less_of_none : (set other : ℕ) → set ≡ 0 → set - other ≡ 0
less_of_none set other h = omega arith

pub discarded_sizes : (signo : ℕ) (me : Process) → KeepsSizes me (without_signal signo me)
discarded_sizes signo me =
    let fewer : length (queued_others signo me.queued) ≤ length me.queued = others_fewer signo me.queued in
    record {
      pending = λ h. less_of_none me.pending (bit_and me.pending (2 ^ signo)) h;
      queued = λ h. omega arith;
      sizes = λ h. let most : length me.queued ≤ 16 = h.queued in record {
        slots = h.slots;
        pages = h.pages;
        descriptors = h.descriptors;
        actions = h.actions;
        frames = h.frames;
        saved = h.saved;
        queued = omega arith;
      };
    }

pub action_sizes : (signo : ℕ) (action : Action) (me : Process) → KeepsSizes me (with_action signo action me)
action_sizes signo action me = plain me _ refl refl refl refl refl refl (length-set me.actions signo (maskable_action action))

-- what was saved has all slots
saved_at : (frames : List Frame) (i : ℕ) (frame : Frame) → slice_get frames i ≡ Some frame → AllSaved frames → length frame.registers.slots ≡ 8
saved_at [] i frame e h = cc
saved_at (x ∷ frames) zero frame e h = let same : x ≡ frame = cc in subst (λ (y : Frame). length y.registers.slots ≡ 8) same h.0
saved_at (x ∷ frames) (suc i) frame e h = saved_at frames i frame e h.1

saved_take : (i : ℕ) (frames : List Frame) → AllSaved frames → AllSaved (take i frames)
saved_take zero frames h = tt
saved_take (suc i) [] h = tt
saved_take (suc i) (x ∷ frames) h = (h.0, saved_take i frames h.1)

take_fewer : (i : ℕ) (frames : List Frame) → length (take i frames) ≤ length frames
take_fewer zero frames = omega arith
take_fewer (suc i) [] = omega arith
take_fewer (suc i) (x ∷ frames) = let less : length (take i frames) ≤ length frames = take_fewer i frames in omega arith

pub restored_sizes : (frame : Frame) (me : Process) → newest_frame me.frames ≡ Some frame → KeepsSizes me (with_frame frame me)
restored_sizes frame me e = record {
  pending = λ h. h;
  queued = λ h. h;
  sizes = λ h.
      let most : length me.frames ≤ 4 = h.frames in
      let fewer : length (take (length me.frames - 1) me.frames) ≤ length me.frames = take_fewer (length me.frames - 1) me.frames in
      record {
        slots = saved_at me.frames (length me.frames - 1) frame e h.saved;
        pages = h.pages;
        descriptors = h.descriptors;
        actions = h.actions;
        frames = omega arith;
        saved = saved_take (length me.frames - 1) me.frames h.saved;
        queued = h.queued;
      };
}

-- memory keeps its pages
put_paged : (memory : Memory) (address : ℕ) (bytes : List ℕ) → length (put_bytes memory address bytes) ≡ length memory
put_paged memory address [] = refl
put_paged memory address (byte ∷ bytes) = put_paged (put_byte memory address byte) (address + 1) bytes ∙ length-set memory _ _

pub stored_paged : (memory : Memory) (address : Option ℕ) (bytes : List ℕ) → length (stored_memory memory address bytes) ≡ length memory
stored_paged memory None bytes = refl
stored_paged memory (Some address) bytes = put_paged memory address bytes
