-- Deliveries and sends leave a state well formed.
use Rattle.std.proofs.Common.{◌≡◌, ◌≢◌, ℕ, suc, ◌+◌, ◌<◌, ◌≤◌, Bool, true, false, not, ◌^◌, List, [], ◌∷◌, ◌++◌, length, ℤ, pos, Option, Some, None, if◌then◌else◌, nat_lt, ◌==◌, bit_and, refl, sym, ap, ◌∙◌, subst, arith, length-append}
use Rattle.std.proofs.lemmas.Bool.{ltb-true, not-false}
use Rattle.std.proofs.lemmas.Nat.Bits.{bit_at-zero}
use Rattle.tx_base.specs.declared.signals.SigSet.{SigSet}
use Rattle.tx_base.specs.declared.steps.Reply.TheVariants.{Done}
use Rattle.tx_base.specs.declared.limits.TheConstants.{FRAMES}
use Rattle.tx_model.specs.Numbers.{error_answer}
use Rattle.tx_model.specs.SignalSets.{is_realtime, is_in_set, without_one}
use Rattle.tx_model.specs.State.{Process, State, Queued, Frame, with_writes}
use Rattle.tx_model.specs.Effects.{Inside}
use Rattle.tx_model.specs.Words.{own_effect, delivery_effect}
use Rattle.tx_model.specs.Forms.{effect_of, caller}
use Rattle.tx_model.specs.Book.{sigqueue, closed_inside}
use Rattle.tx_model.specs.Deliveries.{first_value, without_first, is_blocked, delivered_value, without_delivered, at_catch_point, killed_status}
use Rattle.tx_laws.specs.WellFormed.{AllSaved, IsFirst}
use Rattle.tx_laws.proofs.KeepsFormParts.{IsArranged}
use Rattle.tx_laws.proofs.KeepsFormOwn.{KeepsSizes, sizes_trans, less_of_none}
use Rattle.tx_laws.proofs.KeepsFormNames.{KeepsForm, idle_form, noted_form, done_form, own_form}
use Rattle.tx_laws.proofs.KeepsFormEnding.{held_form, ending_form}
use Rattle.tx_model.specs.BookLaws.{sigqueue_lines, delivery_lines}

-- a queue without an entry is shorter
first_fewer : (signo : ℕ) (entries : List Queued) → length (without_first signo entries) ≤ length entries
unfolding without_first
first_fewer signo [] = omega arith
first_fewer signo (entry ∷ entries) = by (entry.signo == signo) (first_fewer signo entries)
  where
    by : (b : Bool) → length (without_first signo entries) ≤ length entries → length (if b then entries else entry ∷ without_first signo entries) ≤ suc (length entries)
    by true h = omega arith
    by false h = omega arith

relieved_sizes : (signo : ℕ) (me : Process) → KeepsSizes me (without_delivered signo me)
relieved_sizes signo me = record {
  pending = λ h. pending (is_realtime signo) h;
  queued = λ h. let fewer : length (without_delivered signo me).queued ≤ length me.queued = queue (is_realtime signo) in omega arith;
  sizes = λ h.
      let fewer : length (without_delivered signo me).queued ≤ length me.queued = queue (is_realtime signo) in
      let most : length me.queued ≤ 16 = h.queued in
      record {
        slots = h.slots;
        pages = h.pages;
        descriptors = h.descriptors;
        actions = h.actions;
        frames = h.frames;
        saved = h.saved;
        queued = omega arith;
      };
}
  where
    pending : (b : Bool) → me.pending ≡ 0 → (if b then me.pending else without_one me.pending signo) ≡ 0
    pending true h = h
    pending false h = less_of_none me.pending (bit_and me.pending (2 ^ signo)) h

    queue : (b : Bool) → length (if b then without_first signo me.queued else me.queued) ≤ length me.queued
    queue true = first_fewer signo me.queued
    queue false = omega arith

saved_last : (frames : List Frame) (frame : Frame) → length frame.registers.slots ≡ 8 → AllSaved frames → AllSaved (frames ++ frame ∷ [])
saved_last [] frame e h = (e, tt)
saved_last (x ∷ frames) frame e h = (h.0, saved_last frames frame e h.1)

caught_sizes : (signo : ℕ) (value : ℤ) (point : ℕ) (mask : SigSet) (me : Process) → length me.frames < 4 → KeepsSizes me (at_catch_point signo value point mask me)
caught_sizes signo value point mask me room = record {
  pending = λ h. h;
  queued = λ h. h;
  sizes = λ h.
      let more : length (me.frames ++ record { registers = me.registers; mask = me.mask } ∷ []) ≡ length me.frames + 1 =
      length-append me.frames (record { registers = me.registers; mask = me.mask } ∷ []) in
      record {
        slots = h.slots;
        pages = h.pages;
        descriptors = h.descriptors;
        actions = h.actions;
        frames = omega arith;
        saved = saved_last me.frames (record { registers = me.registers; mask = me.mask }) h.slots h.saved;
        queued = h.queued;
      };
}

none_queued : (signo : ℕ) (entries : List Queued) → length entries ≡ 0 → first_value signo entries ≡ None
unfolding first_value
none_queued signo [] h = refl
none_queued signo (entry ∷ entries) h = absurd (omega arith)

-- nothing is delivered to a process where nothing is pending
none_delivered : (signo : ℕ) (me : Process) → me.pending ≡ 0 → length me.queued ≡ 0 → delivered_value signo me ≡ None
none_delivered signo me pending queued = by (is_blocked signo me) (is_realtime signo)
  where
    empty : is_in_set me.pending signo ≡ false
    empty = ap (λ (set : ℕ). is_in_set set signo) pending ∙ ap (λ (bit : ℕ). bit == 1) (bit_at-zero signo)

    by : (b c : Bool) → (if b then None else (if c then first_value signo me.queued else (if is_in_set me.pending signo then Some (pos 0) else None))) ≡ None
    by true c = refl
    by false true = none_queued signo me.queued queued
    by false false = rw empty refl

module _ (S : State) (p : ℕ) (me : Process) (e : S.procs p ≡ Some me) (runs : me.status ≡ None) (w : IsArranged S) where
  -- a signal is delivered to no process 1
  pub other_than_first : (signo : ℕ) (value : ℤ) → delivered_value signo me ≡ Some value → p ≢ 1
  other_than_first signo value h z =
      let both : Some w.first.0 ≡ Some me = sym w.first.1 ∙ sym (ap S.procs z) ∙ e in
      let same : w.first.0 ≡ me = cc in
      let first : IsFirst me = subst IsFirst same w.first.2 in
      let no : None ≡ Some value = sym (none_delivered signo me first.pending first.queued) ∙ h in
      cc

  relieved_form : (signo : ℕ) (r : ℤ) → KeepsForm S (own_effect p (record { process = without_delivered signo me; reply = Done r }))
  relieved_form signo r =
      own_form S p me e w (record { process = without_delivered signo me; reply = Done r }) (record { parent = refl; descriptors = refl; status = refl }) (relieved_sizes signo me)

  pub delivery_form : (inside : Option Inside) (signo : ℕ) → KeepsForm S (delivery_effect inside p signo me S)
  delivery_form inside signo =
      delivery_lines (λ o. KeepsForm S (effect_of p me o)) (caller inside p me S) signo (λ why e. idle_form S why w)
      (λ value d e. relieved_form signo me.registers.ret) (λ value d z. ending_form S p (killed_status signo) me (without_delivered signo me) e runs w (other_than_first signo value d) refl refl inside)
      λ value point mask d e k room. caught_form signo value point mask room
    where
      caught_form : (signo : ℕ) (value : ℤ) (point : ℕ) (mask : SigSet) → not (nat_lt (length me.frames) FRAMES) ≡ false
          → KeepsForm S (own_effect p (record { process = at_catch_point signo value point mask (without_delivered signo me); reply = Done value }))
      caught_form signo value point mask room =
          own_form S p me e w (record { process = at_catch_point signo value point mask (without_delivered signo me); reply = Done value })
          (record { parent = refl; descriptors = refl; status = refl })
          (sizes_trans me (without_delivered signo me) (at_catch_point signo value point mask (without_delivered signo me)) (relieved_sizes signo me)
          (caught_sizes signo value point mask (without_delivered signo me) (ltb-true (length me.frames) 4 (not-false (nat_lt (length me.frames) FRAMES) room))))

  -- sends
  pub sigqueue_form : (inside : Option Inside) (t signo value : ℤ)
      → KeepsForm S (effect_of p me (sigqueue t signo value (caller inside p me S)))
  unfolding with_writes
  sigqueue_form inside t signo value =
      sigqueue_lines (λ outcome. KeepsForm S (effect_of p me outcome)) (caller inside p me S) (λ errno. done_form S p me e w (error_answer errno)) t signo value (done_form S p me e w closed_inside)
      (λ signo target known there outside. w)
      λ signo target i known there held some room. held_form _ i.starter _ (noted_form S p me e w (pos 0))
