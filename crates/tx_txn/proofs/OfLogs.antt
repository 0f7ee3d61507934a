-- The machine's logs, which are exchanges, lead its state back.
use Rattle.std.proofs.Common.{◌≡◌, ℕ, ◌≤◌, Bool, true, false, List, [], ◌∷◌, ◌++◌, Option, Some, None, if◌then◌else◌, ◌==◌, length, refl, sym, ap, ◌∙◌, subst, inl, inr, ◌⊎◌, eqb-true}
use Rattle.tx_base.specs.Slots.{slot_at}
use Rattle.tx_change.specs.Exchange.{Sizes, object_of, parts_after, change_after, AreNamed, applied, undone, reverted, sizes_of}
use Rattle.tx_change.specs.States.{state_of, changed, changed_by}
use Rattle.tx_change.specs.declared.change.Change.{Change}
use Rattle.tx_change.specs.declared.change.Change.TheVariants.{Slot}
use Rattle.tx_change.specs.declared.parts.Parts.{Parts}
use Rattle.tx_kernel.specs.Plans.{AreAmong}
use Rattle.tx_model.specs.ObjectFacts.{same_is}
use Rattle.tx_model.specs.State.{State, Sending, Object, Proc, Desc, Pipe, Held, same_object, has_object}
use Rattle.tx_model.specs.StateLaws.{state_ext, EqualAt}
use Rattle.tx_proc.specs.Parts.{process_in}
use Rattle.tx_proc.specs.declared.proc.Proc.{Proc as ProcSlot}
use Rattle.tx_signal.specs.Parts.{PendingView}
use Rattle.tx_txn.specs.Content.{Txn, overlay, overlay_if, with_kept, led_by, is_named}
use Rattle.tx_txn.specs.Laws.{LogLaws}
use Rattle.tx_txn.specs.Logs.{newest_first, with_pending_in, with_pending_at, pending_or}
use Rattle.tx_txn.specs.Steps.{AgreeBut, LeadsBack}

-- a change of the two lists together is of one of them
pub named_append : (o : Object) (new log : List Change) → is_named o (new ++ log) ≡ true → (is_named o new ≡ true) ⊎ (is_named o log ≡ true)
unfolding is_named
named_append o [] log h = inr h
named_append o (x ∷ new) log h = by (same_object o (object_of x)) h (named_append o new log)
  where
    by : (b : Bool) → (if b then true else is_named o (new ++ log)) ≡ true → (is_named o (new ++ log) ≡ true → (is_named o new ≡ true) ⊎ (is_named o log ≡ true))
        → ((if b then true else is_named o new) ≡ true) ⊎ (is_named o log ≡ true)
    by true k rest = inl refl
    by false k rest = rest k

named_one : (o : Object) (change : Change) → is_named o (change ∷ []) ≡ true → o ≡ object_of change
unfolding is_named
named_one o change h = same_is o (object_of change) (by (same_object o (object_of change)) h)
  where
    by : (b : Bool) → (if b then true else false) ≡ true → b ≡ true
    by true k = refl
    by false k = k

-- what a log names is among the objects that its changes are among
named_among : (F : List Object) (log : List Change) → AreAmong F log → (o : Object) → is_named o (newest_first log) ≡ true → has_object o F ≡ true
unfolding is_named
named_among F [] among o h = cc
named_among F (change ∷ log) among o h =
    elim (named_append o (newest_first log) (change ∷ []) h) [
      | inl i ↦ named_among F log among.1 o i
      | inr i ↦ subst (λ (x : Object). has_object x F ≡ true) (sym (named_one o change i)) among.0
    ]

module _ (laws : LogLaws) where
  -- to exchange all, the last one first, is to exchange the newest first
  undone_applied : (parts : Parts) (log : List Change) → undone parts log ≡ applied parts (newest_first log)
  undone_applied parts [] = refl
  undone_applied parts (change ∷ log) =
      ap (λ (x : Parts). parts_after x change) (undone_applied parts log) ∙ sym (laws.applied parts (newest_first log) (change ∷ []))

  newest_named : (parts : Parts) (log : List Change) → AreNamed parts log → AreNamed parts (newest_first log)
  newest_named parts [] named = tt
  newest_named parts (change ∷ log) named = laws.named parts (newest_first log) (change ∷ []) (newest_named parts log named.1) (named.0, tt)

  -- to take the log back leads the state back
  led_back : (held : ℕ → List Sending) (parts : Parts) (log : List Change) → AreNamed parts log → state_of held (undone parts log) ≡ changed_by (newest_first log) (state_of held parts)
  led_back held parts log named = ap (state_of held) (undone_applied parts log) ∙ laws.in_turn held parts (newest_first log) (newest_named parts log named)

  -- states of the same parts are the same but for what is held
  same_but : (held later : ℕ → List Sending) (s : ℕ) (parts : Parts) → ((n : ℕ) → (n == s) ≡ false → later n ≡ held n) → (o : Object) → AgreeBut s (state_of later parts) (state_of held parts) o
  same_but held later s parts same (Proc n) = refl
  same_but held later s parts same (Desc n) = refl
  same_but held later s parts same (Pipe n) = refl
  same_but held later s parts same (Held n) = by (n == s) (same n)
    where
      by : (b : Bool) → (b ≡ false → later n ≡ held n) → (if b then [] else later n) ≡ (if b then [] else held n)
      by true z = refl
      by false z = z refl

  pub step_leads_back : (held later : ℕ → List Sending) (s : ℕ) (F : List Object) (after : Parts) (kept : List Change) → AreNamed after kept → AreAmong F kept
      → ((n : ℕ) → (n == s) ≡ false → later n ≡ held n) → LeadsBack s F (newest_first kept) (state_of later after) (state_of held (undone after kept))
  step_leads_back held later s F after kept named among same = record {
    named = named_among F kept among;
    back = λ o. subst (λ (S : State). AgreeBut s S (state_of held (undone after kept)) o) (led_back later after kept named) (same_but held later s (undone after kept) same o);
  }

  undone_sizes : (parts : Parts) (log : List Change) → sizes_of (undone parts log) ≡ sizes_of parts
  undone_sizes parts log = ap sizes_of (undone_applied parts log) ∙ laws.sizes parts (newest_first log)

  undone_high : (parts : Parts) (log : List Change) (s : ℕ) → s ≤ length parts.procs → s ≤ length (undone parts log).procs
  undone_high parts log s high = subst (λ (z : Sizes). s ≤ z.procs) (sym (undone_sizes parts log)) high

  -- to put this pending at a process is to put it over that in the state
  put_over : (held : ℕ → List Sending) (parts : Parts) (s : ℕ) (pending : PendingView) → 1 ≤ s → s ≤ length parts.procs
      → state_of (λ n. if n == s then [] else held n) (with_pending_at s pending parts) ≡ with_kept s pending (state_of held parts)
  put_over held parts s pending low high =
      laws.one released parts (put parts) (record { low = low; high = high })
      ∙ state_ext (changed (put parts) (state_of released parts)) (with_kept s pending (state_of held parts)) refl at
    where
      put : Parts → Change
      put parts = Slot (record { 0 = s }) (with_pending_in pending (slot_at parts.procs s))

      released : ℕ → List Sending
      released n = if n == s then [] else held n

      lay : (x : Option ProcSlot) → process_in (with_pending_in pending x) ≡ overlay pending (process_in x)
      lay None = refl
      lay (Some proc) = refl

      at : (o : Object) → EqualAt (changed (put parts) (state_of released parts)) (with_kept s pending (state_of held parts)) o
      at (Proc n) = by (n == s) (λ z. eqb-true n s z)
        where
          by : (b : Bool) → (b ≡ true → n ≡ s)
              → (if b then process_in (with_pending_in pending (slot_at parts.procs s)) else process_in (slot_at parts.procs n)) ≡ overlay_if b pending (process_in (slot_at parts.procs n))
          by true z = lay (slot_at parts.procs s) ∙ ap (λ (k : ℕ). overlay pending (process_in (slot_at parts.procs k))) (sym (z refl))
          by false z = refl
      at (Desc n) = refl
      at (Pipe n) = refl
      at (Held n) = refl

  pub log_leads_back : (held : ℕ → List Sending) (parts : Parts) (s : ℕ) (log : List Change) (t : Txn) → AreNamed parts log → t.log ≡ newest_first log → 1 ≤ s → s ≤ length parts.procs
      → state_of (λ n. if n == s then [] else held n) (with_pending_at s t.pending (undone parts log)) ≡ led_by s (Some t) (state_of held parts)
  log_leads_back held parts s log t named same low high =
      put_over held (undone parts log) s t.pending low (undone_high parts log s high)
      ∙ ap (with_kept s t.pending) (led_back held parts log named ∙ ap (λ (l : List Change). changed_by l (state_of held parts)) (sym same))

  -- to exchange what is pending at a process twice is nothing
  pending_twice : (parts : Parts) (s : ℕ) (pending : PendingView) → 1 ≤ s → s ≤ length parts.procs
      → with_pending_at s (pending_or pending (slot_at parts.procs s)) (with_pending_at s pending parts) ≡ parts
  pending_twice parts s pending low high =
      ap (λ (x : Option ProcSlot). parts_after there (Slot (record { 0 = s }) x)) (ap (with_pending_in (pending_or pending slot)) (ap slot_of twice.1) ∙ back slot) ∙ twice.0
    where
      slot : Option ProcSlot
      slot = slot_at parts.procs s

      put : Change
      put = Slot (record { 0 = s }) (with_pending_in pending (slot_at parts.procs s))

      there : Parts
      there = parts_after parts put

      twice : (parts_after (parts_after parts put) (change_after parts put) ≡ parts) × (change_after (parts_after parts put) (change_after parts put) ≡ put)
      twice = laws.twice parts put (record { low = low; high = high }) tt

      slot_of : Change → Option ProcSlot
      slot_of (Slot pid x) = x
      slot_of change = None

      back : (y : Option ProcSlot) → with_pending_in (pending_or pending y) (with_pending_in pending y) ≡ y
      back None = refl
      back (Some proc) = refl

  pub log_goes_forward : (parts : Parts) (s : ℕ) (log : List Change) (pending : PendingView) → AreNamed parts log → 1 ≤ s → s ≤ length parts.procs
      → applied (with_pending_at s (pending_or pending (slot_at (undone parts log).procs s)) (with_pending_at s pending (undone parts log))) (reverted parts log) ≡ parts
  log_goes_forward parts s log pending named low high =
      ap (λ (x : Parts). applied x (reverted parts log)) (pending_twice (undone parts log) s pending low (undone_high parts log s high))
      ∙ laws.forward parts log named
