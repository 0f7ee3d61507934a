-- The processes as they are booted, one after another.
use Rattle.std.proofs.Common.{◌≡◌, ℕ, zero, suc, ◌+◌, ◌≤◌, Bool, true, false, List, [], Option, Some, None, if◌then◌else◌, nat_lt, ◌==◌, length, replicate, slice_index_or, arith, ap, refl, sym, subst, ◌∙◌, inl, inr, eqb-true}
use Rattle.std.proofs.lemmas.Bool.{cases_Bool, eqb-false, le-ltb, lt-ltb, ltb-true, ltb-false}
use Rattle.tx_base.specs.Slots.{slot_at, with_slot}
use Rattle.tx_change.proofs.Stated.{procs_with}
use Rattle.tx_change.specs.Boot.{booted_slot}
use Rattle.tx_change.specs.Exchange.{pipe_at}
use Rattle.tx_change.specs.Laws.{HasPlaces}
use Rattle.tx_change.specs.States.{state_of}
use Rattle.tx_change.specs.declared.parts.Parts.{Parts}
use Rattle.tx_base.specs.SlotFacts.{slot_at-with_slot}
use Rattle.tx_desc.specs.Descriptions.{described}
use Rattle.tx_desc.specs.declared.opened.Opened.{Opened}
use Rattle.tx_model.specs.State.{Process, Object, Proc as TheProc, Desc, Pipe as ThePipe, Held, boot_state, booted_process, is_between}
use Rattle.tx_model.specs.StateLaws.{state_ext, EqualAt}
use Rattle.tx_proc.specs.Parts.{process_of, process_in}
use Rattle.tx_proc.specs.declared.proc.Proc.{Proc}

between_next : (done n : ℕ) → (n == done + 1) ≡ false → is_between (done + 1) n ≡ is_between done n
between_next done zero other = refl
between_next done (suc n) other = by (nat_lt n done) refl
  where
    differs : suc n ≡ done + 1 → ⊥
    differs = eqb-false (suc n) (done + 1) other

    by : (b : Bool) → nat_lt n done ≡ b → nat_lt n (done + 1) ≡ nat_lt n done
    by true e = let below = ltb-true n done e in rw e (lt-ltb n (done + 1) (omega arith))
    by false e = let above = ltb-false n done e in rw e (le-ltb n (done + 1) (let apart = differs in omega (arith, apart)))

between_last : (done : ℕ) → is_between (done + 1) (done + 1) ≡ true
between_last done =
    let next : done + 1 ≡ suc done = omega arith in
    ap (is_between (done + 1)) next ∙ lt-ltb done (done + 1) (omega arith)

one_more : (done n : ℕ) → (if n == done + 1 then Some (booted_process (done + 1)) else booted_slot done n) ≡ booted_slot (done + 1) n
one_more done n = elim (cases_Bool (n == done + 1)) [
  | inl e ↦ rw e (rw (eqb-true n (done + 1) e) (rw (between_last done) refl))
  | inr e ↦ rw e (ap (λ (b : Bool). if b then Some (booted_process n) else None) (sym (between_next done n e)))
]

-- one more process is there
pub booted_next : (procs : List (Option Proc)) (done : ℕ) (proc : Proc) → done + 1 ≤ length procs → ((n : ℕ) → process_in (slot_at procs n) ≡ booted_slot done n) →
    process_of proc ≡ booted_process (done + 1) → (n : ℕ) → process_in (slot_at (with_slot procs (done + 1) (Some proc)) n) ≡ booted_slot (done + 1) n
booted_next procs done proc there before is n =
    procs_with procs (done + 1) (Some proc) n (omega arith) there
    ∙ ap (λ (x : Option Process). if n == done + 1 then x else process_in (slot_at procs n)) (ap Some is)
    ∙ ap (λ (x : Option Process). if n == done + 1 then Some (booted_process (done + 1)) else x) (before n)
    ∙ one_more done n

-- a booted process has a place for each number
pub booted_places : (procs : List (Option Proc)) (done : ℕ) (proc : Proc) → done + 1 ≤ length procs → ((n : ℕ) → HasPlaces (slot_at procs n)) →
    process_of proc ≡ booted_process (done + 1) → (n : ℕ) → HasPlaces (slot_at (with_slot procs (done + 1) (Some proc)) n)
booted_places procs done proc there before is n =
    subst HasPlaces (sym (slot_at-with_slot procs (done + 1) (Some proc) n (omega arith) there)) (by (n == done + 1))
  where
    by : (b : Bool) → HasPlaces (if b then Some proc else slot_at procs n)
    by true = record {
      slots = ap (λ (me : Process). length me.registers.slots) is;
      pages = ap (λ (me : Process). length me.memory) is;
      descriptors = ap (λ (me : Process). length me.descriptors) is;
      actions = ap (λ (me : Process). length me.actions) is;
    }
    by false = before n

-- the number that comes next is free
pub next_free : (procs : List (Option Proc)) (done : ℕ) → ((n : ℕ) → process_in (slot_at procs n) ≡ booted_slot done n) → slot_at procs (done + 1) ≡ None
next_free procs done before = none_in (slot_at procs (done + 1)) (before (done + 1) ∙ not_there)
  where
    not_there : booted_slot done (done + 1) ≡ None
    not_there =
        let next : done + 1 ≡ suc done = omega arith in
        ap (λ (b : Bool). if b then Some (booted_process (done + 1)) else None) (ap (is_between done) next ∙ le-ltb done done (omega arith))

    none_in : (slot : Option Proc) → process_in slot ≡ None → slot ≡ None
    none_in None h = refl
    none_in (Some proc) h = cc

nothing_at : (size n : ℕ) → pipe_at (replicate size None) n ≡ None
nothing_at zero n = refl
nothing_at (suc size) zero = refl
nothing_at (suc size) (suc n) = nothing_at size n

no_opened : (size n : ℕ) → slice_index_or {A = Option Opened} (replicate size None) n None ≡ None
no_opened zero n = refl
no_opened (suc size) zero = refl
no_opened (suc size) (suc n) = no_opened size n

-- the parts with these processes, and nothing else, mean the booted state
pub booted_state : (parts : Parts) (width count : ℕ) → length parts.procs ≡ width → ((n : ℕ) → process_in (slot_at parts.procs n) ≡ booted_slot count n) →
    parts.descs ≡ replicate 64 None → parts.pipes ≡ replicate 32 None → state_of (λ starter. []) parts ≡ boot_state width count
booted_state parts width count sized procs descs pipes = state_ext (state_of (λ starter. []) parts) (boot_state width count) sized at
  where
    at : (o : Object) → EqualAt (state_of (λ starter. []) parts) (boot_state width count) o
    at (TheProc n) = procs n
    at (Desc n) = rw descs (ap described (no_opened 64 n))
    at (ThePipe n) = rw pipes (nothing_at 32 n)
    at (Held n) = refl
