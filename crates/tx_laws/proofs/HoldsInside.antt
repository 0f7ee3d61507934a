-- What a transaction holds is an object of events inside of it alone, and of its commit.
use Rattle.std.proofs.Common.{◌≡◌, ℕ, suc, Bool, true, false, List, [], ◌∷◌, ◌++◌, ℤ, Option, Some, None, if◌then◌else◌, ◌==◌, refl, sym, inl, inr, arith}
use Rattle.tx_base.specs.declared.steps.Call.{Call}
use Rattle.tx_base.specs.declared.steps.Call.TheVariants as call
use Rattle.tx_base.specs.declared.steps.Step.{Step}
use Rattle.tx_base.specs.declared.steps.Step.TheVariants.{Call as Calls, Deliver, KernelAbort}
use Rattle.tx_model.specs.ObjectFacts.{same_is, has_left, has_either}
use Rattle.tx_model.specs.State.{Process, State, Object, Proc, Held, same_object, has_object}
use Rattle.tx_model.specs.Effects.{Inside}
use Rattle.tx_model.specs.Descriptors.{open_in, desc_pipe_objects}
use Rattle.tx_model.specs.Processes.{children_of, procs_of, held_objects, ending_objects}
use Rattle.tx_model.specs.Deliveries.{delivered_value, ends_by}
use Rattle.tx_model.specs.Forms.{caller, ◌or◌}
use Rattle.tx_model.specs.Words.{call_objects}
use Rattle.tx_model.specs.Events.{Event, Do, Note, Commit, process_of, page_of_step, objects_at, objects}
use Rattle.tx_laws.specs.Fits.{IsInsideOf, HoldsFor}
use Rattle.tx_laws.proofs.Coherence.{or_true}
use Rattle.tx_laws.proofs.OfActs.{act_holds}

-- a transaction of that starter
abbrev of_starter : ℕ → Inside
of_starter s = record { starter = s; members = λ n. false; defers = false }

has_nothing : (o : Object) → has_object o [] ≡ true → ⊥
unfolding has_object
has_nothing o h = cc

at_tail : (o x : Object) (os ps : List Object) → (has_object o os ≡ true → has_object o ps ≡ true) → has_object o (x ∷ os) ≡ true → has_object o (x ∷ ps) ≡ true
unfolding has_object
at_tail o x os ps f h = by (same_object o x) h
  where
    by : (b : Bool) → (if b then true else has_object o os) ≡ true → (if b then true else has_object o ps) ≡ true
    by true k = refl
    by false k = f k

-- what an act reads and writes outside, it reads and writes inside
module _ (s p : ℕ) (me : Process) (S : State) (o : Object) where
  ending_inside : has_object o (ending_objects (caller None p me S)) ≡ true → has_object o (ending_objects (caller (Some (of_starter s)) p me S)) ≡ true
  ending_inside h =
      let xs : List Object = desc_pipe_objects (open_in me.descriptors) S ++ procs_of (children_of p S) in
      elim (has_either o xs [] h) [
        | inl a ↦ has_left o xs (held_objects (Some (of_starter s))) a
        | inr a ↦ absurd (has_nothing o a)
      ]

  call_inside : (c : Call) → has_object o (call_objects None c p me S) ≡ true → has_object o (call_objects (Some (of_starter s)) c p me S) ≡ true
  call_inside (call.Exit status) h = by (p == 1) h
    where
      by : (b : Bool) → has_object o (if b then [] else ending_objects (caller None p me S)) ≡ true → has_object o (if b then [] else ending_objects (caller (Some (of_starter s)) p me S)) ≡ true
      by true k = k
      by false k = ending_inside k
  call_inside (call.Kill t signo) h = absurd (has_nothing o h)
  call_inside (call.Sigqueue t signo value) h = absurd (has_nothing o h)
  call_inside c h = h

  ends_inside : (signo : ℕ) (x : Option ℤ) → ends_by None signo me x ≡ ends_by (Some (of_starter s)) signo me x
  ends_inside signo None = refl
  ends_inside signo (Some value) = refl

  delivery_inside : (b c : Bool) → b ≡ c → has_object o (if b then ending_objects (caller None p me S) else []) ≡ true → has_object o (if c then ending_objects (caller (Some (of_starter s)) p me S) else []) ≡ true
  delivery_inside true true e k = ending_inside k
  delivery_inside true false e k = cc
  delivery_inside false true e k = cc
  delivery_inside false false e k = k

  step_inside : (step : Step) → has_object o ((page_of_step step).names (caller None p me S)) ≡ true → has_object o ((page_of_step step).names (caller (Some (of_starter s)) p me S)) ≡ true
  step_inside (Calls pid c) h = call_inside c h
  step_inside (Deliver pid signo) h =
      delivery_inside (ends_by None signo.0 me (delivered_value signo.0 me)) (ends_by (Some (of_starter s)) signo.0 me (delivered_value signo.0 me)) (ends_inside signo.0 (delivered_value signo.0 me)) h
  step_inside (KernelAbort t) h = h

at_inside : (s p : ℕ) (step : Step) (S : State) (o : Object) → has_object o (objects_at None p (page_of_step step) S) ≡ true → has_object o (objects_at (Some (of_starter s)) p (page_of_step step) S) ≡ true
at_inside s p step S o = by (S.procs p)
  where
    named : Option Inside → Option Process → List Object
    named inside x = Proc p ∷ ((x or []) λ me. (page_of_step step).names (caller inside p me S))

    by : (x : Option Process) → has_object o (named None x) ≡ true → has_object o (named (Some (of_starter s)) x) ≡ true
    by None h = h
    by (Some me) h = at_tail o (Proc p) _ _ (step_inside s p me S o step) h

-- outside of all transactions nothing held is named
holds_outside : (p : ℕ) (step : Step) (S : State) (u : ℕ) → has_object (Held u) (objects_at None p (page_of_step step) S) ≡ true → ⊥
holds_outside p step S u h =
    let k : u ≡ suc u = act_holds (Some (of_starter (suc u))) p step (of_starter (suc u)) refl S u (at_inside (suc u) p step S (Held u) h) in
    omega arith

step_held : (p : ℕ) (step : Step) (inside : Option Inside) (S : State) (u : ℕ) → has_object (Held u) (objects_at inside p (page_of_step step) S) ≡ true → IsInsideOf u inside
step_held p step None S u h = holds_outside p step S u h
step_held p step (Some i) S u h = sym (act_holds (Some i) p step i refl S u h)

held_is : (u s : ℕ) → Held u ≡ Held s → u ≡ s
held_is u s e = cc

-- what a transaction holds is an object of an event that is made inside of it, or commits it, alone
pub holds_own : (ev : Event) (S : State) (u : ℕ) → has_object (Held u) (objects ev S) ≡ true → HoldsFor u ev
unfolding objects has_object
holds_own (Do step inside) S u h = step_held (process_of step) step inside S u h
holds_own (Note p r) S u h = cc
holds_own (Commit s ev) S u h = elim (or_true _ (has_object (Held u) (objects ev S)) h) [
  | inl e ↦ inl (held_is u s (same_is (Held u) (Held s) e))
  | inr e ↦ inr (holds_own ev S u e)
]
