-- The wait for a child.
use Rattle.std.proofs.Common.{◌≡◌, ◌≤◌, ℕ, zero, suc, Bool, true, false, not, List, [], ◌∷◌, ◌++◌, length, Option, Some, None, is_some, if◌then◌else◌, ◌==◌, ℤ, pos, negsuc, refl, ap, sym, subst, ◌∙◌, arith, append_assoc, FitsSigned, w64, to_z, of_z}
use Rattle.std.proofs.lemmas.Int.{to_z-of_z}
use Rattle.std.proofs.lemmas.Bool.{ltb-true}
use Rattle.tx_base.specs.Slots.{slot_at}
use Rattle.tx_base.specs.declared.errors.Errno.TheVariants.{NoChild}
use Rattle.tx_base.specs.declared.names.Pid.{Pid}
use Rattle.tx_change.specs.Counts.{counted_in}
use Rattle.tx_change.specs.States.{state_of}
use Rattle.tx_change.specs.declared.change.Change.{Change}
use Rattle.tx_change.specs.declared.change.Change.TheVariants.{Slot, Part}
use Rattle.tx_change.specs.declared.parts.Parts.{Parts}
use Rattle.tx_desc.specs.Counts.{KeepsCounts}
use Rattle.tx_desc.specs.Places.{Descriptors}
use Rattle.tx_base.specs.declared.steps.Refusal.TheVariants.{Wait}
use Rattle.tx_kernel.proofs.Beside.{beside_plans, plans_same, second-first}
use Rattle.tx_kernel.proofs.PageLines.{finds, misses, passes}
use Rattle.tx_kernel.specs.Actors.{caller_of, effect_by, me_of, names_by, IsActor}
use Rattle.tx_kernel.specs.Laws.{PlanLaws}
use Rattle.tx_kernel.specs.Own.{answer_after}
use Rattle.tx_kernel.specs.Plans.{Plans, quiet}
use Rattle.tx_kernel.specs.Trees.{child_by, child_at, IsEndedChild}
use Rattle.tx_kernel.specs.declared.actor.Actor.{Actor}
use Rattle.tx_kernel.specs.declared.planned.Outcome.TheVariants.{Done}
use Rattle.tx_kernel.specs.declared.planned.Planned.{Planned}
use Rattle.tx_kernel.specs.declared.trees.Child.{Child}
use Rattle.tx_model.specs.BookLaws.{through_or, through_unless}
use Rattle.tx_model.specs.Book.{waitpid}
use Rattle.tx_model.specs.Forms.{Outcome, Rule, answers, changes, effect_of, fails, refuses}
use Rattle.tx_model.specs.Processes.{pid_of}
use Rattle.tx_model.specs.Words.{with_status, waitpid_objects, numbered_objects}
use Rattle.tx_model.specs.State.{Object, Proc as TheProc, Process, Sending, SetProc, State, is_between}
use Rattle.tx_proc.specs.Parts.{process_in, process_of}
use Rattle.tx_proc.specs.declared.proc.Part.TheVariants.{Answer as SetAnswer, Register as SetRegister}
use Rattle.tx_proc.specs.declared.proc.Proc.{Proc}

-- the numbers

between-number : (w n : ℕ) → is_between w n ≡ true → (1 ≤ n) × (n ≤ w)
between-number w zero e = cc
between-number w (suc n) e = let below = ltb-true n w e in (omega arith, omega arith)

numbered-pid : (w t : ℕ) (z : ℤ) → pid_of w z ≡ Some t → (1 ≤ t) × (t ≤ w)
numbered-pid w t (pos n) e = by (is_between w n) refl e
  where
    by : (b : Bool) → is_between w n ≡ b → (if b then Some n else None) ≡ Some t → (1 ≤ t) × (t ≤ w)
    by true is some = let same : n ≡ t = cc in subst (λ (k : ℕ). (1 ≤ k) × (k ≤ w)) same (between-number w n is)
    by false is some = cc
numbered-pid w t (negsuc n) e = cc

-- no child has the number
is_child : (p t : ℕ) (slot : Option Proc) (q : Process) → process_in slot ≡ Some q → (q.parent == p) ≡ true → None ≡ child_by p t slot → ⊥
is_child p t None q there mine none = cc
is_child p t (Some proc) q there mine none =
    let one : Child = record { pid = record { 0 = t }; status = proc.status } in
    let same : process_of proc ≡ q = cc in
    let found : None ≡ Some one = none ∙ ap (λ (b : Bool). if b then Some one else None) (ap (λ (x : Process). x.parent == p) same ∙ mine) in
    cc

pub no_child : (actor : Actor) (number : ℤ) (nohang : Bool) (held : ℕ → List Sending) → None ≡ child_at actor.pid.0 actor.parts.now.procs (pid_of (length actor.parts.now.procs) number) →
    waitpid number nohang (caller_of actor (state_of held actor.parts.now)) ≡ fails NoChild
no_child actor number nohang held none =
    let Fails : Outcome → Type 0 = λ o. o ≡ fails NoChild in
    let procs : List (Option Proc) = actor.parts.now.procs in
    let p : ℕ = actor.pid.0 in
    through_or Fails (pid_of (length procs) number) _ _ refl
    λ t e. through_or Fails (process_in (slot_at procs t)) _ _ refl
    λ q there. through_unless Fails (q.parent == p) _ _ (λ other. refl)
    λ mine. absurd (is_child p t (slot_at procs t) q there mine (none ∙ ap (child_at p procs) e))

-- a child has the number
pub record IsChild (p : ℕ) (procs : List (Option Proc)) (t : Option ℕ) (child : Child) : Type 0 where
  pub number : t ≡ Some child.pid.0
  pub proc : Proc
  pub there : slot_at procs child.pid.0 ≡ Some proc
  pub parent : (proc.parent.0 == p) ≡ true
  pub status : proc.status ≡ child.status

pub a_child : (p : ℕ) (procs : List (Option Proc)) (t : Option ℕ) (child : Child) → child_at p procs t ≡ Some child → IsChild p procs t child
a_child p procs None child e = cc
a_child p procs (Some t) child e = by (slot_at procs t) refl e
  where
    of : (proc : Proc) (b : Bool) → slot_at procs t ≡ Some proc → (proc.parent.0 == p) ≡ b → (if b then Some (record { pid = record { 0 = t }; status = proc.status }) else None) ≡ Some child →
        IsChild p procs (Some t) child
    of proc false there is some = cc
    of proc true there is some =
        let one : Child = record { pid = record { 0 = t }; status = proc.status } in
        let same : one ≡ child = cc in
        subst (λ (x : Child). IsChild p procs (Some t) x) same (record { number = refl; proc = proc; there = there; parent = is; status = refl })

    by : (slot : Option Proc) → slot_at procs t ≡ slot → child_by p t slot ≡ Some child → IsChild p procs (Some t) child
    by None there some = cc
    by (Some proc) there some = of proc (proc.parent.0 == p) there refl some

-- the child that a search finds, of a number as it is passed
pub found_child : (p : ℕ) (procs : List (Option Proc)) (w : ℕ) (number : ℤ) (child : Child) → FitsSigned w64 number →
    Some child ≡ child_at p procs (pid_of w (to_z w64 (of_z w64 number))) → IsChild p procs (pid_of w number) child
found_child p procs w number child fits found =
    a_child p procs (pid_of w number) child (sym (subst (λ (z : ℤ). Some child ≡ child_at p procs (pid_of w z)) (to_z-of_z w64 number fits) found))

-- it ended, or it runs
pub ended_is : (actor : Actor) (number : ℤ) (nohang : Bool) (held : ℕ → List Sending) (child : Child) (status : ℕ) →
    IsChild actor.pid.0 actor.parts.now.procs (pid_of (length actor.parts.now.procs) number) child → child.status ≡ Some status →
    waitpid number nohang (caller_of actor (state_of held actor.parts.now)) ≡ changes (pos child.pid.0) (with_status status (me_of actor)) (SetProc child.pid.0 None ∷ [])
ended_is actor number nohang held child status is ended =
    finds (pid_of (length actor.parts.now.procs) number) child.pid.0 _ _ is.number
    ∙ finds (process_in (slot_at actor.parts.now.procs child.pid.0)) (process_of is.proc) _ _ (ap process_in is.there)
    ∙ passes (not (is.proc.parent.0 == actor.pid.0)) _ _ (ap not is.parent)
    ∙ finds is.proc.status status _ _ (is.status ∙ ended)

pub running_is : (actor : Actor) (number : ℤ) (nohang : Bool) (held : ℕ → List Sending) (child : Child) →
    IsChild actor.pid.0 actor.parts.now.procs (pid_of (length actor.parts.now.procs) number) child → child.status ≡ None →
    waitpid number nohang (caller_of actor (state_of held actor.parts.now)) ≡ (if nohang then answers (pos 0) else refuses Wait)
running_is actor number nohang held child is runs =
    finds (pid_of (length actor.parts.now.procs) number) child.pid.0 _ _ is.number
    ∙ finds (process_in (slot_at actor.parts.now.procs child.pid.0)) (process_of is.proc) _ _ (ap process_in is.there)
    ∙ passes (not (is.proc.parent.0 == actor.pid.0)) _ _ (ap not is.parent)
    ∙ misses is.proc.status _ _ (is.status ∙ runs)

pub child_ended : (actor : Actor) (number : ℤ) (child : Child) (status : ℕ) → IsChild actor.pid.0 actor.parts.now.procs (pid_of (length actor.parts.now.procs) number) child →
    child.status ≡ Some status → IsEndedChild actor child.pid.0 status
child_ended actor number child status is ended =
    let pid = numbered-pid (length actor.parts.now.procs) child.pid.0 number is.number in
    record { number = record { low = pid.0; high = pid.1 }; proc = is.proc; there = is.there; ended = is.status ∙ ended }

abbrev pub wait_names : Actor → ℤ → State → List Object
wait_names actor number = names_by actor (λ c. waitpid_objects number c.state)

-- what the page comes to is planned
pub page_plans : (actor : Actor) (before now : List Change) (planned : Planned) (number : ℤ) (nohang : Bool) (outcome : Outcome) (objects : State → List Object) →
    ((held : ℕ → List Sending) → waitpid number nohang (caller_of actor (state_of held actor.parts.now)) ≡ outcome) →
    ((held : ℕ → List Sending) → objects (state_of held actor.parts.now) ≡ wait_names actor number (state_of held actor.parts.now)) →
    Plans actor before now planned (λ S. effect_of actor.pid.0 (me_of actor) outcome) objects → Plans actor before now planned (effect_by actor (waitpid number nohang)) (wait_names actor number)
page_plans actor before now planned number nohang outcome objects is names plans =
    plans_same actor before now planned (λ S. effect_of actor.pid.0 (me_of actor) outcome) (effect_by actor (waitpid number nohang)) objects (wait_names actor number)
    (λ held counted. sym (ap (effect_of actor.pid.0 (me_of actor)) (is held))) names plans

pub child_names : (actor : Actor) (number : ℤ) (child : Child) (held : ℕ → List Sending) → IsChild actor.pid.0 actor.parts.now.procs (pid_of (length actor.parts.now.procs) number) child →
    TheProc child.pid.0 ∷ [] ≡ wait_names actor number (state_of held actor.parts.now)
child_names actor number child held is = ap numbered_objects (sym is.number)

-- the removal

none_counted : (slot : Option Proc) (status : ℕ) (proc : Proc) → slot ≡ Some proc → proc.status ≡ Some status → counted_in slot ≡ []
none_counted slot status proc there ended = ap counted_in there ∙ ap (λ (x : Option ℕ). if is_some x then [] else proc.descriptors) ended

-- the child is removed, and its status kept
abbrev pub removes : ℕ → ℕ → Rule
removes child status c = changes (pos child) (with_status status c.process) (SetProc child None ∷ [])

pub removal_plans : (laws : PlanLaws) (actor : Actor) (child : Pid) (status : ℕ) (before first second now : List Change) → length actor.parts.now.descs ≡ 64 →
    IsActor actor → IsEndedChild actor child.0 status → first ≡ before ++ Slot child None ∷ [] →
    second ≡ first ++ Part actor.pid (SetRegister (record { number = 0; value = pos status })) ∷ [] →
    now ≡ second ++ Part actor.pid (SetAnswer (answer_after (pos child.0) actor)) ∷ [] →
    Plans actor before now (quiet (Done (pos child.0))) (effect_by actor (removes child.0 status)) (λ S. TheProc child.0 ∷ [])
removal_plans laws actor child status before first second now sized is ended one two three =
    let parts : Parts = actor.parts.now in
    let kept : Change = Part actor.pid (SetRegister (record { number = 0; value = pos status })) in
    let answer : Change = Part actor.pid (SetAnswer (answer_after (pos child.0) actor)) in
    let mine : List Change = kept ∷ answer ∷ [] in
    let keeps : KeepsCounts [] [] parts.descs parts.descs = record { each = λ d others h. h } in
    beside_plans laws actor before now [] child None mine (pos child.0) (with_status status (me_of actor)) (λ S. TheProc child.0 ∷ []) is
    (record {
      sized = sized;
      numbers = tt;
      same = λ S has. has;
      number = ended.number;
      apart = λ same.
          let slots : Some ended.proc ≡ Some actor.proc.now = sym ended.there ∙ ap (slot_at parts.procs) same ∙ is.there in
          let procs : ended.proc ≡ actor.proc.now = cc in
          let none : Some status ≡ None = sym ended.ended ∙ ap (λ (x : Proc). x.status) procs ∙ is.runs in
          cc;
      places = tt;
      keeps = subst (λ (x : Descriptors). KeepsCounts x [] parts.descs parts.descs) (sym (none_counted (slot_at parts.procs child.0) status ended.proc ended.there ended.ended)) keeps;
      own = ((refl, omega arith), ((refl, tt), tt));
      nameless = (tt, (tt, tt));
    })
    (three ∙ ap (λ (xs : List Change). xs ++ answer ∷ []) (two ∙ ap (λ (xs : List Change). xs ++ kept ∷ []) one ∙ append_assoc before (Slot child None ∷ []) (kept ∷ []))
    ∙ append_assoc before (Slot child None ∷ kept ∷ []) (answer ∷ []))
    refl (λ held. tt) (λ held. second-first actor.pid.0 child.0 [])
