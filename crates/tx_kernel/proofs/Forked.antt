-- A child of a process.
use Rattle.std.proofs.Common.{◌≡◌, ◌<◌, ◌+◌, ℕ, Bool, true, false, List, [], ◌∷◌, ◌++◌, length, Option, Some, None, is_some, if◌then◌else◌, ◌==◌, nat_lt, pos, refl, ap, sym, subst, ◌∙◌, arith, eq-eqb, append_assoc}
use Rattle.std.proofs.lemmas.Bool.{ltb-true, ne_eqb, eqb-false}
use Rattle.std.proofs.lemmas.List.Sums.{sum_by-cons}
use Rattle.tx_base.specs.Slots.{slot_at}
use Rattle.tx_base.specs.declared.names.Pid.{Pid}
use Rattle.tx_change.specs.Counts.{counted_in, desc_changes}
use Rattle.tx_change.specs.Exchange.{sizes_of, IsPid}
use Rattle.tx_change.specs.Laws.{HasPlaces}
use Rattle.tx_change.specs.declared.change.Change.{Change}
use Rattle.tx_change.specs.declared.change.Change.TheVariants.{Slot, Part}
use Rattle.tx_change.specs.declared.parts.Parts.{Parts}
use Rattle.tx_desc.specs.Counts.{KeepsCounts, count_in}
use Rattle.tx_desc.specs.Places.{Descriptors}
use Rattle.tx_desc.specs.Plans.{AreNumbers, IsOnceEach, entries_of, put_descs}
use Rattle.tx_desc.specs.declared.plans.NewDesc.{NewDesc}
use Rattle.tx_kernel.proofs.Beside.{AreDescsAmong, StaySame, beside_plans, plans_same, second-first}
use Rattle.tx_kernel.specs.Actors.{effect_by, me_of, names_by, IsActor}
use Rattle.tx_kernel.specs.Laws.{PlanLaws}
use Rattle.tx_kernel.specs.Own.{answer_after}
use Rattle.tx_kernel.specs.Plans.{Plans, quiet}
use Rattle.tx_kernel.specs.declared.actor.Actor.{Actor}
use Rattle.tx_kernel.specs.declared.planned.Outcome.TheVariants.{Done}
use Rattle.tx_model.specs.Descriptors.{open_in, desc_objects}
use Rattle.tx_model.specs.Words.{answer_effect_with, fork_objects}
use Rattle.tx_model.specs.Forms.{Rule, changes}
use Rattle.tx_model.specs.Processes.{child_of}
use Rattle.tx_model.specs.State.{Object, Proc as TheProc, Desc, Process, SetProc, has_object, is_number}
use Rattle.tx_proc.specs.Laws.{IsSized}
use Rattle.tx_proc.specs.Parts.{process_of, process_in}
use Rattle.tx_proc.specs.declared.proc.Part.TheVariants.{Answer as SetAnswer}
use Rattle.tx_proc.specs.declared.proc.Proc.{Proc}

-- the descriptions that descriptors name

abbrev one_if : Bool → ℕ
one_if b = if b then 1 else 0

count-first : (d : ℕ) (x : Option ℕ) (table : Descriptors) → count_in d (x ∷ table) ≡ one_if (is_number d x) + count_in d table
count-first d x table = sum_by-cons (λ (y : Option ℕ). one_if (is_number d y)) x table

entries-first : (d : ℕ) (new : NewDesc) (descs : List NewDesc) → entries_of d (new ∷ descs) ≡ one_if (d == new.number.0) + entries_of d descs
entries-first d new descs = sum_by-cons (λ (x : NewDesc). one_if (d == x.number.0)) new descs

pub open-has : (d : ℕ) (table : Descriptors) → 0 < count_in d table → has_object (Desc d) (desc_objects (open_in table)) ≡ true
unfolding open_in has_object
open-has d [] some = absurd (let none : count_in d [] ≡ 0 = refl in omega arith)
open-has d (None ∷ table) some = open-has d table (let sum = count-first d None table in omega arith)
open-has d (Some e ∷ table) some = by (λ more. open-has d table more) (d == e) refl
  where
    by : (0 < count_in d table → has_object (Desc d) (desc_objects (open_in table)) ≡ true) → (b : Bool) → (d == e) ≡ b →
        (if b then true else has_object (Desc d) (desc_objects (open_in table))) ≡ true
    by rest true is = refl
    by rest false is =
        let sum = count-first d (Some e) table in
        let none : one_if (e == d) ≡ 0 = ap one_if (ne_eqb e d (λ z. eqb-false d e is (sym z))) in
        rest (omega arith)

-- the descriptions of a plan are those that the descriptors name

pub planned-named : (table : Descriptors) (descs : List NewDesc) (d : ℕ) → IsOnceEach table descs → 0 < entries_of d descs → 0 < count_in d table
planned-named table descs d once some = by (nat_lt 0 (count_in d table)) refl (once d)
  where
    by : (b : Bool) → nat_lt 0 (count_in d table) ≡ b → entries_of d descs ≡ (if b then 1 else 0) → 0 < count_in d table
    by true is one = ltb-true 0 (count_in d table) is
    by false is none = absurd (omega arith)

pub listed-among : (objects : List Object) (descs : List NewDesc) → ((d : ℕ) → 0 < entries_of d descs → has_object (Desc d) objects ≡ true) → AreDescsAmong objects descs
listed-among objects [] all = tt
listed-among objects (new ∷ descs) all = (
  all new.number.0 (let sum = entries-first new.number.0 new descs in
      let one : one_if (new.number.0 == new.number.0) ≡ 1 = ap one_if (eq-eqb new.number.0 new.number.0 refl) in
      omega arith),
  listed-among objects descs (λ d some. all d (let sum = entries-first d new descs in omega arith)),
)

-- each is one of the objects that the descriptors name
pub planned-among : (table : Descriptors) (descs : List NewDesc) (p c : ℕ) → IsOnceEach table descs → AreDescsAmong (TheProc p ∷ TheProc c ∷ desc_objects (open_in table)) descs
unfolding has_object
planned-among table descs p c once =
    listed-among (TheProc p ∷ TheProc c ∷ desc_objects (open_in table)) descs (λ d some. open-has d table (planned-named table descs d once some))

-- the child has its parent's places and names

child-sized : (proc child : Proc) (p : ℕ) → process_of child ≡ child_of p (process_of proc) → IsSized proc → IsSized child
child-sized proc child p is sized = record {
  slots = ap (λ (q : Process). length q.registers.slots) is ∙ sized.slots;
  pages = ap (λ (q : Process). length q.memory) is ∙ sized.pages;
  descriptors = ap (λ (q : Process). length q.descriptors) is ∙ sized.descriptors;
  actions = ap (λ (q : Process). length q.actions) is ∙ sized.actions;
}

child-counted : (proc child : Proc) (p : ℕ) → process_of child ≡ child_of p (process_of proc) → proc.status ≡ None → counted_in (Some child) ≡ proc.descriptors
child-counted proc child p is runs =
    ap (λ (q : Process). if is_some q.status then [] else q.descriptors) is
    ∙ ap (λ (x : Option ℕ). if is_some x then [] else proc.descriptors) runs

-- the child is made
abbrev pub makes_child : ℕ → Rule
makes_child child c = changes (pos child) c.process (SetProc child (Some (child_of c.number c.process)) ∷ [])

pub fork_plans : (laws : PlanLaws) (actor : Actor) (child : Pid) (new : Proc) (descs : List NewDesc) (before first second now : List Change) → length actor.parts.now.descs ≡ 64 →
    IsActor actor → IsPid (sizes_of actor.parts.now) child.0 → slot_at actor.parts.now.procs child.0 ≡ None → process_of new ≡ child_of actor.pid.0 (me_of actor) →
    KeepsCounts [] actor.proc.now.descriptors actor.parts.now.descs (put_descs descs actor.parts.now.descs) → StaySame actor.parts.now descs →
    IsOnceEach actor.proc.now.descriptors descs → AreNumbers descs →
    first ≡ before ++ desc_changes descs → second ≡ first ++ Slot child (Some new) ∷ [] →
    now ≡ second ++ Part actor.pid (SetAnswer (answer_after (pos child.0) actor)) ∷ [] →
    Plans actor before now (quiet (Done (pos child.0))) (effect_by actor (makes_child child.0)) (names_by actor (λ c. fork_objects child.0 c.process))
fork_plans laws actor child new descs before first second now sized is number free copy keeps same once numbers one two three =
    let parts : Parts = actor.parts.now in
    let proc : Proc = actor.proc.now in
    let answer : Change = Part actor.pid (SetAnswer (answer_after (pos child.0) actor)) in
    let slot : Change = Slot child (Some new) in
    let places : IsSized proc = subst HasPlaces is.there (is.whole.places actor.pid.0) in
    plans_same actor before now (quiet (Done (pos child.0)))
    (λ S. answer_effect_with (SetProc child.0 (process_in (Some new)) ∷ []) actor.pid.0 (pos child.0) (me_of actor)) (effect_by actor (makes_child child.0))
    (λ S. fork_objects child.0 (me_of actor)) (λ S. fork_objects child.0 (me_of actor))
    (λ held counted. ap (λ (q : Process). answer_effect_with (SetProc child.0 (Some q) ∷ []) actor.pid.0 (pos child.0) (me_of actor)) copy) (λ held. refl)
    (beside_plans laws actor before now descs child (Some new) (answer ∷ []) (pos child.0) (me_of actor) (λ S. fork_objects child.0 (me_of actor)) is
    (record {
      sized = sized;
      numbers = numbers;
      same = same;
      number = number;
      apart = λ equal.
          let slots : None ≡ Some proc = sym free ∙ ap (slot_at parts.procs) equal ∙ is.there in
          cc;
      places = child-sized proc new actor.pid.0 copy places;
      keeps = subst (λ (x : Descriptors). KeepsCounts x (counted_in (Some new)) parts.descs (put_descs descs parts.descs)) (sym (ap counted_in free))
          (subst (λ (x : Descriptors). KeepsCounts [] x parts.descs (put_descs descs parts.descs)) (sym (child-counted proc new actor.pid.0 copy is.runs)) keeps);
      own = ((refl, tt), tt);
      nameless = (tt, tt);
    })
    (three ∙ ap (λ (xs : List Change). xs ++ answer ∷ []) (two ∙ ap (λ (xs : List Change). xs ++ slot ∷ []) one ∙ append_assoc before (desc_changes descs) (slot ∷ []))
    ∙ append_assoc before (desc_changes descs ++ slot ∷ []) (answer ∷ [])
    ∙ ap (λ (xs : List Change). before ++ xs) (append_assoc (desc_changes descs) (slot ∷ []) (answer ∷ [])))
    refl (λ held. planned-among proc.descriptors descs actor.pid.0 child.0 once)
    (λ held. second-first actor.pid.0 child.0 (desc_objects (open_in proc.descriptors))))
