-- A plan of what another number has, of descriptions that stay the same, and of parts of the process.
use Rattle.std.proofs.Common.{◌≡◌, ◌≢◌, ℕ, Bool, true, false, List, [], ◌∷◌, ◌++◌, length, option_map, Option, Some, if◌then◌else◌, ◌==◌, ℤ, slice_set, refl, ap, sym, subst, ◌∙◌, eq-eqb, eqb-true}
use Rattle.tx_base.specs.Slots.{slot_at}
use Rattle.tx_base.specs.declared.names.Pid.{Pid}
use Rattle.tx_change.specs.Counts.{AreNameless, counted_in, desc_changes}
use Rattle.tx_change.specs.Exchange.{applied, sizes_of, IsPid, AreNamed}
use Rattle.tx_change.specs.Laws.{HasPlaces, BringPlaces, revised_by}
use Rattle.tx_change.specs.Own.{AreOf}
use Rattle.tx_change.specs.States.{state_of, changed_by}
use Rattle.tx_change.specs.declared.change.Change.{Change}
use Rattle.tx_change.specs.declared.change.Change.TheVariants.{Slot}
use Rattle.tx_change.specs.declared.parts.Parts.{Parts}
use Rattle.tx_desc.specs.Counts.{KeepsCounts}
use Rattle.tx_desc.specs.Descriptions.{HasDescs}
use Rattle.tx_desc.specs.Plans.{AreNumbers, put_descs}
use Rattle.tx_desc.specs.declared.plans.NewDesc.{NewDesc}
use Rattle.tx_kernel.proofs.OwnPlans.{own_named, own_brings, own_among, held_quiet}
use Rattle.tx_kernel.specs.Actors.{me_of, IsActor, CountsHeld}
use Rattle.tx_kernel.specs.Laws.{PlanLaws}
use Rattle.tx_kernel.specs.Plans.{Plans, Gives, AreAmong, quiet}
use Rattle.tx_kernel.specs.declared.actor.Actor.{Actor}
use Rattle.tx_kernel.specs.declared.planned.Outcome.TheVariants.{Done}
use Rattle.tx_kernel.specs.declared.planned.Planned.{Planned}
use Rattle.tx_model.specs.Effects.{Effect, with_answer}
use Rattle.tx_model.specs.Words.{answer_effect_with}
use Rattle.tx_model.specs.State.{Object, Proc as TheProc, Desc, Pipe as ThePipe, Held, Process, Sending, State, SetProc, has_object, write_one, with_writes}
use Rattle.tx_model.specs.StateLaws.{EqualAt}
use Rattle.tx_model.specs.StateLaws.{put_there, state_ext}
use Rattle.tx_proc.specs.Parts.{process_in}
use Rattle.tx_proc.specs.declared.proc.Proc.{Proc}

-- a rule that does and names the same has the same plans
pub plans_same : (actor : Actor) (before now : List Change) (planned : Planned) (rule other : State → Effect) (objects others : State → List Object) →
    ((held : ℕ → List Sending) → CountsHeld actor.inside held → rule (state_of held actor.parts.now) ≡ other (state_of held actor.parts.now)) →
    ((held : ℕ → List Sending) → objects (state_of held actor.parts.now) ≡ others (state_of held actor.parts.now)) →
    Plans actor before now planned rule objects → Plans actor before now planned other others
plans_same actor before now planned rule other objects others does names plans = record {
  plan = plans.plan;
  added = plans.added;
  named = plans.named;
  counts = plans.counts;
  brings = plans.brings;
  gives = λ held counted. subst (λ (effect : Effect). Gives actor (applied actor.parts.now plans.plan) planned held effect) (does held counted) (plans.gives held counted);
  shown = plans.shown;
  seen = plans.seen;
  among = λ held. subst (λ (os : List Object). AreAmong (TheProc actor.pid.0 ∷ os) plans.plan) (names held) (plans.among held);
}

-- planned descriptions alone

pub descs_applied : (parts : Parts) (descs : List NewDesc) → applied parts (desc_changes descs) ≡ record parts { descs = put_descs descs parts.descs }
descs_applied parts [] = refl
descs_applied parts (new ∷ descs) = descs_applied (record parts { descs = slice_set parts.descs new.number.0 new.opened }) descs

pub descs_bring : (descs : List NewDesc) (behind : List Change) → BringPlaces behind → BringPlaces (desc_changes descs ++ behind)
descs_bring [] behind b = b
descs_bring (new ∷ descs) behind b = (tt, descs_bring descs behind b)

pub descs_named : (laws : PlanLaws) (parts : Parts) (pid : Pid) (descs : List NewDesc) → IsPid (sizes_of parts) pid.0 → length parts.descs ≡ 64 → AreNumbers descs →
    AreNamed parts (desc_changes descs)
descs_named laws parts pid descs number sized numbers = (laws.plans parts pid [] descs number sized tt numbers).0

-- the state that they leave has other descriptions alone
pub descs_state : (laws : PlanLaws) (held : ℕ → List Sending) (parts : Parts) (descs : List NewDesc) → AreNamed parts (desc_changes descs) →
    changed_by (desc_changes descs) (state_of held parts) ≡ state_of held (record parts { descs = put_descs descs parts.descs })
descs_state laws held parts descs named =
    sym (laws.changes held parts (desc_changes descs) named) ∙ ap (λ (p : Parts). state_of held p) (descs_applied parts descs)

-- descriptions that differ in their counts alone are the same to the state
abbrev pub StaySame : Parts → List NewDesc → Type 0
StaySame parts descs = (S : State) → HasDescs S parts.descs → HasDescs S (put_descs descs parts.descs)

same_state : (laws : PlanLaws) (held : ℕ → List Sending) (parts : Parts) (descs : List NewDesc) → AreNamed parts (desc_changes descs) → StaySame parts descs →
    changed_by (desc_changes descs) (state_of held parts) ≡ state_of held parts
same_state laws held parts descs named same =
    descs_state laws held parts descs named ∙ state_ext (state_of held (record parts { descs = put_descs descs parts.descs })) (state_of held parts) refl at
  where
    at : (o : Object) → EqualAt (state_of held (record parts { descs = put_descs descs parts.descs })) (state_of held parts) o
    at (TheProc n) = refl
    at (Desc d) = sym (same (state_of held parts) (λ e. refl) d)
    at (ThePipe n) = refl
    at (Held n) = refl

-- two processes of different numbers may be written in either order
pub writes_swap : (S : State) (n m : ℕ) (x y : Option Process) → n ≢ m →
    write_one (SetProc n x) (write_one (SetProc m y) S) ≡ write_one (SetProc m y) (write_one (SetProc n x) S)
writes_swap S n m x y apart = state_ext (write_one (SetProc n x) (write_one (SetProc m y) S)) (write_one (SetProc m y) (write_one (SetProc n x) S)) refl at
  where
    by : (q : ℕ) (a b : Bool) → (q == n) ≡ a → (q == m) ≡ b →
        (if a then x else (if b then y else S.procs q)) ≡ (if b then y else (if a then x else S.procs q))
    by q true true e f = absurd (apart (sym (eqb-true q n e) ∙ eqb-true q m f))
    by q true false e f = refl
    by q false b e f = refl

    at : (o : Object) → EqualAt (write_one (SetProc n x) (write_one (SetProc m y) S)) (write_one (SetProc m y) (write_one (SetProc n x) S)) o
    at (TheProc q) = by q (q == n) (q == m) refl refl
    at (Desc d) = refl
    at (ThePipe k) = refl
    at (Held k) = refl

-- each planned description is one of the objects
abbrev pub AreDescsAmong : List Object → List NewDesc → Type 0
AreDescsAmong objects [] = Unit {0}
AreDescsAmong objects (new ∷ descs) = (has_object (Desc new.number.0) objects ≡ true) × AreDescsAmong objects descs

pub descs_among : (objects : List Object) (descs : List NewDesc) (behind : List Change) → AreDescsAmong objects descs → AreAmong objects behind → AreAmong objects (desc_changes descs ++ behind)
descs_among objects [] behind first last = last
descs_among objects (new ∷ descs) behind first last = (first.0, descs_among objects descs behind first.1 last)

-- the other process is the second object
pub second-first : (p c : ℕ) (more : List Object) → has_object (TheProc c) (TheProc p ∷ TheProc c ∷ more) ≡ true
unfolding has_object
second-first p c more = by (c == p)
  where
    by : (b : Bool) → (if b then true else (if c == c then true else has_object (TheProc c) more)) ≡ true
    by true = refl
    by false = rw (eq-eqb c c refl) refl

-- what such a plan has
pub record Beside (actor : Actor) (descs : List NewDesc) (other : Pid) (slot : Option Proc) (mine : List Change) : Type 0 where
  pub sized : length actor.parts.now.descs ≡ 64
  pub numbers : AreNumbers descs
  pub same : StaySame actor.parts.now descs
  pub number : IsPid (sizes_of actor.parts.now) other.0
  pub apart : other.0 ≢ actor.pid.0
  pub places : HasPlaces slot
  pub keeps : KeepsCounts (counted_in (slot_at actor.parts.now.procs other.0)) (counted_in slot) actor.parts.now.descs (put_descs descs actor.parts.now.descs)
  pub own : AreOf actor.pid.0 mine
  pub nameless : AreNameless mine

-- the state after it
beside_state : (laws : PlanLaws) (actor : Actor) (descs : List NewDesc) (other : Pid) (slot : Option Proc) (own : List Change) (held : ℕ → List Sending) →
    IsActor actor → Beside actor descs other slot own → AreNamed actor.parts.now (desc_changes descs ++ Slot other slot ∷ own) →
    state_of held (applied actor.parts.now (desc_changes descs ++ Slot other slot ∷ own))
    ≡ write_one (SetProc other.0 (process_in slot)) (write_one (SetProc actor.pid.0 (Some (revised_by own (me_of actor)))) (state_of held actor.parts.now))
beside_state laws actor descs other slot own held is beside named =
    let parts : Parts = actor.parts.now in
    let S : State = state_of held parts in
    let R : State = write_one (SetProc other.0 (process_in slot)) S in
    let p : ℕ = actor.pid.0 in
    let me : Process = me_of actor in
    let here : R.procs p ≡ Some me
    = put_there S.procs other.0 (process_in slot) p (λ z. beside.apart (sym z)) ∙ ap process_in is.there in
    laws.changes held parts (desc_changes descs ++ Slot other slot ∷ own) named
    ∙ laws.changed S (desc_changes descs) (Slot other slot ∷ own)
    ∙ ap (changed_by (Slot other slot ∷ own)) (same_state laws held parts descs (descs_named laws parts other descs beside.number beside.sized beside.numbers) beside.same)
    ∙ laws.process p own R beside.own
    ∙ ap (λ (x : Option Process). write_one (SetProc p (option_map (revised_by own) x)) R) here
    ∙ writes_swap S p other.0 (Some (revised_by own me)) (process_in slot) (λ z. beside.apart (sym z))

pub beside_plans : (laws : PlanLaws) (actor : Actor) (before now : List Change) (descs : List NewDesc) (other : Pid) (slot : Option Proc) (own : List Change) (r : ℤ) (new : Process)
    (objects : State → List Object) → IsActor actor → Beside actor descs other slot own → now ≡ before ++ (desc_changes descs ++ Slot other slot ∷ own) →
    revised_by own (me_of actor) ≡ with_answer r new →
    ((held : ℕ → List Sending) → AreDescsAmong (TheProc actor.pid.0 ∷ objects (state_of held actor.parts.now)) descs) →
    ((held : ℕ → List Sending) → has_object (TheProc other.0) (TheProc actor.pid.0 ∷ objects (state_of held actor.parts.now)) ≡ true) →
    Plans actor before now (quiet (Done r)) (λ S. answer_effect_with (SetProc other.0 (process_in slot) ∷ []) actor.pid.0 r new) objects
unfolding with_writes
beside_plans laws actor before now descs other slot own r new objects is beside added process among there =
    let parts : Parts = actor.parts.now in
    let n : ℕ = actor.pid.0 in
    let last : List Change = Slot other slot ∷ own in
    let plan : List Change = desc_changes descs ++ last in
    let named-own : AreNamed parts own = own_named parts n own is.number beside.own in
    let named : AreNamed parts plan
    = laws.named parts (desc_changes descs) last (descs_named laws parts other descs beside.number beside.sized beside.numbers) (beside.number, named-own) in
    record {
      plan = plan;
      added = added;
      named = named;
      counts = laws.replaced parts other slot descs own beside.number beside.sized beside.numbers named-own beside.nameless is.whole.counts beside.keeps;
      brings = descs_bring descs last (beside.places, own_brings n own beside.own);
      gives = λ held counted. record {
        state = sym (ap (λ (h : ℕ → List Sending). state_of h (applied parts plan)) (held_quiet actor.inside (Done r) held) ∙ beside_state laws actor descs other slot own held is beside named
            ∙ ap (λ (q : Process). write_one (SetProc other.0 (process_in slot)) (write_one (SetProc n (Some q)) (state_of held parts))) process);
        sends = refl;
        conclusion = refl;
      };
      shown = tt;
      seen = tt;
      among = λ held. descs_among (TheProc n ∷ objects (state_of held parts)) descs last (among held) (there held, own_among n (objects (state_of held parts)) own beside.own);
    }
