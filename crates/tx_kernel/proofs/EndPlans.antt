-- The plan of the end of a process: its numbers, its counts, its places and its objects.
use Rattle.std.proofs.Common.{◌≡◌, ◌≢◌, ◌⊎◌, ◌<◌, ◌≤◌, ◌+◌, ℕ, zero, suc, Bool, true, false, List, [], ◌∷◌, ◌++◌, length, Option, Some, None, IsSome, is_some, ◌==◌, if◌then◌else◌, nat_lt, get_or, refl, ap, sym, subst, ◌∙◌, arith, append_assoc, eq-eqb}
use Rattle.std.proofs.lemmas.Bool.{lt-ltb, ltb-true, ltb-false}
use Rattle.std.proofs.lemmas.List.{get_or_past}
use Rattle.tx_base.specs.Slots.{slot_at}
use Rattle.tx_base.specs.declared.names.Sending.{Sending as TheSending}
use Rattle.tx_change.specs.Counts.{AreNameless, counted_in, desc_changes, slot_after}
use Rattle.tx_change.specs.Exchange.{applied, sizes_of, IsPid, AreNamed}
use Rattle.tx_change.specs.Laws.{HasPlaces, BringPlaces}
use Rattle.tx_change.specs.States.{state_of}
use Rattle.tx_change.specs.declared.change.Change.{Change}
use Rattle.tx_change.specs.declared.change.Change.TheVariants.{Slot, Pipe}
use Rattle.tx_change.specs.declared.parts.Parts.{Parts}
use Rattle.tx_change.specs.declared.pipes.PipePart.TheVariants.{Whole}
use Rattle.tx_desc.specs.Counts.{Agrees, HasNamed, KeepsCounts, others_of}
use Rattle.tx_desc.specs.Descriptions.{HasDescs, described}
use Rattle.tx_desc.specs.Outcomes.{RunsWith}
use Rattle.tx_desc.specs.Places.{Descriptors}
use Rattle.tx_desc.specs.Plans.{AreNumbers, IsOnceEach, put_descs}
use Rattle.tx_desc.specs.declared.opened.Opened.{Opened}
use Rattle.tx_desc.specs.declared.plans.NewDesc.{NewDesc}
use Rattle.tx_kernel.proofs.Beside.{descs_among, descs_bring, descs_named}
use Rattle.tx_kernel.proofs.EndStates.{pipes_same, unnamed_each}
use Rattle.tx_kernel.proofs.Ended.{children_are, ended_alone, ended_plan, ending_state, orphans_of, others_changed, pipes_left}
use Rattle.tx_kernel.proofs.Forked.{listed-among, open-has, planned-named}
use Rattle.tx_kernel.proofs.OwnPlans.{brings_append}
use Rattle.tx_kernel.proofs.Whole.{HasPipe, not_own_parent, whole_piped}
use Rattle.tx_kernel.specs.Actors.{me_of, inside_of, IsActor, caller_of, effect_by, names_by}
use Rattle.tx_kernel.specs.Endings.{OnlyRemoves, gone_changes, orphan_changes, plain, plain_with}
use Rattle.tx_kernel.proofs.EndSeen.{descs_slot, gone_slot, orphans_seen, slot_after-append}
use Rattle.tx_kernel.proofs.PostPlans.{seen_now}
use Rattle.tx_kernel.specs.Posts.{IsSeen}
use Rattle.tx_kernel.specs.Laws.{PlanLaws}
use Rattle.tx_kernel.specs.Plans.{LeavesTarget, Plans, AreAmong, held_after, sending_of, sent_at_once}
use Rattle.tx_kernel.specs.declared.actor.Actor.{Actor}
use Rattle.tx_kernel.specs.declared.planned.Outcome.TheVariants.{Ended}
use Rattle.tx_kernel.specs.declared.planned.Sends.{Sends}
use Rattle.tx_kernel.specs.declared.planned.Sends.TheVariants.{Nothing, AtOnce, AtCommit}
use Rattle.tx_model.specs.Descriptors.{desc_objects, has_description, open_in, pipe_of, pipes_of, description_removals}
use Rattle.tx_model.specs.Words.{pipe_list}
use Rattle.tx_model.specs.Processes as rules
use Rattle.tx_model.specs.Processes.{children_below, children_of, ended_process, ending, ending_objects, held_objects, procs_of, NotTold, parent_notice, Notice, notice_now, notice_held}
use Rattle.tx_model.specs.State.{Description, Object, Proc as TheProc, Desc, Pipe as ThePipe, Process, Sending, State, SetProc, has_object, has_parent, is_between, same_object, write_one, with_writes}
use Rattle.tx_model.specs.Forms.{does}
use Rattle.tx_proc.specs.Laws.{IsSized}
use Rattle.tx_proc.specs.Parts.{process_of, process_in}
use Rattle.tx_proc.specs.declared.proc.Proc.{Proc}

-- the numbers are ones that there are

orphans_named : (parts : Parts) (p n : ℕ) → n ≤ length parts.procs + 1 → AreNamed parts (orphan_changes (children_below p n (plain parts)))
unfolding children_below
orphans_named parts p zero inside = tt
orphans_named parts p (suc zero) inside = tt
orphans_named parts p (suc (suc q)) inside = by (orphans_named parts p (suc q) (omega arith)) (has_parent p (process_in (slot_at parts.procs (suc q))))
  where
    number : IsPid (sizes_of parts) (suc q)
    number = record { low = omega arith; high = omega arith }

    rest : List ℕ
    rest = children_below p (suc q) (plain parts)

    by : AreNamed parts (orphan_changes rest) → (b : Bool) → AreNamed parts (orphan_changes (if b then suc q ∷ rest else rest))
    by named true = ((number, tt), named)
    by named false = named

-- each number is below the limit
abbrev pub AreBelow : ℕ → List ℕ → Type 0
AreBelow limit [] = Unit {0}
AreBelow limit (k ∷ ks) = (k < limit) × AreBelow limit ks

place_below : (pipes : List (Option (List ℕ))) (k : ℕ) → IsSome (get_or pipes k None) → k < length pipes
place_below pipes k there = by (nat_lt k (length pipes)) refl
  where
    by : (b : Bool) → nat_lt k (length pipes) ≡ b → k < length pipes
    by true is = ltb-true k (length pipes) is
    by false is =
        let past = get_or_past pipes k None (ltb-false k (length pipes) is) in
        let none : false ≡ true = ap is_some (sym past) ∙ there in
        cc

pipes_below : (parts : Parts) (ds : List ℕ) → ((d : ℕ) → HasPipe parts.pipes (get_or parts.descs d None)) → AreBelow (length parts.pipes) (pipes_of ds (plain parts))
unfolding pipes_of
pipes_below parts [] piped = tt
pipes_below parts (d ∷ ds) piped = by (pipes_below parts ds piped) (get_or parts.descs d None) (piped d)
  where
    by : AreBelow (length parts.pipes) (pipes_of ds (plain parts)) → (place : Option Opened) → HasPipe parts.pipes place →
        AreBelow (length parts.pipes) (pipe_of (described place) ++ pipes_of ds (plain parts))
    by rest None there = rest
    by rest (Some opened) there = (place_below parts.pipes opened.desc.pipe.0 there, rest)

gone_named : (parts : Parts) (ks : List ℕ) (R : State) → AreBelow (length parts.pipes) ks → AreNamed parts (gone_changes ks R)
unfolding gone_changes
gone_named parts [] R below = tt
gone_named parts (k ∷ ks) R below = by (gone_named parts ks R below.1) (has_description k R)
  where
    by : AreNamed parts (gone_changes ks R) → (b : Bool) → AreNamed parts (if b then gone_changes ks R else Pipe (record { 0 = k }) (Whole None) ∷ gone_changes ks R)
    by rest true = rest
    by rest false = (below.0, rest)

-- they name nothing, and bring no process

nameless_both : (front behind : List Change) → AreNameless front → AreNameless behind → AreNameless (front ++ behind)
nameless_both [] behind first last = last
nameless_both (change ∷ front) behind first last = (first.0, nameless_both front behind first.1 last)

orphans_nameless : (qs : List ℕ) → AreNameless (orphan_changes qs)
orphans_nameless [] = tt
orphans_nameless (q ∷ qs) = (tt, orphans_nameless qs)

gone_nameless : (ks : List ℕ) (R : State) → AreNameless (gone_changes ks R)
unfolding gone_changes
gone_nameless [] R = tt
gone_nameless (k ∷ ks) R = by (gone_nameless ks R) (has_description k R)
  where
    by : AreNameless (gone_changes ks R) → (b : Bool) → AreNameless (if b then gone_changes ks R else Pipe (record { 0 = k }) (Whole None) ∷ gone_changes ks R)
    by rest true = rest
    by rest false = (tt, rest)

orphans_bring : (qs : List ℕ) → BringPlaces (orphan_changes qs)
orphans_bring [] = tt
orphans_bring (q ∷ qs) = (tt, orphans_bring qs)

gone_bring : (ks : List ℕ) (R : State) → BringPlaces (gone_changes ks R)
unfolding gone_changes
gone_bring [] R = tt
gone_bring (k ∷ ks) R = by (gone_bring ks R) (has_description k R)
  where
    by : BringPlaces (gone_changes ks R) → (b : Bool) → BringPlaces (if b then gone_changes ks R else Pipe (record { 0 = k }) (Whole None) ∷ gone_changes ks R)
    by rest true = rest
    by rest false = (tt, rest)

-- each is one of the objects

has-front : (o : Object) (front behind : List Object) → has_object o front ≡ true → has_object o (front ++ behind) ≡ true
unfolding has_object
has-front o [] behind there = cc
has-front o (x ∷ front) behind there = by (λ rest. has-front o front behind rest) (same_object o x) there
  where
    by : (has_object o front ≡ true → has_object o (front ++ behind) ≡ true) → (b : Bool) → (if b then true else has_object o front) ≡ true → (if b then true else has_object o (front ++ behind)) ≡ true
    by rest true is = refl
    by rest false is = rest is

has-behind : (o : Object) (front behind : List Object) → has_object o behind ≡ true → has_object o (front ++ behind) ≡ true
unfolding has_object
has-behind o [] behind there = there
has-behind o (x ∷ front) behind there = by (has-behind o front behind there) (same_object o x)
  where
    by : has_object o (front ++ behind) ≡ true → (b : Bool) → (if b then true else has_object o (front ++ behind)) ≡ true
    by rest true = refl
    by rest false = rest

has-next : (o x : Object) (objects : List Object) → has_object o objects ≡ true → has_object o (x ∷ objects) ≡ true
has-next o x objects there = has-behind o (x ∷ []) objects there

among_both : (objects : List Object) (front behind : List Change) → AreAmong objects front → AreAmong objects behind → AreAmong objects (front ++ behind)
among_both objects [] behind first last = last
among_both objects (change ∷ front) behind first last = (first.0, among_both objects front behind first.1 last)

orphans_among : (objects : List Object) (qs : List ℕ) → ((o : Object) → has_object o (procs_of qs) ≡ true → has_object o objects ≡ true) → AreAmong objects (orphan_changes qs)
unfolding has_object
orphans_among objects [] all = tt
orphans_among objects (q ∷ qs) all = (
  all (TheProc q) (rw (eq-eqb q q refl) refl),
  orphans_among objects qs (λ o there. all o (has-next o (TheProc q) (procs_of qs) there)),
)

gone_among : (objects : List Object) (ks : List ℕ) (R : State) → ((o : Object) → has_object o (pipe_list ks) ≡ true → has_object o objects ≡ true) → AreAmong objects (gone_changes ks R)
unfolding has_object gone_changes
gone_among objects [] R all = tt
gone_among objects (k ∷ ks) R all =
    by (all (ThePipe k) (rw (eq-eqb k k refl) refl)) (gone_among objects ks R (λ o there. all o (has-next o (ThePipe k) (pipe_list ks) there))) (has_description k R)
  where
    by : has_object (ThePipe k) objects ≡ true → AreAmong objects (gone_changes ks R) → (b : Bool) →
        AreAmong objects (if b then gone_changes ks R else Pipe (record { 0 = k }) (Whole None) ∷ gone_changes ks R)
    by here rest true = rest
    by here rest false = (here, rest)

-- the process that has ended

ended_sized : (new : Proc) (status : ℕ) (me : Process) → process_of new ≡ ended_process status me → IsSized new
ended_sized new status me is = record {
  slots = ap (λ (q : Process). length q.registers.slots) is;
  pages = ap (λ (q : Process). length q.memory) is;
  descriptors = ap (λ (q : Process). length q.descriptors) is;
  actions = ap (λ (q : Process). length q.actions) is;
}

ended_counted : (new : Proc) (status : ℕ) (me : Process) → process_of new ≡ ended_process status me → counted_in (Some new) ≡ []
ended_counted new status me is = ap (λ (q : Process). if is_some q.status then [] else q.descriptors) is

running_counted : (actor : Actor) → IsActor actor → counted_in (slot_at actor.parts.now.procs actor.pid.0) ≡ actor.proc.now.descriptors
running_counted actor is = ap counted_in is.there ∙ ap (λ (x : Option ℕ). if is_some x then [] else actor.proc.now.descriptors) is.runs

-- the process in the state

number-between : (w n : ℕ) → 1 ≤ n → n ≤ w → is_between w n ≡ true
number-between w zero low high = absurd (omega arith)
number-between w (suc n) low high = lt-ltb n w (omega arith)

pub runs_with : (actor : Actor) (held : ℕ → List Sending) → IsActor actor → RunsWith actor.pid.0 (me_of actor) (state_of held actor.parts.now) actor.proc.now.descriptors
runs_with actor held is = record {
  sized = λ n q there. sized q (slot_at actor.parts.now.procs n) (is.whole.places n) there;
  within = let low = is.number.low in let high = is.number.high in number-between (length actor.parts.now.procs) actor.pid.0 low high;
  there = ap process_in is.there;
  runs = is.runs;
  has_table = refl;
}
  where
    sized : (q : Process) (slot : Option Proc) → HasPlaces slot → process_in slot ≡ Some q → length q.descriptors ≡ 16
    sized q None places there = cc
    sized q (Some proc) places there = let same : process_of proc ≡ q = cc in ap (λ (x : Process). length x.descriptors) (sym same) ∙ places.descriptors

-- what a state names once a process has ended
abbrev pub EndedNames : Type 0
EndedNames = (p : ℕ) (me new : Process) (S : State) (table : Descriptors) → RunsWith p me S table → length new.descriptors ≡ 16 → IsSome new.status →
    HasNamed (write_one (SetProc p (Some new)) S) (others_of p S)

-- what a plan of the names of a process that ends has
pub record DropsAll (actor : Actor) (descs : List NewDesc) : Type 0 where
  pub counts : KeepsCounts actor.proc.now.descriptors [] actor.parts.now.descs (put_descs descs actor.parts.now.descs)
  pub descriptions : (others : List Descriptors) (S : State) → Agrees (actor.proc.now.descriptors ∷ others) actor.parts.now.descs → HasDescs S actor.parts.now.descs → HasNamed S others →
      HasDescs (with_writes (description_removals (open_in actor.proc.now.descriptors) S) S) (put_descs descs actor.parts.now.descs)
  pub once : IsOnceEach actor.proc.now.descriptors descs
  pub numbers : AreNumbers descs

left_descs : (laws : PlanLaws) (names : EndedNames) (actor : Actor) (status : ℕ) (descs : List NewDesc) (held : ℕ → List Sending) → IsActor actor → DropsAll actor descs →
    HasDescs (with_writes (description_removals (open_in actor.proc.now.descriptors) (ended_alone actor status (state_of held actor.parts.now))) (ended_alone actor status (state_of held actor.parts.now)))
    (put_descs descs actor.parts.now.descs)
left_descs laws names actor status descs held is drops =
    let parts : Parts = actor.parts.now in
    let S : State = state_of held parts in
    let p : ℕ = actor.pid.0 in
    let table : Descriptors = actor.proc.now.descriptors in
    drops.descriptions (others_of p S) (ended_alone actor status S)
    (laws.others held parts p table is.number is.whole.counts (actor.proc.now, is.there, is.runs, refl)) (λ d. refl)
    (names p (me_of actor) (ended_process status (me_of actor)) S table (runs_with actor held is) refl refl)

pub only_removes : (laws : PlanLaws) (names : EndedNames) (actor : Actor) (status : ℕ) (descs : List NewDesc) → IsActor actor → DropsAll actor descs →
    OnlyRemoves descs actor.parts.now.descs
only_removes laws names actor status descs is drops =
    let S : State = ended_alone actor status (plain actor.parts.now) in
    let ds : List ℕ = open_in actor.proc.now.descriptors in
    let has = left_descs laws names actor status descs (λ starter. []) is drops in
    record { each = λ d. subst (λ (x : Option Description). (x ≡ S.descs d) ⊎ (x ≡ None)) (has d) (unnamed_each ds S S d) }

-- the whole plan

plan_among : (actor : Actor) (status : ℕ) (descs : List NewDesc) (new : Proc) (held : ℕ → List Sending) → actor.pid.0 ≢ 1 → DropsAll actor descs →
    AreAmong (TheProc actor.pid.0 ∷ ending_objects (caller_of actor (state_of held actor.parts.now))) (ended_plan actor descs new)
unfolding has_object
plan_among actor status descs new held other drops =
    let p : ℕ = actor.pid.0 in
    let S : State = state_of held actor.parts.now in
    let ds : List ℕ = open_in actor.proc.now.descriptors in
    let front : List Object = desc_objects ds in
    let pipes : List Object = pipe_list (pipes_of ds S) in
    let procs : List Object = procs_of (children_of p S) in
    let last : List Object = held_objects (inside_of actor.inside) in
    let objects : List Object = TheProc p ∷ (((front ++ pipes) ++ procs) ++ last) in
    let children : procs_of (orphans_of actor) ≡ procs = ap procs_of (sym (children_are actor held other)) in
    let left : pipe_list (pipes_left actor) ≡ pipes = ap pipe_list (sym (pipes_same ds S (plain actor.parts.now) (λ d. refl))) in
    descs_among objects descs (Slot actor.pid (Some new) ∷ others_changed actor descs)
    (listed-among objects descs (λ d some.
    has-next (Desc d) (TheProc p) (((front ++ pipes) ++ procs) ++ last) (has-front (Desc d) ((front ++ pipes) ++ procs) last (has-front (Desc d) (front ++ pipes) procs
    (has-front (Desc d) front pipes (open-has d actor.proc.now.descriptors (planned-named actor.proc.now.descriptors descs d drops.once some))))))) (
      rw (eq-eqb p p refl) refl,
      among_both objects (orphan_changes (orphans_of actor)) (gone_changes (pipes_left actor) (plain_with descs actor.parts.now))
          (orphans_among objects (orphans_of actor) (λ o there.
          has-next o (TheProc p) (((front ++ pipes) ++ procs) ++ last) (has-front o ((front ++ pipes) ++ procs) last (has-behind o (front ++ pipes) procs
          (subst (λ (os : List Object). has_object o os ≡ true) children there)))))
          (gone_among objects (pipes_left actor) (plain_with descs actor.parts.now) (λ o there.
          has-next o (TheProc p) (((front ++ pipes) ++ procs) ++ last) (has-front o ((front ++ pipes) ++ procs) last (has-front o (front ++ pipes) procs
          (has-behind o front pipes (subst (λ (os : List Object). has_object o os ≡ true) left there)))))),
    )

-- the signal to the parent, by what is told at once
told_once : (parent_notice : Notice) (parent : ℕ) (m : TheSending) → notice_now parent_notice parent ≡ sending_of m ∷ [] → (m.target.0 ≡ parent) × (m.signo.0 ≡ 17)
told_once parent_notice parent m e = by parent_notice e
  where
    first_target : List Sending → ℕ
    first_target [] = parent
    first_target (x ∷ xs) = x.target

    first_signo : List Sending → ℕ
    first_signo [] = 17
    first_signo (x ∷ xs) = x.signo

    by : (t : Notice) → notice_now t parent ≡ sending_of m ∷ [] → (m.target.0 ≡ parent) × (m.signo.0 ≡ 17)
    by NotTold e = (sym (ap first_target e), sym (ap first_signo e))
    by rules.AtOnce e = (sym (ap first_target e), sym (ap first_signo e))
    by (rules.AtCommit s) e = (sym (ap first_target e), sym (ap first_signo e))

-- the end leaves of the parent what a post sees
ending_seen : (laws : PlanLaws) (actor : Actor) (descs : List NewDesc) (new : Proc) (sends : Sends) → IsActor actor → AreNamed actor.parts.now (ended_plan actor descs new) →
    notice_now (parent_notice (inside_of actor.inside) (me_of actor).parent) (me_of actor).parent ≡ sent_at_once sends →
    LeavesTarget actor.parts.now sends (applied actor.parts.now (ended_plan actor descs new))
ending_seen laws actor descs new Nothing is named told = tt
ending_seen laws actor descs new (AtCommit m) is named told = tt
ending_seen laws actor descs new (AtOnce m) is named told =
    let parts : Parts = actor.parts.now in
    let parent : ℕ = (me_of actor).parent in
    let sent = told_once (parent_notice (inside_of actor.inside) parent) parent m told in
    let slot : Option Proc = slot_at parts.procs parent in
    let orphans : List Change = orphan_changes (orphans_of actor) in
    let gone : List Change = gone_changes (pipes_left actor) (plain_with descs parts) in
    let other : (parent == actor.pid.0) ≡ false
    = not_own_parent actor is in
    let stays : slot_after parent (Slot actor.pid (Some new) ∷ (orphans ++ gone)) slot ≡ slot_after parent (orphans ++ gone) slot
    = ap (λ (b : Bool). slot_after parent (orphans ++ gone) (if b then Some new else slot)) other in
    let left : slot_at (applied parts (ended_plan actor descs new)).procs parent ≡ slot_after parent orphans slot
    = laws.slots parts (ended_plan actor descs new) parent named ∙ descs_slot parent descs (Slot actor.pid (Some new) ∷ (orphans ++ gone)) slot ∙ stays
    ∙ slot_after-append parent orphans gone slot ∙ gone_slot parent (pipes_left actor) (plain_with descs parts) (slot_after parent orphans slot) in
    let seen : IsSeen slot (process_in (slot_at (applied parts (ended_plan actor descs new)).procs parent))
    = subst (λ (now : Option Proc). IsSeen slot (process_in now)) (sym left) (orphans_seen parent (orphans_of actor) slot slot (seen_now slot)) in (
      omega (arith, sent.1),
      subst (λ (n : ℕ). IsSeen (slot_at parts.procs n) (process_in (slot_at (applied parts (ended_plan actor descs new)).procs n))) (sym sent.0) seen,
    )

pub ending_plans : (laws : PlanLaws) (names : EndedNames) (actor : Actor) (status : ℕ) (descs : List NewDesc) (new : Proc) (sends : Sends) (before first second third now : List Change) →
    length actor.parts.now.descs ≡ 64 → IsActor actor → actor.pid.0 ≢ 1 → DropsAll actor descs → process_of new ≡ ended_process status (me_of actor) →
    first ≡ before ++ desc_changes descs → second ≡ first ++ Slot actor.pid (Some new) ∷ [] → third ≡ second ++ orphan_changes (orphans_of actor) →
    now ≡ third ++ gone_changes (pipes_left actor) (plain_with descs actor.parts.now) →
    notice_now (parent_notice (inside_of actor.inside) (me_of actor).parent) (me_of actor).parent ≡ sent_at_once sends →
    ((S : State) → with_writes (notice_held (parent_notice (inside_of actor.inside) (me_of actor).parent) (me_of actor).parent S) S ≡ record S { held = held_after (inside_of actor.inside) sends S.held }) →
    Plans actor before now (record { outcome = Ended; sends = sends }) (effect_by actor (λ c. does (ending status c)))
    (names_by actor ending_objects)
ending_plans laws names actor status descs new sends before first second third now sized is other drops copy one two three four at_once at_commit =
    let parts : Parts = actor.parts.now in
    let orphans : List Change = orphan_changes (orphans_of actor) in
    let gone : List Change = gone_changes (pipes_left actor) (plain_with descs parts) in
    let slot : List Change = Slot actor.pid (Some new) ∷ [] in
    let front : List Change = desc_changes descs in
    let named-descs : AreNamed parts front = descs_named laws parts actor.pid descs is.number sized drops.numbers in
    let named-others : AreNamed parts (orphans ++ gone)
    = laws.named parts orphans gone (orphans_named parts actor.pid.0 (length parts.procs + 1) (omega arith))
    (gone_named parts (pipes_left actor) (plain_with descs parts) (pipes_below parts (open_in actor.proc.now.descriptors) (whole_piped parts is.whole))) in
    let named : AreNamed parts (ended_plan actor descs new) = laws.named parts front (slot ++ (orphans ++ gone)) named-descs (is.number, named-others) in
    let nameless : AreNameless (orphans ++ gone)
    = nameless_both orphans gone (orphans_nameless (orphans_of actor)) (gone_nameless (pipes_left actor) (plain_with descs parts)) in
    let keeps : KeepsCounts (counted_in (slot_at parts.procs actor.pid.0)) (counted_in (Some new)) parts.descs (put_descs descs parts.descs)
    = subst (λ (x : Descriptors). KeepsCounts x (counted_in (Some new)) parts.descs (put_descs descs parts.descs)) (sym (running_counted actor is))
    (subst (λ (x : Descriptors). KeepsCounts actor.proc.now.descriptors x parts.descs (put_descs descs parts.descs)) (sym (ended_counted new status (me_of actor) copy)) drops.counts) in
    record {
      plan = ended_plan actor descs new;
      added = four
          ∙ ap (λ (xs : List Change). xs ++ gone) (three ∙ ap (λ (xs : List Change). xs ++ orphans) (two ∙ ap (λ (xs : List Change). xs ++ slot) one))
          ∙ append_assoc ((before ++ front) ++ slot) orphans gone
          ∙ append_assoc (before ++ front) slot (orphans ++ gone)
          ∙ append_assoc before front (slot ++ (orphans ++ gone));
      named = named;
      counts = laws.replaced parts actor.pid (Some new) descs (orphans ++ gone) is.number sized drops.numbers named-others nameless is.whole.counts keeps;
      brings = descs_bring descs (slot ++ (orphans ++ gone)) (
        ended_sized new status (me_of actor) copy,
        brings_append orphans gone (orphans_bring (orphans_of actor)) (gone_bring (pipes_left actor) (plain_with descs parts)),
      );
      gives = λ held counted. record {
        state = ending_state laws actor status descs new sends held is other copy named-descs named (left_descs laws names actor status descs held is drops) at_commit;
        sends = at_once;
        conclusion = refl;
      };
      shown = tt;
      seen = ending_seen laws actor descs new sends is named at_once;
      among = λ held. plan_among actor status descs new held other drops;
    }
