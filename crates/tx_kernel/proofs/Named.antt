-- Plans of names, descriptions, pipes and parts of their own process, and what they make of the state.
use Rattle.std.proofs.Common.{◌≡◌, ℕ, ◌<◌, Bool, true, false, List, [], ◌∷◌, ◌++◌, length, option_map, if◌then◌else◌, ◌==◌, Option, Some, None, refl, ap, sym, subst, ◌∙◌, inl, inr, get_or, get_or-set_same, get_or-set_other, length-set, append_assoc}
use Rattle.std.proofs.Math.ListN.{set}
use Rattle.tx_base.specs.declared.names.Pid.{Pid}
use Rattle.tx_change.specs.Counts.{AreNameless, name_changes, desc_changes}
use Rattle.tx_change.specs.Exchange.{applied, AreNamed}
use Rattle.tx_change.specs.Laws.{revised_by, BringPlaces}
use Rattle.tx_change.specs.Own.{AreOf}
use Rattle.tx_change.specs.States.{state_of, changed_by, changed}
use Rattle.tx_change.specs.declared.change.Change.{Change}
use Rattle.tx_change.specs.declared.change.Change.TheVariants.{Slot, Part, Description, Pipe}
use Rattle.tx_change.specs.declared.parts.Parts.{Parts}
use Rattle.tx_desc.specs.Counts.{KeepsCounts}
use Rattle.tx_desc.specs.Descriptions.{HasDescs, described}
use Rattle.tx_desc.specs.Places.{number_in}
use Rattle.tx_desc.specs.Plans.{AreFds, AreNumbers, put_names, put_descs}
use Rattle.tx_desc.specs.declared.opened.Opened.{Opened}
use Rattle.tx_desc.specs.declared.plans.NewDesc.{NewDesc}
use Rattle.tx_desc.specs.declared.plans.NewName.{NewName}
use Rattle.tx_kernel.proofs.OwnPlans.{brings_append, own_brings, own_named, own_among}
use Rattle.tx_kernel.specs.Actors.{me_of, inside_of, CountsHeld, IsActor}
use Rattle.tx_kernel.specs.Laws.{PlanLaws}
use Rattle.tx_kernel.specs.Plans.{LeavesTarget, Plans, AreAmong, KeepsShown, conclusion_of, held_after, memory_in, sent_at_once}
use Rattle.tx_model.specs.Memory.{Memory}
use Rattle.tx_base.specs.Slots.{slot_at}
use Rattle.tx_kernel.specs.declared.actor.Actor.{Actor}
use Rattle.tx_kernel.specs.declared.planned.Planned.{Planned}
use Rattle.tx_model.specs.Effects.{Effect}
use Rattle.tx_model.specs.ObjectFacts.{has_tail}
use Rattle.tx_model.specs.Words.{before_sends}
use Rattle.tx_model.specs.State.{Object, Proc, Process, Sending, State, Write, SetProc, SetDesc, SetPipe, SetHeld, has_object, put_at, write_one, with_writes}
use Rattle.tx_model.specs.StateLaws.{put_cases, put_here}
use Rattle.tx_proc.specs.Parts.{process_in}

-- lists of changes of one kind

-- the changes are of pipes
abbrev pub ArePipes : List Change → Type 0
ArePipes [] = Unit {0}
ArePipes (Slot pid slot ∷ changes) = ⊥
ArePipes (Part pid part ∷ changes) = ⊥
ArePipes (Description number opened ∷ changes) = ⊥
ArePipes (Pipe number part ∷ changes) = ArePipes changes

names_own : (pid : Pid) (names : List NewName) → AreFds names → AreOf pid.0 (name_changes pid names)
names_own pid [] fds = tt
names_own pid (new ∷ names) fds = ((refl, fds.0), names_own pid names fds.1)

names_revised : (pid : Pid) (names : List NewName) (me : Process) →
    revised_by (name_changes pid names) me ≡ record me { descriptors = put_names names me.descriptors }
names_revised pid [] me = refl
names_revised pid (new ∷ names) me = names_revised pid names (record me { descriptors = set me.descriptors new.fd (number_in new.name) })

pipes_nameless : (pipes : List Change) → ArePipes pipes → AreNameless pipes
pipes_nameless [] are = tt
pipes_nameless (Slot pid slot ∷ pipes) are = absurd are
pipes_nameless (Part pid part ∷ pipes) are = absurd are
pipes_nameless (Description number opened ∷ pipes) are = absurd are
pipes_nameless (Pipe number part ∷ pipes) are = (tt, pipes_nameless pipes are)

nameless_append : (front behind : List Change) → AreNameless front → AreNameless behind → AreNameless (front ++ behind)
nameless_append [] behind f b = b
nameless_append (change ∷ front) behind f b = (f.0, nameless_append front behind f.1 b)

descs_bring : (descs : List NewDesc) → BringPlaces (desc_changes descs)
descs_bring [] = tt
descs_bring (new ∷ descs) = (tt, descs_bring descs)

pipes_bring : (pipes : List Change) → ArePipes pipes → BringPlaces pipes
pipes_bring [] are = tt
pipes_bring (Slot pid slot ∷ pipes) are = absurd are
pipes_bring (Part pid part ∷ pipes) are = absurd are
pipes_bring (Description number opened ∷ pipes) are = absurd are
pipes_bring (Pipe number part ∷ pipes) are = (tt, pipes_bring pipes are)

among_append : (os : List Object) (front behind : List Change) → AreAmong os front → AreAmong os behind → AreAmong os (front ++ behind)
among_append os [] behind f b = b
among_append os (change ∷ front) behind f b = (f.0, among_append os front behind f.1 b)

pub among_more : (x : Object) (os : List Object) (changes : List Change) → AreAmong os changes → AreAmong (x ∷ os) changes
among_more x os [] among = tt
among_more x os (change ∷ changes) among = (has_tail _ x os among.0, among_more x os changes among.1)

-- what they make of the state

desc_put : (S : State) (D : List (Option Opened)) (n : ℕ) (x : Option Opened) → n < length D → HasDescs S D →
    HasDescs (write_one (SetDesc n (described x)) S) (set D n x)
desc_put S D n x inside holds d = elim (put_cases S.descs n (described x) d) [
  | inl z ↦ z.1 ∙ ap described (sym (ap (λ (i : ℕ). get_or (set D n x) i None) z.0 ∙ get_or-set_same D n x None inside))
  | inr z ↦ z.1 ∙ holds d ∙ ap described (sym (get_or-set_other D n d x None z.0))
]

pub descs_changed : (S : State) (D : List (Option Opened)) (descs : List NewDesc) → length D ≡ 64 → AreNumbers descs → HasDescs S D →
    HasDescs (changed_by (desc_changes descs) S) (put_descs descs D)
descs_changed S D [] full numbers holds = holds
descs_changed S D (new ∷ descs) full numbers holds =
    descs_changed (write_one (SetDesc new.number.0 (described new.opened)) S) (set D new.number.0 new.opened) descs (length-set D new.number.0 new.opened ∙ full) numbers.1
    (desc_put S D new.number.0 new.opened (subst (λ (w : ℕ). new.number.0 < w) (sym full) numbers.0) holds)

descs_rest : (descs : List NewDesc) (S : State) → changed_by (desc_changes descs) S ≡ record S { descs = (changed_by (desc_changes descs) S).descs }
descs_rest [] S = refl
descs_rest (new ∷ descs) S = descs_rest descs (write_one (SetDesc new.number.0 (described new.opened)) S)

pipes_rest : (pipes : List Change) (S : State) → ArePipes pipes → changed_by pipes S ≡ record S { pipes = (changed_by pipes S).pipes }
pipes_rest [] S are = refl
pipes_rest (Slot pid slot ∷ pipes) S are = absurd are
pipes_rest (Part pid part ∷ pipes) S are = absurd are
pipes_rest (Description number opened ∷ pipes) S are = absurd are
pipes_rest (Pipe number part ∷ pipes) S are = pipes_rest pipes (changed (Pipe number part) S) are

-- what pipes have then depends on the pipes alone
pub pipes_alone : (pipes : List Change) (S R : State) → ArePipes pipes → S.pipes ≡ R.pipes → (changed_by pipes S).pipes ≡ (changed_by pipes R).pipes
pipes_alone [] S R are same = same
pipes_alone (Slot pid slot ∷ pipes) S R are same = absurd are
pipes_alone (Part pid part ∷ pipes) S R are same = absurd are
pipes_alone (Description number opened ∷ pipes) S R are same = absurd are
pipes_alone (Pipe number part ∷ pipes) S R are same =
    pipes_alone pipes (changed (Pipe number part) S) (changed (Pipe number part) R) are
    (ap (λ (held : ℕ → Option (List ℕ)). (changed (Pipe number part) (record S { pipes = held })).pipes) same)

put_again : {A : Type 0} (f : ℕ → A) (k : ℕ) (v u : A) (n : ℕ) → put_at (put_at f k u) k v n ≡ put_at f k v n
put_again {A} f k v u n = by (n == k)
  where
    by : (b : Bool) → (if b then v else (if b then u else f n)) ≡ (if b then v else f n)
    by true = refl
    by false = refl

-- the write is of no process, and of nothing that is held
abbrev pub IsOfFiles : Write → Type 0
IsOfFiles (SetProc n x) = ⊥
IsOfFiles (SetDesc n x) = Unit {0}
IsOfFiles (SetPipe n x) = Unit {0}
IsOfFiles (SetHeld n x) = ⊥

abbrev pub AreOfFiles : List Write → Type 0
AreOfFiles [] = Unit {0}
AreOfFiles (w ∷ ws) = IsOfFiles w × AreOfFiles ws

files_rest : (ws : List Write) (S : State) → AreOfFiles ws → with_writes ws S ≡ record S { descs = (with_writes ws S).descs; pipes = (with_writes ws S).pipes }
unfolding with_writes
files_rest [] S files = refl
files_rest (SetProc n x ∷ ws) S files = absurd files.0
files_rest (SetDesc n x ∷ ws) S files = files_rest ws (write_one (SetDesc n x) S) files.1
files_rest (SetPipe n x ∷ ws) S files = files_rest ws (write_one (SetPipe n x) S) files.1
files_rest (SetHeld n x ∷ ws) S files = absurd files.0

-- a plan of names, of descriptions, of pipes and of parts of the process, which becomes another one
pub record Files (actor : Actor) (new : Process) : Type 0 where
  pub names : List NewName
  pub descs : List NewDesc
  pub pipes : List Change
  pub own : List Change
  pub fds : AreFds names
  pub numbers : AreNumbers descs
  pub are_pipes : ArePipes pipes
  pub pipes_named : AreNamed actor.parts.now pipes
  pub are_own : AreOf actor.pid.0 own
  pub nameless : AreNameless own
  pub keeps : KeepsCounts actor.proc.now.descriptors (put_names names actor.proc.now.descriptors) actor.parts.now.descs (put_descs descs actor.parts.now.descs)
  pub process : revised_by own (record (me_of actor) { descriptors = put_names names actor.proc.now.descriptors }) ≡ new

-- its changes
abbrev pub changes_of : {actor : Actor} {new : Process} → Files actor new → List Change
changes_of {actor} files = name_changes actor.pid files.names ++ desc_changes files.descs ++ (files.pipes ++ files.own)

-- the effect writes just that: the process, and what descriptions and pipes have after the plan
pub record Writes (actor : Actor) (new : Process) (news : List NewDesc) (changes : List Change) (planned : Planned) (S : State) (effect : Effect) : Type 0 where
  pub more : List Write
  pub files : AreOfFiles more
  pub writes : effect.writes ≡ SetProc actor.pid.0 (Some new) ∷ more
  pub descs : HasDescs (before_sends effect S) (put_descs news actor.parts.now.descs)
  pub pipes : (before_sends effect S).pipes ≡ (changed_by changes S).pipes
  pub sends : effect.sends ≡ sent_at_once planned.sends
  pub conclusion : effect.conclusion ≡ conclusion_of (me_of actor) planned.outcome

files_named : (laws : PlanLaws) (actor : Actor) (new : Process) (files : Files actor new) → length actor.parts.now.descs ≡ 64 → IsActor actor →
    AreNamed actor.parts.now (changes_of files)
files_named laws actor new files sized is =
    laws.named actor.parts.now (name_changes actor.pid files.names ++ desc_changes files.descs) (files.pipes ++ files.own)
    (laws.plans actor.parts.now actor.pid files.names files.descs is.number sized files.fds files.numbers).0
    (laws.named actor.parts.now files.pipes files.own files.pipes_named (own_named actor.parts.now actor.pid.0 files.own is.number files.are_own))

files_bring : (actor : Actor) (new : Process) (files : Files actor new) → BringPlaces (changes_of files)
files_bring actor new files =
    brings_append (name_changes actor.pid files.names ++ desc_changes files.descs) (files.pipes ++ files.own)
    (brings_append (name_changes actor.pid files.names) (desc_changes files.descs)
    (own_brings actor.pid.0 (name_changes actor.pid files.names) (names_own actor.pid files.names files.fds)) (descs_bring files.descs))
    (brings_append files.pipes files.own (pipes_bring files.pipes files.are_pipes) (own_brings actor.pid.0 files.own files.are_own))

-- the state that its changes make
made : (laws : PlanLaws) (actor : Actor) (new : Process) (files : Files actor new) (S : State) → S.procs actor.pid.0 ≡ Some (me_of actor) →
    changed_by (changes_of files) S ≡
    record {
      width = S.width;
      procs = put_at (put_at S.procs actor.pid.0 (Some (record (me_of actor) { descriptors = put_names files.names actor.proc.now.descriptors }))) actor.pid.0 (Some new);
      descs = (changed_by (desc_changes files.descs) (write_one (SetProc actor.pid.0 (Some (record (me_of actor) { descriptors = put_names files.names actor.proc.now.descriptors }))) S)).descs;
      pipes = (changed_by files.pipes S).pipes;
      held = S.held;
    }
made laws actor new files S here =
    let n : ℕ = actor.pid.0 in
    let me : Process = record (me_of actor) { descriptors = put_names files.names actor.proc.now.descriptors } in
    let named : State = write_one (SetProc n (Some me)) S in
    let first : changed_by (name_changes actor.pid files.names) S ≡ named =
    laws.process n (name_changes actor.pid files.names) S (names_own actor.pid files.names files.fds)
    ∙ ap (λ (x : Option Process). write_one (SetProc n (option_map (revised_by (name_changes actor.pid files.names)) x)) S) here
    ∙ ap (λ (q : Process). write_one (SetProc n (Some q)) S) (names_revised actor.pid files.names (me_of actor)) in
    let second : State = record named { descs = (changed_by (desc_changes files.descs) named).descs } in
    let third : State = record second { pipes = (changed_by files.pipes S).pipes } in
    laws.changed S (name_changes actor.pid files.names ++ desc_changes files.descs) (files.pipes ++ files.own)
    ∙ ap (changed_by (files.pipes ++ files.own)) (laws.changed S (name_changes actor.pid files.names) (desc_changes files.descs)
    ∙ ap (changed_by (desc_changes files.descs)) first ∙ descs_rest files.descs named)
    ∙ laws.changed second files.pipes files.own
    ∙ ap (changed_by files.own) (pipes_rest files.pipes second files.are_pipes
    ∙ ap (λ (held : ℕ → Option (List ℕ)). record second { pipes = held }) (pipes_alone files.pipes second S files.are_pipes refl))
    ∙ laws.process n files.own third files.are_own
    ∙ ap (λ (x : Option Process). write_one (SetProc n (option_map (revised_by files.own) x)) third) (put_here S.procs n (Some me))
    ∙ ap (λ (q : Process). write_one (SetProc n (Some q)) third) files.process

-- the effect leaves the same
reached : (laws : PlanLaws) (actor : Actor) (new : Process) (files : Files actor new) (planned : Planned) (S : State) (effect : Effect) → length actor.parts.now.descs ≡ 64 →
    HasDescs S actor.parts.now.descs → S.procs actor.pid.0 ≡ Some (me_of actor) → Writes actor new files.descs files.pipes planned S effect →
    before_sends effect S ≡ changed_by (changes_of files) S
unfolding with_writes
reached laws actor new files planned S effect sized has_object here does =
    let n : ℕ = actor.pid.0 in
    let me : Process = record (me_of actor) { descriptors = put_names files.names actor.proc.now.descriptors } in
    let named : State = write_one (SetProc n (Some me)) S in
    let whole : before_sends effect S ≡ record (write_one (SetProc n (Some new)) S) { descs = (before_sends effect S).descs; pipes = (before_sends effect S).pipes } =
    ap (λ (ws : List Write). with_writes ws S) does.writes ∙ files_rest does.more (write_one (SetProc n (Some new)) S) does.files
    ∙ ap (λ (ws : List Write). record (write_one (SetProc n (Some new)) S) { descs = (with_writes ws S).descs; pipes = (with_writes ws S).pipes }) (sym does.writes) in
    let descs = descs_changed named actor.parts.now.descs files.descs sized files.numbers has_object in
    let last : State = record {
      width = S.width;
      procs = put_at (put_at S.procs n (Some me)) n (Some new);
      descs = (changed_by (desc_changes files.descs) named).descs;
      pipes = (changed_by files.pipes S).pipes;
      held = S.held;
    } in
    let both : record (write_one (SetProc n (Some new)) S) { descs = (before_sends effect S).descs; pipes = (before_sends effect S).pipes } ≡ last =
    λ i. record {
      width = S.width;
      procs = λ q. sym (put_again S.procs n (Some new) (Some me) q) i;
      descs = λ d. (does.descs d ∙ sym (descs d)) i;
      pipes = does.pipes i;
      held = S.held;
    } in
    whole ∙ both ∙ sym (made laws actor new files S here)

names_among : (n : ℕ) (pid : Pid) (os : List Object) (names : List NewName) → pid.0 ≡ n → AreFds names → AreAmong (Proc n ∷ os) (name_changes pid names)
names_among n pid os names same fds = own_among n os (name_changes pid names) (subst (λ (m : ℕ). AreOf m (name_changes pid names)) same (names_own pid names fds))

-- a plan whose changes are what the rule writes is a plan of the rule
pub files_plan : (laws : PlanLaws) (actor : Actor) (before now : List Change) (planned : Planned) (rule : State → Effect) (objects : State → List Object) (new : Process) (files : Files actor new) →
    length actor.parts.now.descs ≡ 64 → IsActor actor → now ≡ before ++ changes_of files →
    ((after : Memory) → KeepsShown planned.outcome (me_of actor).memory after) →
    ((held : ℕ → List Sending) → held_after (inside_of actor.inside) planned.sends held ≡ held) →
    ((held : ℕ → List Sending) → CountsHeld actor.inside held →
    Writes actor new files.descs files.pipes planned (state_of held actor.parts.now) (rule (state_of held actor.parts.now))) →
    ((held : ℕ → List Sending) → AreAmong (objects (state_of held actor.parts.now)) (desc_changes files.descs ++ files.pipes)) →
    LeavesTarget actor.parts.now planned.sends (applied actor.parts.now (changes_of files)) →
    Plans actor before now planned rule objects
files_plan laws actor before now planned rule objects new files sized is added answers keeps does among seen =
    let parts : Parts = actor.parts.now in
    let n : ℕ = actor.pid.0 in
    let named : AreNamed parts (changes_of files) = files_named laws actor new files sized is in
    record {
      plan = changes_of files;
      added = added;
      named = named;
      counts = laws.call parts actor.pid actor.proc.now files.names files.descs (files.pipes ++ files.own) is.number sized files.fds files.numbers
          (laws.named parts files.pipes files.own files.pipes_named (own_named parts n files.own is.number files.are_own))
          (nameless_append files.pipes files.own (pipes_nameless files.pipes files.are_pipes) files.nameless) is.whole.counts is.there is.runs files.keeps;
      brings = files_bring actor new files;
      gives = λ held counted.
          let wrote = does held counted in
          record {
            state = reached laws actor new files planned (state_of held parts) (rule (state_of held parts)) sized (λ d. refl) (ap process_in is.there) wrote
                ∙ sym (ap (λ (h : ℕ → List Sending). state_of h (applied parts (changes_of files))) (keeps held) ∙ laws.changes held parts (changes_of files) named);
            sends = wrote.sends;
            conclusion = wrote.conclusion;
          };
      shown = answers (memory_in (process_in (slot_at (applied parts (changes_of files)).procs n)));
      seen = seen;
      among = λ held.
          let os : List Object = objects (state_of held parts) in
          subst (λ (changes : List Change). AreAmong (Proc n ∷ os) changes)
          (regrouped (name_changes actor.pid files.names) (desc_changes files.descs) files.pipes files.own)
          (among_append (Proc n ∷ os) (name_changes actor.pid files.names ++ (desc_changes files.descs ++ files.pipes)) files.own
          (among_append (Proc n ∷ os) (name_changes actor.pid files.names) (desc_changes files.descs ++ files.pipes)
          (names_among n actor.pid os files.names refl files.fds) (among_more (Proc n) os (desc_changes files.descs ++ files.pipes) (among held)))
          (own_among n os files.own files.are_own));
    }
  where
    regrouped : (a b c d : List Change) → (a ++ (b ++ c)) ++ d ≡ (a ++ b) ++ (c ++ d)
    regrouped a b c d = simp append_assoc
