-- The plans of the calls on descriptors.
use Rattle.std.proofs.Common.{nat_lt, ◌==◌, not, ◌&&◌, ◌||◌, is_some, ◌<◌, ◌≡◌, ◌≢◌, option_map, ℕ, zero, suc, ◌≤◌, false, if◌then◌else◌, length-set, ◌+◌, Bool, arith, List, [], ◌∷◌, ◌++◌, length, ℤ, pos, Option, Some, None, Result, Ok, Err, IfOk, refl, ap, sym, subst, ◌∙◌, append_assoc, eq-eqb, true, get_or}
use Rattle.tx_model.specs.Book.{description_at as described_at, desc_of, desc_and_pipe_of, dup, dup2, close, release, set_nonblock}
use Rattle.tx_model.specs.Book as the
use Rattle.tx_model.specs.Forms.{Caller, Rule, fails, effect_of}
use Rattle.tx_model.specs.Answer.{ChoosesPipe, is_bad_choice}
use Rattle.tx_desc.specs.declared.plans.PipePlan.{PipePlan}
use Rattle.tx_base.specs.declared.names.PipeNo.{PipeNo}
use Rattle.tx_base.specs.declared.errors.Errno.{Errno}
use Rattle.tx_model.specs.Numbers.{error_answer}
use Rattle.tx_change.specs.declared.pipes.PipePart.TheVariants.{Whole}
use Rattle.tx_change.specs.Counts.{name_changes, desc_changes}
use Rattle.tx_change.specs.Exchange.{pipe_at, AreNamed}
use Rattle.tx_change.specs.States.{state_of, changed_by}
use Rattle.tx_change.specs.declared.change.Change.{Change}
use Rattle.tx_change.specs.declared.change.Change.TheVariants.{Pipe, Part}
use Rattle.tx_desc.specs.Counts.{Agrees, others_of, KeepsCounts, HasNames, count_in}
use Rattle.tx_desc.specs.Descriptions.{description_at, described, HasDescs, IsGone, gone_between}
use Rattle.tx_desc.specs.Outcomes.{RunsWith, close_outcome, described_again, dup_outcome, dup2_outcome, effect_in, given_up, nonblock_outcome, pipe_outcome, state_after, with_table}
use Rattle.tx_desc.specs.Places.{Descriptors, named_in}
use Rattle.tx_desc.specs.Plans.{AreFree, GivesLeft, IsOfTwo, RenamesOf, listed_desc, rename_puts, AreFds, AreNumbers, put_names, put_descs}
use Rattle.tx_desc.specs.declared.opened.Opened.{Opened}
use Rattle.tx_desc.specs.declared.plans.NewDesc.{NewDesc}
use Rattle.tx_desc.specs.declared.plans.NewName.{NewName}
use Rattle.tx_desc.specs.declared.plans.DupPlan.{DupPlan}
use Rattle.tx_desc.specs.declared.plans.Rename.{Rename}
use Rattle.tx_desc.specs.declared.given.Given.{Given}
use Rattle.tx_desc.specs.declared.given.Renamed.{Renamed}
use Rattle.tx_change.specs.declared.parts.Parts.{Parts}
use Rattle.tx_base.specs.declared.names.Pid.{Pid}
use Rattle.tx_desc.specs.declared.plans.ClosePlan.{ClosePlan}
use Rattle.tx_desc.specs.declared.opened.Desc.{Desc as OpenDesc}
use Rattle.tx_base.specs.Slots.{slot_at}
use Rattle.tx_base.specs.declared.names.DescNo.{DescNo}
use Rattle.tx_change.specs.Laws.{HasPlaces}
use Rattle.tx_change.specs.Exchange.{object_of}
use Rattle.tx_model.specs.ObjectFacts.{has_tail, has_left, has_right}
use Rattle.tx_proc.specs.Parts.{process_in, process_of}
use Rattle.tx_proc.specs.declared.proc.Proc.{Proc}
use Rattle.std.proofs.lemmas.Bool.{ltb-true, eqb-false, ne_eqb, lt-ltb}
use Rattle.std.proofs.Math.ListN.{set}
use Rattle.tx_kernel.proofs.Whole.{whole_piped}
use Rattle.tx_kernel.specs.Named.{pipe_changes, slot_change, gone_of, left_changes, rename_changes, described_by, endless_changes}
use Rattle.tx_kernel.proofs.Released.{released_files, one_released, endless_pipes, endless_named, endless_among}
use Rattle.tx_kernel.proofs.Named.{ArePipes, AreOfFiles, Files, Writes, files_plan, pipes_alone}
use Rattle.tx_kernel.specs.Actors.{me_of, CountsHeld, IsActor, caller_of, effect_by, names_by}
use Rattle.tx_kernel.specs.Laws.{PlanLaws}
use Rattle.tx_kernel.specs.Own.{answer_after}
use Rattle.tx_kernel.specs.Plans.{Plans, AreAmong, quiet}
use Rattle.tx_kernel.specs.declared.actor.Actor.{Actor}
use Rattle.tx_kernel.specs.declared.planned.Outcome.{Outcome}
use Rattle.tx_kernel.specs.declared.planned.Outcome.TheVariants.{Done}
use Rattle.tx_kernel.specs.declared.planned.Planned.{Planned}
use Rattle.tx_kernel.proofs.OwnPlans.{held_quiet}
use Rattle.tx_model.specs.Descriptors.{is_pipe_in_use, description_removals, pipe_removals, other_than, desc_pipe_objects, pipes_of, removals, description_named, descriptor, desc_objects, option_list}
use Rattle.tx_model.specs.Words.{pipe_objects, with_two_slots, dup2_objects, pipe_list, answer_effect_with, answer_effect, before_sends}
use Rattle.tx_model.specs.Effects.{Effect, with_answer}
use Rattle.tx_model.specs.State.{SetPipe, SetDesc, Pipe as ThePipe, Object, Desc, Process, Sending, State, Write, SetProc, has_object, is_between, write_one, with_writes}
use Rattle.tx_proc.specs.declared.proc.Part.TheVariants.{Answer}

-- what holds of a rule of these parts holds of an equal one
pub same_rule : (actor : Actor) (before now : List Change) (planned : Planned) (rule other : State → Effect) (objects : State → List Object) →
    ((held : ℕ → List Sending) → CountsHeld actor.inside held → rule (state_of held actor.parts.now) ≡ other (state_of held actor.parts.now)) →
    Plans actor before now planned rule objects → Plans actor before now planned other objects
same_rule actor before now planned rule other objects same plans = record {
  plan = plans.plan;
  added = plans.added;
  named = plans.named;
  counts = plans.counts;
  brings = plans.brings;
  gives = λ held counted. rw (← same held counted) (plans.gives held counted);
  shown = plans.shown;
  seen = plans.seen;
  among = plans.among;
}

-- an answer alone, where the rule is that answer
pub done_plan : {E : Type 0} (result : Result Outcome E) (actor : Actor) (before now : List Change) (r : ℤ) (rule : State → Effect) (objects : State → List Object) →
    ((held : ℕ → List Sending) → rule (state_of held actor.parts.now) ≡ answer_effect actor.pid.0 r (me_of actor)) →
    IfOk result (λ outcome. (os : State → List Object) → Plans actor before now (quiet outcome) (λ S. answer_effect actor.pid.0 r (me_of actor)) os) →
    IfOk result (λ outcome. Plans actor before now (quiet outcome) rule objects)
done_plan {E} (Ok outcome) actor before now r rule objects same plans =
    same_rule actor before now (quiet outcome) (λ S. answer_effect actor.pid.0 r (me_of actor)) rule objects (λ held counted. sym (same held)) (plans objects)
done_plan {E} (Err why) actor before now r rule objects same plans = tt

-- an error alone, where it is the rule's
pub failed_plan : {E : Type 0} (result : Result Outcome E) (actor : Actor) (before now : List Change) (errno : Errno) (rule : Rule) (names : Caller → List Object) →
    ((held : ℕ → List Sending) → rule (caller_of actor (state_of held actor.parts.now)) ≡ fails errno) →
    IfOk result (λ outcome. (os : State → List Object) → Plans actor before now (quiet outcome) (λ S. answer_effect actor.pid.0 (error_answer errno) (me_of actor)) os) →
    IfOk result (λ outcome. Plans actor before now (quiet outcome) (effect_by actor rule) (names_by actor names))
failed_plan result actor before now errno rule names same plans =
    done_plan result actor before now (error_answer errno) (effect_by actor rule) (names_by actor names) (λ held. ap (effect_of actor.pid.0 (me_of actor)) (same held)) plans

-- an answer alone, as the last change
abbrev pub last_answer : ℤ → Actor → List Change
last_answer r actor = Part actor.pid (Answer (answer_after r actor)) ∷ []

-- names, descriptions and pipes, and then the answer
abbrev pub answered_files : (actor : Actor) (names : List NewName) (descs : List NewDesc) (pipes : List Change) (r : ℤ) → AreFds names → AreNumbers descs →
    ArePipes pipes → AreNamed actor.parts.now pipes →
    KeepsCounts actor.proc.now.descriptors (put_names names actor.proc.now.descriptors) actor.parts.now.descs (put_descs descs actor.parts.now.descs) →
    Files actor (with_answer r (with_table (put_names names actor.proc.now.descriptors) (me_of actor)))
answered_files actor names descs pipes r fds numbers are description_named keeps = record {
  names = names;
  descs = descs;
  pipes = pipes;
  own = last_answer r actor;
  fds = fds;
  numbers = numbers;
  are_pipes = are;
  pipes_named = description_named;
  are_own = ((refl, tt), tt);
  nameless = (tt, tt);
  keeps = keeps;
  process = refl;
}

-- what a rule writes that answers so and writes no other process
pub done_writes : (actor : Actor) (news : List NewDesc) (changes : List Change) (S : State) (effect : Effect) (ws : List Write) (r : ℤ) (me : Process) →
    effect ≡ answer_effect_with ws actor.pid.0 r me → AreOfFiles ws → HasDescs (before_sends effect S) (put_descs news actor.parts.now.descs) →
    (with_writes ws (write_one (SetProc actor.pid.0 (Some (with_answer r me))) S)).pipes ≡ (changed_by changes S).pipes →
    Writes actor (with_answer r me) news changes (quiet (Done r)) S effect
unfolding with_writes
done_writes actor news changes S effect ws r me is files descs pipes = record {
  more = ws;
  files = files;
  writes = ap (λ (e : Effect). e.writes) is;
  descs = descs;
  pipes = ap (λ (e : Effect). (before_sends e S).pipes) is ∙ pipes;
  sends = ap (λ (e : Effect). e.sends) is;
  conclusion = ap (λ (e : Effect). e.conclusion) is;
}

pub appended3 : (before a b c l1 l2 l3 : List Change) → l1 ≡ before ++ a → l2 ≡ l1 ++ b → l3 ≡ l2 ++ c → l3 ≡ before ++ (a ++ b ++ c)
appended3 before a b c l1 l2 l3 first second third =
    third ∙ ap (λ (l : List Change). l ++ c) (second ∙ ap (λ (l : List Change). l ++ b) first) ∙ simp append_assoc

-- the description is that of the descriptor
has_desc : (d : ℕ) (x : Option ℕ) → x ≡ Some d → has_object (Desc d) (desc_objects (option_list x)) ≡ true
unfolding has_object
has_desc d x is = rw is (rw (eq-eqb d d refl) refl)

-- what the process names
named_me : (actor : Actor) (x : Option ℕ) → description_named (me_of actor) x ≡ named_in actor.proc.now.descriptors x
named_me actor None = refl
named_me actor (Some f) = refl

pub dup_plan : (laws : PlanLaws) (actor : Actor) (before first second now : List Change) (fd : ℤ) (plan : DupPlan) →
    length actor.parts.now.descs ≡ 64 → IsActor actor →
    ((c : Caller) → c.process.descriptors ≡ actor.proc.now.descriptors →
    dup fd c ≡ dup_outcome (Ok plan.name.fd) (put_names (plan.name ∷ []) actor.proc.now.descriptors) c) →
    ((c : Caller) → c.process.descriptors ≡ actor.proc.now.descriptors → HasDescs c.state actor.parts.now.descs →
    HasDescs (state_after (dup fd) c) (put_descs (plan.desc ∷ []) actor.parts.now.descs)) →
    KeepsCounts actor.proc.now.descriptors (put_names (plan.name ∷ []) actor.proc.now.descriptors) actor.parts.now.descs (put_descs (plan.desc ∷ []) actor.parts.now.descs) →
    named_in actor.proc.now.descriptors (descriptor fd) ≡ Some plan.desc.number.0 →
    AreFds (plan.name ∷ []) × AreNumbers (plan.desc ∷ []) →
    first ≡ before ++ name_changes actor.pid (plan.name ∷ []) → second ≡ first ++ desc_changes (plan.desc ∷ []) →
    now ≡ second ++ last_answer (pos plan.name.fd) actor →
    Plans actor before now (quiet (Done (pos plan.name.fd))) (effect_by actor (dup fd)) (names_by actor (desc_of fd))
unfolding with_writes
dup_plan laws actor before first second now fd plan sized is answer descriptions counts found numbers one two three =
    let p : ℕ = actor.pid.0 in
    let me : Process = me_of actor in
    let r : ℤ = pos plan.name.fd in
    let new : Process = with_table (put_names (plan.name ∷ []) actor.proc.now.descriptors) me in
    files_plan laws actor before now (quiet (Done r)) (effect_by actor (dup fd)) (names_by actor (desc_of fd)) (with_answer r new)
    (answered_files actor (plan.name ∷ []) (plan.desc ∷ []) [] r numbers.0 numbers.1 tt tt counts) sized is
    (appended3 before (name_changes actor.pid (plan.name ∷ [])) (desc_changes (plan.desc ∷ [])) (last_answer r actor) first second now one two three)
    (λ after. tt) (held_quiet actor.inside (Done r))
    (λ held counted. let S : State = state_of held actor.parts.now in let c : Caller = caller_of actor S in
    done_writes actor (plan.desc ∷ []) [] S (effect_in (dup fd) c) [] r new (ap (effect_of p me) (answer c refl)) tt (descriptions c refl (λ d. refl)) refl)
    (λ held. (has_desc plan.desc.number.0 (description_named me (descriptor fd)) (named_me actor (descriptor fd) ∙ found), tt))
    tt

pub appended2 : (before a b l1 l2 : List Change) → l1 ≡ before ++ a → l2 ≡ l1 ++ b → l2 ≡ before ++ (a ++ b)
appended2 before a b l1 l2 first second = second ∙ ap (λ (l : List Change). l ++ b) first ∙ append_assoc before a b

-- the description with its flag is written, and nothing else
files_again : (x : Option ℕ) (D : List (Option Opened)) → AreOfFiles (described_again x D)
files_again None D = tt
files_again (Some d) D = (tt, tt)

pipes_again : (x : Option ℕ) (D : List (Option Opened)) (S : State) → (with_writes (described_again x D) S).pipes ≡ S.pipes
unfolding with_writes
pipes_again None D S = refl
pipes_again (Some d) D S = refl

-- the counts that are kept whatever is named are kept beside these names
keeps_beside : (table : Descriptors) (descs after : List (Option Opened)) → KeepsCounts [] [] descs after → KeepsCounts table table descs after
keeps_beside table descs after keeps = record {
  each = λ d others names.
      let same : count_in d [] + (count_in d table + others) ≡ count_in d table + others = omega arith in
      subst (λ (n : ℕ). HasNames n (get_or after d None)) same
      (keeps.each d (count_in d table + others) (subst (λ (n : ℕ). HasNames n (get_or descs d None)) (sym same) names));
}

pub nonblock_plan : (laws : PlanLaws) (actor : Actor) (before first now : List Change) (fd : ℤ) (on : Bool) (new : NewDesc) →
    length actor.parts.now.descs ≡ 64 → IsActor actor →
    ((c : Caller) → c.process.descriptors ≡ actor.proc.now.descriptors → HasDescs c.state actor.parts.now.descs →
    set_nonblock fd on c ≡ nonblock_outcome (Ok new) (described_at fd c) (put_descs (new ∷ []) actor.parts.now.descs) c) →
    ((c : Caller) → c.process.descriptors ≡ actor.proc.now.descriptors → HasDescs c.state actor.parts.now.descs →
    HasDescs (state_after (set_nonblock fd on) c) (put_descs (new ∷ []) actor.parts.now.descs)) →
    KeepsCounts [] [] actor.parts.now.descs (put_descs (new ∷ []) actor.parts.now.descs) →
    named_in actor.proc.now.descriptors (descriptor fd) ≡ Some new.number.0 →
    AreFds [] × AreNumbers (new ∷ []) →
    first ≡ before ++ desc_changes (new ∷ []) → now ≡ first ++ last_answer (pos 0) actor →
    Plans actor before now (quiet (Done (pos 0))) (effect_by actor (set_nonblock fd on)) (names_by actor (desc_of fd))
nonblock_plan laws actor before first now fd on new sized is answer descriptions counts found numbers one two =
    let p : ℕ = actor.pid.0 in
    let me : Process = me_of actor in
    let x : Option ℕ = descriptor fd in
    let after : List (Option Opened) = put_descs (new ∷ []) actor.parts.now.descs in
    files_plan laws actor before now (quiet (Done (pos 0))) (effect_by actor (set_nonblock fd on)) (names_by actor (desc_of fd)) (with_answer (pos 0) me)
    (answered_files actor [] (new ∷ []) [] (pos 0) numbers.0 numbers.1 tt tt (keeps_beside actor.proc.now.descriptors actor.parts.now.descs after counts)) sized is
    (appended2 before (desc_changes (new ∷ [])) (last_answer (pos 0) actor) first now one two)
    (λ after. tt) (held_quiet actor.inside (Done (pos 0)))
    (λ held counted. let S : State = state_of held actor.parts.now in let c : Caller = caller_of actor S in
    done_writes actor (new ∷ []) [] S (effect_in (set_nonblock fd on) c) (described_again (description_named me x) after) (pos 0) me
    (ap (effect_of p me) (answer c refl (λ d. refl))) (files_again (description_named me x) after) (descriptions c refl (λ d. refl))
    (pipes_again (description_named me x) after (write_one (SetProc p (Some (with_answer (pos 0) me))) S)))
    (λ held. (has_desc new.number.0 (description_named me x) (named_me actor x ∙ found), tt))
    tt

-- the process runs with its descriptors
pub runs_with : (actor : Actor) (held : ℕ → List Sending) → IsActor actor → RunsWith actor.pid.0 (me_of actor) (state_of held actor.parts.now) actor.proc.now.descriptors
runs_with actor held is = record {
  sized = λ n q there. sized (slot_at actor.parts.now.procs n) q (is.whole.places n) there;
  within = within actor.pid.0 (length actor.parts.now.procs) is.number.low is.number.high;
  there = ap process_in is.there;
  runs = is.runs;
  has_table = refl;
}
  where
    sized : (slot : Option Proc) (q : Process) → HasPlaces slot → process_in slot ≡ Some q → length q.descriptors ≡ 16
    sized None q places there = let never : ⊥ = cc in absurd never
    sized (Some proc) q places there = let same : process_of proc ≡ q = cc in subst (λ (r : Process). length r.descriptors ≡ 16) same places.descriptors

    within : (n limit : ℕ) → 1 ≤ n → n ≤ limit → is_between limit n ≡ true
    within zero limit low high = absurd (omega (arith, low))
    within (suc n) limit low high = lt-ltb n limit (omega (arith, high))

-- the counts agree with its descriptors beside those of all others
agrees_beside : (laws : PlanLaws) (actor : Actor) (held : ℕ → List Sending) → IsActor actor →
    Agrees (actor.proc.now.descriptors ∷ others_of actor.pid.0 (state_of held actor.parts.now)) actor.parts.now.descs
agrees_beside laws actor held is =
    laws.others held actor.parts.now actor.pid.0 actor.proc.now.descriptors is.number is.whole.counts (actor.proc.now, is.there, is.runs, refl)

length_put : (news : List NewDesc) (D : List (Option Opened)) → length (put_descs news D) ≡ length D
length_put [] D = refl
length_put (new ∷ news) D = length_put news (set D new.number.0 new.opened) ∙ length-set D new.number.0 new.opened

-- what a rule writes that gives up names of one description
gives_writes : (actor : Actor) (news : List NewDesc) (held : ℕ → List Sending) (effect : Effect) (d : ℕ) (r : ℤ) (me : Process) (lost : Option OpenDesc) →
    length actor.parts.now.descs ≡ 64 → effect ≡ effect_by actor (release (d ∷ []) r me) (state_of held actor.parts.now) →
    HasDescs (before_sends effect (state_of held actor.parts.now)) (put_descs news actor.parts.now.descs) →
    lost ≡ gone_between (get_or actor.parts.now.descs d None) (get_or (put_descs news actor.parts.now.descs) d None) →
    Writes actor (with_answer r me) news (endless_changes lost (described_by actor.parts.now (put_descs news actor.parts.now.descs))) (quiet (Done r)) (state_of held actor.parts.now) effect
unfolding with_writes
gives_writes actor news held effect d r me lost sized is descs went =
    let S : State = state_of held actor.parts.now in
    let T : State = write_one (SetProc actor.pid.0 (Some (with_answer r me))) S in
    let D : List (Option Opened) = actor.parts.now.descs in
    let after : List (Option Opened) = put_descs news D in
    let R : State = described_by actor.parts.now after in
    let last : HasDescs (with_writes (removals (d ∷ []) T) T) after = λ e. ap (λ (f : Effect). (before_sends f S).descs e) (sym is) ∙ descs e in
    rw went (done_writes actor news (endless_changes (gone_between (get_or D d None) (get_or after d None)) R) S effect (removals (d ∷ []) T) r me is (released_files (d ∷ []) T) descs
    (one_released d T R D after (length_put news D ∙ sized) (λ e. refl) last (λ e. refl)
    ∙ pipes_alone (endless_changes (gone_between (get_or D d None) (get_or after d None)) R) T S (endless_pipes (gone_between (get_or D d None) (get_or after d None)) R) refl))

appended4 : (before a b c d l1 l2 l3 l4 : List Change) → l1 ≡ before ++ a → l2 ≡ l1 ++ b → l3 ≡ l2 ++ c → l4 ≡ l3 ++ d → l4 ≡ before ++ (a ++ b ++ (c ++ d))
appended4 before a b c d l1 l2 l3 l4 first second third fourth =
    fourth ∙ ap (λ (l : List Change). l ++ d) (appended3 before a b c l1 l2 l3 first second third) ∙ simp append_assoc

-- objects before do not matter
among_behind : (os ps : List Object) (changes : List Change) → AreAmong ps changes → AreAmong (os ++ ps) changes
among_behind os ps [] among = tt
among_behind os ps (change ∷ changes) among = (has_right (object_of change) os ps among.0, among_behind os ps changes among.1)

-- an object that is listed first
desc_here : (d e : ℕ) (os : List Object) → d ≡ e → has_object (Desc e) (Desc d ∷ os) ≡ true
unfolding has_object
desc_here d e os same = rw same (rw (eq-eqb e e refl) refl)

pipe_first : (k : ℕ) (os : List Object) → has_object (ThePipe k) (ThePipe k ∷ os) ≡ true
unfolding has_object
pipe_first k os = rw (eq-eqb k k refl) refl

pub close_plan : (laws : PlanLaws) (actor : Actor) (before first second third now : List Change) (fd : ℤ) (plan : ClosePlan) →
    length actor.parts.now.descs ≡ 64 → IsActor actor →
    ((c : Caller) → c.process.descriptors ≡ actor.proc.now.descriptors →
    close fd c ≡ close_outcome (Ok plan.given) (put_names (plan.name ∷ []) actor.proc.now.descriptors) c) →
    ((c : Caller) → RunsWith c.number c.process c.state actor.proc.now.descriptors → HasDescs c.state actor.parts.now.descs →
    Agrees (actor.proc.now.descriptors ∷ others_of c.number c.state) actor.parts.now.descs →
    HasDescs (state_after (close fd) c) (put_descs (plan.desc ∷ []) actor.parts.now.descs)) →
    KeepsCounts actor.proc.now.descriptors (put_names (plan.name ∷ []) actor.proc.now.descriptors) actor.parts.now.descs (put_descs (plan.desc ∷ []) actor.parts.now.descs) →
    IsGone (Some plan.given) actor.parts.now.descs (put_descs (plan.desc ∷ []) actor.parts.now.descs) →
    plan.given.number ≡ plan.desc.number →
    named_in actor.proc.now.descriptors (descriptor fd) ≡ Some plan.desc.number.0 →
    AreFds (plan.name ∷ []) × AreNumbers (plan.desc ∷ []) →
    first ≡ before ++ name_changes actor.pid (plan.name ∷ []) → second ≡ first ++ desc_changes (plan.desc ∷ []) →
    third ≡ second ++ endless_changes plan.given.gone (described_by actor.parts.now (put_descs (plan.desc ∷ []) actor.parts.now.descs)) →
    now ≡ third ++ last_answer (pos 0) actor →
    Plans actor before now (quiet (Done (pos 0))) (effect_by actor (close fd)) (names_by actor (desc_and_pipe_of fd))
close_plan laws actor before first second third now fd plan sized is answer descriptions counts gone same found numbers one two three four =
    let p : ℕ = actor.pid.0 in
    let me : Process = me_of actor in
    let x : Option ℕ = descriptor fd in
    let D : List (Option Opened) = actor.parts.now.descs in
    let after : List (Option Opened) = put_descs (plan.desc ∷ []) D in
    let R : State = described_by actor.parts.now after in
    let new : Process = with_table (put_names (plan.name ∷ []) actor.proc.now.descriptors) me in
    let d : ℕ = plan.given.number.0 in
    let pipes : List Change = endless_changes plan.given.gone R in
    let named_pipes : AreNamed actor.parts.now pipes = rw gone (endless_named actor.parts.now (get_or D d None) (get_or after d None) R (whole_piped actor.parts.now is.whole d)) in
    let among_pipes : (held : ℕ → List Sending) → AreAmong (pipe_list (pipes_of (d ∷ []) (state_of held actor.parts.now))) pipes =
    λ held. rw gone (endless_among d (state_of held actor.parts.now) R (get_or D d None) (get_or after d None) refl) in
    let is_named : description_named me x ≡ Some d = named_me actor x ∙ found ∙ ap (λ (n : DescNo). Some n.0) (sym same) in
    files_plan laws actor before now (quiet (Done (pos 0))) (effect_by actor (close fd)) (names_by actor (desc_and_pipe_of fd)) (with_answer (pos 0) new)
    (answered_files actor (plan.name ∷ []) (plan.desc ∷ []) pipes (pos 0) numbers.0 numbers.1 (endless_pipes plan.given.gone R) named_pipes counts) sized is
    (appended4 before (name_changes actor.pid (plan.name ∷ [])) (desc_changes (plan.desc ∷ [])) pipes (last_answer (pos 0) actor) first second third now one two three four)
    (λ after. tt) (held_quiet actor.inside (Done (pos 0)))
    (λ held counted. let c : Caller = caller_of actor (state_of held actor.parts.now) in
    gives_writes actor (plan.desc ∷ []) held (effect_in (close fd) c) d (pos 0) new plan.given.gone sized (ap (effect_of p me) (answer c refl))
    (descriptions c (runs_with actor held is) (λ e. refl) (agrees_beside laws actor held is)) gone)
    (λ held. subst (λ (y : Option ℕ). AreAmong (desc_pipe_objects (option_list y) (state_of held actor.parts.now)) (desc_changes (plan.desc ∷ []) ++ pipes)) (sym is_named) (
      desc_here d plan.desc.number.0 (pipe_list (pipes_of (d ∷ []) (state_of held actor.parts.now))) (ap (λ (n : DescNo). n.0) same),
      among_behind (Desc d ∷ []) (pipe_list (pipes_of (d ∷ []) (state_of held actor.parts.now))) pipes (among_pipes held),
    ))
    tt

-- dup2

-- where no description changes none is gone
none_gone : (given : Option Given) (D : List (Option Opened)) → IsGone given D D → gone_of given ≡ None
none_gone None D lost = refl
none_gone (Some given) D lost = lost ∙ same (get_or D given.number.0 None)
  where
    same : (o : Option Opened) → gone_between o o ≡ None
    same None = refl
    same (Some o) = refl

-- the pipes that go are said by the name that is given up
abbrev left_pipes : Parts → Option Given → Option Rename → List Change
left_pipes parts given None = []
left_pipes parts given (Some rename) = left_changes parts given rename.named rename.left

left_endless : (parts : Parts) (given : Option Given) (rename : Option Rename) → IsGone given parts.descs (put_descs (rename_puts rename).descs parts.descs) → GivesLeft given rename →
    left_pipes parts given rename ≡ endless_changes (gone_of given) (described_by parts (put_descs (rename_puts rename).descs parts.descs))
left_endless parts given None lost left = sym (ap (λ (x : Option OpenDesc). endless_changes x (described_by parts parts.descs)) (none_gone given parts.descs lost))
left_endless parts given (Some rename) lost left = by given rename.left left
  where
    by : (g : Option Given) (l : Option NewDesc) → option_map (λ (x : Given). x.number.0) g ≡ option_map (λ (new : NewDesc). new.number.0) l →
        left_changes parts g rename.named l ≡ endless_changes (gone_of g) (described_by parts (put_descs (rename.named ∷ listed_desc l) parts.descs))
    by None None same = refl
    by (Some g) None same = let never : ⊥ = cc in absurd never
    by g (Some l) same = refl

rename_listed : (pid : Pid) (parts : Parts) (given : Option Given) (rename : Option Rename) →
    rename_changes pid parts given rename ≡ name_changes pid (rename_puts rename).names ++ desc_changes (rename_puts rename).descs ++ left_pipes parts given rename
rename_listed pid parts given None = refl
rename_listed pid parts given (Some rename) = refl

-- what a rule writes that gives up a name, or none
given_writes : (actor : Actor) (news : List NewDesc) (held : ℕ → List Sending) (effect : Effect) (given : Option Given) (r : ℤ) (me : Process) →
    length actor.parts.now.descs ≡ 64 → effect ≡ effect_by actor (release (given_up given) r me) (state_of held actor.parts.now) →
    HasDescs (before_sends effect (state_of held actor.parts.now)) (put_descs news actor.parts.now.descs) →
    IsGone given actor.parts.now.descs (put_descs news actor.parts.now.descs) →
    Writes actor (with_answer r me) news (endless_changes (gone_of given) (described_by actor.parts.now (put_descs news actor.parts.now.descs))) (quiet (Done r)) (state_of held actor.parts.now) effect
unfolding with_writes description_removals pipe_removals pipes_of
given_writes actor news held effect None r me sized is descs lost = done_writes actor news [] (state_of held actor.parts.now) effect [] r me is tt descs refl
given_writes actor news held effect (Some given) r me sized is descs lost = gives_writes actor news held effect given.number.0 r me given.gone sized is descs lost

-- the other descriptor of a dup2, where it is another one and open
other_is : (actor : Actor) (x y : Option ℕ) (d l : ℕ) → x ≢ y → named_in actor.proc.now.descriptors x ≡ Some d → named_in actor.proc.now.descriptors y ≡ Some l →
    other_than x y (me_of actor) ≡ l ∷ []
other_is actor None y d l apart first second = let never : ⊥ = cc in absurd never
other_is actor (Some f) None d l apart first second = let never : ⊥ = cc in absurd never
other_is actor (Some f) (Some g) d l apart first second =
    ap (λ (b : Bool). if b then [] else option_list (description_named (me_of actor) (Some g))) (ne_eqb f g (λ e. apart (ap Some e))) ∙ ap option_list second

among_before : (os ps : List Object) (changes : List Change) → AreAmong os changes → AreAmong (os ++ ps) changes
among_before os ps [] among = tt
among_before os ps (change ∷ changes) among = (has_left (object_of change) os ps among.0, among_before os ps changes among.1)

-- the objects of a rename
rename_among : (actor : Actor) (held : ℕ → List Sending) (x y : Option ℕ) (given : Option Given) (rename : Option Rename) →
    IsGone given actor.parts.now.descs (put_descs (rename_puts rename).descs actor.parts.now.descs) →
    RenamesOf (named_in actor.proc.now.descriptors x) (named_in actor.proc.now.descriptors y) rename → IsOfTwo x y rename → GivesLeft given rename →
    AreAmong (dup2_objects x y (me_of actor) (state_of held actor.parts.now)) (desc_changes (rename_puts rename).descs ++ left_pipes actor.parts.now given rename)
rename_among actor held x y given None lost of apart left = tt
rename_among actor held x y given (Some rename) lost of apart left = (
  has_left (Desc rename.named.number.0) (desc_objects (option_list (description_named (me_of actor) x))) (desc_pipe_objects (other_than x y (me_of actor)) S)
      (has_desc rename.named.number.0 (description_named (me_of actor) x) (named_me actor x ∙ of.0)),
  by given rename.left lost of.1 left,
)
  where
    S : State
    S = state_of held actor.parts.now

    D : List (Option Opened)
    D = actor.parts.now.descs

    by : (g : Option Given) (l : Option NewDesc) → IsGone g D (put_descs (rename.named ∷ listed_desc l) D) →
        named_in actor.proc.now.descriptors y ≡ option_map (λ (new : NewDesc). new.number.0) l →
        option_map (λ (z : Given). z.number.0) g ≡ option_map (λ (new : NewDesc). new.number.0) l →
        AreAmong (dup2_objects x y (me_of actor) S) (desc_changes (listed_desc l) ++ left_changes actor.parts.now g rename.named l)
    by g None gone named_other same = tt
    by None (Some l) gone named_other same = let never : ⊥ = cc in absurd never
    by (Some g) (Some l) gone named_other same =
        let after : List (Option Opened) = put_descs (rename.named ∷ l ∷ []) D in
        let R : State = described_by actor.parts.now after in
        let is : g.number.0 ≡ l.number.0 = cc in
        let one : other_than x y (me_of actor) ≡ g.number.0 ∷ [] = other_is actor x y rename.named.number.0 g.number.0 apart of.0 (named_other ∙ sym same) in
        let pipes : List Change = endless_changes g.gone R in
        let among : AreAmong (pipe_list (pipes_of (g.number.0 ∷ []) S)) pipes = rw gone (endless_among g.number.0 S R (get_or D g.number.0 None) (get_or after g.number.0 None) refl) in
        among_behind (desc_objects (option_list (description_named (me_of actor) x))) (desc_pipe_objects (other_than x y (me_of actor)) S) (desc_changes (l ∷ []) ++ pipes)
        (subst (λ (ds : List ℕ). AreAmong (desc_pipe_objects ds S) (desc_changes (l ∷ []) ++ pipes)) (sym one) (
          desc_here g.number.0 l.number.0 (pipe_list (pipes_of (g.number.0 ∷ []) S)) is,
          among_behind (Desc g.number.0 ∷ []) (pipe_list (pipes_of (g.number.0 ∷ []) S)) pipes among,
        ))

given_named : (actor : Actor) (given : Option Given) (news : List NewDesc) (R : State) → IsActor actor → IsGone given actor.parts.now.descs (put_descs news actor.parts.now.descs) →
    AreNamed actor.parts.now (endless_changes (gone_of given) R)
given_named actor None news R is lost = tt
given_named actor (Some given) news R is lost =
    rw lost (endless_named actor.parts.now (get_or actor.parts.now.descs given.number.0 None) (get_or (put_descs news actor.parts.now.descs) given.number.0 None) R (whole_piped actor.parts.now is.whole given.number.0))

pub dup2_plan : (laws : PlanLaws) (actor : Actor) (before first now : List Change) (fd other : ℤ) (renamed : Renamed) (rename : Option Rename) →
    length actor.parts.now.descs ≡ 64 → IsActor actor →
    ((c : Caller) → c.process.descriptors ≡ actor.proc.now.descriptors →
    effect_in (dup2 fd other) c ≡ effect_in (dup2_outcome (Ok renamed) (put_names (rename_puts rename).names actor.proc.now.descriptors)) c) →
    ((c : Caller) → RunsWith c.number c.process c.state actor.proc.now.descriptors → HasDescs c.state actor.parts.now.descs →
    Agrees (actor.proc.now.descriptors ∷ others_of c.number c.state) actor.parts.now.descs →
    HasDescs (state_after (dup2 fd other) c) (put_descs (rename_puts rename).descs actor.parts.now.descs)) →
    KeepsCounts actor.proc.now.descriptors (put_names (rename_puts rename).names actor.proc.now.descriptors) actor.parts.now.descs (put_descs (rename_puts rename).descs actor.parts.now.descs) →
    IsGone renamed.given actor.parts.now.descs (put_descs (rename_puts rename).descs actor.parts.now.descs) →
    RenamesOf (named_in actor.proc.now.descriptors (descriptor fd)) (named_in actor.proc.now.descriptors (descriptor other)) rename →
    IsOfTwo (descriptor fd) (descriptor other) rename → GivesLeft renamed.given rename →
    AreFds (rename_puts rename).names × AreNumbers (rename_puts rename).descs →
    first ≡ before ++ rename_changes actor.pid actor.parts.now renamed.given rename → now ≡ first ++ last_answer (pos renamed.fd) actor →
    Plans actor before now (quiet (Done (pos renamed.fd))) (effect_by actor (dup2 fd other))
    (names_by actor (λ c. dup2_objects (descriptor fd) (descriptor other) c.process c.state))
dup2_plan laws actor before first now fd other renamed rename sized is answer descriptions counts lost of apart left numbers one two =
    let p : ℕ = actor.pid.0 in
    let me : Process = me_of actor in
    let x : Option ℕ = descriptor fd in
    let y : Option ℕ = descriptor other in
    let r : ℤ = pos renamed.fd in
    let names : List NewName = (rename_puts rename).names in
    let descs : List NewDesc = (rename_puts rename).descs in
    let D : List (Option Opened) = actor.parts.now.descs in
    let R : State = described_by actor.parts.now (put_descs descs D) in
    let new : Process = with_table (put_names names actor.proc.now.descriptors) me in
    let pipes : List Change = endless_changes (gone_of renamed.given) R in
    let same : left_pipes actor.parts.now renamed.given rename ≡ pipes = left_endless actor.parts.now renamed.given rename lost left in
    files_plan laws actor before now (quiet (Done r)) (effect_by actor (dup2 fd other)) (names_by actor (λ c. dup2_objects x y c.process c.state)) (with_answer r new)
    (answered_files actor names descs pipes r numbers.0 numbers.1 (endless_pipes (gone_of renamed.given) R) (given_named actor renamed.given descs R is lost) counts) sized is
    (appended2 before (name_changes actor.pid names ++ desc_changes descs ++ pipes) (last_answer r actor) first now
    (one ∙ ap (λ (l : List Change). before ++ l) (rename_listed actor.pid actor.parts.now renamed.given rename ∙ ap (λ (l : List Change). name_changes actor.pid names ++ desc_changes descs ++ l) same)) two
    ∙ ap (λ (l : List Change). before ++ l) (append_assoc (name_changes actor.pid names ++ desc_changes descs) pipes (last_answer r actor)))
    (λ after. tt) (held_quiet actor.inside (Done r))
    (λ held counted. let c : Caller = caller_of actor (state_of held actor.parts.now) in
    given_writes actor descs held (effect_in (dup2 fd other) c) renamed.given r new sized (answer c refl)
    (descriptions c (runs_with actor held is) (λ e. refl) (agrees_beside laws actor held is)) lost)
    (λ held. subst (λ (l : List Change). AreAmong (dup2_objects x y me (state_of held actor.parts.now)) (desc_changes descs ++ l)) same (rename_among actor held x y renamed.given rename lost of apart left))
    tt

-- pipe

-- numbers that may be chosen
pub good_choice : (q r w : ℕ) → false ≡ is_bad_choice 0 (ChoosesPipe q r w) → (q < 32) × (r < 64) × (w < 64) × (r ≢ w)
good_choice q r w good = by (nat_lt q 32) (nat_lt r 64) (nat_lt w 64) (r == w) refl refl refl refl good
  where
    by : (a b c d : Bool) → nat_lt q 32 ≡ a → nat_lt r 64 ≡ b → nat_lt w 64 ≡ c → (r == w) ≡ d → false ≡ (not (a && b && c) || d) → (q < 32) × (r < 64) × (w < 64) × (r ≢ w)
    by true true true false is_q is_r is_w is_same e = (ltb-true q 32 is_q, ltb-true r 64 is_r, ltb-true w 64 is_w, eqb-false r w is_same)
    by true true true true is_q is_r is_w is_same e = let never : ⊥ = cc in absurd never
    by true true false d is_q is_r is_w is_same e = let never : ⊥ = cc in absurd never
    by true false c d is_q is_r is_w is_same e = let never : ⊥ = cc in absurd never
    by false b c d is_q is_r is_w is_same e = let never : ⊥ = cc in absurd never

-- numbers that are not in use
not_taken : (q r w : ℕ) (S : State) (D : List (Option Opened)) → HasDescs S D → is_pipe_in_use q r w S ≡ false →
    (S.pipes q ≡ None) × (get_or D r None ≡ None) × (get_or D w None ≡ None)
not_taken q r w S D has_descs free = by (S.pipes q) (get_or D r None) (get_or D w None) (same ∙ free)
  where
    same : (if is_some (S.pipes q) then true else (if is_some (described (get_or D r None)) then true else is_some (described (get_or D w None)))) ≡ is_pipe_in_use q r w S
    same = λ i. if is_some (S.pipes q) then true else (if is_some (sym (has_descs r) i) then true else is_some (sym (has_descs w) i))

    by : (a : Option (List ℕ)) (b c : Option Opened) → (if is_some a then true else (if is_some (described b) then true else is_some (described c))) ≡ false → (a ≡ None) × (b ≡ None) × (c ≡ None)
    by None None None e = (refl, refl, refl)
    by (Some a) b c e = let never : ⊥ = cc in absurd never
    by None (Some b) c e = let never : ⊥ = cc in absurd never
    by None None (Some c) e = let never : ⊥ = cc in absurd never

pub free_numbers : (actor : Actor) (q r w : ℕ) (held : ℕ → List Sending) → length actor.parts.now.descs ≡ 64 → is_pipe_in_use q r w (state_of held actor.parts.now) ≡ false →
    AreFree r w actor.parts.now.descs × (pipe_at actor.parts.now.pipes q ≡ None)
free_numbers actor q r w held sized unused =
    let free = not_taken q r w (state_of held actor.parts.now) actor.parts.now.descs (λ d. refl) unused in
    (record { sized = sized; first = free.1; second = free.2 }, free.0)

pub pipe_plan : (laws : PlanLaws) (actor : Actor) (before now : List Change) (pipe : PipeNo) (read write : DescNo) (plan : PipePlan) →
    length actor.parts.now.descs ≡ 64 → length actor.parts.now.pipes ≡ 32 → IsActor actor → pipe.0 < 32 →
    AreFree read.0 write.0 actor.parts.now.descs × (pipe_at actor.parts.now.pipes pipe.0 ≡ None) →
    ((c : Caller) (descs : List (Option Opened)) → c.process.descriptors ≡ actor.proc.now.descriptors → AreFree read.0 write.0 descs → HasDescs c.state descs →
    c.state.pipes pipe.0 ≡ None → the.pipe pipe.0 read.0 write.0 c ≡ pipe_outcome pipe.0 read.0 write.0 (Ok (plan.read_name.fd, plan.write_name.fd))
    (put_names (plan.read_name ∷ plan.write_name ∷ []) actor.proc.now.descriptors) (put_descs (plan.read ∷ plan.write ∷ []) descs) c) →
    ((c : Caller) (descs : List (Option Opened)) → c.process.descriptors ≡ actor.proc.now.descriptors → AreFree read.0 write.0 descs → HasDescs c.state descs →
    c.state.pipes pipe.0 ≡ None → HasDescs (state_after (the.pipe pipe.0 read.0 write.0) c) (put_descs (plan.read ∷ plan.write ∷ []) descs)) →
    ((descs : List (Option Opened)) → AreFree read.0 write.0 descs →
    KeepsCounts actor.proc.now.descriptors (put_names (plan.read_name ∷ plan.write_name ∷ []) actor.proc.now.descriptors) descs (put_descs (plan.read ∷ plan.write ∷ []) descs)) →
    (plan.read.number ≡ read) × (plan.write.number ≡ write) →
    AreFds (plan.read_name ∷ plan.write_name ∷ []) × AreNumbers (plan.read ∷ plan.write ∷ []) →
    now ≡ before ++ pipe_changes actor pipe plan →
    Plans actor before now (quiet (Done (pos 0))) (effect_by actor (the.pipe pipe.0 read.0 write.0)) (names_by actor (λ c. pipe_objects pipe.0 read.0 write.0))
unfolding with_writes
pipe_plan laws actor before now pipe read write plan sized rooms is inside free answer descriptions counts same numbers added =
    let p : ℕ = actor.pid.0 in
    let me : Process = me_of actor in
    let D : List (Option Opened) = actor.parts.now.descs in
    let after : List (Option Opened) = put_descs (plan.read ∷ plan.write ∷ []) D in
    let table : Descriptors = put_names (plan.read_name ∷ plan.write_name ∷ []) actor.proc.now.descriptors in
    let new : Process = with_two_slots plan.read_name.fd plan.write_name.fd (with_table table me) in
    let files : Files actor (with_answer (pos 0) new) = record {
      names = plan.read_name ∷ plan.write_name ∷ [];
      descs = plan.read ∷ plan.write ∷ [];
      pipes = Pipe pipe (Whole (Some [])) ∷ [];
      own = slot_change actor.pid 0 plan.read_name.fd ∷ slot_change actor.pid 1 plan.write_name.fd ∷ last_answer (pos 0) actor;
      fds = numbers.0;
      numbers = numbers.1;
      are_pipes = tt;
      pipes_named = (omega (arith, inside, rooms), tt);
      are_own = ((refl, omega arith), ((refl, omega arith), ((refl, tt), tt)));
      nameless = (tt, (tt, (tt, tt)));
      keeps = counts D free.0;
      process = refl;
    } in
    files_plan laws actor before now (quiet (Done (pos 0))) (effect_by actor (the.pipe pipe.0 read.0 write.0)) (names_by actor (λ c. pipe_objects pipe.0 read.0 write.0)) (with_answer (pos 0) new) files sized is added
    (λ after. tt) (held_quiet actor.inside (Done (pos 0)))
    (λ held counted. let S : State = state_of held actor.parts.now in let c : Caller = caller_of actor S in
    done_writes actor (plan.read ∷ plan.write ∷ []) (Pipe pipe (Whole (Some [])) ∷ []) S (effect_in (the.pipe pipe.0 read.0 write.0) c)
    (SetPipe pipe.0 (Some []) ∷ SetDesc read.0 (description_at after read.0) ∷ SetDesc write.0 (description_at after write.0) ∷ []) (pos 0) new
    (ap (effect_of p me) (answer c D refl free.0 (λ d. refl) free.1)) (tt, (tt, (tt, tt))) (descriptions c D refl free.0 (λ d. refl) free.1) refl)
    (λ held. (
      has_tail (Desc plan.read.number.0) (ThePipe pipe.0) (Desc read.0 ∷ Desc write.0 ∷ []) (desc_here read.0 plan.read.number.0 (Desc write.0 ∷ []) (sym (ap (λ (d : DescNo). d.0) same.0))),
      (
        has_tail (Desc plan.write.number.0) (ThePipe pipe.0) (Desc read.0 ∷ Desc write.0 ∷ [])
            (has_tail (Desc plan.write.number.0) (Desc read.0) (Desc write.0 ∷ []) (desc_here write.0 plan.write.number.0 [] (sym (ap (λ (d : DescNo). d.0) same.1)))),
        (pipe_first pipe.0 (Desc read.0 ∷ Desc write.0 ∷ []), tt),
      ),
    ))
    tt

-- its changes, one after another
pub pipe_logged : (actor : Actor) (pipe : PipeNo) (plan : PipePlan) (before l1 l2 l3 l4 l5 l6 l7 now : List Change) →
    l1 ≡ before ++ name_changes actor.pid (plan.read_name ∷ []) → l2 ≡ l1 ++ name_changes actor.pid (plan.write_name ∷ []) →
    l3 ≡ l2 ++ desc_changes (plan.read ∷ []) → l4 ≡ l3 ++ desc_changes (plan.write ∷ []) → l5 ≡ l4 ++ Pipe pipe (Whole (Some [])) ∷ [] →
    l6 ≡ l5 ++ slot_change actor.pid 0 plan.read_name.fd ∷ [] → l7 ≡ l6 ++ slot_change actor.pid 1 plan.write_name.fd ∷ [] → now ≡ l7 ++ last_answer (pos 0) actor →
    now ≡ before ++ pipe_changes actor pipe plan
pipe_logged actor pipe plan before l1 l2 l3 l4 l5 l6 l7 now e1 e2 e3 e4 e5 e6 e7 e8 =
    let names : List Change = name_changes actor.pid (plan.read_name ∷ plan.write_name ∷ []) in
    let descs : List Change = desc_changes (plan.read ∷ plan.write ∷ []) in
    let description_named : l2 ≡ before ++ names = appended2 before (name_changes actor.pid (plan.read_name ∷ [])) (name_changes actor.pid (plan.write_name ∷ [])) l1 l2 e1 e2 in
    let described : l4 ≡ before ++ (names ++ descs) = appended3 before names (desc_changes (plan.read ∷ [])) (desc_changes (plan.write ∷ [])) l2 l3 l4 description_named e3 e4 in
    let slots : l7 ≡ before ++ (names ++ descs ++ Pipe pipe (Whole (Some [])) ∷ [] ++ (slot_change actor.pid 0 plan.read_name.fd ∷ slot_change actor.pid 1 plan.write_name.fd ∷ [])) =
    appended4 before (names ++ descs) (Pipe pipe (Whole (Some [])) ∷ []) (slot_change actor.pid 0 plan.read_name.fd ∷ []) (slot_change actor.pid 1 plan.write_name.fd ∷ []) l4 l5 l6 l7 described e5 e6 e7 in
    appended2 before (names ++ descs ++ Pipe pipe (Whole (Some [])) ∷ [] ++ (slot_change actor.pid 0 plan.read_name.fd ∷ slot_change actor.pid 1 plan.write_name.fd ∷ [])) (last_answer (pos 0) actor) l7 now slots e8
