-- The plans of reads and writes.
use Rattle.std.proofs.Common.{map, take, drop, ◌≡◌, ℕ, zero, suc, ◌+◌, ◌/◌, ◌<◌, ◌≤◌, Bool, true, false, if◌then◌else◌, ◌==◌, nat_lt, List, [], ◌∷◌, ◌++◌, length, ℤ, pos, Option, Some, None, Ok, IsSome, refl, ap, sym, subst, ◌∙◌, inl, inr, arith}
use Rattle.tx_kernel.specs.Own.{page_change}
use Rattle.tx_kernel.proofs.Owned.{AreOf-append, nameless-append, revised-append, pages_own, pages_nameless, pages_revised}
use Rattle.tx_change.specs.Laws.{revised_by}
use Rattle.std.proofs.lemmas.Bool.{cases_lt, eqb-true, ltb-true}
use Rattle.std.proofs.lemmas.List.{get_or_past}
use Rattle.tx_base.specs.declared.errors.Errno.TheVariants.{BrokenPipe}
use Rattle.tx_base.specs.declared.names.PipeNo.{PipeNo}
use Rattle.tx_change.specs.Exchange.{applied, pipe_at}
use Rattle.tx_change.specs.Pipes.{piped_in}
use Rattle.tx_change.specs.States.{state_of}
use Rattle.tx_change.specs.declared.change.Change.{Change}
use Rattle.tx_change.specs.declared.change.Change.TheVariants.{Pipe}
use Rattle.tx_change.specs.declared.pipes.PipePart.TheVariants.{Front, Back}
use Rattle.tx_desc.specs.Counts.{KeepsCounts}
use Rattle.tx_desc.specs.Descriptions.{described, description_of}
use Rattle.tx_kernel.proofs.Named.{Files, files_plan}
use Rattle.tx_kernel.proofs.NamedCalls.{answered_files, appended2, done_writes, last_answer}
use Rattle.tx_kernel.proofs.OwnPlans.{held_quiet, own_state}
use Rattle.tx_kernel.proofs.Released.{pipe_there}
use Rattle.tx_kernel.proofs.Whole.{HasPipe, whole_piped}
use Rattle.tx_kernel.specs.Actors.{effect_by, me_of, inside_of, names_by, IsActor}
use Rattle.tx_kernel.specs.Laws.{PlanLaws}
use Rattle.tx_kernel.specs.Piped.{CanPut, CanTake, NamesPipe, TakesBytes, broken, broken_sending, calling, held_in, put_bytes, reading_outcome, writing_outcome}
use Rattle.tx_kernel.specs.declared.transfers.Reading.TheVariants as reading
use Rattle.tx_kernel.specs.declared.transfers.Writing.TheVariants as writing
use Rattle.tx_kernel.specs.Plans.{LeavesTarget, Plans, held_after, quiet}
use Rattle.tx_kernel.specs.Posts.{IsSeen}
use Rattle.tx_kernel.specs.declared.planned.Sends.TheVariants.{AtOnce}
use Rattle.tx_base.specs.Slots.{slot_at}
use Rattle.tx_change.specs.declared.parts.Parts.{Parts}
use Rattle.tx_model.specs.Book.{desc_and_pipe_of, read, write, broken_pipe, bytes_in}
use Rattle.tx_model.specs.Forms.{does, effect_of}
use Rattle.tx_model.specs.ObjectFacts.{has_right}
use Rattle.tx_model.specs.StateLaws.{put_here}
use Rattle.tx_proc.specs.Parts.{process_in}
use Rattle.tx_proc.specs.declared.proc.Proc.{Proc}
use Rattle.tx_kernel.specs.declared.actor.Actor.{Actor}
use Rattle.tx_kernel.specs.declared.inside.Inside.{Inside}
use Rattle.tx_kernel.specs.declared.planned.Outcome.TheVariants.{Done}
use Rattle.tx_model.specs.Descriptors.{desc_objects, desc_pipe_objects, descriptor, option_list, description_named, pipes_of}
use Rattle.tx_model.specs.Words.{pipe_list, before_sends}
use Rattle.tx_model.specs.Effects.{Effect, with_answer}
use Rattle.tx_model.specs.Memory.{Memory, PageView, address_of, all_good, bytes_at, bytes_from, is_good, page_at, stored_memory}
use Rattle.tx_model.specs.Numbers.{error_answer}
use Rattle.tx_model.specs.State.{Process, Sending, State, SetPipe, has_object, put_at, with_writes}
use Rattle.tx_model.specs.State as model

-- the pipe that a descriptor names

-- it is there
some_held : (o : Option (List ℕ)) → IsSome o → o ≡ Some (bytes_in o)
some_held None there = let never : ⊥ = cc in absurd never
some_held (Some bytes) there = refl

is_piped : (actor : Actor) (x : Option ℕ) (pipe : PipeNo) → IsActor actor → NamesPipe actor x pipe → IsSome (pipe_at actor.parts.now.pipes pipe.0)
is_piped actor x pipe is names =
    let there = subst (HasPipe actor.parts.now.pipes) names.there (whole_piped actor.parts.now is.whole names.number) in
    subst (λ (k : PipeNo). IsSome (pipe_at actor.parts.now.pipes k.0)) names.same there

pipe_held : (actor : Actor) (x : Option ℕ) (pipe : PipeNo) → IsActor actor → NamesPipe actor x pipe → pipe_at actor.parts.now.pipes pipe.0 ≡ Some (held_in actor pipe)
pipe_held actor x pipe is names = some_held (pipe_at actor.parts.now.pipes pipe.0) (is_piped actor x pipe is names)

pipe_inside : (actor : Actor) (x : Option ℕ) (pipe : PipeNo) → IsActor actor → NamesPipe actor x pipe → pipe.0 < length actor.parts.now.pipes
pipe_inside actor x pipe is names = elim (cases_lt pipe.0 (length actor.parts.now.pipes)) [
  | inl inside ↦ inside
  | inr past ↦ let held = pipe_held actor x pipe is names in let none = get_or_past actor.parts.now.pipes pipe.0 None past in let never : ⊥ = cc in absurd never
]

-- and one of the objects
pipe_among : (actor : Actor) (x : Option ℕ) (pipe : PipeNo) (held : ℕ → List Sending) → NamesPipe actor x pipe →
    has_object (model.Pipe pipe.0) (desc_pipe_objects (option_list x) (state_of held actor.parts.now)) ≡ true
pipe_among actor x pipe held names =
    let S : State = state_of held actor.parts.now in
    subst (λ (y : Option ℕ). has_object (model.Pipe pipe.0) (desc_pipe_objects (option_list y) S) ≡ true) (sym names.names)
    (has_right (model.Pipe pipe.0) (desc_objects (names.number ∷ [])) (pipe_list (pipes_of (names.number ∷ []) S))
    (pipe_there names.number S pipe.0 (description_of names.opened.desc) (ap described names.there) (ap (λ (k : PipeNo). k.0) names.same)))

keeps_same : (actor : Actor) → KeepsCounts actor.proc.now.descriptors actor.proc.now.descriptors actor.parts.now.descs actor.parts.now.descs
keeps_same actor = record { each = λ d others names. names }

-- write

-- bytes that are good are in 0 to 1,023
all_inside : (test : Option PageView → Bool) (memory : Memory) (start n : ℕ) → start ≤ 1024 → all_good test memory start n ≡ true → start + n ≤ 1024
all_inside test memory start zero low good = omega arith
all_inside test memory start (suc n) low good = by (all_inside test memory (start + 1) n) (nat_lt start 1024) refl (test (page_at memory (start / 64))) good
  where
    by : (start + 1 ≤ 1024 → all_good test memory (start + 1) n ≡ true → start + 1 + n ≤ 1024) → (b : Bool) → nat_lt start 1024 ≡ b → (t : Bool) → (if b then (if t then all_good test memory (start + 1) n else false) else false) ≡ true → start + suc n ≤ 1024
    by next true below true rest =
        let inside : start < 1024 = ltb-true start 1024 below in
        let more = next (omega (arith, inside)) rest in omega (arith, more)
    by next true below false rest = let never : ⊥ = cc in absurd never
    by next false past t rest = let never : ⊥ = cc in absurd never

pub good_inside : (test : Option PageView → Bool) (memory : Memory) (address : ℤ) (start n : ℕ) → address_of address ≡ Some start → start ≤ 1024 →
    is_good test memory address n ≡ true → start + n ≤ 1024
good_inside test memory address start n is low good = by (n == 0) refl (rw is at good)
  where
    by : (b : Bool) → (n == 0) ≡ b → (if b then true else all_good test memory start n) ≡ true → start + n ≤ 1024
    by true none all = let no : n ≡ 0 = eqb-true n 0 none in omega (arith, no, low)
    by false some all = all_inside test memory start n low all

few_bytes : (memory : Memory) (address : Option ℕ) (n : ℕ) → length (bytes_at memory address n) ≤ n
few_bytes memory None n = omega arith
few_bytes memory (Some address) n = by address n
  where
    by : (a k : ℕ) → length (bytes_from memory a k) ≤ k
    by a zero = omega arith
    by a (suc k) = let rest = by (a + 1) k in omega (arith, rest)

pub put_plan : (laws : PlanLaws) (actor : Actor) (before first now : List Change) (fd address count : ℤ) (pipe : PipeNo) (n : ℕ) → length actor.parts.now.descs ≡ 64 → IsActor actor →
    ((held : ℕ → List Sending) → write fd address count (calling actor held) ≡ writing_outcome address (Ok (writing.Puts pipe n)) (calling actor held)) →
    NamesPipe actor (description_named (me_of actor) (descriptor fd)) pipe → CanPut actor address pipe n →
    first ≡ before ++ Pipe pipe (Back 0 (put_bytes actor address n)) ∷ [] → now ≡ first ++ last_answer (pos n) actor →
    Plans actor before now (quiet (Done (pos n))) (effect_by actor (write fd address count)) (names_by actor (desc_and_pipe_of fd))
unfolding with_writes
put_plan laws actor before first now fd address count pipe n sized is page names can one two =
    let p : ℕ = actor.pid.0 in
    let me : Process = me_of actor in
    let bytes : List ℕ = put_bytes actor address n in
    let held_bytes : List ℕ = held_in actor pipe in
    let changes : List Change = Pipe pipe (Back 0 bytes) ∷ [] in
    let few = few_bytes me.memory (address_of address) n in
    let put : piped_in (pipe_at actor.parts.now.pipes pipe.0) (Back 0 bytes) ≡ Some (held_bytes ++ bytes) =
    ap (λ (o : Option (List ℕ)). piped_in o (Back 0 bytes)) (pipe_held actor (description_named me (descriptor fd)) pipe is names) ∙ laws.back held_bytes bytes (let room = can.room in omega (arith, room, few)) in
    files_plan laws actor before now (quiet (Done (pos n))) (effect_by actor (write fd address count)) (names_by actor (desc_and_pipe_of fd)) (with_answer (pos n) me)
    (answered_files actor [] [] changes (pos n) tt tt tt (pipe_inside actor (description_named me (descriptor fd)) pipe is names, tt) (keeps_same actor)) sized is
    (appended2 before changes (last_answer (pos n) actor) first now one two)
    (λ after. tt) (held_quiet actor.inside (Done (pos n)))
    (λ held counted. let S : State = state_of held actor.parts.now in
    let so = ap (effect_of p me) (page held) in
    done_writes actor [] changes S (effect_by actor (write fd address count) S) (SetPipe pipe.0 (Some (held_bytes ++ bytes)) ∷ []) (pos n) me so (tt, tt)
    (λ d. ap (λ (e : Effect). (before_sends e S).descs d) so) (ap (λ (o : Option (List ℕ)). put_at S.pipes pipe.0 o) (sym put)))
    (λ held. (pipe_among actor (description_named me (descriptor fd)) pipe held names, tt))
    tt

-- the process is seen as before where it is given an answer
broken_seen : (laws : PlanLaws) (actor : Actor) → IsActor actor →
    LeavesTarget actor.parts.now (AtOnce (broken_sending actor)) (applied actor.parts.now (last_answer (error_answer BrokenPipe) actor))
broken_seen laws actor is =
    let parts : Parts = actor.parts.now in
    let n : ℕ = actor.pid.0 in
    let held : ℕ → List Sending = λ starter. [] in
    let plan : List Change = last_answer (error_answer BrokenPipe) actor in
    let answered : Process = revised_by plan (me_of actor) in
    let now : process_in (slot_at (applied parts plan).procs n) ≡ Some answered
    = ap (λ (S : State). S.procs n) (own_state laws actor plan held is ((refl, tt), tt)) ∙ put_here (state_of held parts).procs n (Some answered) in (
      omega arith,
      subst (λ (slot : Option Proc). IsSeen slot (process_in (slot_at (applied parts plan).procs n))) (sym is.there)
          (subst (IsSeen (Some actor.proc.now)) (sym now) refl),
    )

-- a write without a reader
pub broken_plan : (laws : PlanLaws) (actor : Actor) (before now : List Change) (fd address count : ℤ) → length actor.parts.now.descs ≡ 64 → IsActor actor →
    ((held : ℕ → List Sending) → write fd address count (calling actor held) ≡ does (broken_pipe actor.pid.0 (me_of actor))) →
    now ≡ before ++ last_answer (error_answer BrokenPipe) actor →
    Plans actor before now (broken actor) (effect_by actor (write fd address count)) (names_by actor (desc_and_pipe_of fd))
unfolding with_writes
broken_plan laws actor before now fd address count sized is page added =
    let p : ℕ = actor.pid.0 in
    let me : Process = me_of actor in
    let r : ℤ = error_answer BrokenPipe in
    files_plan laws actor before now (broken actor) (effect_by actor (write fd address count)) (names_by actor (desc_and_pipe_of fd)) (with_answer r me)
    (answered_files actor [] [] [] r tt tt tt tt (keeps_same actor)) sized is added
    (λ after. tt) (kept actor.inside)
    (λ held counted. let S : State = state_of held actor.parts.now in
    let so = ap (effect_of p me) (page held) in
    record {
      more = [];
      files = tt;
      writes = ap (λ (e : Effect). e.writes) so;
      descs = λ d. ap (λ (e : Effect). (before_sends e S).descs d) so;
      pipes = ap (λ (e : Effect). (before_sends e S).pipes) so;
      sends = ap (λ (e : Effect). e.sends) so;
      conclusion = ap (λ (e : Effect). e.conclusion) so;
    })
    (λ held. tt)
    (broken_seen laws actor is)
  where
    kept : (inside : Option Inside) (held : ℕ → List Sending) → held_after (inside_of inside) (broken actor).sends held ≡ held
    kept None held = refl
    kept (Some inside) held = refl

-- read

pub take_plan : (laws : PlanLaws) (actor : Actor) (before first now : List Change) (fd address count : ℤ) (pipe : PipeNo) (n : ℕ) → length actor.parts.now.descs ≡ 64 → IsActor actor →
    ((held : ℕ → List Sending) → read fd address count (calling actor held) ≡ reading_outcome address (Ok (reading.Takes pipe n)) (calling actor held)) →
    NamesPipe actor (description_named (me_of actor) (descriptor fd)) pipe → CanTake actor pipe n → TakesBytes actor before first pipe address n → now ≡ first ++ last_answer (pos n) actor →
    Plans actor before now (quiet (Done (pos n))) (effect_by actor (read fd address count)) (names_by actor (desc_and_pipe_of fd))
unfolding with_writes
take_plan laws actor before first now fd address count pipe n sized is page names can takes two =
    let p : ℕ = actor.pid.0 in
    let me : Process = me_of actor in
    let held_bytes : List ℕ = held_in actor pipe in
    let pages : List Change = map (page_change actor.pid) takes.pages in
    let new : Process = record me { memory = stored_memory me.memory (address_of address) (take n held_bytes) } in
    let changes : List Change = Pipe pipe (Front n []) ∷ [] in
    let taken : piped_in (pipe_at actor.parts.now.pipes pipe.0) (Front n []) ≡ Some (drop n held_bytes) =
    ap (λ (o : Option (List ℕ)). piped_in o (Front n [])) (pipe_held actor (description_named me (descriptor fd)) pipe is names) ∙ laws.front held_bytes n can.held can.fits in
    let files : Files actor (with_answer (pos n) new) = record {
      names = [];
      descs = [];
      pipes = changes;
      own = pages ++ last_answer (pos n) actor;
      fds = tt;
      numbers = tt;
      are_pipes = tt;
      pipes_named = (pipe_inside actor (description_named me (descriptor fd)) pipe is names, tt);
      are_own = AreOf-append p pages (last_answer (pos n) actor) (pages_own actor.pid takes.pages takes.numbered) ((refl, tt), tt);
      nameless = nameless-append pages (last_answer (pos n) actor) (pages_nameless actor.pid takes.pages) (tt, tt);
      keeps = keeps_same actor;
      process = revised-append pages (last_answer (pos n) actor) me
          ∙ ap (revised_by (last_answer (pos n) actor)) (pages_revised actor.pid takes.pages me ∙ ap (λ (m : Memory). record me { memory = m }) takes.memory);
    } in
    files_plan laws actor before now (quiet (Done (pos n))) (effect_by actor (read fd address count)) (names_by actor (desc_and_pipe_of fd)) (with_answer (pos n) new) files sized is
    (appended2 before (changes ++ pages) (last_answer (pos n) actor) first now takes.added two)
    (λ after. tt) (held_quiet actor.inside (Done (pos n)))
    (λ held counted. let S : State = state_of held actor.parts.now in
    let so = ap (effect_of p me) (page held) in
    done_writes actor [] changes S (effect_by actor (read fd address count) S) (SetPipe pipe.0 (Some (drop n held_bytes)) ∷ []) (pos n) new so (tt, tt)
    (λ d. ap (λ (e : Effect). (before_sends e S).descs d) so) (ap (λ (o : Option (List ℕ)). put_at S.pipes pipe.0 o) (sym taken)))
    (λ held. (pipe_among actor (description_named me (descriptor fd)) pipe held names, tt))
    tt
