-- Plans of whole steps, of the plan of what they write and that of their post.
use Rattle.std.proofs.Common.{◌≡◌, ◌<◌, ℕ, Bool, true, false, if◌then◌else◌, inl, inr, ℤ, eq-eqb, List, [], ◌∷◌, ◌++◌, option_map, Option, Some, None, Result, Ok, Err, IfOk, refl, ap, sym, subst, ◌∙◌, append_assoc}
use Rattle.tx_base.specs.Slots.{slot_at}
use Rattle.tx_base.specs.declared.errors.Errno.{Errno}
use Rattle.tx_base.specs.declared.names.Sending.{Sending as TheSending}
use Rattle.tx_base.specs.declared.steps.Reply.TheVariants.{Done as TheDone}
use Rattle.tx_change.specs.Counts.{CountsAgree}
use Rattle.tx_change.specs.Exchange.{applied as exchanged_in, object_of, sizes_of, Sizes, AreWithin, AreNamed}
use Rattle.tx_change.specs.Laws.{revised_by}
use Rattle.tx_change.specs.Own.{AreOf}
use Rattle.tx_change.specs.States.{state_of}
use Rattle.tx_change.specs.declared.change.Change.{Change}
use Rattle.tx_change.specs.declared.change.Change.TheVariants.{Slot, Part, Description, Pipe}
use Rattle.tx_change.specs.declared.parts.Parts.{Parts}
use Rattle.tx_kernel.proofs.OwnPlans.{brings_append, own_named, own_brings, own_among}
use Rattle.tx_kernel.specs.Actors.{effect_by, me_of, inside_of, CountsHeld, IsActor}
use Rattle.tx_kernel.specs.Laws.{PlanLaws}
use Rattle.tx_kernel.specs.Plans.{Plans, Gives, AreAmong, HasSignal, KeepsShown, conclusion_of, held_after, memory_in, quiet, reply_of, sending_of, sent_at_once}
use Rattle.tx_kernel.specs.Posts.{IsSeen, PlansPost}
use Rattle.tx_kernel.specs.Steps.{PlansStep, target_objects}
use Rattle.tx_kernel.specs.declared.actor.Actor.{Actor}
use Rattle.tx_kernel.specs.declared.planned.Outcome.{Outcome}
use Rattle.tx_kernel.specs.declared.planned.Sends.{Sends}
use Rattle.tx_kernel.specs.declared.planned.Sends.TheVariants.{Nothing, AtOnce, AtCommit}
use Rattle.tx_kernel.specs.Sends.{sent}
use Rattle.tx_kernel.specs.declared.sends.Send.TheVariants.{Posts}
use Rattle.tx_model.specs.Effects.{Conclusion, Effect, after_effect, after_conclusion, concluding_reply, send_answers}
use Rattle.tx_model.specs.Words.{before_sends, with_pending, with_queued}
use Rattle.tx_model.specs.Effects as effects
use Rattle.tx_model.specs.Posts.{post_answers, after_post, post_answer, after_posts, target_after}
use Rattle.tx_base.specs.declared.names.Regs.{Regs}
use Rattle.tx_change.specs.declared.change.Change.TheVariants.{Part as SetPart}
use Rattle.tx_kernel.proofs.PostPlans.{seen_now}
use Rattle.tx_kernel.proofs.Sent.{same_held}
use Rattle.tx_kernel.specs.Own.{answer_after}
use Rattle.tx_kernel.specs.declared.planned.Outcome.TheVariants.{Done, Ended, Out}
use Rattle.tx_model.specs.Effects.{next_point, with_answer_if}
use Rattle.tx_model.specs.Memory.{Memory}
use Rattle.tx_model.specs.Posts.{has_room, is_quiet, is_realtime, may_signal}
use Rattle.tx_model.specs.StateLaws.{put_cases}
use Rattle.tx_proc.specs.Parts.{process_in, revised}
use Rattle.tx_proc.specs.declared.proc.Part.TheVariants.{Answer as SetAnswer}
use Rattle.tx_proc.specs.declared.proc.Proc.{Proc}
use Rattle.tx_signal.specs.Parts.{answer_of}
use Rattle.tx_model.specs.State.{Object, Proc as TheProc, Desc, Pipe as ThePipe, Held, Process, Sending, State, SetProc, has_object, same_object, write_one, with_writes}

-- what an effect leaves is said by what it writes, what it sends and how it concludes
effect_leaves : (f : Effect) (S R : State) (ms : List Sending) (c : Conclusion) → before_sends f S ≡ R → f.sends ≡ ms → f.conclusion ≡ c →
    after_effect f (send_answers f S) S ≡ after_conclusion c (post_answers ms R) (after_posts ms R)
effect_leaves f S R ms c state sends conclusion = λ j. after_conclusion (conclusion j) (post_answers (sends j) (state j)) (after_posts (sends j) (state j))

effect_replies : (f : Effect) (S R : State) (ms : List Sending) (c : Conclusion) → before_sends f S ≡ R → f.sends ≡ ms → f.conclusion ≡ c →
    concluding_reply f.conclusion f.sends (send_answers f S) ≡ concluding_reply c ms (post_answers ms R)
effect_replies f S R ms c state sends conclusion = λ j. concluding_reply (conclusion j) (sends j) (post_answers (sends j) (state j))

same_itself : (o : Object) → same_object o o ≡ true
same_itself (TheProc n) = eq-eqb n n refl
same_itself (Desc n) = eq-eqb n n refl
same_itself (ThePipe n) = eq-eqb n n refl
same_itself (Held n) = eq-eqb n n refl

abbrev IsYes : Bool → Type 0
IsYes true = Unit {0}
IsYes false = ⊥

false_true : false ≡ true → ⊥
false_true e = subst IsYes (sym e) tt

has_front : (o : Object) (os more : List Object) → has_object o os ≡ true → has_object o (os ++ more) ≡ true
unfolding has_object
has_front o [] more e = absurd (false_true e)
has_front o (x ∷ os) more e = by (same_object o x) (has_front o os more) e
  where
    by : (b : Bool) → (has_object o os ≡ true → has_object o (os ++ more) ≡ true) → (if b then true else has_object o os) ≡ true → (if b then true else has_object o (os ++ more)) ≡ true
    by true rest e = refl
    by false rest e = rest e

has_behind : (o : Object) (os : List Object) → has_object o (os ++ o ∷ []) ≡ true
unfolding has_object
has_behind o [] = rw (same_itself o) refl
has_behind o (x ∷ os) = by (same_object o x) (has_behind o os)
  where
    by : (b : Bool) → has_object o (os ++ o ∷ []) ≡ true → (if b then true else has_object o (os ++ o ∷ [])) ≡ true
    by true rest = refl
    by false rest = rest

among_front : (os more : List Object) (plan : List Change) → AreAmong os plan → AreAmong (os ++ more) plan
among_front os more [] among = tt
among_front os more (change ∷ plan) among = (has_front (object_of change) os more among.0, among_front os more plan among.1)

among_both : (os : List Object) (front behind : List Change) → AreAmong os front → AreAmong os behind → AreAmong os (front ++ behind)
among_both os [] behind f b = b
among_both os (change ∷ front) behind f b = (f.0, among_both os front behind f.1 b)

-- changes of parts of a process that stands behind others
among_behind : (n : ℕ) (os : List Object) (plan : List Change) → AreOf n plan → AreAmong (os ++ TheProc n ∷ []) plan
among_behind n os [] own = tt
among_behind n os (Slot pid slot ∷ plan) own = absurd own.0
among_behind n os (Part pid part ∷ plan) own = (subst (λ (k : ℕ). has_object (TheProc k) (os ++ TheProc n ∷ []) ≡ true) (sym own.0.0) (has_behind (TheProc n) os), among_behind n os plan own.1)
among_behind n os (Description d opened ∷ plan) own = absurd own.0
among_behind n os (Pipe q part ∷ plan) own = absurd own.0

-- a reply that shows bytes is the same of a memory that is kept for it
shown_same : (outcome : Outcome) (memory after : Memory) → KeepsShown outcome memory after → reply_of memory outcome ≡ reply_of after outcome
shown_same (Done r) memory after keeps = refl
shown_same Ended memory after keeps = refl
shown_same (Out shown) memory after keeps = ap (λ (bytes : Memory). reply_of bytes (Out shown)) (sym keeps)

abbrev IsEmpty : List Sending → Type 0
IsEmpty [] = Unit {0}
IsEmpty (m ∷ ms) = ⊥

lists_apart : {m : Sending} {ms : List Sending} → m ∷ ms ≡ [] → ⊥
lists_apart e = subst IsEmpty (sym e) tt

-- a signal that is not posted may have any number
quiet_signal : (sends : Sends) → sent_at_once sends ≡ [] → HasSignal sends
quiet_signal Nothing none = tt
quiet_signal (AtOnce m) none = absurd (lists_apart none)
quiet_signal (AtCommit m) none = tt

-- nothing is posted with the step
pub quiet_step : (actor : Actor) (before now : List Change) (outcome : Outcome) (sends : Sends) (rule : State → Effect) (objects : State → List Object) →
    sent_at_once sends ≡ [] → Plans actor before now (record { outcome = outcome; sends = sends }) rule objects → PlansStep actor before now outcome sends rule objects
unfolding after_posts
quiet_step actor before now outcome sends rule objects none plans = record {
  plan = plans.plan;
  added = plans.added;
  named = plans.named;
  counts = plans.counts;
  brings = plans.brings;
  gives = λ held counted.
      let given = plans.gives held counted in
      record {
        state = effect_leaves (rule (state_of held actor.parts.now)) (state_of held actor.parts.now) _ [] (conclusion_of (me_of actor) outcome) given.state (given.sends ∙ none) given.conclusion;
        sent = given.sends;
        reply = effect_replies (rule (state_of held actor.parts.now)) (state_of held actor.parts.now) _ [] (conclusion_of (me_of actor) outcome) given.state (given.sends ∙ none) given.conclusion
            ∙ shown_same outcome (me_of actor).memory (memory_in (process_in (slot_at (exchanged_in actor.parts.now plans.plan).procs actor.pid.0))) plans.shown;
      };
  signal = quiet_signal sends none;
  among = λ held. among_front (TheProc actor.pid.0 ∷ objects (state_of held actor.parts.now)) (target_objects sends) plans.plan (plans.among held);
}

-- the same of what a plan of a call comes to that sends nothing
pub quiet_call : {E : Type 0} (result : Result Outcome E) (actor : Actor) (before now : List Change) (rule : State → Effect) (objects : State → List Object) →
    IfOk result (λ outcome. Plans actor before now (quiet outcome) rule objects) → IfOk result (λ outcome. PlansStep actor before now outcome Nothing rule objects)
quiet_call {E} (Ok outcome) actor before now rule objects plans = quiet_step actor before now outcome Nothing rule objects refl plans
quiet_call {E} (Err why) actor before now rule objects plans = tt

-- a post leaves what its target has but for the pending signals
abbrev pub calmed : Process → Process
calmed me = record me { pending = 0; queued = [] }

received_keeps : (m : Sending) (q : Option Process) → option_map calmed (target_after m q) ≡ option_map calmed q
received_keeps m None = refl
received_keeps m (Some q) = by (may_signal m.from q.ids) (is_quiet m q) (is_realtime m.signo) (has_room q)
  where
    by : (permitted quiet realtime room : Bool) →
        Some (calmed (if permitted then (if quiet then q else (if realtime then (if room then with_queued m q else q) else with_pending m.signo q)) else q)) ≡ Some (calmed q)
    by false quiet realtime room = refl
    by true true realtime room = refl
    by true false true true = refl
    by true false true false = refl
    by true false false room = refl

pub posted_calm : (m : Sending) (S : State) (p : ℕ) → option_map calmed ((after_post m S).procs p) ≡ option_map calmed (S.procs p)
posted_calm m S p = elim (put_cases S.procs m.target (target_after m (S.procs m.target)) p) [
  | inl e ↦ ap (option_map calmed) e.1 ∙ received_keeps m (S.procs m.target) ∙ ap (λ (n : ℕ). option_map calmed (S.procs n)) (sym e.0)
  | inr e ↦ ap (option_map calmed) e.1
]

abbrev registers_in : Option Process → Option Regs
registers_in q = option_map (λ me. me.registers) q

calm_registers : (q : Option Process) → registers_in (option_map calmed q) ≡ registers_in q
calm_registers None = refl
calm_registers (Some q) = refl

posted_keeps : (m : Sending) (S : State) (p : ℕ) → registers_in ((after_post m S).procs p) ≡ registers_in (S.procs p)
posted_keeps m S p = sym (calm_registers ((after_post m S).procs p)) ∙ ap registers_in (posted_calm m S p) ∙ calm_registers (S.procs p)

calm_memory : (q : Option Process) → memory_in (option_map calmed q) ≡ memory_in q
calm_memory None = refl
calm_memory (Some q) = refl

posted_shows : (m : Sending) (S : State) (p : ℕ) → memory_in ((after_post m S).procs p) ≡ memory_in (S.procs p)
posted_shows m S p = sym (calm_memory ((after_post m S).procs p)) ∙ ap memory_in (posted_calm m S p) ∙ calm_memory (S.procs p)

-- the state after a post, of what it sees
post_state : (laws : PlanLaws) (parts : Parts) (m : Sending) (answer : Result (Unit {0}) Errno) (before now : List Change) (first : Parts) (held : ℕ → List Sending) →
    (p : PlansPost parts before now m answer) → sizes_of first ≡ sizes_of parts → IsSeen (slot_at parts.procs m.target) ((state_of held first).procs m.target) →
    state_of held (exchanged_in first p.plan) ≡ after_post m (state_of held first)
post_state laws parts m answer before now first held p sizes seen =
    let R : State = state_of held first in
    laws.changes held first p.plan (subst (λ (s : Sizes). AreWithin s p.plan) (sym sizes) p.named)
    ∙ laws.process m.target p.plan R p.own
    ∙ ap (λ (x : Option Process). write_one (SetProc m.target x) R) (p.receives (R.procs m.target) seen)

-- the plan of what is written, and then that of the post
pub posted_step : (laws : PlanLaws) (actor : Actor) (before between now : List Change) (outcome : Outcome) (m : TheSending) (answer : Result (Unit {0}) Errno)
    (rule : State → Effect) (objects : State → List Object) → Plans actor before between (record { outcome = outcome; sends = AtOnce m }) rule objects →
    PlansPost actor.parts.now between now (sending_of m) answer → PlansStep actor before now outcome (AtOnce m) rule objects
unfolding after_posts
posted_step laws actor before between now outcome m answer rule objects plans p =
    let parts : Parts = actor.parts.now in
    let first : Parts = exchanged_in parts plans.plan in
    let sizes : sizes_of first ≡ sizes_of parts = laws.sizes parts plans.plan in
    let named : AreNamed first p.plan = subst (λ (s : Sizes). AreWithin s p.plan) (sym sizes) p.named in
    let whole : exchanged_in parts (plans.plan ++ p.plan) ≡ exchanged_in first p.plan = laws.applied parts plans.plan p.plan in
    record {
      plan = plans.plan ++ p.plan;
      added = p.added ∙ ap (λ (xs : List Change). xs ++ p.plan) plans.added ∙ append_assoc before plans.plan p.plan;
      named = laws.named parts plans.plan p.plan plans.named p.named;
      counts = subst CountsAgree (sym whole) (laws.nameless first p.plan named p.nameless plans.counts);
      brings = brings_append plans.plan p.plan plans.brings (own_brings m.target.0 p.plan p.own);
      gives = λ held counted.
          let S : State = state_of held parts in
          let after : ℕ → List Sending = held_after (inside_of actor.inside) (AtOnce m) held in
          let given : Gives actor first (record { outcome = outcome; sends = AtOnce m }) held (rule S) = plans.gives held counted in
          let seen : IsSeen (slot_at parts.procs m.target.0) ((state_of after first).procs m.target.0) = plans.seen.1 in
          record {
            state = effect_leaves (rule S) S (state_of after first) (sending_of m ∷ []) (conclusion_of (me_of actor) outcome) given.state given.sends given.conclusion
                ∙ sym (post_state laws parts (sending_of m) answer between now first after p sizes seen)
                ∙ ap (state_of after) (sym whole);
            sent = given.sends;
            reply = effect_replies (rule S) S (state_of after first) (sending_of m ∷ []) (conclusion_of (me_of actor) outcome) given.state given.sends given.conclusion
                ∙ shown_same outcome (me_of actor).memory (memory_in ((state_of after first).procs actor.pid.0)) plans.shown
                ∙ ap (λ (memory : Memory). reply_of memory outcome) (sym (ap (λ (X : State). memory_in (X.procs actor.pid.0)) (ap (state_of after) whole ∙ post_state laws parts (sending_of m) answer between now first after p sizes seen)
                ∙ posted_shows (sending_of m) (state_of after first) actor.pid.0));
          };
      signal = plans.seen.0;
      among = λ held.
          let os : List Object = TheProc actor.pid.0 ∷ objects (state_of held parts) in
          among_both (os ++ TheProc m.target.0 ∷ []) plans.plan p.plan (among_front os (TheProc m.target.0 ∷ []) plans.plan (plans.among held)) (among_behind m.target.0 os p.plan p.own);
    }

-- an answer at the next point of a process that stands at this point
answered_at : (point : ℕ) (ret : ℤ) (q : Option Process) (registers : Regs) → registers_in q ≡ Some registers → registers.point ≡ point →
    option_map (revised (SetAnswer (record { point = next_point point; ret = ret }))) q ≡ with_answer_if ret q
answered_at point ret None registers there stands = refl
answered_at point ret (Some q) registers there stands =
    (λ j. Some (record q { registers = record { point = next_point (at j); ret = ret; slots = q.registers.slots } }))
  where
    point_of : Option Regs → ℕ
    point_of None = point
    point_of (Some regs) = regs.point

    at : point ≡ q.registers.point
    at = sym stands ∙ sym (ap point_of there)

-- a signal that is posted, and then the answer of its post
pub answered_step : (laws : PlanLaws) (actor : Actor) (before between now : List Change) (m : TheSending) (answer : Result (Unit {0}) Errno) (ret : ℤ)
    (rule : State → Effect) (objects : State → List Object) → IsActor actor → m.signo.0 < 64 →
    ((held : ℕ → List Sending) → CountsHeld actor.inside held → rule (state_of held actor.parts.now) ≡ effect_by actor (sent (Posts m)) (state_of held actor.parts.now)) →
    PlansPost actor.parts.now before between (sending_of m) answer → ret ≡ answer_of answer → now ≡ between ++ SetPart actor.pid (SetAnswer (answer_after ret actor)) ∷ [] →
    PlansStep actor before now (Done ret) (AtOnce m) rule objects
unfolding after_posts with_writes post_answers
answered_step laws actor before between now m answer ret rule objects is small does p number last =
    let parts : Parts = actor.parts.now in
    let n : ℕ = actor.pid.0 in
    let first : Parts = exchanged_in parts p.plan in
    let last_one : List Change = SetPart actor.pid (SetAnswer (answer_after ret actor)) ∷ [] in
    let sizes : sizes_of first ≡ sizes_of parts = laws.sizes parts p.plan in
    let own : AreOf n last_one = ((refl, tt), tt) in
    let named : AreNamed parts last_one = own_named parts n last_one is.number own in
    let named_now : AreNamed first last_one = subst (λ (s : Sizes). AreWithin s last_one) (sym sizes) named in
    let whole : exchanged_in parts (p.plan ++ last_one) ≡ exchanged_in first last_one = laws.applied parts p.plan last_one in
    record {
      plan = p.plan ++ last_one;
      added = last ∙ ap (λ (xs : List Change). xs ++ last_one) p.added ∙ append_assoc before p.plan last_one;
      named = laws.named parts p.plan last_one p.named named;
      counts = subst CountsAgree (sym whole) (laws.nameless first last_one named_now (tt, tt) (laws.nameless parts p.plan p.named p.nameless is.whole.counts));
      brings = brings_append p.plan last_one (own_brings m.target.0 p.plan p.own) (own_brings n last_one own);
      gives = λ held counted.
          let S : State = state_of held parts in
          let q : Option Process = S.procs m.target.0 in
          let after : ℕ → List Sending = held_after (inside_of actor.inside) (AtOnce m) held in
          let seen : IsSeen (slot_at parts.procs m.target.0) q = seen_now (slot_at parts.procs m.target.0) in
          let R : State = after_post (sending_of m) S in
          let right : post_answer (sending_of m) q ≡ ret = sym (p.answers q seen) ∙ sym number in
          let here : registers_in (R.procs n) ≡ Some actor.proc.now.regs = posted_keeps (sending_of m) S n ∙ ap (λ (slot : Option Proc). registers_in (process_in slot)) is.there in
          let posted_so : state_of held first ≡ R = post_state laws parts (sending_of m) answer before between parts held p refl seen in
          let made : state_of held (exchanged_in first last_one) ≡ write_one (SetProc n (with_answer_if ret (R.procs n))) R
          = laws.changes held first last_one named_now ∙ laws.process n last_one (state_of held first) own
          ∙ ap (λ (X : State). write_one (SetProc n (option_map (revised_by last_one) (X.procs n))) X) posted_so
          ∙ ap (λ (x : Option Process). write_one (SetProc n x) R) (answered_at actor.proc.now.regs.point ret (R.procs n) actor.proc.now.regs here refl) in
          record {
            state = effect_leaves (rule S) S S (sending_of m ∷ []) (effects.AnswersPost n) (ap (λ (f : Effect). before_sends f S) (does held counted)) (ap (λ (f : Effect). f.sends) (does held counted)) (ap (λ (f : Effect). f.conclusion) (does held counted))
                ∙ ap (λ (r : ℤ). write_one (SetProc n (with_answer_if r (R.procs n))) R) right ∙ sym made ∙ ap (state_of held) (sym whole)
                ∙ ap (λ (h : ℕ → List Sending). state_of h (exchanged_in parts (p.plan ++ last_one))) (sym (same_held actor.inside m held));
            sent = ap (λ (f : Effect). f.sends) (does held counted);
            reply = effect_replies (rule S) S S (sending_of m ∷ []) (effects.AnswersPost n) (ap (λ (f : Effect). before_sends f S) (does held counted)) (ap (λ (f : Effect). f.sends) (does held counted)) (ap (λ (f : Effect). f.conclusion) (does held counted))
                ∙ ap TheDone right;
          };
      signal = small;
      among = λ held.
          let os : List Object = TheProc n ∷ objects (state_of held parts) in
          among_both (os ++ TheProc m.target.0 ∷ []) p.plan last_one (among_behind m.target.0 os p.plan p.own)
          (among_front os (TheProc m.target.0 ∷ []) last_one (own_among n (objects (state_of held parts)) last_one own));
    }
