-- An accepted step goes with what it is to the transactions.
use Rattle.std.proofs.Common.{◌≡◌, ◌<◌, ◌≤◌, ℕ, zero, suc, Bool, true, false, not, ℤ, pos, negsuc, Option, Some, None, is_some, if◌then◌else◌, refl, sym, ap, ap₂, ◌∙◌, subst, inl, inr, eq-eqb, arith, ltb-true, List}
use Rattle.std.proofs.lemmas.Bool.{both_ways, not-false, cases_Bool, cases_eq}
use Rattle.tx_base.specs.declared.marks.Mark.{Mark}
use Rattle.tx_base.specs.declared.names.Pid.{Pid}
use Rattle.tx_base.specs.declared.steps.Call.{Call}
use Rattle.tx_base.specs.declared.steps.Call.TheVariants.{Fork, SysXbegin, SysXbeginDefer, SysXend, SysXabort}
use Rattle.tx_base.specs.declared.steps.Refusal.{Refusal}
use Rattle.tx_base.specs.declared.steps.Refusal.TheVariants.{NoProcess, NotRunning, BadNumber, NumberTaken, Doomed, Parked, KillPending}
use Rattle.tx_base.specs.declared.steps.Reply.{Reply}
use Rattle.tx_base.specs.declared.steps.Reply.TheVariants.{Aborted}
use Rattle.tx_base.specs.declared.steps.Step.{Step}
use Rattle.tx_base.specs.declared.steps.Step.TheVariants.{Call as Calls, Deliver, KernelAbort}
use Rattle.tx_model.specs.ObjectFacts.{has_head, has_tail}
use Rattle.tx_model.specs.State.{State, Sending, Proc, Held, has_object, is_between, Object}
use Rattle.tx_model.specs.Numbers.{negative}
use Rattle.tx_model.specs.Effects.{Inside}
use Rattle.tx_model.specs.Descriptors.{open_in, desc_objects}
use Rattle.tx_model.specs.Book.{page_of_call}
use Rattle.tx_model.specs.BookLaws.{names_as}
use Rattle.tx_model.specs.Words.{kind_of, member_end_role, ordinary_role, IsClear, unless_refused, fork_objects, called_by_status, has_bad_number, has_number_in_use, is_stopped_by_kill, busy, kind_role}
use Rattle.tx_model.specs.Events.{Event, Do, Note, Commit, process_of, actor, effect, objects, step_effect, reply_of}
use Rattle.tx_model.specs.Membership.{Table, is_member_of, is_live, inside_by, Progress, Continues, Parks, Forks, Begins, Role, Outside, Within, Commits, Aborts, Kind, Ordinary, Forking, Beginning, Leaving, Aborting, says_ended, others_open, role, kind_event, step_event, event_in, event}
use Rattle.tx_model.specs.History.{is_other_starter}
use Rattle.tx_model.specs.View.{View, present, kernel_status, abort_status, first_reply, role_on, event_on, in_way, least, starter_in_way}
use Rattle.tx_model.specs.Answer.{is_running, is_there, is_doomed_at, is_parked, refusal, plain_reply, accepted_reply, answer, IsAccepted}
use Rattle.tx_laws.specs.Sound.{IsSound}
use Rattle.tx_laws.proofs.OfActs.{act_sends, act_holds, runs_some}
use Rattle.tx_laws.proofs.Tables.{of_unique, of_none}
use Rattle.tx_laws.specs.Fits.{IsIn, ProgressFits, FitsWithin, Fits, Passes}

some_not_none : (o : Option ℕ) → is_some o ≡ true → o ≡ None → ⊥
some_not_none None a b = cc
some_not_none (Some k) a b = cc

none_of : (o : Option ℕ) → is_some o ≡ false → o ≡ None
none_of None a = refl
none_of (Some k) a = cc

-- where there is no least number that passes, no number passes
pub least_none : (P : ℕ → Bool) (n : ℕ) → least P n ≡ None → (s : ℕ) → s ≤ n → P s ≡ false
unfolding least
least_none P zero e s h = by (P zero) refl
  where
    by : (b : Bool) → P zero ≡ b → P s ≡ false
    by true k = let z : Some zero ≡ None = rw k at e in cc
    by false k = let w : s ≡ zero = omega arith in subst (λ (x : ℕ). P x ≡ false) (sym w) k
least_none P (suc n) e s h =
    elim (cases_Bool (is_some (least P n))) [
      | inl a ↦ absurd (some_not_none (least P n) a (rw a at e))
      | inr a ↦ elim (cases_Bool (P (suc n))) [
        | inl b ↦ let z : Some (suc n) ≡ None = rw (a, b) at e in cc
        | inr b ↦ elim (cases_eq s (suc n)) [
          | inl d ↦ subst (λ (x : ℕ). P x ≡ false) (sym d) b
          | inr d ↦ least_none P n (none_of (least P n) a) s (omega arith)
        ]
      ]
    ]

pub between_le : (limit n : ℕ) → is_between limit n ≡ true → n ≤ limit
between_le limit zero h = omega arith
between_le limit (suc n) h = let k : n < limit = ltb-true n limit h in omega arith

pub clear_of : (V : View) (ev : Event) → IsSound V → starter_in_way V ev ≡ None → IsClear V ev
clear_of V ev sound h s live = least_none (in_way V ev) V.table.width h s (between_le V.table.width s (sound.bounded s s live))

pub if_none : (b : Bool) (why : Refusal) (rest : Option Refusal) → (if b then Some why else rest) ≡ None → (b ≡ false) × (rest ≡ None)
if_none true why rest h = cc
if_none false why rest h = (refl, h)

busy_none : (x : Option ℕ) → busy x ≡ None → x ≡ None
busy_none None h = refl
busy_none (Some s) h = cc

-- what the answer to a step that is not refused says
pub record IsUnrefused (V : View) (p : ℕ) (step : Step) : Type 0 where
  pub there : is_there V p ≡ true
  pub running : is_running ((present V).procs p) ≡ true
  pub number : has_bad_number V.table.width step ≡ false
  pub clear : starter_in_way V (event_on V step) ≡ None

pub unrefused : (V : View) (p : ℕ) (step : Step) → refusal V p step ≡ None → IsUnrefused V p step
unrefused V p step h =
    let a = if_none (not (is_there V p)) NoProcess _ h in
    let b = if_none (not (is_running ((present V).procs p))) NotRunning _ a.1 in
    let c = if_none (has_bad_number V.table.width step) BadNumber _ b.1 in
    let d = if_none (has_number_in_use (present V) step) NumberTaken _ c.1 in
    let e = if_none (is_doomed_at V (V.table.marks p)) Doomed _ d.1 in
    let f = if_none (is_parked (V.table.marks p)) Parked _ e.1 in
    let g = if_none (is_stopped_by_kill (present V) p step) KillPending _ f.1 in
    record { there = not-false (is_there V p) a.0; running = not-false (is_running ((present V).procs p)) b.0; number = c.0; clear = busy_none (starter_in_way V (event_on V step)) g.1 }

-- a member of the transaction is no live starter of another
no_other : (t : Table) (s p n : ℕ) → is_member_of t s p ≡ true → is_member_of t s n ≡ true → is_other_starter t p n ≡ false
no_other t s p n mine theirs = by (is_live t n) refl
  where
    by : (b : Bool) → is_live t n ≡ b → (if b then not (is_member_of t n p) else false) ≡ false
    by true live =
        let own : n ≡ s = of_unique n s (t.marks n) live theirs in
        let here : is_member_of t n p ≡ true = subst (λ (u : ℕ). is_member_of t u p ≡ true) (sym own) mine in
        rw here refl
    by false live = refl

-- an event of process p that sends to no live starter of a transaction other than that of s, and holds with that of s
record StaysWithin (V : View) (s p : ℕ) (ev : Event) : Type 0 where
  actor_is : actor ev ≡ p
  sends : (S : State) (m : Sending) → IsIn m (effect ev S).sends → is_other_starter V.table (actor ev) m.target ≡ false
  holds : (S : State) (u : ℕ) → has_object (Held u) (objects ev S) ≡ true → u ≡ s

note_within : (V : View) (s p : ℕ) (r : ℤ) → StaysWithin V s p (Note p r)
unfolding effect objects has_object
note_within V s p r = record { actor_is = refl; sends = λ S m i. absurd i; holds = λ S u h. cc }

step_sends : (step : Step) (i : Inside) (S : State) → i.members (process_of step) ≡ true → (m : Sending) → IsIn m (step_effect step (Some i) S).sends → i.members m.target ≡ true
step_sends (KernelAbort s) i S member m h = absurd h
step_sends step i S member m h = act_sends (Some i) (process_of step) step i refl S member m h

-- what a member sends at once goes to members
pub do_sends : (step : Step) (i : Inside) (S : State) (m : Sending) → i.members (process_of step) ≡ true → IsIn m (effect (Do step (Some i)) S).sends → i.members m.target ≡ true
unfolding effect
do_sends step i S m member h = step_sends step i S member m h

within_fits : (V : View) (s p : ℕ) (part : Progress) (ev : Event) → StaysWithin V s p ev → ((t : ℕ) → is_member_of V.table t p ≡ true → t ≡ s) → ProgressFits V s p ev part → FitsWithin s part ev p V
within_fits V s p part ev own mine f = record { actor_is = own.actor_is; mine = mine; progress_fits = f; sends = own.sends; holds = own.holds }

module _ (V : View) (p : ℕ) (m : Mark) (e : V.table.marks p ≡ Some m) where
  member_is : is_member_of V.table m.starter.0 p ≡ true
  member_is = rw e (eq-eqb m.starter.0 m.starter.0 refl)

  member_mine : (t : ℕ) → is_member_of V.table t p ≡ true → t ≡ m.starter.0
  member_mine t h = of_unique t m.starter.0 (V.table.marks p) h member_is

  do_within : (step : Step) → process_of step ≡ p → StaysWithin V m.starter.0 p (Do step (inside_by V.table (Some m)))
  unfolding effect objects
  do_within step is = record {
    actor_is = is;
    sends = λ S n h.
        let mine : is_member_of V.table m.starter.0 (process_of step) ≡ true = subst (λ (q : ℕ). is_member_of V.table m.starter.0 q ≡ true) (sym is) member_is in
        no_other V.table m.starter.0 (process_of step) n.target mine
        (step_sends step (record { starter = m.starter.0; members = is_member_of V.table m.starter.0; defers = m.defers }) S mine n h);
    holds = λ S u h. act_holds (inside_by V.table (Some m)) (process_of step) step (record { starter = m.starter.0; members = is_member_of V.table m.starter.0; defers = m.defers }) refl S u h;
  }

  ending_fits : (ev : Event) → StaysWithin V m.starter.0 p ev → (b : Bool) → Fits (member_end_role b m.starter.0) (event_in (member_end_role b m.starter.0) ev) p V
  ending_fits ev own true = within_fits V m.starter.0 p Parks ev own member_mine member_is
  ending_fits ev own false = subst (λ (q : ℕ). is_member_of V.table m.starter.0 q ≡ true) (sym own.actor_is) member_is

  ordinary_fits : (ev : Event) → StaysWithin V m.starter.0 p ev → (b : Bool) → Fits (ordinary_role b V.table m.starter.0 p) (event_in (ordinary_role b V.table m.starter.0 p) ev) p V
  ordinary_fits ev own true = ending_fits ev own (others_open V.table m.starter.0 p V.table.width)
  ordinary_fits ev own false = within_fits V m.starter.0 p Continues ev own member_mine member_is

none_fits : (V : View) (p : ℕ) (ev : Event) → V.table.marks p ≡ None → actor ev ≡ p → (t : ℕ) → is_member_of V.table t (actor ev) ≡ false
none_fits V p ev e is t = of_none t (V.table.marks (actor ev)) (ap V.table.marks is ∙ e)

-- where the step forks, the child is one of its objects, and has a good number
abbrev ForksWell : View → Step → Kind → Type 0
ForksWell V step Ordinary = Unit {0}
ForksWell V step (Forking c) = ((inside : Option Inside) → has_object (Proc c) (objects (Do step inside) (present V)) ≡ true) × (is_between V.table.width c ≡ true)
ForksWell V step (Beginning defers) = Unit {0}
ForksWell V step Leaving = Unit {0}
ForksWell V step Aborting = Unit {0}

kind_fits : (V : View) (p : ℕ) (step : Step) (r : Reply) → process_of step ≡ p → IsSound V → is_between V.table.width p ≡ true
    → is_running ((present V).procs p) ≡ true → (k : Kind) → ForksWell V step k → (mark : Option Mark) → V.table.marks p ≡ mark
    → Fits (kind_role V.table p k r mark) (event_in (kind_role V.table p k r mark) (kind_event V.table p step k mark)) p V
kind_fits V p step r is sound b run Ordinary f None e = none_fits V p (Do step None) e is
kind_fits V p step r is sound b run Ordinary f (Some m) e = ordinary_fits V p m e (Do step (inside_by V.table (Some m))) (do_within V p m e step is) (says_ended r)
kind_fits V p step r is sound b run (Forking c) f None e = none_fits V p (Do step None) e is
kind_fits V p step r is sound b run (Forking c) f (Some m) e =
    within_fits V m.starter.0 p (Forks c) (Do step (inside_by V.table (Some m))) (do_within V p m e step is) (member_mine V p m e)
    (member_is V p m e, f.0 (inside_by V.table (Some m)), f.1)
kind_fits V p step r is sound b run (Beginning defers) f None e =
    within_fits V p p (Begins defers) (Note p (pos 0)) (note_within V p p (pos 0))
    (λ t h. absurd (both_ways (is_member_of V.table t p) (of_none t (V.table.marks p) e) h)) (refl, e, b, run)
kind_fits V p step r is sound b run (Beginning defers) f (Some m) e =
    within_fits V m.starter.0 p Continues (Note p (negsuc 21)) (note_within V m.starter.0 p (negsuc 21)) (member_mine V p m e) (member_is V p m e)
kind_fits V p step r is sound b run Leaving f None e = none_fits V p (Note p (negsuc 21)) e refl
kind_fits V p step r is sound b run Leaving f (Some m) e = ending_fits V p m e (Note p (pos 0)) (note_within V m.starter.0 p (pos 0)) (others_open V.table m.starter.0 p V.table.width)
kind_fits V p step r is sound b run Aborting f None e = none_fits V p (Note p (negsuc 21)) e refl
kind_fits V p step r is sound b run Aborting f (Some m) e =
    (sound.owned_live m.starter.0 (Proc p) (sound.own_procs m.starter.0 p (member_is V p m e)), (negative called_by_status, refl))

forks_well : (V : View) (pid : Pid) (call : Call) → is_running ((present V).procs pid.0) ≡ true → has_bad_number V.table.width (Calls pid call) ≡ false
    → ForksWell V (Calls pid call) (kind_of call)
unfolding objects
forks_well V pid (Fork child) h n = (
  λ inside.
      let r = runs_some ((present V).procs pid.0) h in
      subst (λ (os : List Object). has_object (Proc child.0) os ≡ true) (sym (names_as inside pid.0 (page_of_call (Fork child)) (present V) r.0 r.1))
      (has_tail (Proc child.0) (Proc pid.0) (fork_objects child.0 r.0) (has_head (Proc child.0) (desc_objects (open_in r.0.descriptors)))),
  not-false (is_between V.table.width child.0) n,
)
forks_well V pid SysXbegin h n = tt
forks_well V pid SysXbeginDefer h n = tt
forks_well V pid SysXend h n = tt
forks_well V pid SysXabort h n = tt
forks_well V pid call h n = tt

pub passes_of : (V : View) (r : Role) (ev : Event) → IsClear V ev → Passes r ev V
passes_of V Outside ev clear = clear
passes_of V (Within s part) ev clear = clear
passes_of V (Commits s) ev clear = clear
passes_of V (Aborts s k) ev clear = tt

-- the reply to a commit says that the process ended, if the first reply did
commit_ends : (s : ℕ) (ev : Event) (S : State) → says_ended (reply_of (Commit s ev) S) ≡ true
unfolding reply_of effect
commit_ends s ev S = refl

-- the recorded reply tells the same of the step as the first reply
ending_same : (k : ℕ) (S : State) (t : Table) (s p : ℕ) (ev : Event) (b : Bool) → says_ended (reply_of ev S) ≡ true → says_ended (plain_reply k (member_end_role b s) (event_in (member_end_role b s) ev) S) ≡ true
ending_same k S t s p ev true h = h
ending_same k S t s p ev false h = commit_ends s ev S

ordinary_same : (k : ℕ) (S : State) (t : Table) (s p : ℕ) (ev : Event) (b : Bool) → says_ended (reply_of ev S) ≡ b →
    ordinary_role (says_ended (plain_reply k (ordinary_role b t s p) (event_in (ordinary_role b t s p) ev) S)) t s p ≡ ordinary_role b t s p
ordinary_same k S t s p ev true h = rw (ending_same k S t s p ev (others_open t s p t.width) h) refl
ordinary_same k S t s p ev false h = rw h refl

kind_same : (n : ℕ) (V : View) (p : ℕ) (step : Step) (k : Kind) (mark : Option Mark) →
    kind_role V.table p k (plain_reply n (kind_role V.table p k (reply_of (kind_event V.table p step k mark) (present V)) mark)
    (event_in (kind_role V.table p k (reply_of (kind_event V.table p step k mark) (present V)) mark) (kind_event V.table p step k mark)) (present V)) mark
    ≡ kind_role V.table p k (reply_of (kind_event V.table p step k mark) (present V)) mark
kind_same n V p step Ordinary None = refl
kind_same n V p step Ordinary (Some m) = ordinary_same n (present V) V.table m.starter.0 p (Do step (inside_by V.table (Some m))) (says_ended (reply_of (Do step (inside_by V.table (Some m))) (present V))) refl
kind_same n V p step (Forking c) None = refl
kind_same n V p step (Forking c) (Some m) = refl
kind_same n V p step (Beginning defers) None = refl
kind_same n V p step (Beginning defers) (Some m) = refl
kind_same n V p step Leaving None = refl
kind_same n V p step Leaving (Some m) = refl
kind_same n V p step Aborting None = refl
kind_same n V p step Aborting (Some m) = refl

-- the step may be taken on the view, with this reply
pub record IsTaken (V : View) (step : Step) (r : Reply) : Type 0 where
  pub fits : Fits (role V.table step r) (event V.table step r) (process_of step) V
  pub passes : Passes (role V.table step r) (event V.table step r) V
  pub reply : r ≡ plain_reply (abort_status V step) (role V.table step r) (event V.table step r) (present V)
  pub role_is : role V.table step r ≡ role_on V step
  pub event_is : event V.table step r ≡ event_on V step

-- the same, of what the step is on the view
record IsTakenOn (V : View) (step : Step) (r : Reply) : Type 0 where
  fits : Fits (role_on V step) (event_on V step) (process_of step) V
  passes : Passes (role_on V step) (event_on V step) V
  reply : r ≡ plain_reply (abort_status V step) (role_on V step) (event_on V step) (present V)

moved_taken : (V : View) (step : Step) (r : Reply) → IsTakenOn V step r → (a : Role) (b : Event) → a ≡ role_on V step → b ≡ event_on V step →
    Fits a b (process_of step) V × Passes a b V × (r ≡ plain_reply (abort_status V step) a b (present V))
moved_taken V step r t a b x y =
    subst (λ (z : Role × Event). Fits z.0 z.1 (process_of step) V × Passes z.0 z.1 V × (r ≡ plain_reply (abort_status V step) z.0 z.1 (present V)))
    (ap₂ (λ (u : Role) (v : Event). (u, v)) (sym x) (sym y)) (t.fits, t.passes, t.reply)

taken_from : (V : View) (step : Step) (r : Reply) → IsTakenOn V step r → role V.table step r ≡ role_on V step → step_event V.table step r ≡ step_event V.table step (first_reply V step) → IsTaken V step r
taken_from V step r t x y =
    let same : event V.table step r ≡ event_on V step = ap₂ (λ (u : Role) (v : Event). event_in u v) x y in
    let z = moved_taken V step r t (role V.table step r) (event V.table step r) x same in
    record { fits = z.0; passes = z.1; reply = z.2; role_is = x; event_is = same }

pub unless_accepted : (o : Option Refusal) (a r : Reply) → unless_refused o a ≡ r → IsAccepted r → (o ≡ None) × (a ≡ r)
unless_accepted None a r e h = (refl, e)
unless_accepted (Some why) a r e h = absurd (subst IsAccepted (sym e) h)

pub there_between : (V : View) (p : ℕ) → is_there V p ≡ true → is_between V.table.width p ≡ true
there_between V p h = by (is_between V.table.width p) h
  where
    by : (b : Bool) → (if b then is_some ((present V).procs p) else false) ≡ true → b ≡ true
    by true k = refl
    by false k = cc

-- a call or a delivery that is accepted
module _ (V : View) (step : Step) (p : ℕ) (k : Kind) (r : Reply) (sound : IsSound V) (u : IsUnrefused V p step) (f : ForksWell V step k) where
  asked_on : process_of step ≡ p → accepted_reply V step ≡ r
      → Fits (role_on V step) (event_on V step) p V → IsTakenOn V step r
  asked_on is z fits = record {
    fits = subst (λ (q : ℕ). Fits (role_on V step) (event_on V step) q V) (sym is) fits;
    passes = passes_of V (role_on V step) (event_on V step) (clear_of V (event_on V step) sound u.clear);
    reply = sym z;
  }

pub taken : (V : View) (step : Step) (r : Reply) → IsSound V → answer V step ≡ r → IsAccepted r → IsTaken V step r
unfolding answer
taken V (Calls pid call) r sound e a =
    let step : Step = Calls pid call in
    let z = unless_accepted (refusal V pid.0 step) (accepted_reply V step) r e a in
    let u : IsUnrefused V pid.0 step = unrefused V pid.0 step z.0 in
    let f : ForksWell V step (kind_of call) = forks_well V pid call u.running u.number in
    let t : IsTakenOn V step r = asked_on V step pid.0 (kind_of call) r sound u f refl z.1
    (kind_fits V pid.0 step (first_reply V step) refl sound (there_between V pid.0 u.there) u.running (kind_of call) f (V.table.marks pid.0) refl) in
    let same = kind_same called_by_status V pid.0 step (kind_of call) (V.table.marks pid.0) in
    taken_from V step r t (ap (λ (x : Reply). role V.table step x) (sym z.1) ∙ same) refl
taken V (Deliver pid signo) r sound e a =
    let step : Step = Deliver pid signo in
    let z = unless_accepted (refusal V pid.0 step) (accepted_reply V step) r e a in
    let u : IsUnrefused V pid.0 step = unrefused V pid.0 step z.0 in
    let t : IsTakenOn V step r = asked_on V step pid.0 Ordinary r sound u tt refl z.1
    (kind_fits V pid.0 step (first_reply V step) refl sound (there_between V pid.0 u.there) u.running Ordinary tt (V.table.marks pid.0) refl) in
    let same = kind_same called_by_status V pid.0 step Ordinary (V.table.marks pid.0) in
    taken_from V step r t (ap (λ (x : Reply). role V.table step x) (sym z.1) ∙ same) refl
taken V (KernelAbort s) r sound e a = by (is_live V.table s.0) refl
  where
    by : (b : Bool) → is_live V.table s.0 ≡ b → IsTaken V (KernelAbort s) r
    by true t =
        let z : Aborted (kernel_status V s.0) ≡ r = rw t at e in
        taken_from V (KernelAbort s) r
        (record { fits = (t, (negative (kernel_status V s.0), refl)); passes = tt; reply = sym z })
        (ap (λ (x : Reply). role V.table (KernelAbort s) x) (sym z)) (ap (λ (x : Reply). step_event V.table (KernelAbort s) x) (sym z))
    by false t = absurd (subst IsAccepted (sym (rw t at e)) a)
