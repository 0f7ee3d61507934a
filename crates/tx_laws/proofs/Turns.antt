-- What the writes of a step make of the processes' standing, and of what is held.
use Rattle.std.proofs.Common.{◌≡◌, ◌≢◌, ◌⊎◌, ℕ, zero, suc, ◌+◌, ◌<◌, Bool, true, false, List, [], ◌∷◌, ◌++◌, ℤ, pos, Option, Some, None, is_some, is_none, if◌then◌else◌, ◌==◌, refl, sym, ap, ap₂, ◌∙◌, subst, inl, inr, eq-eqb, eqb-true}
use Rattle.std.proofs.lemmas.Bool.{both_ways, ltb-true}
use Rattle.tx_base.specs.declared.errors.Errno.{Errno}
use Rattle.tx_base.specs.declared.limits.TheConstants.{HELD_SENDS}
use Rattle.tx_base.specs.declared.steps.Call.{Call}
use Rattle.tx_base.specs.declared.steps.Call.TheVariants as call
use Rattle.tx_base.specs.declared.steps.Refusal.{Refusal}
use Rattle.tx_base.specs.declared.steps.Refusal.TheVariants.{NoTransaction, NumberTaken, Wait}
use Rattle.tx_base.specs.declared.steps.Reply.TheVariants.{Done, Ended}
use Rattle.tx_base.specs.declared.steps.Step.{Step}
use Rattle.tx_base.specs.declared.steps.Step.TheVariants.{Call as Calls, Deliver, KernelAbort}
use Rattle.tx_model.specs.Forms.{Outcome, fails, answers, changes, refuses, effect_of, ◌when◌, caller}
use Rattle.tx_model.specs.Book.{fork, exit, waitpid, sigqueue, closed_inside, sender_count, member_sends, sending_from, page_of_call}
use Rattle.tx_model.specs.Numbers.{error_answer}
use Rattle.tx_model.specs.State.{Process, State, Sending, Write, SetProc, SetDesc, SetPipe, SetHeld, put_at, write_one, with_writes, has_parent}
use Rattle.tx_model.specs.StateLaws.{put_here, put_cases, put_there}
use Rattle.tx_model.specs.Effects.{Inside, Effect, Replies, idle, with_answer}
use Rattle.tx_model.specs.Words.{notice_by, own_effect, call_effect, delivery_effect, with_status}
use Rattle.tx_model.specs.Descriptors.{open_in, removals}
use Rattle.tx_model.specs.Processes.{child_of, ended_process, children_below, children_of, with_parent, orphan_writes, child_notice, Notice, NotTold, AtOnce, AtCommit, parent_notice, notice_now, notice_held, ending, exit_status}
use Rattle.tx_model.specs.Deliveries.{without_delivered, at_catch_point, killed_status, delivery_page}
use Rattle.tx_model.specs.Events.{process_of, step_effect}
use Rattle.tx_model.specs.BookLaws.{fork_lines, exit_lines, waitpid_lines, sigqueue_lines, where_runs, delivery_lines}
use Rattle.tx_laws.proofs.OfPages.{none_there}
use Rattle.tx_laws.proofs.OfSends.{holder_is}
use Rattle.tx_laws.proofs.KeepsFormReleased.{written_append}
use Rattle.tx_laws.proofs.Standings.{some_same, some_is, Standing, standing_of, stand, put_stand}
use Rattle.tx_laws.proofs.PlainWrites.{IsLater, IsPlainWrite, ArePlain, concludes_ended, IsPlain, same_plain, released_plain}
use Rattle.tx_laws.proofs.PlainCalls.{IsSpecial, call_plain}

abbrev pub Same : State → State → Type 0
Same S T = (n : ℕ) → stand (T.procs n) ≡ stand (S.procs n)

abbrev pub SameBut : ℕ → State → State → Type 0
SameBut k S T = (n : ℕ) → n ≢ k → stand (T.procs n) ≡ stand (S.procs n)

abbrev pub HoldsSame : State → State → Type 0
HoldsSame S T = (u : ℕ) → T.held u ≡ S.held u

-- one send more is held by the transaction that the step is inside of
pub record HoldsMore (i : Inside) (m : Sending) (S T : State) : Type 0 where
  pub more : T.held i.starter ≡ S.held i.starter ++ m ∷ []
  pub others : (u : ℕ) → u ≢ i.starter → T.held u ≡ S.held u

abbrev pub standing : ℕ → Bool → Option Standing
standing parent runs = Some (record { parent = parent; runs = runs })

-- a process stands as before, or its parent was p and is process 1
abbrev pub IsOrphan : ℕ → Option Process → Option Process → Type 0
IsOrphan p x y = (stand y ≡ stand x) ⊎ ((r : Bool) × (stand x ≡ standing p r) × (stand y ≡ standing 1 r))

-- it is there as before
pub orphan_some : (p : ℕ) (x y : Option Process) → IsOrphan p x y → is_some x ≡ true → is_some y ≡ true
orphan_some p x y (inl e) h = some_same y x e ∙ h
orphan_some p x y (inr e) h = some_is y (record { parent = 1; runs = e.0 }) e.2

-- how the parent of a process that ended is told
pub data Told (inside : Option Inside) (parent : ℕ) (S T : State) : Type 0 where
  NotLater : HoldsSame S T → Told inside parent S T
  Later : (i : Inside) → inside ≡ Some i → i.members parent ≡ false → parent ≢ 1 → HoldsMore i (child_notice parent) S T → Told inside parent S T

-- what the effect of a step of process p does to the standing of processes, and to what is held
pub data Turn (inside : Option Inside) (p : ℕ) (S : State) (f : Effect) : Type 0 where
  Stays : concludes_ended f.conclusion ≡ false → Same S (with_writes f.writes S) → HoldsSame S (with_writes f.writes S) → Turn inside p S f
  -- a member's send is held
  Sends : concludes_ended f.conclusion ≡ false → (i : Inside) → inside ≡ Some i → (m : Sending) → sender_count m.from ≡ 1 → member_sends (S.held i.starter) < HELD_SENDS
      → Same S (with_writes f.writes S) → HoldsMore i m S (with_writes f.writes S) → Turn inside p S f
  -- a child is there
  Grows : concludes_ended f.conclusion ≡ false → (c : ℕ) → S.procs c ≡ None → stand ((with_writes f.writes S).procs c) ≡ standing p true → SameBut c S (with_writes f.writes S)
      → HoldsSame S (with_writes f.writes S) → Turn inside p S f
  -- a child that had ended is gone
  Reaps : concludes_ended f.conclusion ≡ false → (t : ℕ) → stand (S.procs t) ≡ standing p false → stand ((with_writes f.writes S).procs t) ≡ None → SameBut t S (with_writes f.writes S)
      → HoldsSame S (with_writes f.writes S) → Turn inside p S f
  -- the process has ended
  Ends : f.conclusion ≡ Replies Ended → (parent : ℕ) → stand (S.procs p) ≡ standing parent true → stand ((with_writes f.writes S).procs p) ≡ standing parent false
      → ((n : ℕ) → n ≢ p → IsOrphan p (S.procs n) ((with_writes f.writes S).procs n)) → f.sends ≡ notice_now (parent_notice inside parent) parent
      → Told inside parent S (with_writes f.writes S) → Turn inside p S f

-- a fork makes its child
pub record GrowsBy (p c : ℕ) (S : State) (f : Effect) : Type 0 where
  pub free : S.procs c ≡ None
  pub child : stand ((with_writes f.writes S).procs c) ≡ standing p true
  pub others : SameBut c S (with_writes f.writes S)
  pub held : HoldsSame S (with_writes f.writes S)

-- plain writes
later_stand : (me q : Process) → IsLater me q → standing_of q ≡ standing_of me
later_stand me q k = λ i. record { parent = k.parent i; runs = is_none (k.status i) }

write_stand : (p : ℕ) (me : Process) (w : Write) (T : State) → stand (T.procs p) ≡ Some (standing_of me) → IsPlainWrite p me w → Same T (write_one w T)
write_stand p me (SetProc k None) T e h n = absurd h
write_stand p me (SetProc k (Some q)) T e h n =
    put_stand T.procs k (Some q) (ap Some (later_stand me q h.later) ∙ sym e ∙ sym (ap (λ (i : ℕ). stand (T.procs i)) h.number)) n
write_stand p me (SetDesc k x) T e h n = refl
write_stand p me (SetPipe k x) T e h n = refl
write_stand p me (SetHeld k ms) T e h n = absurd h

plain_stand : (p : ℕ) (me : Process) (ws : List Write) (T : State) → stand (T.procs p) ≡ Some (standing_of me) → ArePlain p me ws → Same T (with_writes ws T)
unfolding with_writes ArePlain
plain_stand p me [] T e h n = refl
plain_stand p me (w ∷ ws) T e h n =
    plain_stand p me ws (write_one w T) (write_stand p me w T e h.0 p ∙ e) h.1 n ∙ write_stand p me w T e h.0 n

write_held : (p : ℕ) (me : Process) (w : Write) (T : State) → IsPlainWrite p me w → HoldsSame T (write_one w T)
write_held p me (SetProc k x) T h u = refl
write_held p me (SetDesc k x) T h u = refl
write_held p me (SetPipe k x) T h u = refl
write_held p me (SetHeld k ms) T h u = absurd h

plain_held : (p : ℕ) (me : Process) (ws : List Write) (T : State) → ArePlain p me ws → HoldsSame T (with_writes ws T)
unfolding with_writes ArePlain
plain_held p me [] T h u = refl
plain_held p me (w ∷ ws) T h u = plain_held p me ws (write_one w T) h.1 u ∙ write_held p me w T h.0 u

more_here : (T : State) (s : ℕ) (ms : List Sending) → (write_one (SetHeld s ms) T).held s ≡ ms
more_here T s ms = put_here T.held s ms

-- the children of a process
abbrev AllChildren : ℕ → State → List ℕ → Type 0
AllChildren p S [] = Unit {0}
AllChildren p S (q ∷ qs) = (has_parent p (S.procs q) ≡ true) × AllChildren p S qs

children_are : (p n : ℕ) (S : State) → AllChildren p S (children_below p n S)
unfolding children_below
children_are p zero S = tt
children_are p (suc n) S = by (has_parent p (S.procs n)) refl (children_are p n S)
  where
    by : (b : Bool) → has_parent p (S.procs n) ≡ b → AllChildren p S (children_below p n S) → AllChildren p S (if b then n ∷ children_below p n S else children_below p n S)
    by true e k = (e, k)
    by false e k = k

children_all : (p : ℕ) (S : State) → AllChildren p S (children_of p S)
children_all p S = by (p == 1)
  where
    by : (b : Bool) → AllChildren p S (if b then [] else children_below p (S.width + 1) S)
    by true = tt
    by false = children_are p (S.width + 1) S

adopted_stand : (p : ℕ) (x : Option Process) → has_parent p x ≡ true → (r : Bool) × (stand x ≡ standing p r) × (stand (with_parent 1 x) ≡ standing 1 r)
adopted_stand p None h = cc
adopted_stand p (Some q) h = (is_none q.status, ap (λ (n : ℕ). standing n (is_none q.status)) (eqb-true q.parent p h), refl)

-- the state while the children get their new parent
record IsOrphaned (p : ℕ) (S U : State) (left : Option Standing) : Type 0 where
  here : stand (U.procs p) ≡ left
  others : (n : ℕ) → n ≢ p → IsOrphan p (S.procs n) (U.procs n)
  held : HoldsSame S U

orphaned_stand : (p : ℕ) (S U : State) (left : Option Standing) (qs : List ℕ) → has_parent p (S.procs p) ≡ false → AllChildren p S qs → IsOrphaned p S U left → IsOrphaned p S (with_writes (orphan_writes qs S) U) left
unfolding with_writes orphan_writes
orphaned_stand p S U left [] me all k = k
orphaned_stand p S U left (q ∷ qs) me all k =
    orphaned_stand p S (write_one (SetProc q (with_parent 1 (S.procs q))) U) left qs me all.1 (record { here = here; others = others; held = k.held })
  where
    apart : p ≢ q
    apart z = both_ways (has_parent p (S.procs p)) me (ap (λ (i : ℕ). has_parent p (S.procs i)) z ∙ all.0)

    here : stand (put_at U.procs q (with_parent 1 (S.procs q)) p) ≡ left
    here = ap stand (put_there U.procs q (with_parent 1 (S.procs q)) p apart) ∙ k.here

    others : (n : ℕ) → n ≢ p → IsOrphan p (S.procs n) (put_at U.procs q (with_parent 1 (S.procs q)) n)
    others n ne = elim (put_cases U.procs q (with_parent 1 (S.procs q)) n) [
      | inl z ↦
          let a = adopted_stand p (S.procs q) all.0 in
          inr (a.0, ap (λ (i : ℕ). stand (S.procs i)) z.0 ∙ a.1, ap stand z.1 ∙ a.2)
      | inr z ↦ subst (λ (x : Option Process). IsOrphan p (S.procs n) x) (sym z.1) (k.others n ne)
    ]

-- nothing is done
idle_turn : (inside : Option Inside) (p : ℕ) (S : State) (why : Refusal) → Turn inside p S (idle why)
unfolding with_writes
idle_turn inside p S why = Stays refl (λ n. refl) (λ u. refl)

-- what is told at the commit
told_by : (inside : Option Inside) (parent : ℕ) (S U : State) → HoldsSame S U → Told inside parent S (with_writes (notice_held (parent_notice inside parent) parent S) U)
unfolding with_writes
told_by None parent S U same = by (parent == 1)
  where
    by : (a : Bool) → Told None parent S (with_writes (notice_held (if a then NotTold else AtOnce) parent S) U)
    by true = NotLater same
    by false = NotLater same
told_by (Some i) parent S U same = by (parent == 1) refl (i.members parent) refl
  where
    by : (a : Bool) → (parent == 1) ≡ a → (b : Bool) → i.members parent ≡ b
        → Told (Some i) parent S (with_writes (notice_held (if a then NotTold else (notice_by (if b then None else Some i))) parent S) U)
    by true e b k = NotLater same
    by false e true k = NotLater same
    by false e false k = Later i refl k (λ z. both_ways (parent == 1) e (eq-eqb parent 1 z)) (record {
      more = put_here U.held i.starter (S.held i.starter ++ child_notice parent ∷ []);
      others = λ u ne. put_there U.held i.starter (S.held i.starter ++ child_notice parent ∷ []) u ne ∙ same u;
    })

module _ (inside : Option Inside) (S : State) (p : ℕ) (me : Process) (e : S.procs p ≡ Some me) (runs : me.status ≡ None) (other : has_parent p (S.procs p) ≡ false) where
  plain_turn : (f : Effect) → IsPlain p me f → Turn inside p S f
  plain_turn f k = Stays k.goes_on (plain_stand p me f.writes S (ap stand e) k.writes) (plain_held p me f.writes S k.writes)

  running : stand (S.procs p) ≡ standing me.parent true
  running = ap stand e ∙ ap (λ (x : Option ℕ). standing me.parent (is_none x)) runs

  -- fork and waitpid
  later_same_stand : (q : Process) → q.parent ≡ me.parent → q.status ≡ me.status → Same S (write_one (SetProc p (Some q)) S)
  later_same_stand q parent status n =
      put_stand S.procs p (Some q) ((λ i. standing (parent i) (is_none (status i))) ∙ sym (ap stand e)) n

  pub grows_by : (c : ℕ) → S.procs c ≡ None → GrowsBy p c S (effect_of p me (changes (pos c) me (SetProc c (Some (child_of p me)) ∷ [])))
  unfolding with_writes
  grows_by c k =
      let T : State = write_one (SetProc p (Some (with_answer (pos c) me))) S in
      record {
        free = k;
        child = ap stand (put_here T.procs c (Some (child_of p me))) ∙ ap (λ (z : Option ℕ). standing p (is_none z)) runs;
        others = λ n ne. ap stand (put_there T.procs c (Some (child_of p me)) n ne) ∙ later_same_stand (with_answer (pos c) me) refl refl n;
        held = λ u. refl;
      }

  pub forks_by : (c : ℕ) → S.procs c ≡ None → GrowsBy p c S (effect_of p me (fork c (caller inside p me S)))
  forks_by c k = subst (λ (x : Option Process). GrowsBy p c S (effect_of p me ((refuses NumberTaken when is_some x) (changes (pos c) me (SetProc c (Some (child_of p me)) ∷ []))))) (sym k) (grows_by c k)

  -- what an outcome does
  abbrev Turns : Outcome → Type 0
  Turns o = Turn inside p S (effect_of p me o)

  errs : (errno : Errno) → Turns (fails errno)
  errs errno = plain_turn _ (same_plain p me (error_answer errno))

  answered : (r : ℤ) → Turns (answers r)
  answered r = plain_turn _ (same_plain p me r)

  fork_turn : (c : ℕ) → Turns (fork c (caller inside p me S))
  fork_turn c =
      fork_lines Turns (caller inside p me S) errs c (λ taken. idle_turn inside p S NumberTaken)
      λ free. let g = grows_by c (none_there (S.procs c) free) in Grows refl c g.free g.child g.others g.held

  waitpid_turn : (t : ℤ) (nohang : Bool) → Turns (waitpid t nohang (caller inside p me S))
  unfolding with_writes
  waitpid_turn t nohang =
      waitpid_lines Turns (caller inside p me S) errs t nohang (answered (pos 0)) (idle_turn inside p S Wait)
      λ child status q is there mine over.
      let T : State = write_one (SetProc p (Some (with_answer (pos child) (with_status status me)))) S in
      Reaps refl child (ap stand there ∙ ap₂ (λ (n : ℕ) (x : Option ℕ). standing n (is_none x)) (eqb-true q.parent p mine) over) (ap stand (put_here T.procs child None))
      (λ n ne. ap stand (put_there T.procs child None n ne) ∙ later_same_stand (with_answer (pos child) (with_status status me)) refl refl n) (λ u. refl)

  -- the end of the process
  module _ (status : ℕ) (now : Process) (parent : now.parent ≡ me.parent) where
    abbrev left : Option Standing
    left = standing now.parent false

    abbrev first : State
    first = write_one (SetProc p (Some (ended_process status now))) S

    abbrev gone : List Write
    gone = removals (open_in now.descriptors) first

    abbrev later : List Write
    later = notice_held (parent_notice inside now.parent) now.parent S

    orphans : IsOrphaned p S (with_writes (orphan_writes (children_of p S) S) first) left
    orphans = orphaned_stand p S first left (children_of p S) other (children_all p S) (record {
      here = ap stand (put_here S.procs p (Some (ended_process status now)));
      others = λ n ne. inl (ap stand (put_there S.procs p (Some (ended_process status now)) n ne));
      held = λ u. refl;
    })

    abbrev closed : State
    closed = with_writes gone (with_writes (orphan_writes (children_of p S) S) first)

    closed_stand : Same (with_writes (orphan_writes (children_of p S) S) first) closed
    closed_stand = plain_stand p (ended_process status now) gone _ orphans.here (released_plain p (ended_process status now) (open_in now.descriptors) first)

    closed_held : HoldsSame S closed
    closed_held u = plain_held p (ended_process status now) gone _ (released_plain p (ended_process status now) (open_in now.descriptors) first) u ∙ orphans.held u

    -- what is told later is no process
    later_stand_same : (t : Notice) → Same closed (with_writes (notice_held t now.parent S) closed)
    unfolding with_writes
    later_stand_same NotTold n = refl
    later_stand_same AtOnce n = refl
    later_stand_same (AtCommit s) n = refl

    whole : with_writes (ending status (caller inside p now S)).writes S ≡ with_writes later closed
    unfolding with_writes
    whole =
        written_append (orphan_writes (children_of p S) S ++ gone) later first
        ∙ ap (λ (U : State). with_writes later U) (written_append (orphan_writes (children_of p S) S) gone first)

    at_end : (n : ℕ) → stand ((with_writes (ending status (caller inside p now S)).writes S).procs n) ≡ stand ((with_writes (orphan_writes (children_of p S) S) first).procs n)
    at_end n = ap (λ (U : State). stand (U.procs n)) whole ∙ later_stand_same (parent_notice inside now.parent) n ∙ closed_stand n

    orphan_by : (n : ℕ) (x y z : Option Process) → stand z ≡ stand y → IsOrphan p x y → IsOrphan p x z
    orphan_by n x y z k (inl h) = inl (k ∙ h)
    orphan_by n x y z k (inr h) = inr (h.0, h.1, k ∙ h.2)

    ending_turn : Turn inside p S (ending status (caller inside p now S))
    ending_turn =
        Ends refl now.parent (running ∙ ap (λ (n : ℕ). standing n true) (sym parent)) (at_end p ∙ orphans.here)
        (λ n ne. orphan_by n (S.procs n) ((with_writes (orphan_writes (children_of p S) S) first).procs n) ((with_writes (ending status (caller inside p now S)).writes S).procs n) (at_end n) (orphans.others n ne))
        refl
        (subst (λ (U : State). Told inside now.parent S U) (sym whole) (told_by inside now.parent S closed closed_held))

  exit_turn : (v : ℤ) → Turns (exit v (caller inside p me S))
  exit_turn v = exit_lines Turns (caller inside p me S) errs v λ other. ending_turn (exit_status v) me refl

  send_turn : (t s value : ℤ) → Turns (sigqueue t s value (caller inside p me S))
  unfolding with_writes
  send_turn t s value =
      sigqueue_lines Turns (caller inside p me S) errs t s value (answered closed_inside) (λ signo target a b out. Stays refl (λ n. refl) (λ u. refl))
      λ signo target i a b is some room.
      let m : Sending = sending_from me target signo value in
      Sends refl i (holder_is target inside i is) m refl (ltb-true (member_sends (S.held i.starter)) HELD_SENDS room) (later_same_stand (with_answer (pos 0) me) refl refl)
      (record {
        more = put_here S.held i.starter (S.held i.starter ++ m ∷ []);
        others = λ u ne. put_there S.held i.starter (S.held i.starter ++ m ∷ []) u ne;
      })

  -- deliveries
  relieved_turn : (own : Process) → own.parent ≡ me.parent → own.status ≡ me.status → (r : ℤ) → Turn inside p S (own_effect p (record { process = own; reply = Done r }))
  unfolding with_writes
  relieved_turn own parent status r = Stays refl (later_same_stand own parent status) (λ u. refl)

  delivery_turn : (signo : ℕ) → Turn inside p S (delivery_effect inside p signo me S)
  delivery_turn signo =
      delivery_lines Turns (caller inside p me S) signo (λ why e. idle_turn inside p S why)
      (λ value d e. relieved_turn (without_delivered signo me) refl refl me.registers.ret) (λ value d e. ending_turn (killed_status signo) (without_delivered signo me) refl)
      λ value point mask d e k room. relieved_turn (at_catch_point signo value point mask (without_delivered signo me)) refl refl value

  special_turn : (c : Call) → IsSpecial c → Turn inside p S (call_effect inside p c me S)
  special_turn (call.Fork child) h = fork_turn child.0
  special_turn (call.Exit status) h = exit_turn status
  special_turn (call.Waitpid t nohang) h = waitpid_turn t nohang
  special_turn (call.Kill t signo) h = send_turn t signo (pos 0)
  special_turn (call.Sigqueue t signo value) h = send_turn t signo value
  special_turn c h = absurd h

  call_turn : (c : Call) → Turn inside p S (call_effect inside p c me S)
  call_turn c = elim (call_plain S p me inside c) [ inl h ↦ special_turn c h | inr h ↦ plain_turn _ h ]

pub step_turn : (inside : Option Inside) (S : State) (step : Step) → has_parent (process_of step) (S.procs (process_of step)) ≡ false → Turn inside (process_of step) S (step_effect step inside S)
step_turn inside S (Calls p c) other =
    where_runs inside p.0 (page_of_call c) S (Turn inside p.0 S) (idle_turn inside p.0 S) (λ me here runs. call_turn inside S p.0 me here runs other c)
step_turn inside S (Deliver p signo) other =
    where_runs inside p.0 (delivery_page signo.0) S (Turn inside p.0 S) (idle_turn inside p.0 S) (λ me here runs. delivery_turn inside S p.0 me here runs other signo.0)
step_turn inside S (KernelAbort s) other = idle_turn inside s.0 S NoTransaction
