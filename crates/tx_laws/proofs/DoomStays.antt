-- How doom comes, and that it stays.
use Rattle.std.proofs.Common.{◌≡◌, ◌≢◌, ℕ, ◌^◌, Bool, true, false, [], ◌∷◌, ℤ, pos, negsuc, Option, Some, None, is_some, is_none, ◌==◌, ◌||◌, if◌then◌else◌, bit_or, refl, sym, ap, ap₂, ◌∙◌, subst, arith, eq-eqb, eqb-true, ne_eqb}
use Rattle.std.specs.Int.{bit_at}
use Rattle.std.proofs.lemmas.Nat.Bits.{bit_at_or, bit_at-lt, bit_at-pow_same}
use Rattle.tx_base.specs.declared.names.Pid.{Pid}
use Rattle.tx_base.specs.declared.steps.Call.{Call}
use Rattle.tx_base.specs.declared.steps.Reply.TheVariants.{Done}
use Rattle.tx_base.specs.declared.steps.Step.{Step}
use Rattle.tx_base.specs.declared.steps.Step.TheVariants.{Call as Calls}
use Rattle.tx_model.specs.Forms.{fails, posts as posts_of, effect_of, ◌or◌, caller}
use Rattle.tx_model.specs.Book.{sigqueue, sending_from, page_of_call}
use Rattle.tx_base.specs.declared.errors.Errno.TheVariants.{NoSuchProcess}
use Rattle.tx_model.specs.SignalSets.{kill_signo, is_realtime, with_one_more}
use Rattle.tx_model.specs.State.{Process, State, Sending, with_writes, is_between}
use Rattle.tx_model.specs.Posts.{may_signal, is_quiet, has_room, target_after, post_answer, after_post, after_posts, post_answers}
use Rattle.tx_model.specs.Effects.{Effect, AnswersPost, with_answer_if, send_answers, after_effect, concluding_reply}
use Rattle.tx_model.specs.BookLaws.{runs_as}
use Rattle.tx_model.specs.Words.{call_effect, kind_of, next_by, with_queued, with_pending}
use Rattle.tx_model.specs.Events.{Event, Do, process_of, effect, after, reply_of}
use Rattle.tx_model.specs.Membership.{is_live, Role, Outside, Ordinary, role, event}
use Rattle.tx_model.specs.History.{nobody, just}
use Rattle.tx_model.specs.View.{View, present, has_pending, is_doomed, abort_status, role_on, event_on, next}
use Rattle.tx_model.specs.Answer.{is_running, refusal, plain_reply, accepted_reply, answer, IsAccepted}
use Rattle.tx_laws.specs.Fits.{Fits, Passes, ends_it}
use Rattle.tx_laws.specs.Sound.{IsSound}
use Rattle.tx_laws.proofs.Coherence.{starter_keeps, quiet_effect, quiet_sent, outside_quiet}
use Rattle.tx_laws.proofs.KeptByPosts.{IsKept, concluded_keeps}
use Rattle.tx_laws.proofs.StepView.{IsFitting, fitting}
use Rattle.tx_laws.proofs.Taken.{IsTaken, taken, unless_accepted, unrefused}
use Rattle.tx_laws.proofs.OfActs.{runs_some}

-- SIGKILL is pending at the process
abbrev Killed : Option Process → Type 0
Killed x = has_pending kill_signo x ≡ true

more_pending : (set signo : ℕ) → (bit_at set 9 == 1) ≡ true → (bit_at (with_one_more set signo) 9 == 1) ≡ true
more_pending set signo h =
    let e : bit_at set 9 ≡ 1 = eqb-true (bit_at set 9) 1 h in
    eq-eqb (bit_at (bit_or set (2 ^ signo)) 9) 1 (omega (arith, bit_at_or set (2 ^ signo) 9, bit_at-lt (2 ^ signo) 9))

-- neither a post nor an answer takes a pending SIGKILL away
killed_kept : IsKept Killed
killed_kept = record { posted = posted; noted = noted }
  where
    by : (m : Sending) (q : Process) → Killed (Some q) → (a b c d : Bool)
        → Killed (Some (if a then (if b then q else (if c then (if d then with_queued m q else q) else with_pending m.signo q)) else q))
    by m q h false b c d = h
    by m q h true true c d = h
    by m q h true false true true = h
    by m q h true false true false = h
    by m q h true false false d = more_pending q.pending m.signo h

    posted : (m : Sending) (x : Option Process) → Killed x → Killed (target_after m x)
    posted m None h = h
    posted m (Some q) h = by m q h (may_signal m.from q.ids) (is_quiet m q) (is_realtime m.signo) (has_room q)

    noted : (r : ℤ) (x : Option Process) → Killed x → Killed (with_answer_if r x)
    noted r None h = h
    noted r (Some q) h = h

-- a doomed transaction is doomed after every accepted step that does not end it
pub doom_stays : (V : View) (step : Step) (s : ℕ) → IsSound V → IsAccepted (answer V step) → is_live V.table s ≡ true → ends_it s (role_on V step) ≡ false
    → is_doomed V s ≡ true → is_doomed (next V step) s ≡ true
unfolding next
doom_stays V step s sound a live goes_on doomed =
    let f : IsFitting V step = fitting V step sound a in
    starter_keeps Killed killed_kept (role_on V step) V (event_on V step) (process_of step) sound f.passes f.fits s live goes_on doomed

-- a running process that a SIGKILL is let through to has it pending
killed_by : (me : Process) (s : ℕ) (value : ℤ) (x : Option Process) → is_running x ≡ true → s ≢ 1 → post_answer (sending_from me s 9 value) x ≡ pos 0 → Killed (target_after (sending_from me s 9 value) x)
killed_by me s value None run other h = cc
killed_by me s value (Some q) run other h = by (may_signal (sending_from me s 9 value).from q.ids) h (s == 1) (ne_eqb s 1 other) (is_some q.status) (none q.status run)
  where
    none : (y : Option ℕ) → is_none y ≡ true → is_some y ≡ false
    none None k = refl
    none (Some n) k = cc

    by : (a : Bool) → (if a then (if s == 1 || is_some q.status then pos 0 else pos 0) else negsuc 0) ≡ pos 0 → (b : Bool) → b ≡ false → (c : Bool) → c ≡ false
        → Killed (Some (if a then (if b || c then q else with_pending 9 q) else q))
    by true k b e c f = rw (e, f) (eq-eqb (bit_at (bit_or q.pending (2 ^ 9)) 9) 1 (omega (arith, bit_at_or q.pending (2 ^ 9) 9, bit_at-lt q.pending 9, bit_at-pow_same 9)))
    by false k b e c f = cc

-- one post, whose answer is the answer
abbrev posts_now : ℕ → Sending → Effect
posts_now p m = record { writes = []; sends = m ∷ []; conclusion = AnswersPost p }

-- the effect of an outsider's SIGKILL
kill_effect : (call : Call) (pid : Pid) (s : ℕ) (value : ℤ) (S : State) (me : Process) → S.procs pid.0 ≡ Some me → me.status ≡ None → is_between S.width s ≡ true
    → call_effect None pid.0 call me S ≡ effect_of pid.0 me (sigqueue (pos s) (pos 9) value (caller None pid.0 me S)) → effect (Do (Calls pid call) None) S ≡ posts_now pid.0 (sending_from me s 9 value)
unfolding effect
kill_effect call pid s value S me e run there same =
    runs_as None pid.0 (page_of_call call) S me e run ∙ same
    ∙ ap (λ (b : Bool). effect_of pid.0 me (((if b then Some s else None) or fails NoSuchProcess) λ target. posts_of (sending_from me target 9 value))) there

-- the reply to a post, and what it makes of its target
posts_reply : (ev : Event) (p : ℕ) (m : Sending) (S : State) → effect ev S ≡ posts_now p m → reply_of ev S ≡ Done (post_answer m (S.procs m.target))
unfolding reply_of post_answers with_writes
posts_reply ev p m S e = ap (λ (f : Effect). concluding_reply f.conclusion f.sends (send_answers f S)) e

posts_answers : (p : ℕ) (m : Sending) (S : State) → send_answers (posts_now p m) S ≡ post_answer m (S.procs m.target) ∷ []
unfolding post_answers with_writes
posts_answers p m S = refl

posts_killed : (ev : Event) (p : ℕ) (m : Sending) (S : State) → effect ev S ≡ posts_now p m → Killed (target_after m (S.procs m.target)) → Killed ((after ev S).procs m.target)
unfolding after after_posts with_writes
posts_killed ev p m S e h =
    subst (λ (f : Effect). Killed ((after_effect f (send_answers f S) S).procs m.target)) (sym e)
    (concluded_keeps Killed killed_kept m.target (AnswersPost p) (send_answers (posts_now p m) S) (after_post m S) (rw (eq-eqb m.target m.target refl) h))

-- an outsider's call that sends SIGKILL to the starter of a live transaction, and is answered 0
module _ (V : View) (pid : Pid) (s : ℕ) (call : Call) (value : ℤ) (kind : kind_of call ≡ Ordinary)
    (sends : (me : Process) (S : State) → call_effect None pid.0 call me S ≡ effect_of pid.0 me (sigqueue (pos s) (pos 9) value (caller None pid.0 me S)))
    (sound : IsSound V) (outside : V.table.marks pid.0 ≡ None) (live : is_live V.table s ≡ true) (other : s ≢ 1) (answered : answer V (Calls pid call) ≡ Done (pos 0)) where
  abbrev ev : Event
  ev = Do (Calls pid call) None

  is_taken : IsTaken V (Calls pid call) (Done (pos 0))
  is_taken = taken V (Calls pid call) (Done (pos 0)) sound answered tt

  role_is : role V.table (Calls pid call) (Done (pos 0)) ≡ Outside
  role_is = rw (kind, outside) refl

  event_is : event V.table (Calls pid call) (Done (pos 0)) ≡ ev
  event_is = rw (kind, outside) refl

  -- what the step is on the view
  as_is : Fits Outside ev pid.0 V × Passes Outside ev V × (Done (pos 0) ≡ reply_of ev (present V))
  as_is =
      subst (λ (z : Role × Event). Fits z.0 z.1 pid.0 V × Passes z.0 z.1 V × (Done (pos 0) ≡ plain_reply (abort_status V (Calls pid call)) z.0 z.1 (present V)))
      (ap₂ (λ (u : Role) (v : Event). (u, v)) role_is event_is) (is_taken.fits, is_taken.passes, is_taken.reply)

  running : is_running ((present V).procs pid.0) ≡ true
  unfolding answer
  running = (unrefused V pid.0 (Calls pid call) (unless_accepted (refusal V pid.0 (Calls pid call)) (accepted_reply V (Calls pid call)) (Done (pos 0)) answered tt).0).running

  same_role : role_on V (Calls pid call) ≡ Outside
  same_role = sym is_taken.role_is ∙ role_is

  same_event : event_on V (Calls pid call) ≡ ev
  same_event = sym is_taken.event_is ∙ event_is

  pub kill_dooms : is_doomed (next V (Calls pid call)) s ≡ true
  unfolding next
  kill_dooms =
      subst (λ (z : Role × Event). is_doomed (next_by z.0 z.1 pid.0 V) s ≡ true) (sym (ap₂ (λ (u : Role) (v : Event). (u, v)) same_role same_event))
      (by (runs_some ((present V).procs pid.0) running))
    where
      W : State
      W = V.without (just s)

      by : (me : Process) × ((present V).procs pid.0 ≡ Some me) × (me.status ≡ None) → Killed ((after ev W).procs s)
      by (me, here, run) =
          let m : Sending = sending_from me s 9 value in
          let now : effect ev (present V) ≡ posts_now pid.0 m = kill_effect call pid s value (present V) me here run
          (ap (λ (n : ℕ). is_between n s) (sound.width nobody) ∙ sound.bounded s s live) (sends me (present V)) in
          let quiet = outside_quiet V ev as_is.0 (just s) in
          let there : effect ev W ≡ posts_now pid.0 m = sym (quiet_effect V ev sound as_is.1 (just s) quiet) ∙ now in
          let reply : Done (pos 0) ≡ Done (post_answer m ((present V).procs s)) = as_is.2 ∙ posts_reply ev pid.0 m (present V) now in
          let sent : send_answers (effect ev (present V)) (present V) ≡ send_answers (effect ev W) W = quiet_sent V ev sound as_is.1 (just s) quiet in
          let same : post_answer m ((present V).procs s) ∷ [] ≡ post_answer m (W.procs s) ∷ [] =
          sym (ap (λ (f : Effect). send_answers f (present V)) now ∙ posts_answers pid.0 m (present V)) ∙ sent ∙ ap (λ (f : Effect). send_answers f W) there ∙ posts_answers pid.0 m W in
          let zero : post_answer m (W.procs s) ≡ pos 0 = cc in
          posts_killed ev pid.0 m W there (killed_by me s value (W.procs s) (sound.starter_runs s live) other zero)
