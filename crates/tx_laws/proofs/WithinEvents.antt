-- Every event leaves what processes have within its limits, and what transactions hold known signals, to process numbers
-- that there are.
use Rattle.std.proofs.Common.{◌≡◌, ◌≢◌, ◌⊎◌, ℕ, zero, suc, Bool, true, false, ◌||◌, ◌^◌, List, [], ◌∷◌, ◌++◌, ℤ, pos, negsuc, Option, Some, None, is_some, if◌then◌else◌, ◌==◌, slice_index_or, slice_set, refl, sym, ap, ◌∙◌, subst, inl, inr, eq-eqb, arith, replicate}
use Rattle.std.specs.Prelude.{All}
use Rattle.std.proofs.lemmas.Bool.{both_ways}
use Rattle.std.proofs.lemmas.List.Elements.{All-nil, All-cons, All-head, All-tail, All-push, All-append, All-replicate}
use Rattle.tx_base.specs.Signals.{bits_of}
use Rattle.tx_base.specs.declared.errors.Errno.{Errno}
use Rattle.tx_base.specs.declared.signals.Action.{Action}
use Rattle.tx_base.specs.declared.signals.Action.TheVariants.{Usual, Ignore, Catch}
use Rattle.tx_base.specs.declared.signals.SigSet.{SigSet}
use Rattle.tx_base.specs.declared.steps.Call.{Call}
use Rattle.tx_base.specs.declared.steps.Call.TheVariants as call
use Rattle.tx_base.specs.declared.steps.Step.{Step}
use Rattle.tx_base.specs.declared.steps.Step.TheVariants.{Call as Calls, Deliver, KernelAbort}
use Rattle.tx_base.specs.declared.steps.Refusal.{Refusal}
use Rattle.tx_base.specs.declared.steps.Refusal.TheVariants.{NoTransaction, NumberTaken, Wait}
use Rattle.tx_base.specs.declared.steps.Reply.TheVariants.{Done}
use Rattle.tx_base.specs.declared.limits.TheConstants.{SIGNALS}
use Rattle.tx_model.specs.Numbers.{error_answer}
use Rattle.tx_model.specs.Memory.{no_memory}
use Rattle.tx_model.specs.SignalSets.{standard_signals, kill_signo, child_signo, is_one_of, is_realtime, is_known, is_in_set, without_one}
use Rattle.tx_model.specs.State.{Process, State, Queued, Sending, Write, SetProc, SetDesc, SetPipe, SetHeld, put_at, write_one, with_writes, booted_process, boot_state, is_between}
use Rattle.tx_model.specs.Posts.{has_room, may_signal, is_quiet, target_after, after_post, after_posts as all_posted}
use Rattle.tx_model.specs.Effects.{Inside, Effect, Conclusion, Replies, AnswersPost, ListsFailed, idle, with_answer_if, first_answer, after_conclusion, send_answers}
use Rattle.tx_model.specs.Words.{own_effect, delivery_effect, call_effect, with_queued, with_pending, with_status}
use Rattle.tx_model.specs.Book.{closed_inside, sendable, sending_from, fork, exit, waitpid, sigqueue, page_of_call}
use Rattle.tx_model.specs.Signals.{known_signal, Ignored, Fatal, Caught, disposition}
use Rattle.tx_model.specs.Descriptors.{open_in, removals}
use Rattle.tx_model.specs.Processes.{child_of, ended_process, children_of, with_parent, orphan_writes, child_notice, Notice, NotTold, AtOnce, AtCommit, parent_notice, notice_now, notice_held, ending, exit_status, pid_of}
use Rattle.tx_model.specs.Deliveries.{first_value, without_first, is_blocked, delivered_value, without_delivered, action_at, at_catch_point, killed_status, delivery_page}
use Rattle.tx_model.specs.Forms.{Outcome, fails, posts, effect_of, caller}
use Rattle.tx_model.specs.Events.{Event, Do, Note, Commit, step_effect, effect, after}
use Rattle.tx_laws.specs.WellFormed.{IsWholePage, IsMask, HasFrameLimits, HasActionLimits, HasCatchLimits, IsRealtimeEntry, IsHeldSending, IsSendable, HasIdLimits, HasLimits}
use Rattle.tx_model.specs.StateLaws.{put_cases}
use Rattle.tx_model.specs.Answer.{is_running}
use Rattle.tx_laws.proofs.Agree.{write_width}
use Rattle.tx_laws.proofs.KeepsFormParts.{IsArranged}
use Rattle.tx_laws.proofs.KeepsFormDeliveries.{other_than_first}
use Rattle.tx_laws.proofs.WithinSets.{either_true, in_one_more, in_less, empty_set, empty_mask, caught_mask}
use Rattle.tx_laws.proofs.WithinOwn.{KeepsLimits, next_within, noted_limits, slotted}
use Rattle.tx_laws.proofs.PlainWrites.{IsPlainWrite, ArePlain, IsPlain, idle_plain, own_plain, same_plain, released_plain}
use Rattle.tx_laws.proofs.PlainCalls.{IsSpecial, call_plain}
use Rattle.tx_model.specs.BookLaws.{fork_lines, exit_lines, waitpid_lines, sigqueue_lines, where_runs, delivery_lines}

-- the limits of a state: those of its processes, and those of what is held
pub record IsWithin (S : State) : Type 0 where
  pub limits : (n : ℕ) (q : Process) → S.procs n ≡ Some q → HasLimits q
  pub held : (s : ℕ) → All (IsHeldSending S.width) (S.held s)

abbrev pub HasLimitsIf : Option Process → Type 0
HasLimitsIf None = Unit {0}
HasLimitsIf (Some q) = HasLimits q

-- what is put in a place is within its limits
abbrev pub IsFineWrite : ℕ → Write → Type 0
IsFineWrite width (SetProc n x) = HasLimitsIf x
IsFineWrite width (SetDesc n x) = Unit {0}
IsFineWrite width (SetPipe n x) = Unit {0}
IsFineWrite width (SetHeld n ms) = All (IsHeldSending width) ms

unfoldable pub AreFine : ℕ → List Write → Type 0
AreFine width [] = Unit {0}
AreFine width (w ∷ ws) = IsFineWrite width w × AreFine width ws

pub record IsFine (width : ℕ) (f : Effect) : Type 0 where
  pub writes : AreFine width f.writes
  pub sends : All IsSendable f.sends

limits_if : (S : State) → IsWithin S → (n : ℕ) (x : Option Process) → S.procs n ≡ x → HasLimitsIf x
limits_if S w n None e = tt
limits_if S w n (Some q) e = w.limits n q e

-- the writes
write_within : (x : Write) (S : State) → IsFineWrite S.width x → IsWithin S → IsWithin (write_one x S)
write_within (SetProc n x) S h w = record { limits = limits; held = w.held }
  where
    limits : (m : ℕ) (q : Process) → put_at S.procs n x m ≡ Some q → HasLimits q
    limits m q e = elim (put_cases S.procs n x m) [
      | inl z ↦ subst HasLimitsIf (sym z.1 ∙ e) h
      | inr z ↦ w.limits m q (sym z.1 ∙ e)
    ]
write_within (SetDesc n x) S h w = record { limits = w.limits; held = w.held }
write_within (SetPipe n x) S h w = record { limits = w.limits; held = w.held }
write_within (SetHeld n ms) S h w = record { limits = w.limits; held = held }
  where
    held : (s : ℕ) → All (IsHeldSending S.width) (put_at S.held n ms s)
    held s = elim (put_cases S.held n ms s) [
      | inl z ↦ subst (All (IsHeldSending S.width)) (sym z.1) h
      | inr z ↦ subst (All (IsHeldSending S.width)) (sym z.1) (w.held s)
    ]

pub written_within : (ws : List Write) (S : State) → AreFine S.width ws → IsWithin S → IsWithin (with_writes ws S)
unfolding with_writes AreFine
written_within [] S h w = w
written_within (x ∷ ws) S h w =
    written_within ws (write_one x S) (subst (λ (width : ℕ). AreFine width ws) (sym (write_width x S)) h.1) (write_within x S h.0 w)

fine_append : (width : ℕ) (ws vs : List Write) → AreFine width ws → AreFine width vs → AreFine width (ws ++ vs)
unfolding AreFine
fine_append width [] vs h k = k
fine_append width (w ∷ ws) vs h k = (h.0, fine_append width ws vs h.1 k)

fine_write : (width p : ℕ) (me : Process) → HasLimits me → (w : Write) → IsPlainWrite p me w → IsFineWrite width w
fine_write width p me l (SetProc n None) h = absurd h
fine_write width p me l (SetProc n (Some q)) h = h.later.limits l
fine_write width p me l (SetDesc n x) h = tt
fine_write width p me l (SetPipe n x) h = tt
fine_write width p me l (SetHeld n ms) h = absurd h

plain_writes : (width p : ℕ) (me : Process) → HasLimits me → (ws : List Write) → ArePlain p me ws → AreFine width ws
unfolding ArePlain AreFine
plain_writes width p me l [] h = tt
plain_writes width p me l (w ∷ ws) h = (fine_write width p me l w h.0, plain_writes width p me l ws h.1)

pub plain_fine : (width p : ℕ) (me : Process) (f : Effect) → HasLimits me → IsPlain p me f → IsFine width f
plain_fine width p me f l h = record { writes = plain_writes width p me l f.writes h.writes; sends = h.sends }

fine_one : (width : ℕ) (w : Write) → IsFineWrite width w → AreFine width (w ∷ [])
unfolding AreFine
fine_one width w h = (h, tt)

fine_two : (width : ℕ) (w v : Write) → IsFineWrite width w → IsFineWrite width v → AreFine width (w ∷ v ∷ [])
unfolding AreFine
fine_two width w v h k = (h, (k, tt))

no_sends : All IsSendable []
no_sends = All-nil IsSendable

-- processes
child_limits : (p : ℕ) (me : Process) → KeepsLimits me (child_of p me)
child_limits p me h = record {
  point = next_within me.registers.point h.point;
  pages = h.pages;
  ids = h.ids;
  mask = h.mask;
  actions = h.actions;
  kill = h.kill;
  pending = λ n k. absurd (both_ways (is_in_set 0 n) (empty_set n) k);
  queued = All-nil IsRealtimeEntry;
  frames = h.frames;
}

-- a process with nothing
bare_limits : (q : Process) → q.registers.point ≡ 0 → q.memory ≡ no_memory → HasIdLimits q.ids → q.mask ≡ 0 → q.actions ≡ replicate SIGNALS Usual → q.pending ≡ 0 → q.queued ≡ []
    → q.frames ≡ [] → HasLimits q
bare_limits q point memory ids mask actions pending queued frames = record {
  point = omega arith;
  pages = subst (All IsWholePage) (sym memory) (All-replicate IsWholePage 16 None tt);
  ids = ids;
  mask = subst IsMask (sym mask) empty_mask;
  actions = subst (All HasActionLimits) (sym actions) (All-replicate HasActionLimits 40 Usual tt);
  kill = ap (λ (xs : List Action). slice_index_or xs kill_signo Usual) actions;
  pending = λ n k. absurd (both_ways (is_in_set q.pending n) (ap (λ (set : ℕ). is_in_set set n) pending ∙ empty_set n) k);
  queued = subst (All IsRealtimeEntry) (sym queued) (All-nil IsRealtimeEntry);
  frames = subst (All HasFrameLimits) (sym frames) (All-nil HasFrameLimits);
}

ended_limits : (status : ℕ) (me : Process) → KeepsLimits me (ended_process status me)
ended_limits status me h = bare_limits (ended_process status me) refl refl h.ids refl refl refl refl refl

booted_limits : (n : ℕ) → HasLimits (booted_process n)
booted_limits n =
    bare_limits (booted_process n) refl refl
    (record {
      real_user = omega arith;
      effective_user = omega arith;
      saved_user = omega arith;
      real_group = omega arith;
      effective_group = omega arith;
      saved_group = omega arith;
    })
    refl refl refl refl refl

-- with another parent
adopted_limits : (n : ℕ) (x : Option Process) → HasLimitsIf x → HasLimitsIf (with_parent n x)
adopted_limits n None h = tt
adopted_limits n (Some q) h = record {
  point = h.point;
  pages = h.pages;
  ids = h.ids;
  mask = h.mask;
  actions = h.actions;
  kill = h.kill;
  pending = h.pending;
  queued = h.queued;
  frames = h.frames;
}

told_known : (parent : ℕ) → IsSendable (child_notice parent)
told_known parent = inr refl

module _ (S : State) (p : ℕ) (me : Process) (here : S.procs p ≡ Some me) (runs : me.status ≡ None) (a : IsArranged S) (w : IsWithin S) (l : HasLimits me) where
  -- the parent of a process other than process 1 has a number
  parent_number : p ≢ 1 → is_between S.width me.parent ≡ true
  parent_number ne = by (S.procs me.parent) refl ((a.placed p me here).parent ne)
    where
      by : (x : Option Process) → S.procs me.parent ≡ x → is_running x ≡ true → is_between S.width me.parent ≡ true
      by None e h = cc
      by (Some q) e h = (a.placed me.parent q e).number

  plainly : (f : Effect) → IsPlain p me f → IsFine S.width f
  plainly f k = plain_fine S.width p me f l k

  statused : (status : ℕ) → KeepsLimits me (with_status status me)
  statused status = slotted me (slice_set me.registers.slots 0 (pos status))

  abbrev Fine : Outcome → Type 0
  Fine outcome = IsFine S.width (effect_of p me outcome)

  error_fine : (errno : Errno) → Fine (fails errno)
  error_fine errno = plainly _ (same_plain p me (error_answer errno))

  fork_fine : (inside : Option Inside) (child : ℕ) → Fine (fork child (caller inside p me S))
  fork_fine inside child =
      fork_lines Fine (caller inside p me S) error_fine child (λ taken. plainly _ (idle_plain p me NumberTaken))
      λ free. record { writes = fine_two S.width _ _ (noted_limits (pos child) me l) (child_limits p me l); sends = no_sends }

  waitpid_fine : (inside : Option Inside) (t : ℤ) (nohang : Bool) → Fine (waitpid t nohang (caller inside p me S))
  waitpid_fine inside t nohang =
      waitpid_lines Fine (caller inside p me S) error_fine t nohang (plainly _ (same_plain p me (pos 0))) (plainly _ (idle_plain p me Wait))
      λ child status q number there mine over. record { writes = fine_two S.width _ _ (noted_limits (pos child) (with_status status me) (statused status l)) tt; sends = no_sends }

  orphaned_fine : (qs : List ℕ) → AreFine S.width (orphan_writes qs S)
  unfolding orphan_writes AreFine
  orphaned_fine [] = tt
  orphaned_fine (q ∷ qs) = (adopted_limits 1 (S.procs q) (limits_if S w q (S.procs q) refl), orphaned_fine qs)

  later_fine : (parent_notice : Notice) (parent : ℕ) → is_between S.width parent ≡ true → AreFine S.width (notice_held parent_notice parent S)
  unfolding AreFine
  later_fine NotTold parent number = tt
  later_fine AtOnce parent number = tt
  later_fine (AtCommit s) parent number =
      (All-push (IsHeldSending S.width) (S.held s) (child_notice parent) (w.held s) (record { known = refl; target = number }), tt)

  tells_fine : (parent_notice : Notice) (parent : ℕ) → All IsSendable (notice_now parent_notice parent)
  tells_fine NotTold parent = no_sends
  tells_fine AtOnce parent = All-cons IsSendable (child_notice parent) [] (told_known parent) no_sends
  tells_fine (AtCommit s) parent = no_sends

  abbrev gone : Process → Process → List Write
  gone now left = removals (open_in now.descriptors) (write_one (SetProc p (Some left)) S)

  -- the process that ends, in the place of the one before
  ending_fine : (inside : Option Inside) (status : ℕ) (now : Process) → is_between S.width now.parent ≡ true → HasLimits now
      → IsFine S.width (ending status (caller inside p now S))
  unfolding AreFine
  ending_fine inside status now number k = record {
    writes = (
      ended_limits status now k,
      fine_append S.width (orphan_writes (children_of p S) S ++ gone now (ended_process status now)) (notice_held (parent_notice inside now.parent) now.parent S)
          (fine_append S.width (orphan_writes (children_of p S) S) (gone now (ended_process status now)) (orphaned_fine (children_of p S))
          (plain_writes S.width p me l (gone now (ended_process status now)) (released_plain p me (open_in now.descriptors) (write_one (SetProc p (Some (ended_process status now))) S))))
          (later_fine (parent_notice inside now.parent) now.parent number),
    );
    sends = tells_fine (parent_notice inside now.parent) now.parent;
  }

  exit_fine : (inside : Option Inside) (v : ℤ) → Fine (exit v (caller inside p me S))
  exit_fine inside v =
      exit_lines Fine (caller inside p me S) error_fine v
      λ other. ending_fine inside (exit_status v) me (parent_number (λ y. both_ways (p == 1) other (eq-eqb p 1 y))) l

  -- sends
  known_is : (v : ℤ) (n : ℕ) → known_signal v ≡ Some n → is_known n ≡ true
  known_is (pos m) n e = by (is_known m) refl e
    where
      by : (b : Bool) → is_known m ≡ b → (if b then Some m else None) ≡ Some n → is_known n ≡ true
      by true h k = let same : m ≡ n = cc in subst (λ (i : ℕ). is_known i ≡ true) same h
      by false h k = cc
  known_is (negsuc m) n e = cc

  sendable_is : (v : ℤ) (n : ℕ) → sendable v ≡ Some n → (n ≡ 0) ⊎ (is_known n ≡ true)
  sendable_is (pos zero) n e = inl cc
  sendable_is (pos (suc m)) n e = inr (known_is (pos (suc m)) n e)
  sendable_is (negsuc m) n e = cc

  numbered_is : (n : ℤ) (t : ℕ) → pid_of S.width n ≡ Some t → is_between S.width t ≡ true
  numbered_is (pos m) t e = by (is_between S.width m) refl e
    where
      by : (b : Bool) → is_between S.width m ≡ b → (if b then Some m else None) ≡ Some t → is_between S.width t ≡ true
      by true h k = let same : m ≡ t = cc in subst (λ (i : ℕ). is_between S.width i ≡ true) same h
      by false h k = cc
  numbered_is (negsuc m) t e = cc

  posted_fine : (m : Sending) → IsSendable m → Fine (posts m)
  unfolding AreFine
  posted_fine m k = record { writes = tt; sends = All-cons IsSendable m [] k no_sends }

  sigqueue_fine : (inside : Option Inside) (t signo value : ℤ) → Fine (sigqueue t signo value (caller inside p me S))
  sigqueue_fine inside t s value =
      sigqueue_lines Fine (caller inside p me S) error_fine t s value (plainly _ (same_plain p me closed_inside))
      (λ signo target known_signal there outside. posted_fine (sending_from me target signo value) (sendable_is s signo known_signal))
      λ signo target i known_signal there held some room. record {
        writes = fine_two S.width _ _ (noted_limits (pos 0) me l) (All-push (IsHeldSending S.width) (S.held i.starter) (sending_from me target signo value) (w.held i.starter)
            (record { known = loud signo some (sendable_is s signo known_signal); target = numbered_is t target there }));
        sends = no_sends;
      }
    where
      loud : (signo : ℕ) → (signo == 0) ≡ false → (signo ≡ 0) ⊎ (is_known signo ≡ true) → is_known signo ≡ true
      loud signo some k = elim k [ inl e ↦ absurd (both_ways (signo == 0) some (eq-eqb signo 0 e)) | inr e ↦ e ]

  -- deliveries
  fewer_queued : (signo : ℕ) (entries : List Queued) → All IsRealtimeEntry entries → All IsRealtimeEntry (without_first signo entries)
  unfolding without_first
  fewer_queued signo [] h = h
  fewer_queued signo (entry ∷ entries) h = by (entry.signo == signo) (fewer_queued signo entries (All-tail IsRealtimeEntry entry entries h))
    where
      by : (b : Bool) → All IsRealtimeEntry (without_first signo entries) → All IsRealtimeEntry (if b then entries else entry ∷ without_first signo entries)
      by true k = All-tail IsRealtimeEntry entry entries h
      by false k = All-cons IsRealtimeEntry entry (without_first signo entries) (All-head IsRealtimeEntry entry entries h) k

  relieved_limits : (signo : ℕ) → KeepsLimits me (without_delivered signo me)
  relieved_limits signo h = record {
    point = h.point;
    pages = h.pages;
    ids = h.ids;
    mask = h.mask;
    actions = h.actions;
    kill = h.kill;
    pending = pending (is_realtime signo);
    queued = queue (is_realtime signo);
    frames = h.frames;
  }
    where
      pending : (b : Bool) (n : ℕ) → is_in_set (if b then me.pending else without_one me.pending signo) n ≡ true → is_one_of standard_signals n ≡ true
      pending true n k = h.pending n k
      pending false n k = h.pending n (in_less me.pending (2 ^ signo) n k).0

      queue : (b : Bool) → All IsRealtimeEntry (if b then without_first signo me.queued else me.queued)
      queue true = fewer_queued signo me.queued h.queued
      queue false = h.queued

  -- what is pending is known
  delivered_known : (signo : ℕ) (value : ℤ) → delivered_value signo me ≡ Some value → is_known signo ≡ true
  delivered_known signo value h = by (is_blocked signo me) (is_realtime signo) refl (is_in_set me.pending signo) refl h
    where
      by : (a b : Bool) → is_realtime signo ≡ b → (c : Bool) → is_in_set me.pending signo ≡ c
          → (if a then None else (if b then first_value signo me.queued else (if c then Some (pos 0) else None))) ≡ Some value → is_known signo ≡ true
      by true b y c z k = cc
      by false true y c z k = either_true (is_one_of standard_signals signo) (is_realtime signo) (inr y)
      by false false y true z k = either_true (is_one_of standard_signals signo) (is_realtime signo) (inl (l.pending signo z))
      by false false y false z k = cc

  caught_limits : (signo : ℕ) (value : ℤ) (point : ℕ) (mask : SigSet) → is_known signo ≡ true → signo ≢ kill_signo → HasCatchLimits point mask
      → KeepsLimits me (at_catch_point signo value point mask (without_delivered signo me))
  caught_limits signo value point mask right other k h =
      let now : HasLimits (without_delivered signo me) = relieved_limits signo h in
      record {
        point = k.point;
        pages = now.pages;
        ids = now.ids;
        mask = caught_mask me.mask (bits_of mask) signo right other h.mask k.mask;
        actions = now.actions;
        kill = now.kill;
        pending = now.pending;
        queued = now.queued;
        frames = All-push HasFrameLimits me.frames (record { registers = me.registers; mask = me.mask }) h.frames (record { point = h.point; mask = h.mask });
      }

  -- the action of a signal is within its limits, and a caught one is no SIGKILL
  action_limits : (xs : List Action) (n : ℕ) → All HasActionLimits xs → HasActionLimits (slice_index_or xs n Usual)
  action_limits [] n h = tt
  action_limits (x ∷ xs) zero h = All-head HasActionLimits x xs h
  action_limits (x ∷ xs) (suc n) h = action_limits xs n (All-tail HasActionLimits x xs h)

  not_killed : (signo point : ℕ) (mask : SigSet) → action_at signo me ≡ Catch point mask → signo ≢ kill_signo
  not_killed signo point mask e z = let no : Usual ≡ Catch point mask = sym l.kill ∙ ap (λ (n : ℕ). action_at n me) (sym z) ∙ e in cc

  relieved_plain : (signo : ℕ) (r : ℤ) → IsPlain p me (own_effect p (record { process = without_delivered signo me; reply = Done r }))
  relieved_plain signo r = own_plain p me (record { process = without_delivered signo me; reply = Done r }) (record { parent = refl; status = refl; limits = relieved_limits signo }) refl

  disposed : (signo : ℕ) (action : Action) (point : ℕ) (mask : SigSet) → disposition signo action ≡ Caught point mask → action ≡ Catch point mask
  disposed signo Usual point mask e = by (signo == child_signo) e
    where
      by : (b : Bool) → (if b then Ignored else Fatal) ≡ Caught point mask → Usual ≡ Catch point mask
      by true k = cc
      by false k = cc
  disposed signo Ignore point mask e = cc
  disposed signo (Catch to blocked) point mask e = cc

  caught_fine : (signo : ℕ) (value : ℤ) (point : ℕ) (mask : SigSet) → delivered_value signo me ≡ Some value → disposition signo (action_at signo me) ≡ Caught point mask
      → IsFine S.width (own_effect p (record { process = at_catch_point signo value point mask (without_delivered signo me); reply = Done value }))
  caught_fine signo value point mask d e =
      let catches : action_at signo me ≡ Catch point mask = disposed signo (action_at signo me) point mask e in
      let small : HasCatchLimits point mask = subst HasActionLimits catches (action_limits me.actions signo l.actions) in
      plainly _ (own_plain p me (record { process = at_catch_point signo value point mask (without_delivered signo me); reply = Done value })
      (record { parent = refl; status = refl; limits = caught_limits signo value point mask (delivered_known signo value d) (not_killed signo point mask catches) small }) refl)

  delivery_fine : (inside : Option Inside) (signo : ℕ) → IsFine S.width (delivery_effect inside p signo me S)
  delivery_fine inside signo =
      delivery_lines (λ o. IsFine S.width (effect_of p me o)) (caller inside p me S) signo (λ why e. plainly _ (idle_plain p me why))
      (λ value d e. plainly _ (relieved_plain signo me.registers.ret))
      (λ value d e. ending_fine inside (killed_status signo) (without_delivered signo me) (parent_number (other_than_first S p me here runs a signo value d)) (relieved_limits signo l))
      λ value point mask d e k room. caught_fine signo value point mask d k

  special_fine : (inside : Option Inside) (c : Call) → IsSpecial c → IsFine S.width (call_effect inside p c me S)
  special_fine inside (call.Fork child) h = fork_fine inside child.0
  special_fine inside (call.Exit status) h = exit_fine inside status
  special_fine inside (call.Waitpid t nohang) h = waitpid_fine inside t nohang
  special_fine inside (call.Kill t signo) h = sigqueue_fine inside t signo (pos 0)
  special_fine inside (call.Sigqueue t signo value) h = sigqueue_fine inside t signo value
  special_fine inside c h = absurd h

  call_fine : (inside : Option Inside) (c : Call) → IsFine S.width (call_effect inside p c me S)
  call_fine inside c = elim (call_plain S p me inside c) [ inl h ↦ special_fine inside c h | inr h ↦ plainly _ h ]

idle_fine : (width : ℕ) (why : Refusal) → IsFine width (idle why)
unfolding AreFine
idle_fine width why = record { writes = tt; sends = no_sends }

-- steps and events
module _ (S : State) (inside : Option Inside) (a : IsArranged S) (w : IsWithin S) where
  limits_of : (p : ℕ) (me : Process) → S.procs p ≡ Some me → HasLimits me
  limits_of p me here = limits_if S w p (Some me) here

  step_fine : (step : Step) → IsFine S.width (step_effect step inside S)
  step_fine (Calls p c) = where_runs inside p.0 (page_of_call c) S (IsFine S.width) (idle_fine S.width) (λ me here runs. call_fine S p.0 me here runs a w (limits_of p.0 me here) inside c)
  step_fine (Deliver p signo) = where_runs inside p.0 (delivery_page signo.0) S (IsFine S.width) (idle_fine S.width) (λ me here runs. delivery_fine S p.0 me here runs a w (limits_of p.0 me here) inside signo.0)
  step_fine (KernelAbort s) = idle_fine S.width NoTransaction

noted_if_limits : (r : ℤ) (x : Option Process) → HasLimitsIf x → HasLimitsIf (with_answer_if r x)
noted_if_limits r None h = tt
noted_if_limits r (Some q) h = noted_limits r q h

known_sendable : (width : ℕ) (ms : List Sending) → All (IsHeldSending width) ms → All IsSendable ms
known_sendable width ms h k d less = inr (h k d less).known

pub event_fine : (ev : Event) (S : State) → IsArranged S → IsWithin S → IsFine S.width (effect ev S)
unfolding effect
event_fine (Do step inside) S a w = step_fine S inside a w step
event_fine (Note p r) S a w = record { writes = fine_one S.width _ (noted_if_limits r (S.procs p) (limits_if S w p (S.procs p) refl)); sends = no_sends }
event_fine (Commit s ev) S a w =
    let k : IsFine S.width (effect ev S) = event_fine ev S a w in
    let after_writes : IsWithin (with_writes (effect ev S).writes S) = written_within (effect ev S).writes S k.writes w in
    record {
      writes = fine_append S.width (effect ev S).writes (SetHeld s [] ∷ []) k.writes (fine_one S.width _ (All-nil (IsHeldSending S.width)));
      sends = All-append IsSendable (effect ev S).sends ((with_writes (effect ev S).writes S).held s) k.sends (known_sendable _ _ (after_writes.held s));
    }

-- posts
received_limits : (m : Sending) (x : Option Process) → IsSendable m → HasLimitsIf x → HasLimitsIf (target_after m x)
received_limits m None k h = tt
received_limits m (Some q) k h = by (may_signal m.from q.ids) (is_quiet m q) refl (is_realtime m.signo) refl (has_room q)
  where
    standard_by : (a b c : Bool) → (a || b) ≡ true → b ≡ false → a ≡ true
    standard_by true b c e f = refl
    standard_by false b c e f = absurd (both_ways b f e)

    silent : (a b : Bool) → (a || b) ≡ false → a ≡ false
    silent true b e = cc
    silent false b e = refl

    loud : is_quiet m q ≡ false → is_known m.signo ≡ true
    loud e = elim k [
      | inl z ↦ absurd (both_ways (m.signo == 0) (silent (m.signo == 0) (m.target == 1 || is_some q.status) e) (eq-eqb m.signo 0 z))
      | inr z ↦ z
    ]

    with_entry : is_realtime m.signo ≡ true → HasLimits (with_queued m q)
    with_entry e = record {
      point = h.point;
      pages = h.pages;
      ids = h.ids;
      mask = h.mask;
      actions = h.actions;
      kill = h.kill;
      pending = h.pending;
      queued = All-push IsRealtimeEntry q.queued (record { signo = m.signo; value = m.value }) h.queued e;
      frames = h.frames;
    }

    with_one : is_known m.signo ≡ true → is_realtime m.signo ≡ false → HasLimits (with_pending m.signo q)
    with_one right e = record {
      point = h.point;
      pages = h.pages;
      ids = h.ids;
      mask = h.mask;
      actions = h.actions;
      kill = h.kill;
      pending = λ n z. elim (in_one_more q.pending m.signo n z) [
        | inl y ↦ h.pending n y
        | inr y ↦ subst (λ (i : ℕ). is_one_of standard_signals i ≡ true) (sym y) (standard_by (is_one_of standard_signals m.signo) (is_realtime m.signo) true right e)
      ];
      queued = h.queued;
      frames = h.frames;
    }

    by : (a b : Bool) → is_quiet m q ≡ b → (c : Bool) → is_realtime m.signo ≡ c → (d : Bool)
        → HasLimits (if a then (if b then q else (if c then (if d then with_queued m q else q) else with_pending m.signo q)) else q)
    by false b e c f d = h
    by true true e c f d = h
    by true false e true f true = with_entry f
    by true false e true f false = h
    by true false e false f d = with_one (loud e) f

pub post_within : (m : Sending) (S : State) → IsSendable m → IsWithin S → IsWithin (after_post m S)
post_within m S k w =
    write_within (SetProc m.target (target_after m (S.procs m.target))) S
    (received_limits m (S.procs m.target) k (limits_if S w m.target (S.procs m.target) refl)) w

posts_within : (ms : List Sending) (S : State) → All IsSendable ms → IsWithin S → IsWithin (all_posted ms S)
unfolding all_posted
posts_within [] S h w = w
posts_within (m ∷ ms) S h w = posts_within ms (after_post m S) (All-tail IsSendable m ms h) (post_within m S (All-head IsSendable m ms h) w)

concluded_within : (c : Conclusion) (rs : List ℤ) (S : State) → IsWithin S → IsWithin (after_conclusion c rs S)
concluded_within (Replies r) rs S w = w
concluded_within (AnswersPost p) rs S w =
    write_within (SetProc p (with_answer_if (first_answer rs) (S.procs p))) S (noted_if_limits (first_answer rs) (S.procs p) (limits_if S w p (S.procs p) refl)) w
concluded_within ListsFailed rs S w = w

-- every event keeps the limits
pub after_within : (ev : Event) (S : State) → IsArranged S → IsWithin S → IsWithin (after ev S)
unfolding after
after_within ev S a w =
    let f : Effect = effect ev S in
    let k : IsFine S.width f = event_fine ev S a w in
    concluded_within f.conclusion (send_answers f S) (all_posted f.sends (with_writes f.writes S))
    (posts_within f.sends (with_writes f.writes S) k.sends (written_within f.writes S k.writes w))

-- the state at the start
pub booted_within : (width count : ℕ) → IsWithin (boot_state width count)
booted_within width count = record { limits = limits; held = λ s. All-nil (IsHeldSending width) }
  where
    limits : (n : ℕ) (q : Process) → (boot_state width count).procs n ≡ Some q → HasLimits q
    limits n q h = by (is_between count n) h
      where
        by : (b : Bool) → (if b then Some (booted_process n) else None) ≡ Some q → HasLimits q
        by true k = subst HasLimitsIf k (booted_limits n)
        by false k = cc
