-- What a call of a running process does is the same, whatever signals are pending at one process.
use Rattle.std.proofs.Common.{◌≡◌, ℕ, Bool, true, false, not, ◌&&◌, ◌||◌, List, [], ◌∷◌, ◌++◌, length, ℤ, pos, Option, Some, None, is_some, if◌then◌else◌, nat_lt, ◌==◌, ◌+◌, min, take, refl, sym, ap, ap₂, ◌∙◌, subst, eqb-true}
use Rattle.tx_base.specs.Signals.{bits_of}
use Rattle.tx_base.specs.declared.errors.Errno.{Errno}
use Rattle.tx_base.specs.declared.errors.Errno.TheVariants.{NotPermitted, NoChild, InvalidArgument, BrokenPipe, BadDescriptor}
use Rattle.tx_base.specs.declared.limits.TheConstants.{CONSOLE_BYTES, DESCRIPTIONS, HELD_SENDS, LAST_POINT, PIPE_BYTES, SLOTS}
use Rattle.tx_base.specs.declared.steps.Call.{Call}
use Rattle.tx_base.specs.declared.steps.Call.TheVariants as call
use Rattle.tx_base.specs.declared.steps.Refusal.{Refusal}
use Rattle.tx_base.specs.declared.steps.Refusal.TheVariants.{NumberTaken, Wait}
use Rattle.tx_base.specs.declared.steps.Reply.{Reply}
use Rattle.tx_base.specs.declared.steps.Reply.TheVariants.{Done, Ended}
use Rattle.tx_model.specs.Numbers.{below, error_answer}
use Rattle.tx_model.specs.Memory.{Memory, page_at, is_good, is_mapped, is_writable, stored_memory, loaded_byte, address_of}
use Rattle.tx_model.specs.Book.{id_of, is_privileged, is_own_user, is_own_group, is_jump_taken, has_reader, has_writer, is_read_side, is_write_side, bytes_in, broken_pipe, sendable, member_sends, page_of_call, with_memory, with_ids, release, of_side, description_in, end_at, is_empty, read, write, fork, exit, waitpid, sigqueue, sigaction, sigpending}
use Rattle.tx_model.specs.State.{Ids, Process, Side, State, Object, Write, SetProc, write_one}
use Rattle.tx_model.specs.Effects.{Replies, Effect, Inside, with_answer}
use Rattle.tx_model.specs.Words.{Own, own_effect, answer_effect, answer_effect_with, answers_with, delivery_effect, delivery_objects, call_effect, call_objects, page_of, last_ret, stands_at, with_register_slot, is_ignored, dup2_objects, pipe_list, with_two_slots, with_status, is_full}
use Rattle.tx_model.specs.Signals.{Disposition, Ignored, Fatal, Caught, disposition, newest_frame, with_frame, changed_mask, with_action, without_signal}
use Rattle.tx_model.specs.SignalSets.{maskable}
use Rattle.tx_model.specs.Descriptors.{descriptor, description_named, option_list, lowest_free, with_descriptor, is_pipe_in_use, removals, open_in, other_than, desc_objects, desc_pipe_objects}
use Rattle.tx_model.specs.Processes.{holder_of, child_of, ended_process, children_of, orphan_writes, NotTold, AtOnce, AtCommit, parent_notice, ending, ending_objects, held_objects, exit_status, pid_of, Notice, notice_held, notice_now, procs_of}
use Rattle.tx_model.specs.Deliveries.{without_delivered, at_catch_point, killed_status, is_deferred, action_at, delivered_value, ends_by, reaction}
use Rattle.tx_model.specs.Forms.{Caller, Outcome, fails, answers, changes, stands, refuses, does, effect_of, ◌or◌, ◌when◌, caller}
use Rattle.tx_model.specs.BookLaws.{sigaction_lines}
use Rattle.tx_laws.proofs.OfPages.{both_or, both_when}
use Rattle.tx_laws.specs.OneMoment.{call_looks}
use Rattle.tx_moment.specs.Unseen.{Signals, resignalled, resignalled_if, with_signals}
use Rattle.tx_moment.proofs.Resigned.{resign, resigned_all, resigned, seen}
use Rattle.tx_moment.proofs.UnseenParts.{viewed, has_side_unseen, pipes_unseen, children_unseen, resigned_append, released_after, orphaned_resigned, ended_resigned}

-- the process, with these signals pending where it is the one that they are for
abbrev pub signed : Bool → Signals → Process → Process
signed b g x = record x { pending = if b then g.pending else x.pending; queued = if b then g.queued else x.queued }

-- what is seen of a process that runs
pub running_seen : (b : Bool) (g : Signals) (x : Process) → x.status ≡ None → (if b then resignalled_if g (Some x) else Some x) ≡ Some (signed b g x)
running_seen true g x h = ap (λ (status : Option ℕ). Some (if is_some status then x else record x { pending = g.pending; queued = g.queued })) h
running_seen false g x h = refl

-- the first effect is the second, with these signals pending at process s
pub record Follows (s : ℕ) (g : Signals) (f h : Effect) : Type 0 where
  pub same : f ≡ resigned s g h

-- the same of what a step makes of its own process p, which runs on
record Goes (s : ℕ) (g : Signals) (p : ℕ) (now own : Own) : Type 0 where
  pub process : now.process ≡ signed (p == s) g own.process
  pub reply : now.reply ≡ own.reply
  pub status : own.process.status ≡ None

module _ (s : ℕ) (g : Signals) (p : ℕ) where
  -- the write of the process's own place
  own_write : (x : Process) → x.status ≡ None → SetProc p (Some (signed (p == s) g x)) ≡ resign s g (SetProc p (Some x))
  own_write x h = ap (SetProc p) (sym (running_seen (p == s) g x h))

  own_same : (now own : Own) → Goes s g p now own → Follows s g (own_effect p now) (own_effect p own)
  own_same now own h = record {
    same = ap (λ (x : Own). own_effect p x) (λ i. record { process = h.process i; reply = h.reply i })
        ∙ ap (λ (w : Write). record { writes = w ∷ []; sends = []; conclusion = Replies own.reply }) (own_write own.process h.status);
  }

  done_same : (r : ℤ) (x : Process) → x.status ≡ None → Follows s g (answer_effect p r (signed (p == s) g x)) (answer_effect p r x)
  done_same r x h = own_same (answers_with r (signed (p == s) g x)) (answers_with r x) (record { process = refl; reply = refl; status = h })

  with_same : (vs ws : List Write) (r : ℤ) (x : Process) → x.status ≡ None → vs ≡ resigned_all s g ws → Follows s g (answer_effect_with vs p r (signed (p == s) g x)) (answer_effect_with ws p r x)
  with_same vs ws r x h e = record { same = ap₂ (λ (w : Write) (us : List Write). record { writes = w ∷ us; sends = []; conclusion = Replies (Done r) }) (own_write (with_answer r x) h) e }

  -- the end of a process
  told_resigned : (t : Notice) (parent : ℕ) (S : State) → notice_held t parent (with_signals s g S) ≡ resigned_all s g (notice_held t parent S)
  told_resigned NotTold parent S = refl
  told_resigned AtOnce parent S = refl
  told_resigned (AtCommit t) parent S = refl

  -- what the end writes after its process: its children, what goes with its names, and what is told later
  ending_rest : (inside : Option Inside) (status : ℕ) (x : Process) (S : State) →
      orphan_writes (children_of p (with_signals s g S)) (with_signals s g S)
      ++ removals (open_in x.descriptors) (write_one (SetProc p (Some (ended_process status x))) (with_signals s g S))
      ++ notice_held (parent_notice inside x.parent) x.parent (with_signals s g S)
      ≡ resigned_all s g (orphan_writes (children_of p S) S
      ++ removals (open_in x.descriptors) (write_one (SetProc p (Some (ended_process status x))) S)
      ++ notice_held (parent_notice inside x.parent) x.parent S)
  ending_rest inside status x S =
      let R : State = with_signals s g S in
      let orphans : List Write = orphan_writes (children_of p S) S in
      let gone : State → List Write = λ T. removals (open_in x.descriptors) (write_one (SetProc p (Some (ended_process status x))) T) in
      let told : State → List Write = λ T. notice_held (parent_notice inside x.parent) x.parent T in
      ap (λ (qs : List ℕ). orphan_writes qs R ++ gone R ++ told R) (children_unseen s g p S)
      ∙ ap (λ (ws : List Write). ws ++ gone R ++ told R) (orphaned_resigned s g (children_of p S) S)
      ∙ ap₂ (λ (vs ws : List Write). resigned_all s g orphans ++ vs ++ ws)
      (released_after s g (open_in x.descriptors) p (Some (ended_process status x)) (Some (ended_process status x)) S (ended_resigned s g p status x))
      (told_resigned (parent_notice inside x.parent) x.parent S)
      ∙ ap (λ (ws : List Write). ws ++ resigned_all s g (told S)) (sym (resigned_append s g orphans (gone S)))
      ∙ sym (resigned_append s g (orphans ++ gone S) (told S))

  ending_same : (inside : Option Inside) (status : ℕ) (x : Process) (S : State) → Follows s g (ending status (caller inside p (signed (p == s) g x) (with_signals s g S))) (ending status (caller inside p x S))
  ending_same inside status x S = record {
    same = λ i. record { writes = ended_resigned s g p status x i ∷ ending_rest inside status x S i; sends = notice_now (parent_notice inside x.parent) x.parent; conclusion = Replies Ended };
  }

-- another process than the one that the signals are for
module _ (s : ℕ) (g : Signals) (p : ℕ) (me : Process) (runs : me.status ≡ None) where
  pub else_now : (p == s) ≡ false → signed (p == s) g me ≡ me
  else_now apart = ap (λ (b : Bool). signed b g me) apart

  else_same : (p == s) ≡ false → (own : Own) → Follows s g (own_effect p own) (own_effect p own)
  else_same apart own = record {
    same = ap (λ (b : Bool). record { writes = SetProc p (if b then Some (resignalled g own.process) else Some own.process) ∷ []; sends = []; conclusion = Replies own.reply }) (sym apart);
  }

-- the calls of a process that runs
module _ (s : ℕ) (g : Signals) (p : ℕ) (me : Process) (runs : me.status ≡ None) (inside : Option Inside) where
  -- the process as it is with these signals
  abbrev now : Process
  now = signed (p == s) g me

  -- it calls with these signals, and without them
  abbrev one : State → Caller
  one S = caller inside p now (with_signals s g S)

  abbrev other : State → Caller
  other S = caller inside p me S

  record Same (o u : Outcome) : Type 0 where
    follows : Follows s g (effect_of p now o) (effect_of p me u)

  answered : (r : ℤ) → Same (answers r) (answers r)
  answered r = record { follows = done_same s g p r me runs }

  failed : (e : Errno) → Same (fails e) (fails e)
  failed e = record { follows = done_same s g p (error_answer e) me runs }

  refused : (why : Refusal) → Same (refuses why) (refuses why)
  refused why = record { follows = record { same = refl } }

  becomes : (r : ℤ) (q : Process) (vs ws : List Write) → q.status ≡ None → vs ≡ resigned_all s g ws → Same (changes r (signed (p == s) g q) vs) (changes r q ws)
  becomes r q vs ws h e = record { follows = with_same s g p vs ws r q h e }

  stood : (q : Process) (reply : Reply) → q.status ≡ None → Same (stands (signed (p == s) g q) reply) (stands q reply)
  stood q reply h = record {
    follows = own_same s g p (record { process = signed (p == s) g q; reply = reply }) (record { process = q; reply = reply }) (record { process = refl; reply = refl; status = h });
  }

  -- the lines of two pages that ask the same
  or_fails : {A : Type 0} (o : Option A) (e : Errno) (mine yours : A → Outcome) → ((x : A) → Same (mine x) (yours x)) → Same ((o or fails e) mine) ((o or fails e) yours)
  or_fails o e mine yours h = both_or Same o o _ _ mine yours refl (failed e) λ x z. h x

  fails_when : (b : Bool) (e : Errno) (mine yours : Outcome) → Same mine yours → Same ((fails e when b) mine) ((fails e when b) yours)
  fails_when b e mine yours h = both_when Same b b _ _ mine yours refl (failed e) λ z. h

  answers_when : (b : Bool) (r : ℤ) (mine yours : Outcome) → Same mine yours → Same ((answers r when b) mine) ((answers r when b) yours)
  answers_when b r mine yours h = both_when Same b b _ _ mine yours refl (answered r) λ z. h

  refuses_when : (b : Bool) (why : Refusal) (mine yours : Outcome) → Same mine yours → Same ((refuses why when b) mine) ((refuses why when b) yours)
  refuses_when b why mine yours h = both_when Same b b _ _ mine yours refl (refused why) λ z. h

  either : (b : Bool) (q r mine yours : Outcome) → Same q r → Same mine yours → Same ((q when b) mine) ((r when b) yours)
  either b q r mine yours gives goes = both_when Same b b q r mine yours refl gives λ z. goes

  remembers : (S : State) (memory : Memory) → Same (with_memory memory (one S)) (with_memory memory (other S))
  remembers S memory = becomes (pos 0) (record me { memory = memory }) [] [] runs refl

  identifies : (S : State) (ids : Ids) → Same (with_ids ids (one S)) (with_ids ids (other S))
  identifies S ids = becomes (pos 0) (record me { ids = ids }) [] [] runs refl

  -- names are given up
  gave_up : (ds : List ℕ) (r : ℤ) (q : Process) (S : State) → q.status ≡ None → Same (release ds r (signed (p == s) g q) (one S)) (release ds r q (other S))
  gave_up ds r q S h = becomes r q _ _ h (released_after s g ds p (Some (with_answer r q)) (Some (with_answer r (signed (p == s) g q))) S (own_write s g p (with_answer r q) h))

  -- transfers
  end_unseen : (test : Side → Bool) (d : Option ℕ) (S : State) → of_side test (description_in d (with_signals s g S)) ≡ of_side test (description_in d S)
  end_unseen test None S = refl
  end_unseen test (Some d) S = refl

  read_same : (f address v : ℤ) (S : State) → Same (read f address v (one S)) (read f address v (other S))
  read_same f address v S =
      both_or Same (end_at is_read_side f (one S)) (end_at is_read_side f (other S)) _ _ _ _ (end_unseen is_read_side (description_named me (descriptor f)) S) (failed BadDescriptor)
      λ x z. rw (has_side_unseen s g is_write_side x.pipe DESCRIPTIONS S)
      (or_fails (below (PIPE_BYTES + 1) v) _ _ _ λ n. answers_when (n == 0) _ _ _ (fails_when (not (is_good is_writable me.memory address n)) _ _ _
      (answers_when (is_empty (bytes_in (S.pipes x.pipe)) && not (has_writer x.pipe S)) _ _ _
      (fails_when (is_empty (bytes_in (S.pipes x.pipe)) && x.nonblock) _ _ _ (refuses_when (is_empty (bytes_in (S.pipes x.pipe))) _ _ _
      (becomes _ (record me { memory = stored_memory me.memory (address_of address) (take (min n (length (bytes_in (S.pipes x.pipe)))) (bytes_in (S.pipes x.pipe))) }) _ _ runs refl))))))

  broken : Same (does (broken_pipe p now)) (does (broken_pipe p me))
  broken = record { follows = record { same = ap (λ (w : Write). record (broken_pipe p me) { writes = w ∷ [] }) (own_write s g p (with_answer (error_answer BrokenPipe) me) runs) } }

  write_same : (f address v : ℤ) (S : State) → Same (write f address v (one S)) (write f address v (other S))
  write_same f address v S =
      both_or Same (end_at is_write_side f (one S)) (end_at is_write_side f (other S)) _ _ _ _ (end_unseen is_write_side (description_named me (descriptor f)) S) (failed BadDescriptor)
      λ x z. rw (has_side_unseen s g is_read_side x.pipe DESCRIPTIONS S)
      (or_fails (below (PIPE_BYTES + 1) v) _ _ _ λ n. answers_when (n == 0) _ _ _ (fails_when (not (is_good is_mapped me.memory address n)) _ _ _
      (either (not (has_reader x.pipe S)) _ _ _ _ broken (fails_when (nat_lt PIPE_BYTES (length (bytes_in (S.pipes x.pipe)) + n) && x.nonblock) _ _ _
      (refuses_when (nat_lt PIPE_BYTES (length (bytes_in (S.pipes x.pipe)) + n)) _ _ _ (becomes (pos n) me _ _ runs refl))))))

  -- forks, waits and ends
  fork_same : (child : ℕ) (S : State) → is_some (S.procs s) ≡ true → Same (fork child (one S)) (fork child (other S))
  fork_same child S there =
      subst (λ (x : Option Process). Same ((refuses NumberTaken when is_some x) (changes (pos child) now (SetProc child (Some (child_of p now)) ∷ []))) (fork child (other S))) (sym (seen s g S child))
      (by (child == s) refl (S.procs child) (λ e. subst (λ (m : ℕ). is_some (S.procs m) ≡ true) (sym (eqb-true child s e)) there))
    where
      by : (b : Bool) → (child == s) ≡ b → (x : Option Process) → (b ≡ true → is_some x ≡ true)
          → Same ((refuses NumberTaken when is_some (if b then resignalled_if g x else x)) (changes (pos child) now (SetProc child (Some (child_of p now)) ∷ [])))
          ((refuses NumberTaken when is_some x) (changes (pos child) me (SetProc child (Some (child_of p me)) ∷ [])))
      by true e None h = let k : false ≡ true = h refl in cc
      by true e (Some q) h = refused NumberTaken
      by false e None h =
          becomes (pos child) me _ _ runs (ap (λ (b : Bool). SetProc child (if b then Some (resignalled g (child_of p me)) else Some (child_of p me)) ∷ []) (sym e))
      by false e (Some q) h = refused NumberTaken

  -- a wait, from the process of that number on
  abbrev waited : ℕ → Bool → Process → Option Process → Outcome
  waited child nohang x o = (o or fails NoChild) λ q. (fails NoChild when not (q.parent == p))
      ((q.status or (if nohang then answers (pos 0) else refuses Wait)) λ status. changes (pos child) (with_status status x) (SetProc child None ∷ []))

  waitpid_same : (t : ℤ) (nohang : Bool) (S : State) → Same (waitpid t nohang (one S)) (waitpid t nohang (other S))
  waitpid_same t nohang S =
      or_fails (pid_of S.width t) _ _ _ λ child. subst (λ (o : Outcome). Same o (waited child nohang me (S.procs child))) (sym (viewed s g (waited child nohang now) (child_viewed child) S child))
      (or_fails (S.procs child) _ _ _ λ q. fails_when (not (q.parent == p)) _ _ _ (both_or Same q.status q.status _ _ _ _ refl (goes nohang)
      λ status z. becomes (pos child) (with_status status me) _ _ runs (ap (λ (w : Write). w ∷ []) (removed child))))
    where
      goes : (b : Bool) → Same (if b then answers (pos 0) else refuses Wait) (if b then answers (pos 0) else refuses Wait)
      goes true = answered (pos 0)
      goes false = refused Wait

      removed : (n : ℕ) → SetProc n None ≡ resign s g (SetProc n None)
      removed n = by (n == s)
        where
          by : (b : Bool) → SetProc n None ≡ SetProc n (if b then None else None)
          by true = refl
          by false = refl

      child_viewed : (child : ℕ) (x : Option Process) → waited child nohang now (resignalled_if g x) ≡ waited child nohang now x
      child_viewed child None = refl
      child_viewed child (Some q) = by (is_some q.status)
        where
          by : (b : Bool) → waited child nohang now (Some (if b then q else record q { pending = g.pending; queued = g.queued })) ≡ waited child nohang now (Some q)
          by true = refl
          by false = refl

  exit_same : (v : ℤ) (S : State) → Same (exit v (one S)) (exit v (other S))
  exit_same v S = fails_when (p == 1) _ _ _ (record { follows = ending_same s g p inside (exit_status v) me S })

  -- sends
  send_same : (t signo value : ℤ) (S : State) → Same (sigqueue t signo value (one S)) (sigqueue t signo value (other S))
  send_same t signo value S =
      or_fails (sendable signo) _ _ _ λ n. or_fails (pid_of S.width t) _ _ _ λ target. both_or Same (holder_of target inside) (holder_of target inside) _ _ _ _ refl (record { follows = record { same = refl } })
      λ i z. answers_when (n == 0) _ _ _ (fails_when (not (nat_lt (member_sends (S.held i.starter)) HELD_SENDS)) _ _ _ (becomes (pos 0) me _ _ runs refl))

  -- a call that looks at what is pending, of another process
  looked : (p == s) ≡ false → (page : Process → Outcome) → Follows s g (effect_of p me (page me)) (effect_of p me (page me)) → Same (page now) (page me)
  looked apart page h = record { follows = subst (λ (x : Process). Follows s g (effect_of p x (page x)) (effect_of p me (page me))) (sym (else_now s g p me runs apart)) h }

  else_answers : (p == s) ≡ false → (r : ℤ) (q : Process) → Follows s g (answer_effect p r q) (answer_effect p r q)
  else_answers apart r q = else_same s g p me runs apart (answers_with r q)

  -- what a call does
  page_same : (c : Call) (S : State) → is_some (S.procs s) ≡ true → (call_looks c ≡ true → (p == s) ≡ false) → Same ((page_of_call c).outcome (one S)) ((page_of_call c).outcome (other S))
  page_same (call.Map n) S there apart = or_fails (page_of n) _ _ _ λ k. fails_when (is_mapped (page_at me.memory k)) _ _ _ (remembers S _)
  page_same (call.Unmap n) S there apart = or_fails (page_of n) _ _ _ λ k. fails_when (not (is_mapped (page_at me.memory k))) _ _ _ (remembers S _)
  page_same (call.Protect n writable) S there apart = or_fails (page_of n) _ _ _ λ k. or_fails (page_at me.memory k) _ _ _ λ page. remembers S _
  page_same (call.Store address bytes) S there apart = fails_when (not (is_good is_writable me.memory address (length bytes.items))) _ _ _ (remembers S _)
  page_same (call.Load address) S there apart = or_fails (loaded_byte me.memory (address_of address)) _ _ _ λ byte. answered (pos byte)
  page_same (call.Fork child) S there apart = fork_same child.0 S there
  page_same (call.Exit status) S there apart = exit_same status S
  page_same (call.Waitpid t nohang) S there apart = waitpid_same t nohang S
  page_same (call.Setuid v) S there apart =
      or_fails (id_of v) _ _ _ λ u. either (is_privileged me.ids) _ _ _ _ (identifies S _) (either (is_own_user u me.ids) _ _ _ _ (identifies S _) (failed NotPermitted))
  page_same (call.Seteuid v) S there apart = or_fails (id_of v) _ _ _ λ u. either (is_privileged me.ids || is_own_user u me.ids) _ _ _ _ (identifies S _) (failed NotPermitted)
  page_same (call.Setgid v) S there apart =
      or_fails (id_of v) _ _ _ λ u. either (is_privileged me.ids) _ _ _ _ (identifies S _) (either (is_own_group u me.ids) _ _ _ _ (identifies S _) (failed NotPermitted))
  page_same (call.Setegid v) S there apart = or_fails (id_of v) _ _ _ λ u. either (is_privileged me.ids || is_own_group u me.ids) _ _ _ _ (identifies S _) (failed NotPermitted)
  page_same (call.Pipe q r w) S there apart =
      refuses_when (is_pipe_in_use q.0 r.0 w.0 S) _ _ _ (or_fails (lowest_free me) _ _ _ λ f. or_fails (lowest_free (with_descriptor f (Some r.0) me)) _ _ _
      λ h. becomes (pos 0) (with_two_slots f h (with_descriptor h (Some w.0) (with_descriptor f (Some r.0) me))) _ _ runs refl)
  page_same (call.Dup f) S there apart = or_fails (description_named me (descriptor f)) _ _ _ λ d. or_fails (lowest_free me) _ _ _ λ h. becomes (pos h) (with_descriptor h (Some d) me) [] [] runs refl
  page_same (call.Dup2 a b) S there apart =
      or_fails (descriptor a) _ _ _ λ f. or_fails (description_named me (Some f)) _ _ _ λ d. or_fails (descriptor b) _ _ _
      λ h. answers_when (f == h) _ _ _ (gave_up (option_list (description_named me (Some h))) (pos h) (with_descriptor h (Some d) me) S runs)
  page_same (call.Close a) S there apart = or_fails (descriptor a) _ _ _ λ f. or_fails (description_named me (Some f)) _ _ _ λ d. gave_up (d ∷ []) (pos 0) (with_descriptor f None me) S runs
  page_same (call.SetNonblock f on) S there apart = or_fails (description_named me (descriptor f)) _ _ _ λ d. or_fails (S.descs d) _ _ _ λ x. becomes (pos 0) me _ _ runs refl
  page_same (call.Read f address n) S there apart = read_same f address n S
  page_same (call.Write f address n) S there apart = write_same f address n S
  page_same (call.Kill t signo) S there apart = send_same t signo (pos 0) S
  page_same (call.Sigqueue t signo value) S there apart = send_same t signo value S
  page_same (call.Sigaction signo action) S there apart =
      looked (apart refl) (λ x. sigaction signo action (caller inside p x S))
      (sigaction_lines (λ o. Follows s g (effect_of p me o) (effect_of p me o)) (other S) (λ e. else_answers (apart refl) (error_answer e) me) signo action
      λ n e good. else_answers (apart refl) (pos 0) (with_action n action (if is_ignored n action then without_signal n me else me)))
  page_same (call.Sigprocmask how set) S there apart = becomes (pos 0) (record me { mask = maskable (changed_mask how (bits_of set) me.mask) }) [] [] runs refl
  page_same call.Sigpending S there apart = looked (apart refl) (λ x. sigpending (caller inside p x S)) (else_answers (apart refl) _ me)
  page_same call.Sigreturn S there apart = or_fails (newest_frame me.frames) _ _ _ λ frame. stood (with_frame frame me) _ runs
  page_same (call.ConsoleWrite address v) S there apart =
      answers_when (is_some inside) _ _ _ (or_fails (below (CONSOLE_BYTES + 1) v) _ _ _
      λ n. fails_when (not (is_good is_mapped me.memory address n)) _ _ _ (stood (with_answer (pos n) me) _ runs))
  page_same (call.Jump point if_so) S there apart =
      fails_when (nat_lt LAST_POINT point) _ _ _ (answers_when (not (is_jump_taken if_so (last_ret me))) _ _ _ (stood (stands_at point me) _ runs))
  page_same (call.Keep slot) S there apart = or_fails (below SLOTS slot) _ _ _ λ k. becomes (last_ret me) (with_register_slot k (last_ret me) me) [] [] runs refl
  page_same call.SysXbegin S there apart = failed InvalidArgument
  page_same call.SysXbeginDefer S there apart = failed InvalidArgument
  page_same call.SysXend S there apart = failed InvalidArgument
  page_same call.SysXabort S there apart = failed InvalidArgument
  -- each other page answers a number that has nothing to do with signals
  page_same c S there apart = answered _

  pub call_same : (c : Call) (S : State) → is_some (S.procs s) ≡ true → (call_looks c ≡ true → (p == s) ≡ false) → Follows s g (call_effect inside p c now (with_signals s g S)) (call_effect inside p c me S)
  call_same c S there apart = (page_same c S there apart).follows

  -- what a delivery to another process does
  pub delivery_same : (signo : ℕ) (S : State) → (p == s) ≡ false → Follows s g (delivery_effect inside p signo me (with_signals s g S)) (delivery_effect inside p signo me S)
  delivery_same signo S apart =
      both_or Alike (delivered_value signo me) _ _ _ _ _ refl (record { same = refl })
      λ value z. both_when Alike (is_deferred inside signo) _ _ _ _ _ refl (record { same = refl }) λ now. acted value (disposition signo (action_at signo me))
    where
      Alike : Outcome → Outcome → Type 0
      Alike o u = Follows s g (effect_of p me o) (effect_of p me u)

      acted : (value : ℤ) (d : Disposition)
          → Alike (reaction signo value d (caller inside p (without_delivered signo me) (with_signals s g S))) (reaction signo value d (caller inside p (without_delivered signo me) S))
      acted value Ignored = else_same s g p me runs apart (record { process = without_delivered signo me; reply = Done me.registers.ret })
      acted value Fatal = ending_same s g p inside (killed_status signo) (without_delivered signo me) S
      acted value (Caught point mask) =
          both_when Alike (is_full me) _ _ _ _ _ refl (record { same = refl })
          λ room. else_same s g p me runs apart (record { process = at_catch_point signo value point mask (without_delivered signo me); reply = Done value })

-- what the calls and deliveries name
module _ (s : ℕ) (g : Signals) where
  ends_unseen : (ds : List ℕ) (S : State) → desc_pipe_objects ds (with_signals s g S) ≡ desc_pipe_objects ds S
  ends_unseen ds S = ap (λ (ks : List ℕ). desc_objects ds ++ pipe_list ks) (pipes_unseen s g ds S)

  ending_unseen : (inside : Option Inside) (p : ℕ) (me : Process) (S : State) → ending_objects (caller inside p me (with_signals s g S)) ≡ ending_objects (caller inside p me S)
  ending_unseen inside p me S = ap₂ (λ (os : List Object) (qs : List ℕ). os ++ procs_of qs ++ held_objects inside) (ends_unseen (open_in me.descriptors) S) (children_unseen s g p S)

  pub call_unseen : (inside : Option Inside) (c : Call) (p : ℕ) (b : Bool) (me : Process) (S : State) → call_objects inside c p (signed b g me) (with_signals s g S) ≡ call_objects inside c p me S
  call_unseen inside (call.Exit status) p b me S = ap (λ (os : List Object). if p == 1 then [] else os) (ending_unseen inside p me S)
  call_unseen inside (call.Dup2 f h) p b me S = dup2_unseen (descriptor f) (descriptor h)
    where
      dup2_unseen : (f h : Option ℕ) → dup2_objects f h (signed b g me) (with_signals s g S) ≡ dup2_objects f h me S
      dup2_unseen None h = ap (λ (os : List Object). desc_objects (option_list (description_named me None)) ++ os) (ends_unseen (other_than None h me) S)
      dup2_unseen (Some f) None = ap (λ (os : List Object). desc_objects (option_list (description_named me (Some f))) ++ os) (ends_unseen (other_than (Some f) None me) S)
      dup2_unseen (Some f) (Some h) = ap (λ (os : List Object). desc_objects (option_list (description_named me (Some f))) ++ os) (ends_unseen (other_than (Some f) (Some h) me) S)
  call_unseen inside (call.Close f) p b me S = ends_unseen (option_list (description_named me (descriptor f))) S
  call_unseen inside (call.Read f address n) p b me S = ends_unseen (option_list (description_named me (descriptor f))) S
  call_unseen inside (call.Write f address n) p b me S = ends_unseen (option_list (description_named me (descriptor f))) S
  call_unseen inside c p b me S = refl

  pub delivery_unseen : (inside : Option Inside) (signo p : ℕ) (me : Process) (S : State) → delivery_objects inside p signo me (with_signals s g S) ≡ delivery_objects inside p signo me S
  delivery_unseen inside signo p me S = ap (λ (os : List Object). if ends_by inside signo me (delivered_value signo me) then os else []) (ending_unseen inside p me S)
