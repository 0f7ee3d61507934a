-- What is made of a number at most is there at no greater one.
use Rattle.std.proofs.Common.{◌≡◌, ℕ, ◌<◌, ◌≤◌, Bool, true, false, List, [], ◌∷◌, ◌++◌, ℤ, pos, Option, Some, None, inl, inr, zero, suc, nat_lt, All, map, reverse, arith, refl, sym, ap, ◌∙◌, subst}
use Rattle.std.proofs.lemmas.Bool.{ltb-true, ltb-false, le-ltb}
use Rattle.std.proofs.lemmas.List.{reverse-append}
use Rattle.std.proofs.lemmas.List.Elements.{All-append, All-cons, All-head, All-map, All-nil, All-tail, All-take}
use Rattle.std.proofs.lemmas.Option.{none-some}
use Rattle.tx_base.specs.declared.errors.Errno.{Errno}
use Rattle.tx_base.specs.declared.marks.Mark.{Mark}
use Rattle.tx_base.specs.declared.steps.Accepted.{Accepted}
use Rattle.tx_base.specs.declared.steps.Call.{Call}
use Rattle.tx_base.specs.declared.steps.Call.TheVariants as call
use Rattle.tx_base.specs.declared.steps.Reply.{Reply}
use Rattle.tx_base.specs.declared.steps.Step.{Step}
use Rattle.tx_base.specs.declared.steps.Step.TheVariants.{Call as Calls, Deliver, KernelAbort}
use Rattle.tx_journal.specs.Entries.{accepted_of, history_of}
use Rattle.tx_journal.specs.Sessions.{SessionState, made_of, position_of, start_of}
use Rattle.tx_journal.specs.declared.entry.Entry.{Entry}
use Rattle.tx_laws.proofs.OwnPages.{StaysOwn, own_page}
use Rattle.tx_laws.proofs.PlainWrites.{ArePlain, pipe_plain, dup_plain, dup2_plain, close_plain, set_nonblock_plain, read_plain, write_plain, released_plain}
use Rattle.tx_model.specs.Answer.{is_running}
use Rattle.tx_model.specs.Book.{page_of_call, sigqueue}
use Rattle.tx_model.specs.BookLaws.{delivery_lines, exit_lines, fork_lines, sigqueue_lines, waitpid_lines, where_runs}
use Rattle.tx_model.specs.Deliveries.{delivery_page, killed_status, without_delivered}
use Rattle.tx_model.specs.Descriptors.{open_in, removals}
use Rattle.tx_model.specs.Effects.{Inside, Effect, Conclusion, Replies, AnswersPost, ListsFailed, after_conclusion, first_answer, with_answer_if}
use Rattle.tx_model.specs.Events.{Event, Do, Note, Commit, after, effect, run, step_effect}
use Rattle.tx_model.specs.Forms.{Caller, Outcome, fails, answers, changes, stands, posts, refuses, does, caller, effect_of}
use Rattle.tx_model.specs.History.{Starters, event_of, is_left_in, left_out_before, nobody, role_in, survivors, table_of, without}
use Rattle.tx_model.specs.Membership.{Table, Role, Outside, Within, Commits, Aborts, Kind, Ordinary, Forking, Beginning, Leaving, Aborting, event_in, kind_event, step_event}
use Rattle.tx_model.specs.Posts.{after_post, after_posts, target_after}
use Rattle.tx_model.specs.Processes.{Notice, NotTold, AtOnce, AtCommit, children_of, ended_process, ending, notice_held, orphan_writes, parent_notice, with_parent}
use Rattle.tx_model.specs.State.{boot_state, Process, Sending, State, Write, SetProc, SetDesc, SetPipe, SetHeld, write_one, with_writes}
use Rattle.tx_model.specs.StateLaws.{put_cases}
use Rattle.tx_model.specs.View.{present, view}
use Rattle.tx_model.specs.Words.{call_effect, delivery_effect, event_if, kind_of}
use Rattle.tx_workers.specs.Tops.{HasTop, IsWithin}

-- no process has a number over it
abbrev EndsAt : ℕ → State → Type 0
EndsAt top S = (n : ℕ) → top < n → S.procs n ≡ None

module _ (top : ℕ) where
  abbrev IsLow : Write → Type 0
  IsLow (SetProc n None) = Unit {0}
  IsLow (SetProc n (Some q)) = n ≤ top
  IsLow (SetDesc n x) = Unit {0}
  IsLow (SetPipe n x) = Unit {0}
  IsLow (SetHeld n x) = Unit {0}

  unfoldable AreLow : List Write → Type 0
  AreLow [] = Unit {0}
  AreLow (w ∷ ws) = IsLow w × AreLow ws

  low_append : (ws vs : List Write) → AreLow ws → AreLow vs → AreLow (ws ++ vs)
  unfolding AreLow
  low_append [] vs h k = k
  low_append (w ∷ ws) vs h k = (h.0, low_append ws vs h.1 k)

  -- a process that is there has a number up to it
  low_of : (S : State) → EndsAt top S → (n : ℕ) (q : Process) → S.procs n ≡ Some q → n ≤ top
  low_of S ends n q there = by (nat_lt top n) refl
    where
      by : (b : Bool) → nat_lt top n ≡ b → n ≤ top
      by true over = absurd (none-some q (sym (ends n (ltb-true top n over)) ∙ there))
      by false within = ltb-false top n within

  -- writes
  one_written : (w : Write) (S : State) → IsLow w → EndsAt top S → EndsAt top (write_one w S)
  one_written (SetProc n None) S low ends = λ m over. elim (put_cases S.procs n None m) [ inl here ↦ here.1 | inr there ↦ there.1 ∙ ends m over ]
  one_written (SetProc n (Some q)) S low ends = λ m over. elim (put_cases S.procs n (Some q) m) [
    | inl here ↦ let same : m ≡ n = here.0 in absurd (omega (arith, same, low, over))
    | inr there ↦ there.1 ∙ ends m over
  ]
  one_written (SetDesc n x) S low ends = ends
  one_written (SetPipe n x) S low ends = ends
  one_written (SetHeld n x) S low ends = ends

  written : (ws : List Write) (S : State) → AreLow ws → EndsAt top S → EndsAt top (with_writes ws S)
  unfolding with_writes AreLow
  written [] S low ends = ends
  written (w ∷ ws) S low ends = written ws (write_one w S) low.1 (one_written w S low.0 ends)

  -- posts
  one_posted : (m : Sending) (S : State) (x : Option Process) → S.procs m.target ≡ x → EndsAt top S → EndsAt top (write_one (SetProc m.target (target_after m x)) S)
  one_posted m S None there ends = one_written (SetProc m.target None) S tt ends
  one_posted m S (Some q) there ends = one_written (SetProc m.target (target_after m (Some q))) S (low_of S ends m.target q there) ends

  posted : (ms : List Sending) (S : State) → EndsAt top S → EndsAt top (after_posts ms S)
  unfolding after_posts
  posted [] S ends = ends
  posted (m ∷ ms) S ends = posted ms (after_post m S) (one_posted m S (S.procs m.target) refl ends)

  answer_low : (p : ℕ) (r : ℤ) (S : State) → EndsAt top S → (x : Option Process) → S.procs p ≡ x → IsLow (SetProc p (with_answer_if r x))
  answer_low p r S ends None there = tt
  answer_low p r S ends (Some q) there = low_of S ends p q there

  concluded : (c : Conclusion) (rs : List ℤ) (S : State) → EndsAt top S → EndsAt top (after_conclusion c rs S)
  concluded (Replies r) rs S ends = ends
  concluded (AnswersPost p) rs S ends = one_written (SetProc p (with_answer_if (first_answer rs) (S.procs p))) S (answer_low p (first_answer rs) S ends (S.procs p) refl) ends
  concluded ListsFailed rs S ends = ends

  -- what an act writes of a process that is there
  module _ (S : State) (inside : Option Inside) (p : ℕ) (me : Process) (ends : EndsAt top S) (there : S.procs p ≡ Some me) where
    abbrev c : Caller
    c = caller inside p me S

    abbrev Low : Outcome → Type 0
    Low outcome = AreLow (effect_of p me outcome).writes

    low : p ≤ top
    low = low_of S ends p me there

    plain_low : (ws : List Write) → ArePlain p me ws → AreLow ws
    unfolding AreLow ArePlain
    plain_low [] h = tt
    plain_low (SetProc n None ∷ ws) h = absurd h.0
    plain_low (SetProc n (Some q) ∷ ws) h = let same : n ≡ p = h.0.number in (omega (arith, same, low), plain_low ws h.1)
    plain_low (SetDesc n x ∷ ws) h = (tt, plain_low ws h.1)
    plain_low (SetPipe n x ∷ ws) h = (tt, plain_low ws h.1)
    plain_low (SetHeld n x ∷ ws) h = absurd h.0

    own_low : (outcome : Outcome) → StaysOwn me outcome → Low outcome
    unfolding AreLow
    own_low (fails e) h = (low, tt)
    own_low (answers r) h = (low, tt)
    own_low (changes r q []) h = (low, tt)
    own_low (changes r q (w ∷ ws)) h = absurd h
    own_low (stands q reply) h = (low, tt)
    own_low (posts m) h = absurd h
    own_low (refuses why) h = absurd h
    own_low (does f) h = absurd h

    error_low : (errno : Errno) → Low (fails errno)
    unfolding AreLow
    error_low errno = (low, tt)

    orphans_low : (qs : List ℕ) → AreLow (orphan_writes qs S)
    unfolding AreLow orphan_writes
    orphans_low [] = tt
    orphans_low (q ∷ qs) = (by (S.procs q) refl, orphans_low qs)
      where
        by : (x : Option Process) → S.procs q ≡ x → IsLow (SetProc q (with_parent 1 x))
        by None here = tt
        by (Some child) here = low_of S ends q child here

    notice_low : (notice : Notice) (parent : ℕ) → AreLow (notice_held notice parent S)
    unfolding AreLow
    notice_low NotTold parent = tt
    notice_low AtOnce parent = tt
    notice_low (AtCommit s) parent = (tt, tt)

    ending_low : (status : ℕ) (now : Process) → AreLow (ending status (caller inside p now S)).writes
    unfolding AreLow
    ending_low status now =
        let gone : Write = SetProc p (Some (ended_process status now)) in
        let closed : List Write = removals (open_in now.descriptors) (write_one gone S) in
        let orphans : List Write = orphan_writes (children_of p S) S in (
          low,
          low_append (orphans ++ closed) _
              (low_append orphans closed (orphans_low (children_of p S)) (plain_low closed (released_plain p me (open_in now.descriptors) (write_one gone S))))
              (notice_low (parent_notice inside now.parent) now.parent),
        )

    sigqueue_low : (t signo value : ℤ) → Low (sigqueue t signo value c)
    unfolding AreLow
    sigqueue_low t signo value = sigqueue_lines Low c error_low t signo value (low, tt) (λ signo target known to outside. tt) (λ signo target i known to held some room. (low, (tt, tt)))

    call_low : (asked : Call) → IsWithin top (Calls (record { 0 = p }) asked) → AreLow (call_effect inside p asked me S).writes
    unfolding AreLow
    call_low (call.Fork child) h = fork_lines Low c error_low child.0 (λ taken. tt) (λ free. (low, (h, tt)))
    call_low (call.Exit status) h = exit_lines Low c error_low status (λ other. ending_low _ me)
    call_low (call.Waitpid t nohang) h = waitpid_lines Low c error_low t nohang (low, tt) tt (λ child status q to is mine ended. (low, (tt, tt)))
    call_low (call.Pipe q r v) h = plain_low _ (pipe_plain c q.0 r.0 v.0).writes
    call_low (call.Dup f) h = plain_low _ (dup_plain c f).writes
    call_low (call.Dup2 f g) h = plain_low _ (dup2_plain c f g).writes
    call_low (call.Close f) h = plain_low _ (close_plain c f).writes
    call_low (call.SetNonblock f on) h = plain_low _ (set_nonblock_plain c f on).writes
    call_low (call.Read f address n) h = plain_low _ (read_plain c f address n).writes
    call_low (call.Write f address n) h = plain_low _ (write_plain c f address n).writes
    call_low (call.Kill t signo) h = sigqueue_low t signo (pos 0)
    call_low (call.Sigqueue t signo value) h = sigqueue_low t signo value
    call_low asked h = own_low ((page_of_call asked).outcome c) (own_page c asked refl)

    delivery_low : (signo : ℕ) → AreLow (delivery_effect inside p signo me S).writes
    unfolding AreLow
    delivery_low signo =
        delivery_lines Low c signo (λ why e. tt) (λ value d e. (low, tt)) (λ value d e. ending_low (killed_status signo) (without_delivered signo me)) (λ value point mask d e k room. (low, tt))

  -- steps and events
  abbrev IsLowEvent : Event → Type 0
  IsLowEvent (Do step inside) = IsWithin top step
  IsLowEvent (Note p r) = Unit {0}
  IsLowEvent (Commit s ev) = IsLowEvent ev

  step_low : (S : State) (inside : Option Inside) (step : Step) → EndsAt top S → IsWithin top step → AreLow (step_effect step inside S).writes
  unfolding AreLow
  step_low S inside (Calls p asked) ends h =
      where_runs inside p.0 (page_of_call asked) S (λ f. AreLow f.writes) (λ why. tt) (λ me there runs. call_low S inside p.0 me ends there asked h)
  step_low S inside (Deliver p signo) ends h =
      where_runs inside p.0 (delivery_page signo.0) S (λ f. AreLow f.writes) (λ why. tt) (λ me there runs. delivery_low S inside p.0 me ends there signo.0)
  step_low S inside (KernelAbort s) ends h = tt

  event_low : (ev : Event) (S : State) → EndsAt top S → IsLowEvent ev → AreLow (effect ev S).writes
  unfolding effect AreLow
  event_low (Do step inside) S ends h = step_low S inside step ends h
  event_low (Note p r) S ends h = (answer_low p r S ends (S.procs p) refl, tt)
  event_low (Commit s ev) S ends h = low_append (effect ev S).writes (SetHeld s [] ∷ []) (event_low ev S ends h) (tt, tt)

  after_ends : (ev : Event) (S : State) → EndsAt top S → IsLowEvent ev → EndsAt top (after ev S)
  unfolding after
  after_ends ev S ends h =
      let f : Effect = effect ev S in
      concluded f.conclusion _ (after_posts f.sends (with_writes f.writes S)) (posted f.sends (with_writes f.writes S) (written f.writes S (event_low ev S ends h) ends))

  -- the event of a step
  kind_low : (t : Table) (p : ℕ) (step : Step) → IsWithin top step → (k : Kind) (mark : Option Mark) → IsLowEvent (kind_event t p step k mark)
  kind_low t p step h Ordinary mark = h
  kind_low t p step h (Forking child) mark = h
  kind_low t p step h (Beginning defers) None = tt
  kind_low t p step h (Beginning defers) (Some m) = tt
  kind_low t p step h Leaving None = tt
  kind_low t p step h Leaving (Some m) = tt
  kind_low t p step h Aborting None = tt
  kind_low t p step h Aborting (Some m) = tt

  event_of_low : (t : Table) (step : Step) (r : Reply) → IsWithin top step → IsLowEvent (step_event t step r)
  event_of_low t (Calls p asked) r h = kind_low t p.0 (Calls p asked) h (kind_of asked) (t.marks p.0)
  event_of_low t (Deliver p signo) r h = kind_low t p.0 (Deliver p signo) h Ordinary (t.marks p.0)
  event_of_low t (KernelAbort s) r h = tt

  role_low : (r : Role) (ev : Event) → IsLowEvent ev → IsLowEvent (event_in r ev)
  role_low Outside ev h = h
  role_low (Within s part) ev h = h
  role_low (Commits s) ev h = h
  role_low (Aborts s status) ev h = h

  placed : (S : State) (b : Bool) (ev : Event) (evs : List Event) → IsLowEvent ev → EndsAt top (run S evs) → EndsAt top (run S (event_if b ev evs))
  unfolding run
  placed S true ev evs h ends = after_ends ev (run S evs) ends h
  placed S false ev evs h ends = ends

  -- a history that makes no process over it leaves none, whichever transactions are left out
  history_ends : (S : State) (h : List Accepted) → EndsAt top S → All (λ a. IsWithin top a.step) h → (X : Starters) → EndsAt top (without S X h)
  unfolding without survivors run
  history_ends S [] ends all X = ends
  history_ends S (e ∷ h) ends all X =
      let Y : Starters = left_out_before (role_in S e h) X in
      let now : IsWithin top e.step = All-head (λ a. IsWithin top a.step) e h all in
      let low : IsLowEvent (event_of S e h) = role_low (role_in S e h) (step_event (table_of S h) e.step e.reply) (event_of_low (table_of S h) e.step e.reply now) in
      placed S (is_left_in (role_in S e h) X) (event_of S e h) (survivors S Y h) low (history_ends S h ends (All-tail (λ a. IsWithin top a.step) e h all) Y)

  -- what is so of all entries is so of all of their history
  all_of_history : (es : List Entry) → All (λ e. IsWithin top e.step) es → All (λ a. IsWithin top a.step) (history_of es)
  all_of_history es all = all_reversed (map accepted_of es) (All-map (λ a. IsWithin top a.step) accepted_of es all)
    where
      all_reversed : (h : List Accepted) → All (λ a. IsWithin top a.step) h → All (λ a. IsWithin top a.step) (reverse h)
      all_reversed [] all = all
      all_reversed (a ∷ h) all =
          subst (All (λ a. IsWithin top a.step)) (sym (reverse-append (a ∷ []) h))
          (All-append (λ a. IsWithin top a.step) (reverse h) (a ∷ []) (all_reversed h (All-tail (λ a. IsWithin top a.step) a h all))
          (All-cons (λ a. IsWithin top a.step) a [] (All-head (λ a. IsWithin top a.step) a h all) (All-nil (λ a. IsWithin top a.step))))

  booted_ends : (width count : ℕ) → count ≤ top → EndsAt top (boot_state width count)
  booted_ends width count fits zero over = absurd (omega (arith, over))
  booted_ends width count fits (suc n) over =
      let past : count ≤ n = omega (arith, fits, over) in
      rw (le-ltb n count past) refl

  -- nothing over the top of a session runs in its view
  pub none_runs : (k : SessionState) → HasTop top k → (n : ℕ) → top < n → is_running ((present (view (start_of k) (history_of (made_of k)))).procs n) ≡ false
  unfolding view
  none_runs k has n over =
      let all : All (λ e. IsWithin top e.step) (made_of k) = All-take (λ e. IsWithin top e.step) (position_of k) k.entries has.made in
      ap is_running (history_ends (start_of k) (history_of (made_of k)) (booted_ends k.width k.count has.booted) (all_of_history (made_of k) all) nobody n over)
