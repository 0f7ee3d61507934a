-- Every event leaves a state well formed, and the state at the start is.
use Rattle.std.proofs.Common.{◌≡◌, ◌≢◌, ℕ, zero, suc, ◌+◌, ◌<◌, ◌≤◌, Bool, true, false, not, ◌&&◌, ◌||◌, List, [], ◌∷◌, ◌++◌, length, ℤ, pos, Option, Some, None, is_some, if◌then◌else◌, nat_lt, ◌==◌, slice_index_or, replicate, refl, sym, ap, ◌∙◌, subst, inl, inr, eq-eqb, eqb-true, arith, length-append}
use Rattle.std.proofs.lemmas.Bool.{both_ways, ltb-true, lt-ltb}
use Rattle.tx_base.specs.declared.names.Pid.{Pid}
use Rattle.tx_base.specs.declared.steps.Call.{Call}
use Rattle.tx_base.specs.declared.steps.Call.TheVariants as call
use Rattle.tx_base.specs.declared.steps.Step.{Step}
use Rattle.tx_base.specs.declared.steps.Step.TheVariants.{Call as Calls, Deliver, KernelAbort}
use Rattle.tx_base.specs.declared.steps.Refusal.TheVariants.{NoTransaction}
use Rattle.tx_model.specs.State.{Process, State, Sending, Object, Proc, Desc, Pipe, Held, SetProc, SetHeld, write_one, with_writes, names_at, is_number, is_between, booted_process, boot_state}
use Rattle.tx_model.specs.Posts.{has_room, may_signal, is_quiet, target_after, after_post, after_posts}
use Rattle.tx_model.specs.Effects.{Inside, Effect, Conclusion, Replies, AnswersPost, ListsFailed, with_answer_if, first_answer, after_conclusion, send_answers}
use Rattle.tx_model.specs.Forms.{Outcome, effect_of, caller}
use Rattle.tx_model.specs.Book.{page_of_call}
use Rattle.tx_model.specs.BookLaws.{where_runs}
use Rattle.tx_model.specs.Words.{call_effect, has_bad_number, note_effect, with_queued, with_pending}
use Rattle.tx_model.specs.Deliveries.{delivery_page}
use Rattle.tx_model.specs.Events.{Event, Do, Note, Commit, step_effect, effect, after}
use Rattle.tx_model.specs.Answer.{is_running}
use Rattle.tx_model.specs.SignalSets.{is_realtime}
use Rattle.tx_model.specs.StateLaws.{put_cases, state_ext, EqualAt}
use Rattle.tx_laws.specs.WellFormed.{HasSizes, IsPlaced, HasGoodNumbers}
use Rattle.tx_laws.proofs.KeepsFormParts.{IsArranged, StaysPlaced, form_edit}
use Rattle.tx_laws.proofs.KeepsFormReleased.{written_append}
use Rattle.tx_laws.proofs.KeepsFormNames.{KeepsForm, idle_form, noted_form, dup_form, dup2_form, close_form, own_form}
use Rattle.tx_laws.proofs.KeepsFormTransfers.{set_nonblock_form, read_form, write_form}
use Rattle.tx_laws.proofs.KeepsFormPipe.{AreGood, pipe_form}
use Rattle.tx_laws.proofs.KeepsFormProcesses.{fork_form, waitpid_form}
use Rattle.tx_laws.proofs.KeepsFormEnding.{held_form, exit_form}
use Rattle.tx_laws.proofs.KeepsFormDeliveries.{delivery_form, sigqueue_form}
use Rattle.tx_laws.proofs.OwnPages.{StaysOwn, own_page, own_of}

-- what is put in where it is changes nothing
same_written : (S : State) (t : ℕ) (x : Option Process) → S.procs t ≡ x → S ≡ write_one (SetProc t x) S
same_written S t x e = state_ext S (write_one (SetProc t x) S) refl parts
  where
    parts : (o : Object) → EqualAt S (write_one (SetProc t x) S) o
    parts (Proc n) = elim (put_cases S.procs t x n) [ inl z ↦ ap S.procs z.0 ∙ e ∙ sym z.1 | inr z ↦ sym z.1 ]
    parts (Desc n) = refl
    parts (Pipe n) = refl
    parts (Held n) = refl

same_form : (S : State) (t : ℕ) (x : Option Process) → S.procs t ≡ x → IsArranged S → IsArranged (write_one (SetProc t x) S)
same_form S t x e w = subst (λ (T : State). IsArranged T) (same_written S t x e) w

-- a note
noted_if_form : (S : State) (p : ℕ) (r : ℤ) (x : Option Process) → S.procs p ≡ x → IsArranged S → IsArranged (write_one (SetProc p (with_answer_if r x)) S)
noted_if_form S p r None e w = same_form S p None e w
noted_if_form S p r (Some q) e w = noted_form S p q e w r

-- a post
loud_target : (a b c : Bool) → (a || (b || c)) ≡ false → b ≡ false
loud_target true b c h = cc
loud_target false true c h = cc
loud_target false false c h = refl

module _ (S : State) (m : Sending) (q : Process) (e : S.procs m.target ≡ Some q) (w : IsArranged S) where
  queued_form : m.target ≢ 1 → length q.queued < 16 → IsArranged (write_one (SetProc m.target (Some (with_queued m q))) S)
  queued_form ne room = form_edit S m.target q (with_queued m q) e stays refl w
    where
      stays : StaysPlaced m.target q (with_queued m q)
      stays = record {
        parent = refl;
        status = refl;
        pending = λ z h. h;
        queued = λ z h. absurd (ne z);
        sizes = λ h.
            let more : length (q.queued ++ record { signo = m.signo; value = m.value } ∷ []) ≡ length q.queued + 1 =
            length-append q.queued (record { signo = m.signo; value = m.value } ∷ []) in
            record {
              slots = h.slots;
              pages = h.pages;
              descriptors = h.descriptors;
              actions = h.actions;
              frames = h.frames;
              saved = h.saved;
              queued = omega arith;
            };
      }

  pending_form : m.target ≢ 1 → IsArranged (write_one (SetProc m.target (Some (with_pending m.signo q))) S)
  pending_form ne = form_edit S m.target q (with_pending m.signo q) e stays refl w
    where
      stays : StaysPlaced m.target q (with_pending m.signo q)
      stays = record {
        parent = refl;
        status = refl;
        pending = λ z h. absurd (ne z);
        queued = λ z h. h;
        sizes = λ h. record {
          slots = h.slots;
          pages = h.pages;
          descriptors = h.descriptors;
          actions = h.actions;
          frames = h.frames;
          saved = h.saved;
          queued = h.queued;
        };
      }

  received_form : IsArranged (write_one (SetProc m.target (target_after m (Some q))) S)
  received_form = by (may_signal m.from q.ids) (is_quiet m q) refl (is_realtime m.signo) (has_room q) refl
    where
      same : IsArranged (write_one (SetProc m.target (Some q)) S)
      same = same_form S m.target (Some q) e w

      other : is_quiet m q ≡ false → m.target ≢ 1
      other h z = both_ways (m.target == 1) (loud_target (m.signo == 0) (m.target == 1) (is_some q.status) h) (eq-eqb m.target 1 z)

      by : (a b : Bool) → is_quiet m q ≡ b → (c d : Bool) → has_room q ≡ d
          → IsArranged (write_one (SetProc m.target (Some (if a then (if b then q else (if c then (if d then with_queued m q else q) else with_pending m.signo q)) else q))) S)
      by false b h c d k = same
      by true true h c d k = same
      by true false h true true k = queued_form (other h) (ltb-true (length q.queued) 16 k)
      by true false h true false k = same
      by true false h false d k = pending_form (other h)

pub post_form : (m : Sending) (S : State) (x : Option Process) → S.procs m.target ≡ x → IsArranged S → IsArranged (write_one (SetProc m.target (target_after m x)) S)
post_form m S None e w = same_form S m.target None e w
post_form m S (Some q) e w = received_form S m q e w

posts_form : (ms : List Sending) (S : State) → IsArranged S → IsArranged (after_posts ms S)
unfolding after_posts
posts_form [] S w = w
posts_form (m ∷ ms) S w = posts_form ms (after_post m S) (post_form m S (S.procs m.target) refl w)

concluded_form : (c : Conclusion) (rs : List ℤ) (S : State) → IsArranged S → IsArranged (after_conclusion c rs S)
concluded_form (Replies r) rs S w = w
concluded_form (AnswersPost p) rs S w = noted_if_form S p (first_answer rs) (S.procs p) refl w
concluded_form ListsFailed rs S w = w

-- the numbers of a call are in range
in_range : (b : Bool) → not b ≡ false → b ≡ true
in_range true h = refl
in_range false h = cc

all_in_range : (a b c d : Bool) → (not (a && b && c) || d) ≡ false → (a ≡ true) × (b ≡ true) × (c ≡ true) × (d ≡ false)
all_in_range true true true true h = cc
all_in_range true true true false h = (refl, refl, refl, refl)
all_in_range true true false d h = cc
all_in_range true false true d h = cc
all_in_range true false false d h = cc
all_in_range false true true d h = cc
all_in_range false true false d h = cc
all_in_range false false true d h = cc
all_in_range false false false d h = cc

good_numbers : (q r w : ℕ) → (not (nat_lt q 32 && nat_lt r 64 && nat_lt w 64) || r == w) ≡ false → AreGood q r w
good_numbers q r w h =
    let k = all_in_range (nat_lt q 32) (nat_lt r 64) (nat_lt w 64) (r == w) h in
    record { pipe = ltb-true q 32 k.0; reads = ltb-true r 64 k.1; writes = ltb-true w 64 k.2; other = λ z. both_ways (r == w) k.3 (eq-eqb r w z) }

-- calls and deliveries of a running process
module _ (S : State) (inside : Option Inside) (p : Pid) (me : Process) (e : S.procs p.0 ≡ Some me) (runs : me.status ≡ None) (w : IsArranged S) where
  -- a call that concerns its process alone
  alone_form : (outcome : Outcome) → StaysOwn me outcome → KeepsForm S (effect_of p.0 me outcome)
  alone_form outcome h = let own = own_of p.0 me outcome h in subst (KeepsForm S) (sym own.1) (own_form S p.0 me e w own.0 own.2.place own.2.sizes)

  call_form : (c : Call) → has_bad_number S.width (Calls p c) ≡ false → KeepsForm S (call_effect inside p.0 c me S)
  call_form (call.Fork child) h = fork_form S p.0 me inside e runs w child.0 (in_range (is_between S.width child.0) h)
  call_form (call.Exit status) h = exit_form S p.0 me inside e runs w status
  call_form (call.Waitpid t nohang) h = waitpid_form S p.0 me inside e runs w t nohang
  call_form (call.Pipe q r v) h = pipe_form S p.0 q.0 r.0 v.0 me inside e runs w (good_numbers q.0 r.0 v.0 h)
  call_form (call.Dup f) h = dup_form S p.0 me inside e runs w f
  call_form (call.Dup2 f g) h = dup2_form S p.0 me inside e runs w f g
  call_form (call.Close f) h = close_form S p.0 me inside e runs w f
  call_form (call.SetNonblock f on) h = set_nonblock_form S p.0 me inside e w f on
  call_form (call.Read f address n) h = read_form S p.0 me inside e w f address n
  call_form (call.Write f address n) h = write_form S p.0 me inside e w f address n
  call_form (call.Kill t signo) h = sigqueue_form S p.0 me e runs w inside t signo (pos 0)
  call_form (call.Sigqueue t signo value) h = sigqueue_form S p.0 me e runs w inside t signo value
  call_form c h = alone_form ((page_of_call c).outcome (caller inside p.0 me S)) (own_page (caller inside p.0 me S) c refl)

-- a step
module _ (S : State) (inside : Option Inside) (w : IsArranged S) where
  step_form : (step : Step) → has_bad_number S.width step ≡ false → KeepsForm S (step_effect step inside S)
  step_form (Calls p c) h = where_runs inside p.0 (page_of_call c) S (KeepsForm S) (λ why. idle_form S why w) (λ me here runs. call_form S inside p me here runs w c h)
  step_form (Deliver p signo) h = where_runs inside p.0 (delivery_page signo.0) S (KeepsForm S) (λ why. idle_form S why w) (λ me here runs. delivery_form S p.0 me here runs w inside signo.0)
  step_form (KernelAbort s) h = idle_form S NoTransaction w

note_form : (S : State) (p : ℕ) (r : ℤ) → IsArranged S → KeepsForm S (note_effect p r (S.procs p))
unfolding with_writes
note_form S p r w = noted_if_form S p r (S.procs p) refl w

-- the writes of an event
event_form : (ev : Event) (S : State) → IsArranged S → HasGoodNumbers S.width ev → KeepsForm S (effect ev S)
unfolding effect with_writes
event_form (Do step inside) S w h = step_form S inside w step h
event_form (Note p r) S w h = note_form S p r w
event_form (Commit s ev) S w h =
    subst (λ (T : State). IsArranged T) (sym (written_append (effect ev S).writes (SetHeld s [] ∷ []) S))
    (held_form (with_writes (effect ev S).writes S) s [] (event_form ev S w h))

-- every event leaves a state well formed
pub after_form : (ev : Event) (S : State) → IsArranged S → HasGoodNumbers S.width ev → IsArranged (after ev S)
unfolding after
after_form ev S w h =
    let f : Effect = effect ev S in
    concluded_form f.conclusion (send_answers f S) (after_posts f.sends (with_writes f.writes S)) (posts_form f.sends (with_writes f.writes S) (event_form ev S w h))

-- no descriptor is open at the start
abbrev no_descriptors : ℕ → List (Option ℕ)
no_descriptors n = replicate n None

none_open : (n f : ℕ) → slice_index_or (no_descriptors n) f None ≡ None
none_open zero f = refl
none_open (suc n) zero = refl
none_open (suc n) (suc f) = none_open n f

abbrev parent_at : Bool → ℕ
parent_at b = if b then 0 else 1

module _ (width count : ℕ) (some : 1 ≤ count) (within : count ≤ width) where
  first_there : is_between count 1 ≡ true
  first_there = let less : 0 < count = omega arith in lt-ltb 0 count less

  at_first : (boot_state width count).procs 1 ≡ Some (booted_process 1)
  at_first = rw first_there refl

  in_width : (n : ℕ) → is_between count n ≡ true → is_between width n ≡ true
  in_width zero h = cc
  in_width (suc n) h = let less : n < count = ltb-true n count h in let more : n < width = omega arith in lt-ltb n width more

  other_parent : (n : ℕ) → parent_at (n == 1) ≢ n
  other_parent n = by (n == 1) refl
    where
      by : (b : Bool) → (n == 1) ≡ b → parent_at b ≢ n
      by true e = λ z. let one : n ≡ 1 = eqb-true n 1 e in let no : 0 ≡ n = z in omega arith
      by false e = λ z. both_ways (n == 1) e (eq-eqb n 1 (sym z))

  first_parent : (n : ℕ) → n ≢ 1 → parent_at (n == 1) ≡ 1
  first_parent n ne = by (n == 1) refl
    where
      by : (b : Bool) → (n == 1) ≡ b → parent_at b ≡ 1
      by true e = absurd (ne (eqb-true n 1 e))
      by false e = refl

  booted_sizes : (n : ℕ) → HasSizes (booted_process n)
  booted_sizes n = record { slots = refl; pages = refl; descriptors = refl; actions = refl; frames = omega arith; saved = tt; queued = omega arith }

  booted_here : (n : ℕ) → is_between count n ≡ true → IsPlaced (boot_state width count) n (booted_process n)
  booted_here n h = record {
    number = in_width n h;
    parent = λ ne. ap (λ (m : ℕ). is_running ((boot_state width count).procs m)) (first_parent n ne) ∙ ap is_running at_first;
    other = other_parent n;
    sizes = booted_sizes n;
  }

  booted_placed : (n : ℕ) (q : Process) → (boot_state width count).procs n ≡ Some q → IsPlaced (boot_state width count) n q
  booted_placed n q h = by (is_between count n) refl h
    where
      by : (b : Bool) → is_between count n ≡ b → (if b then Some (booted_process n) else None) ≡ Some q → IsPlaced (boot_state width count) n q
      by true e k = let same : booted_process n ≡ q = cc in subst (λ (r : Process). IsPlaced (boot_state width count) n r) same (booted_here n e)
      by false e k = cc

  none_named : (n f d : ℕ) → names_at d f ((boot_state width count).procs n) ≡ false
  none_named n f d = by (is_between count n)
    where
      by : (b : Bool) → names_at d f (if b then Some (booted_process n) else None) ≡ false
      by true = ap (is_number d) (none_open 16 f)
      by false = refl

  -- the state at the start
  pub booted_form : IsArranged (boot_state width count)
  booted_form = record {
    first = (booted_process 1, at_first, record { runs = refl; parent = refl; pending = refl; queued = refl });
    placed = booted_placed;
    names = λ n f d h. absurd (both_ways (names_at d f ((boot_state width count).procs n)) (none_named n f d) h);
    named = λ d x h. cc;
    pipes = λ k bytes h. cc;
  }
