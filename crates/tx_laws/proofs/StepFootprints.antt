-- The footprint of a step has what its event names, and the targets of its posts.
use Rattle.std.proofs.Common.{◌≡◌, ℕ, Bool, true, false, List, [], ◌∷◌, ◌++◌, ℤ, pos, negsuc, Option, Some, None, if◌then◌else◌, ◌==◌, refl, sym, ap, ap₂, ◌∙◌, subst, inl, inr, eq-eqb, append_assoc, append-nil, nat_lt, is_some}
use Rattle.tx_base.specs.declared.steps.Call.TheVariants as call
use Rattle.tx_base.specs.declared.limits.TheConstants.{HELD_SENDS}
use Rattle.tx_model.specs.Forms.{posts, fails, does, effect_of, ◌when◌, caller}
use Rattle.tx_model.specs.Book.{exit, sigqueue, member_sends, sending_from, sendable, closed_inside, page_of_call}
use Rattle.tx_model.specs.State.{State, Sending, Object, Proc, Desc, Pipe, Held, SetProc, with_writes, has_object, same_object, write_one, SetDesc, SetPipe, Process, Write}
use Rattle.tx_model.specs.Effects.{Inside, idle, concluding_reply, Conclusion, Effect, Replies, AnswersPost, ListsFailed, send_answers}
use Rattle.tx_model.specs.Words.{notice_by, exit_objects, member_end_role, kind_of, delivery_effect, delivery_objects, call_effect, call_objects, parent_notice_by, kind_role}
use Rattle.tx_model.specs.Descriptors.{removals, is_named, has_description, pipes_of, description_removals, pipe_removals, open_in, desc_pipe_objects}
use Rattle.tx_model.specs.Processes.{holder_of, orphan_writes, NotTold, parent_notice, notice_now, held_objects, with_parent, ended_process, children_of, child_notice, notice_held, ending, ending_objects, exit_status, pid_of, procs_of}
use Rattle.tx_model.specs.Events.{Event, Commit, effect, objects, actor, process_of, reply_of, Do, Note}
use Rattle.tx_model.specs.Membership.{Table, inside_by, says_ended, event_in, Ordinary, Leaving, others_open, is_member_of, Aborting, Beginning, Forking, Kind, kind_event}
use Rattle.tx_model.specs.History.{is_other_starter, targets, event_footprint}
use Rattle.tx_model.specs.Footprints.{is_for_later, target_row, send_row, ending_row, call_row, footprint, told_for_later, commit_row, commit_row_of, call_row_at, delivery_row_at, delivery_row}
use Rattle.tx_model.specs.Numbers.{error_answer}
use Rattle.tx_model.specs.Deliveries.{without_delivered, killed_status, ends_by, at_catch_point, delivered_value, delivery_page}
use Rattle.tx_model.specs.View.{present, first_reply}
use Rattle.tx_model.specs.BookLaws.{through_when, through_unless, names_as, runs_as, delivery_lines}
use Rattle.tx_laws.proofs.OfActs.{call_mild, runs_some}
use Rattle.tx_laws.specs.Fits.{IsIn}
use Rattle.tx_laws.specs.Footprints.{is_shared, is_abort, FootprintIsOfEvent}
use Rattle.tx_laws.proofs.KeepsFormReleased.{written_append}
use Rattle.tx_laws.proofs.Mild.{GoesOn, IsMild, goes_unended, idle_mild, own_mild, done_mild, with_mild}
use Rattle.tx_base.specs.declared.errors.Errno.TheVariants.{InvalidArgument, TryAgain, NoSuchProcess, NotPermitted}
use Rattle.tx_base.specs.declared.steps.Call.{Call}
use Rattle.tx_base.specs.declared.steps.Step.{Step}
use Rattle.tx_base.specs.declared.steps.Reply.TheVariants.{Done}
use Rattle.tx_base.specs.declared.marks.Mark.{Mark}
use Rattle.tx_base.specs.declared.steps.Reply.{Reply}
use Rattle.tx_base.specs.declared.steps.Step.TheVariants.{Call as Calls, Deliver, KernelAbort}
use Rattle.tx_base.specs.declared.names.Pid.{Pid}
use Rattle.tx_base.specs.declared.names.Signo.{Signo}

-- what a list made of two has
has_both : (o : Object) (xs ys : List Object) → has_object o (xs ++ ys) ≡ (if has_object o xs then true else has_object o ys)
unfolding has_object
has_both o [] ys = refl
has_both o (x ∷ xs) ys = by (same_object o x) (has_both o xs ys)
  where
    by : (b : Bool) → has_object o (xs ++ ys) ≡ (if has_object o xs then true else has_object o ys) → (if b then true else has_object o (xs ++ ys)) ≡ (if (if b then true else has_object o xs) then true else has_object o ys)
    by true h = refl
    by false h = h

or_none : (b : Bool) → (if b then true else false) ≡ b
or_none true = refl
or_none false = refl

or_same : (a b : Bool) → (b ≡ true → a ≡ true) → (if a then true else b) ≡ a
or_same true b h = refl
or_same false true h = sym (h refl)
or_same false false h = refl

targets_append : (t : Table) (p : ℕ) (xs ys : List Sending) → targets t p (xs ++ ys) ≡ targets t p xs ++ targets t p ys
unfolding targets
targets_append t p [] ys = refl
targets_append t p (m ∷ xs) ys = by (is_other_starter t p m.target) (targets_append t p xs ys)
  where
    by : (b : Bool) → targets t p (xs ++ ys) ≡ targets t p xs ++ targets t p ys → (if b then targets t p (xs ++ ys) else Proc m.target ∷ targets t p (xs ++ ys)) ≡ (if b then targets t p xs else Proc m.target ∷ targets t p xs) ++ targets t p ys
    by true e = e
    by false e = ap (λ (os : List Object). Proc m.target ∷ os) e

-- posts to the process itself name nothing more
self_targets : (t : Table) (p : ℕ) (ms : List Sending) → ((m : Sending) → IsIn m ms → m.target ≡ p) → (o : Object) → has_object o (targets t p ms) ≡ true → same_object o (Proc p) ≡ true
unfolding targets has_object
self_targets t p [] h o k = cc
self_targets t p (m ∷ ms) h o k = by (is_other_starter t p m.target) (self_targets t p ms (λ n i. h n (inr i)) o) k
  where
    head : (b : Bool) → same_object o (Proc m.target) ≡ b → (has_object o (targets t p ms) ≡ true → same_object o (Proc p) ≡ true) → (if b then true else has_object o (targets t p ms)) ≡ true
        → same_object o (Proc p) ≡ true
    head true e rest l = subst (λ (n : ℕ). same_object o (Proc n) ≡ true) (h m (inl refl)) e
    head false e rest l = rest l

    by : (b : Bool) → (has_object o (targets t p ms) ≡ true → same_object o (Proc p) ≡ true) → has_object o (if b then targets t p ms else Proc m.target ∷ targets t p ms) ≡ true
        → same_object o (Proc p) ≡ true
    by true rest l = rest l
    by false rest l = head (same_object o (Proc m.target)) refl rest l

-- nothing of what is held is shared
held_unshared : (o : Object) (u : ℕ) → is_shared o ≡ true → same_object o (Held u) ≡ false
held_unshared (Proc n) u h = refl
held_unshared (Desc n) u h = refl
held_unshared (Pipe n) u h = refl
held_unshared (Held n) u h = cc

held_lacks : (o : Object) (inside : Option Inside) → is_shared o ≡ true → has_object o (held_objects inside) ≡ false
unfolding has_object
held_lacks o None h = refl
held_lacks o (Some i) h = rw (held_unshared o i.starter h) refl

-- an event of the process whose sends go to itself
module _ (t : Table) (p : ℕ) (o : Object) where
  mild_has : (os : List Object) (ms : List Sending) → ((m : Sending) → IsIn m ms → m.target ≡ p) → has_object o ((Proc p ∷ os) ++ targets t p ms) ≡ has_object o (Proc p ∷ os)
  unfolding has_object
  mild_has os ms h =
      has_both o (Proc p ∷ os) (targets t p ms)
      ∙ or_same (has_object o (Proc p ∷ os)) (has_object o (targets t p ms)) (λ k. by (same_object o (Proc p)) (self_targets t p ms h o k))
    where
      by : (b : Bool) → b ≡ true → (if b then true else has_object o os) ≡ true
      by true e = refl
      by false e = cc

-- what is handed out when a process ends, before the descriptions that it named go
orphaned_held : (qs : List ℕ) (S R : State) → (with_writes (orphan_writes qs S) R).held ≡ R.held
unfolding with_writes orphan_writes
orphaned_held [] S R = refl
orphaned_held (q ∷ qs) S R = orphaned_held qs S (write_one (SetProc q (with_parent 1 (S.procs q))) R)

unnamed_held : (ds : List ℕ) (S R : State) → (with_writes (description_removals ds S) R).held ≡ R.held
unfolding with_writes description_removals
unnamed_held [] S R = refl
unnamed_held (d ∷ ds) S R = by (is_named d S) (unnamed_held ds S R) (unnamed_held ds S (write_one (SetDesc d None) R))
  where
    by : (b : Bool) → (with_writes (description_removals ds S) R).held ≡ R.held → (with_writes (description_removals ds S) (write_one (SetDesc d None) R)).held ≡ R.held
        → (with_writes (if b then description_removals ds S else SetDesc d None ∷ description_removals ds S) R).held ≡ R.held
    by true h k = h
    by false h k = k

endless_held : (ks : List ℕ) (S R : State) → (with_writes (pipe_removals ks S) R).held ≡ R.held
unfolding with_writes pipe_removals
endless_held [] S R = refl
endless_held (q ∷ ks) S R = by (has_description q S) (endless_held ks S R) (endless_held ks S (write_one (SetPipe q None) R))
  where
    by : (b : Bool) → (with_writes (pipe_removals ks S) R).held ≡ R.held → (with_writes (pipe_removals ks S) (write_one (SetPipe q None) R)).held ≡ R.held
        → (with_writes (if b then pipe_removals ks S else SetPipe q None ∷ pipe_removals ks S) R).held ≡ R.held
    by true h k = h
    by false h k = k

released_held : (ds : List ℕ) (S R : State) → (with_writes (removals ds S) R).held ≡ R.held
released_held ds S R =
    ap (λ (Q : State). Q.held) (written_append (description_removals ds S) (pipe_removals (pipes_of ds S) (with_writes (description_removals ds S) S)) R)
    ∙ endless_held (pipes_of ds S) (with_writes (description_removals ds S) S) (with_writes (description_removals ds S) R)
    ∙ unnamed_held ds S R

module _ (t : Table) (o : Object) (shared : is_shared o ≡ true) (S : State) where
  three : (x : Object) (xs ys zs : List Object) → same_object o x ≡ false → has_object o ((x ∷ xs) ++ (ys ++ zs)) ≡ (if has_object o (xs ++ ys) then true else has_object o zs)
  unfolding has_object
  three x xs ys zs h =
      rw h (ap (λ (os : List Object). has_object o os) (sym (append_assoc xs ys zs)) ∙ has_both o (xs ++ ys) zs)

  -- an event that commits names what it names by itself, and the targets of what was held
  commit_foot : (ev : Event) (s : ℕ) (more : List Sending) → (with_writes (effect ev S).writes S).held s ≡ S.held s ++ more
      → has_object o (event_footprint t (Commit s ev) S) ≡ (if has_object o (event_footprint t ev S) then true else has_object o (targets t (actor ev) (S.held s ++ more)))
  unfolding event_footprint objects effect
  commit_foot ev s more h =
      ap (λ (ms : List Sending). has_object o ((Held s ∷ objects ev S) ++ targets t (actor ev) ((effect ev S).sends ++ ms))) h
      ∙ ap (λ (os : List Object). has_object o ((Held s ∷ objects ev S) ++ os)) (targets_append t (actor ev) (effect ev S).sends (S.held s ++ more))
      ∙ three (Held s) (objects ev S) (targets t (actor ev) (effect ev S).sends) (targets t (actor ev) (S.held s ++ more)) (held_unshared o s shared)

-- the parent of a process that ends is named where it is told at once
parent_same : (t : Table) (p parent : ℕ) → (if parent == 1 then [] else target_row t p parent) ≡ targets t p (notice_now (parent_notice (inside_by t (t.marks p)) parent) parent)
unfolding targets
parent_same t p parent = by (parent == 1) (inside_by t (t.marks p))
  where
    by : (b : Bool) (inside : Option Inside) → (if b then [] else (if is_for_later inside parent then [] else (if is_other_starter t p parent then [] else Proc parent ∷ [])))
        ≡ targets t p (notice_now (if b then NotTold else parent_notice_by inside parent) parent)
    by true inside = refl
    by false None = refl
    by false (Some i) = member (i.members parent)
      where
        member : (d : Bool) → (if is_some (if d then None else Some i) then [] else (if is_other_starter t p parent then [] else Proc parent ∷ []))
            ≡ targets t p (notice_now (notice_by (if d then None else Some i)) parent)
        member true = refl
        member false = refl

-- the end of process p, which is me, as it is now: with the same parent and the same descriptors
module _ (t : Table) (o : Object) (shared : is_shared o ≡ true) (S : State) (p status : ℕ) (me now : Process) (same_parent : now.parent ≡ me.parent) where
  -- what an ending names, its commit apart
  ending_plain : List Object
  ending_plain = desc_pipe_objects (open_in me.descriptors) S ++ procs_of (children_of p S) ++ (if me.parent == 1 then [] else target_row t p me.parent)

  regrouped : (x : Object) (ab held tail : List Object) → has_object o held ≡ false → has_object o (x ∷ (ab ++ tail)) ≡ has_object o ((x ∷ (ab ++ held)) ++ tail)
  unfolding has_object
  regrouped x ab held tail h =
      by (same_object o x) ∙ sym (has_both o (x ∷ (ab ++ held)) tail)
    where
      by : (b : Bool) → (if b then true else has_object o (ab ++ tail)) ≡ (if (if b then true else has_object o (ab ++ held)) then true else has_object o tail)
      by true = refl
      by false = has_both o ab tail ∙ ap (λ (c : Bool). if c then true else has_object o tail) (sym (has_both o ab held ∙ ap (λ (c : Bool). if has_object o ab then true else c) h ∙ or_none (has_object o ab)))

  plain_same : has_object o (Proc p ∷ ending_plain)
      ≡ has_object o ((Proc p ∷ ending_objects (caller (inside_by t (t.marks p)) p me S)) ++ targets t p (ending status (caller (inside_by t (t.marks p)) p now S)).sends)
  unfolding ending_plain
  plain_same =
      ap (λ (os : List Object). has_object o (Proc p ∷ (desc_pipe_objects (open_in me.descriptors) S ++ procs_of (children_of p S) ++ os)))
      (parent_same t p me.parent ∙ ap (λ (n : ℕ). targets t p (notice_now (parent_notice (inside_by t (t.marks p)) n) n)) (sym same_parent))
      ∙ regrouped (Proc p) (desc_pipe_objects (open_in me.descriptors) S ++ procs_of (children_of p S)) (held_objects (inside_by t (t.marks p)))
      (targets t p (notice_now (parent_notice (inside_by t (t.marks p)) now.parent) now.parent)) (held_lacks o (inside_by t (t.marks p)) shared)

  -- what is held after it: what it hands out is the last
  told_held : (i : Inside) (b : Bool) (R : State) → R.held ≡ S.held
      → (with_writes (notice_held (if b then NotTold else parent_notice_by (Some i) now.parent) now.parent S) R).held i.starter ≡ S.held i.starter
      ++ (if b then [] else (if is_for_later (Some i) now.parent then child_notice now.parent ∷ [] else []))
  unfolding with_writes
  told_held i true R h = ap (λ (f : ℕ → List Sending). f i.starter) h ∙ sym (append-nil (S.held i.starter))
  told_held i false R h = by (i.members now.parent)
    where
      by : (d : Bool) → (with_writes (notice_held (notice_by (if d then None else Some i)) now.parent S) R).held i.starter
          ≡ S.held i.starter ++ (if is_some (if d then None else Some i) then child_notice now.parent ∷ [] else [])
      by true = ap (λ (f : ℕ → List Sending). f i.starter) h ∙ sym (append-nil (S.held i.starter))
      by false = rw (eq-eqb i.starter i.starter refl) refl

  ending_held : (i : Inside) → (with_writes (ending status (caller (Some i) p now S)).writes S).held i.starter
      ≡ S.held i.starter ++ (if now.parent == 1 then [] else (if is_for_later (Some i) now.parent then child_notice now.parent ∷ [] else []))
  unfolding with_writes
  ending_held i =
      let xs : List Write = orphan_writes (children_of p S) S in
      let gone : State = write_one (SetProc p (Some (ended_process status now))) S in
      let ys : List Write = removals (open_in now.descriptors) gone in
      let zs : List Write = notice_held (parent_notice (Some i) now.parent) now.parent S in
      ap (λ (R : State). R.held i.starter) (written_append (xs ++ ys) zs gone ∙ ap (with_writes zs) (written_append xs ys gone))
      ∙ told_held i (now.parent == 1) (with_writes ys (with_writes xs gone))
      (released_held (open_in now.descriptors) gone (with_writes xs gone) ∙ orphaned_held (children_of p S) S gone)

goes_says : (c : Conclusion) (ms : List Sending) (rs : List ℤ) → GoesOn c → says_ended (concluding_reply c ms rs) ≡ false
goes_says (Replies r) ms rs h = goes_unended r h
goes_says (AnswersPost p) ms rs h = refl
goes_says ListsFailed ms rs h = absurd h

-- an act of process p, which is me and runs, in the transaction that the table says
module _ (t : Table) (o : Object) (shared : is_shared o ≡ true) (S : State) (p : ℕ) (me : Process) where
  inside : Option Inside
  inside = inside_by t (t.marks p)

  -- an effect that ends nothing, and a row that has what it names
  record IsPlain (f : Effect) (os row : List Object) : Type 0 where
    goes_on : GoesOn f.conclusion
    same : has_object o (Proc p ∷ row) ≡ has_object o ((Proc p ∷ os) ++ targets t p f.sends)

  mild_plain : (f : Effect) (os row : List Object) → IsMild p f → row ≡ os → IsPlain f os row
  mild_plain f os row m h = record { goes_on = m.goes_on; same = ap (λ (xs : List Object). has_object o (Proc p ∷ xs)) h ∙ sym (mild_has t p o os f.sends m.sends) }

  held_mild : (f : Effect) → IsMild p f → IsPlain f (held_objects inside) []
  unfolding has_object
  held_mild f m = record {
    goes_on = m.goes_on;
    same = sym (mild_has t p o (held_objects inside) f.sends m.sends ∙ ap (λ (b : Bool). if same_object o (Proc p) then true else b) (held_lacks o inside shared));
  }

  -- a send that is posted, and its row
  abbrev post_row : ℕ → List Object
  post_row target = if is_other_starter t p target then [] else Proc target ∷ []

  posts_plain : (m : Sending) → IsPlain (effect_of p me (posts m)) (held_objects inside) (post_row m.target)
  unfolding has_object targets
  posts_plain m = record {
    goes_on = tt;
    same =
        (by (same_object o (Proc p)) (is_other_starter t p m.target) ∙ ap (λ (b : Bool). if (if same_object o (Proc p) then true else b) then true else has_object o (targets t p (m ∷ []))) (sym (held_lacks o inside shared)))
        ∙ sym (has_both o (Proc p ∷ held_objects inside) (targets t p (m ∷ [])));
  }
    where
      by : (b c : Bool) → (if b then true else has_object o (if c then [] else Proc m.target ∷ [])) ≡ (if (if b then true else false) then true else has_object o (if c then [] else Proc m.target ∷ []))
      by true c = refl
      by false c = refl

  send_plain : (n s value : ℤ) → IsPlain (effect_of p me (sigqueue n s value (caller inside p me S))) (held_objects inside) (send_row t p (pid_of S.width n) (sendable s))
  unfolding inside
  send_plain n s value = by (sendable s) (pid_of S.width n) refl refl
    where
      out : (signo target : ℕ) → sendable s ≡ Some signo → pid_of S.width n ≡ Some target → (x : Option Inside) → holder_of target inside ≡ x
          → IsPlain (effect_of p me (sigqueue n s value (caller inside p me S))) (held_objects inside) (if is_some x then [] else post_row target)
      out signo target e k None z = rw (e, k, z) (posts_plain (sending_from me target signo value))
      out signo target e k (Some i) z = rw (e, k, z) (held_mild _
          (through_when (λ r. IsMild p (effect_of p me r)) (signo == 0) _ _ (λ y. done_mild p closed_inside me)
          λ y. through_unless (λ r. IsMild p (effect_of p me r)) (nat_lt (member_sends (S.held i.starter)) HELD_SENDS) _ _ (λ x. done_mild p (error_answer TryAgain) me)
          λ x. with_mild p _ (pos 0) me))

      by : (signo target : Option ℕ) → sendable s ≡ signo → pid_of S.width n ≡ target
          → IsPlain (effect_of p me (sigqueue n s value (caller inside p me S))) (held_objects inside) (send_row t p target signo)
      by None None e k = rw e (held_mild _ (done_mild p (error_answer InvalidArgument) me))
      by None (Some target) e k = rw e (held_mild _ (done_mild p (error_answer InvalidArgument) me))
      by (Some signo) None e k = rw (e, k) (held_mild _ (done_mild p (error_answer NoSuchProcess) me))
      by (Some signo) (Some target) e k = out signo target e k (holder_of target inside) refl

  -- what is so of a call, by what it may come to: it is plain, or it ends its process
  data Comes (f : Effect) (os row : List Object) : Type 0 where
    Plainly : IsPlain f os row → Comes f os row
    Ends : (status : ℕ) (now : Process) → now.parent ≡ me.parent → f ≡ ending status (caller inside p now S) → os ≡ ending_objects (caller inside p me S) → row ≡ ending_row t p me S → Comes f os row

  exit_comes : (v : ℤ) → Comes (effect_of p me (exit v (caller inside p me S))) (exit_objects (caller inside p me S)) (if p == 1 then [] else ending_row t p me S)
  exit_comes v = by (p == 1)
    where
      by : (b : Bool) → Comes (effect_of p me ((fails NotPermitted when b) (does (ending (exit_status v) (caller inside p me S))))) (if b then [] else ending_objects (caller inside p me S))
          (if b then [] else ending_row t p me S)
      by true = Plainly (mild_plain _ [] [] (done_mild p (error_answer NotPermitted) me) refl)
      by false = Ends (exit_status v) me refl refl refl refl

  delivery_comes : (signo : ℕ) → Comes (delivery_effect inside p signo me S) (delivery_objects inside p signo me S) (delivery_row t p signo me S)
  unfolding inside
  delivery_comes signo =
      delivery_lines (λ o. Named (ends_by inside signo me (delivered_value signo me)) (effect_of p me o)) (caller inside p me S) signo
      (λ why e. plainly (idle why) (ends_by inside signo me (delivered_value signo me)) e (idle_mild p why))
      (λ value d e. plainly _ (ends_by inside signo me (delivered_value signo me)) e (own_mild p (record { process = without_delivered signo me; reply = Done me.registers.ret }) refl))
      (λ value d e. subst (λ (b : Bool). Named b (ending (killed_status signo) (caller inside p (without_delivered signo me) S))) (sym e) (Ends (killed_status signo) (without_delivered signo me) refl refl refl refl))
      λ value point mask d e k room. plainly _ (ends_by inside signo me (delivered_value signo me)) e (own_mild p (record { process = at_catch_point signo value point mask (without_delivered signo me); reply = Done value }) refl)
    where
      Named : Bool → Effect → Type 0
      Named ends f = Comes f (if ends then ending_objects (caller inside p me S) else []) (if ends then ending_row t p me S else [])

      plainly : (f : Effect) (b : Bool) → b ≡ false → IsMild p f → Named b f
      plainly f b e mild = subst (λ (c : Bool). Named c f) (sym e) (Plainly (mild_plain f [] [] mild refl))

  -- every call but the one that may commit
  call_comes : (c : Call) → (kind_of c ≡ Leaving → ⊥) → Comes (call_effect inside p c me S) (call_objects inside c p me S) (call_row t p c me S)
  call_comes (call.Exit status) h = exit_comes status
  call_comes (call.Kill n signo) h = Plainly (send_plain n signo (pos 0))
  call_comes (call.Sigqueue n signo value) h = Plainly (send_plain n signo value)
  call_comes call.SysXend h = absurd (h refl)
  call_comes c h = Plainly (mild_plain _ _ _ (call_mild inside p c me S tt) refl)

  -- a step that is made as an event of its own: what it does, and what it names
  module _ (step : Step) (f : Effect) (os row : List Object) (who : process_of step ≡ p) (E : effect (Do step inside) S ≡ f) (O : objects (Do step inside) S ≡ Proc p ∷ os)
      (R : footprint t step S ≡ Proc p ∷ row) where
    ev : Event
    ev = Do step inside

    event_is : event_footprint t ev S ≡ (Proc p ∷ os) ++ targets t p f.sends
    unfolding event_footprint ev
    event_is =
        ap₂ (λ (xs : List Object) (g : Effect). xs ++ targets t (process_of step) g.sends) O E
        ∙ ap (λ (n : ℕ). (Proc p ∷ os) ++ targets t n f.sends) who

    plain_foot : IsPlain f os row → has_object o (footprint t step S) ≡ has_object o (event_footprint t ev S)
    plain_foot k = ap (has_object o) R ∙ k.same ∙ ap (has_object o) (sym event_is)

    says_is : (b : Bool) → ((rs : List ℤ) → says_ended (concluding_reply f.conclusion f.sends rs) ≡ b) → says_ended (reply_of ev S) ≡ b
    unfolding reply_of ev
    says_is b h = ap (λ (g : Effect). says_ended (concluding_reply g.conclusion g.sends (send_answers g S))) E ∙ h (send_answers f S)

    plain_role : IsPlain f os row → (mark : Option Mark) → has_object o (footprint t step S) ≡ has_object o (event_footprint t (event_in (kind_role t p Ordinary (reply_of ev S) mark) ev) S)
    plain_role k None = plain_foot k
    plain_role k (Some m) = rw (says_is false (λ rs. goes_says f.conclusion f.sends rs k.goes_on)) (plain_foot k)

    -- where it ends its process, it commits if it is the last
    module _ (status : ℕ) (now : Process) (same_parent : now.parent ≡ me.parent) (ends : f ≡ ending status (caller inside p now S)) (named_is : os ≡ ending_objects (caller inside p me S)) (row_is : row ≡ ending_row t p me S) where
      plain : List Object
      plain = ending_plain t o shared S p status me now same_parent

      more : List Sending
      more = told_for_later t p me.parent

      row_both : has_object o (footprint t step S) ≡ (if has_object o (Proc p ∷ plain) then true else has_object o (commit_row t p more S))
      unfolding plain more ending_plain
      row_both = ap (has_object o) R ∙ ap (λ (xs : List Object). has_object o (Proc p ∷ xs)) row_is ∙ has_both o (Proc p ∷ ending_plain t o shared S p status me now same_parent) (commit_row t p more S)

      plain_is : has_object o (Proc p ∷ plain) ≡ has_object o (event_footprint t ev S)
      unfolding plain inside
      plain_is =
          plain_same t o shared S p status me now same_parent
          ∙ ap₂ (λ (xs : List Object) (g : Effect). has_object o ((Proc p ∷ xs) ++ targets t p g.sends)) (sym named_is) (sym ends)
          ∙ ap (has_object o) (sym event_is)

      ends_alone : commit_row t p more S ≡ [] → has_object o (footprint t step S) ≡ has_object o (event_footprint t ev S)
      unfolding has_object
      ends_alone none = row_both ∙ ap₂ (λ (b : Bool) (xs : List Object). if b then true else has_object o xs) plain_is none ∙ or_none (has_object o (event_footprint t ev S))

      says_end : says_ended (reply_of ev S) ≡ true
      says_end = says_is true (λ rs. ap (λ (g : Effect). says_ended (concluding_reply g.conclusion g.sends rs)) ends)

      -- what is held then
      held_is : (m : Mark) → t.marks p ≡ Some m → (with_writes (effect ev S).writes S).held m.starter.0 ≡ S.held m.starter.0 ++ more
      unfolding ev more inside
      held_is m e =
          let i : Inside = record { starter = m.starter.0; members = is_member_of t m.starter.0; defers = m.defers } in
          let in_is : inside_by t (t.marks p) ≡ Some i = ap (inside_by t) e in
          ap (λ (g : Effect). (with_writes g.writes S).held m.starter.0) (E ∙ ends ∙ ap (λ (x : Option Inside). ending status (caller x p now S)) in_is)
          ∙ ending_held t o shared S p status me now same_parent i
          ∙ ap₂ (λ (x : Option Inside) (n : ℕ). S.held m.starter.0 ++ (if n == 1 then [] else (if is_for_later x n then child_notice n ∷ [] else []))) (sym in_is) same_parent

      ends_role : (mark : Option Mark) → t.marks p ≡ mark → has_object o (footprint t step S) ≡ has_object o (event_footprint t (event_in (kind_role t p Ordinary (reply_of ev S) mark) ev) S)
      unfolding ev
      ends_role None e = ends_alone (ap (λ (x : Option Mark). commit_row_of t p x more S) e)
      ends_role (Some m) e = rw says_end (by (others_open t m.starter.0 p t.width) refl)
        where
          by : (b : Bool) → others_open t m.starter.0 p t.width ≡ b
              → has_object o (footprint t step S) ≡ has_object o (event_footprint t (event_in (member_end_role b m.starter.0) ev) S)
          by true h = ends_alone (ap (λ (x : Option Mark). commit_row_of t p x more S) e ∙ ap (λ (b : Bool). if b then [] else targets t p (S.held m.starter.0 ++ more)) h)
          by false h =
              row_both
              ∙ ap₂ (λ (b : Bool) (xs : List Object). if b then true else has_object o xs) plain_is
              (ap (λ (x : Option Mark). commit_row_of t p x more S) e ∙ ap (λ (b : Bool). if b then [] else targets t p (S.held m.starter.0 ++ more)) h
              ∙ ap (λ (n : ℕ). targets t n (S.held m.starter.0 ++ more)) (sym who))
              ∙ sym (commit_foot t o shared S ev m.starter.0 more (held_is m e))

    step_foot : Comes f os row → has_object o (footprint t step S) ≡ has_object o (event_footprint t (event_in (kind_role t p Ordinary (reply_of ev S) (t.marks p)) ev) S)
    step_foot (Plainly k) = plain_role k (t.marks p)
    step_foot (Ends status now a b c d) = ends_role status now a b c d (t.marks p) refl

  -- a note names its process
  module _ (step : Step) (R : footprint t step S ≡ Proc p ∷ []) where
    note_foot : (r : ℤ) → has_object o (footprint t step S) ≡ has_object o (event_footprint t (Note p r) S)
    unfolding event_footprint objects effect targets
    note_foot r = ap (has_object o) R

  again : (b c : Bool) → (if b then true else c) ≡ (if (if b then true else false) then true else c)
  again true c = refl
  again false c = refl

  note_held : (s : ℕ) (r : ℤ) → (with_writes (effect (Note p r) S).writes S).held s ≡ S.held s ++ []
  unfolding effect with_writes
  note_held s r = sym (append-nil (S.held s))

  -- a sys_xend: that of the last member commits
  leaving_foot : (step : Step) → footprint t step S ≡ Proc p ∷ commit_row t p [] S → (mark : Option Mark) → t.marks p ≡ mark → (r : Reply)
      → has_object o (footprint t step S) ≡ has_object o (event_footprint t (event_in (kind_role t p Leaving r mark) (kind_event t p step Leaving mark)) S)
  unfolding has_object event_footprint objects targets effect
  leaving_foot step row None e r = note_foot step (row ∙ ap (λ (x : Option Mark). Proc p ∷ commit_row_of t p x [] S) e) (negsuc 21)
  leaving_foot step row (Some m) e r = by (others_open t m.starter.0 p t.width) refl
    where
      held : List Object
      held = targets t p (S.held m.starter.0 ++ [])

      row_is : (b : Bool) → others_open t m.starter.0 p t.width ≡ b → footprint t step S ≡ Proc p ∷ (if b then [] else held)
      row_is b h = row ∙ ap (λ (x : Option Mark). Proc p ∷ commit_row_of t p x [] S) e ∙ ap (λ (c : Bool). Proc p ∷ (if c then [] else targets t p (S.held m.starter.0 ++ []))) h

      last : footprint t step S ≡ Proc p ∷ held → has_object o (footprint t step S) ≡ (if has_object o (event_footprint t (Note p (pos 0)) S) then true else has_object o held)
      last h = ap (has_object o) h ∙ again (same_object o (Proc p)) (has_object o held)

      by : (b : Bool) → others_open t m.starter.0 p t.width ≡ b → has_object o (footprint t step S) ≡ has_object o (event_footprint t (event_in (member_end_role b m.starter.0) (Note p (pos 0))) S)
      by true h = note_foot step (row_is true h) (pos 0)
      by false h = last (row_is false h) ∙ sym (commit_foot t o shared S (Note p (pos 0)) m.starter.0 [] (note_held m.starter.0 (pos 0)))

  -- a fork, and the calls that have no row
  fork_plain : (c : Call) (n : ℕ) → kind_of c ≡ Forking n → IsPlain (call_effect inside p c me S) (call_objects inside c p me S) (call_row t p c me S)
  fork_plain (call.Fork child) n e = mild_plain _ _ _ (call_mild inside p (call.Fork child) me S tt) refl
  fork_plain c n e = cc

  begin_row : (c : Call) (defers : Bool) → kind_of c ≡ Beginning defers → call_row t p c me S ≡ []
  begin_row call.SysXbegin defers e = refl
  begin_row call.SysXbeginDefer defers e = refl
  begin_row c defers e = cc

  abort_row : (c : Call) → kind_of c ≡ Aborting → call_row t p c me S ≡ []
  abort_row call.SysXabort e = refl
  abort_row c e = cc

  leave_row : (c : Call) → kind_of c ≡ Leaving → call_row t p c me S ≡ commit_row t p [] S
  leave_row call.SysXend e = refl
  leave_row c e = cc

-- a call
module _ (t : Table) (o : Object) (shared : is_shared o ≡ true) (S : State) (pid : Pid) (c : Call) (me : Process) (here : S.procs pid.0 ≡ Some me) (runs : me.status ≡ None) where
  row_of : footprint t (Calls pid c) S ≡ Proc pid.0 ∷ call_row t pid.0 c me S
  unfolding footprint
  row_of = ap (λ (x : Option Process). Proc pid.0 ∷ call_row_at t pid.0 c x S) here

  call_effect_of : effect (Do (Calls pid c) (inside_by t (t.marks pid.0))) S ≡ call_effect (inside_by t (t.marks pid.0)) pid.0 c me S
  unfolding effect
  call_effect_of = runs_as (inside_by t (t.marks pid.0)) pid.0 (page_of_call c) S me here runs

  objects_of : objects (Do (Calls pid c) (inside_by t (t.marks pid.0))) S ≡ Proc pid.0 ∷ call_objects (inside_by t (t.marks pid.0)) c pid.0 me S
  unfolding objects
  objects_of = names_as (inside_by t (t.marks pid.0)) pid.0 (page_of_call c) S me here

  -- by the kind of the call
  call_foot : (k : Kind) → kind_of c ≡ k → (r : Reply) → r ≡ reply_of (kind_event t pid.0 (Calls pid c) k (t.marks pid.0)) S → is_abort (kind_role t pid.0 k r (t.marks pid.0)) ≡ false
      → has_object o (footprint t (Calls pid c) S) ≡ has_object o (event_footprint t (event_in (kind_role t pid.0 k r (t.marks pid.0)) (kind_event t pid.0 (Calls pid c) k (t.marks pid.0))) S)
  unfolding inside ev
  call_foot Ordinary e r is h =
      subst (λ (x : Reply). has_object o (footprint t (Calls pid c) S) ≡ has_object o (event_footprint t (event_in (kind_role t pid.0 Ordinary x (t.marks pid.0)) (Do (Calls pid c) (inside_by t (t.marks pid.0)))) S)) (sym is)
      (step_foot t o shared S pid.0 me (Calls pid c) (call_effect (inside_by t (t.marks pid.0)) pid.0 c me S) (call_objects (inside_by t (t.marks pid.0)) c pid.0 me S) (call_row t pid.0 c me S)
      refl call_effect_of objects_of row_of (call_comes t o shared S pid.0 me c (λ z. let no : Ordinary ≡ Leaving = sym e ∙ z in cc)))
  call_foot (Forking n) e r is h = by (t.marks pid.0)
    where
      alone : has_object o (footprint t (Calls pid c) S) ≡ has_object o (event_footprint t (Do (Calls pid c) (inside_by t (t.marks pid.0))) S)
      alone = plain_foot t o shared S pid.0 me (Calls pid c) (call_effect (inside_by t (t.marks pid.0)) pid.0 c me S) (call_objects (inside_by t (t.marks pid.0)) c pid.0 me S) (call_row t pid.0 c me S)
          refl call_effect_of objects_of row_of (fork_plain t o shared S pid.0 me c n e)

      by : (mark : Option Mark) → has_object o (footprint t (Calls pid c) S) ≡ has_object o (event_footprint t (event_in (kind_role t pid.0 (Forking n) r mark) (Do (Calls pid c) (inside_by t (t.marks pid.0)))) S)
      by None = alone
      by (Some m) = alone
  call_foot (Beginning defers) e r is h = by (t.marks pid.0)
    where
      named : (x : ℤ) → has_object o (footprint t (Calls pid c) S) ≡ has_object o (event_footprint t (Note pid.0 x) S)
      named = note_foot t o shared S pid.0 me (Calls pid c) (row_of ∙ ap (λ (os : List Object). Proc pid.0 ∷ os) (begin_row t o shared S pid.0 me c defers e))

      by : (mark : Option Mark) → has_object o (footprint t (Calls pid c) S) ≡ has_object o (event_footprint t (event_in (kind_role t pid.0 (Beginning defers) r mark) (kind_event t pid.0 (Calls pid c) (Beginning defers) mark)) S)
      by None = named (pos 0)
      by (Some m) = named (negsuc 21)
  call_foot Leaving e r is h =
      leaving_foot t o shared S pid.0 me (Calls pid c) (row_of ∙ ap (λ (os : List Object). Proc pid.0 ∷ os) (leave_row t o shared S pid.0 me c e)) (t.marks pid.0) refl r
  call_foot Aborting e r is h = by (t.marks pid.0) h
    where
      by : (mark : Option Mark) → is_abort (kind_role t pid.0 Aborting r mark) ≡ false
          → has_object o (footprint t (Calls pid c) S) ≡ has_object o (event_footprint t (event_in (kind_role t pid.0 Aborting r mark) (kind_event t pid.0 (Calls pid c) Aborting mark)) S)
      by None k = note_foot t o shared S pid.0 me (Calls pid c) (row_of ∙ ap (λ (os : List Object). Proc pid.0 ∷ os) (abort_row t o shared S pid.0 me c e)) (negsuc 21)
      by (Some m) k = cc

-- a delivery
module _ (t : Table) (o : Object) (shared : is_shared o ≡ true) (S : State) (pid : Pid) (signo : Signo) (me : Process) (here : S.procs pid.0 ≡ Some me) (runs : me.status ≡ None) where
  delivery_row_of : footprint t (Deliver pid signo) S ≡ Proc pid.0 ∷ delivery_row t pid.0 signo.0 me S
  unfolding footprint
  delivery_row_of = ap (λ (x : Option Process). Proc pid.0 ∷ delivery_row_at t pid.0 signo.0 x S) here

  delivery_effect_of : effect (Do (Deliver pid signo) (inside_by t (t.marks pid.0))) S ≡ delivery_effect (inside_by t (t.marks pid.0)) pid.0 signo.0 me S
  unfolding effect
  delivery_effect_of = runs_as (inside_by t (t.marks pid.0)) pid.0 (delivery_page signo.0) S me here runs

  delivery_objects_of : objects (Do (Deliver pid signo) (inside_by t (t.marks pid.0))) S ≡ Proc pid.0 ∷ delivery_objects (inside_by t (t.marks pid.0)) pid.0 signo.0 me S
  unfolding objects
  delivery_objects_of = names_as (inside_by t (t.marks pid.0)) pid.0 (delivery_page signo.0) S me here

  delivery_foot : has_object o (footprint t (Deliver pid signo) S) ≡ has_object o (event_footprint t (event_in (kind_role t pid.0 Ordinary (reply_of (Do (Deliver pid signo) (inside_by t (t.marks pid.0))) S) (t.marks pid.0))
      (Do (Deliver pid signo) (inside_by t (t.marks pid.0)))) S)
  unfolding inside ev
  delivery_foot =
      step_foot t o shared S pid.0 me (Deliver pid signo) (delivery_effect (inside_by t (t.marks pid.0)) pid.0 signo.0 me S) (delivery_objects (inside_by t (t.marks pid.0)) pid.0 signo.0 me S)
      (delivery_row t pid.0 signo.0 me S) refl delivery_effect_of delivery_objects_of delivery_row_of (delivery_comes t o shared S pid.0 me signo.0)

-- the footprint of a step is that of its event
pub footprint_of_event : FootprintIsOfEvent
footprint_of_event V (Calls pid c) o runs h shared =
    let r = runs_some ((present V).procs pid.0) runs in
    call_foot V.table o shared (present V) pid c r.0 r.1 r.2 (kind_of c) refl (first_reply V (Calls pid c)) refl h
footprint_of_event V (Deliver pid signo) o runs h shared =
    let r = runs_some ((present V).procs pid.0) runs in
    delivery_foot V.table o shared (present V) pid signo r.0 r.1 r.2
footprint_of_event V (KernelAbort s) o runs h shared = cc
