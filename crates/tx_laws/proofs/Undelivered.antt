-- What a commit lists fits its reply.
use Rattle.std.proofs.Common.{◌≡◌, ◌≢◌, ℕ, ◌+◌, ◌≤◌, Bool, true, false, List, [], ◌∷◌, ◌++◌, length, ℤ, pos, negsuc, Option, Some, None, is_some, if◌then◌else◌, ◌==◌, refl, sym, ap, ◌∙◌, subst, arith}
use Rattle.std.proofs.lemmas.Bool.{both_ways}
use Rattle.tx_base.specs.declared.marks.Mark.{Mark}
use Rattle.tx_base.specs.declared.names.Missed.{Missed}
use Rattle.tx_base.specs.declared.steps.Accepted.{Accepted}
use Rattle.tx_base.specs.declared.steps.Reply.{Reply}
use Rattle.tx_base.specs.declared.steps.Reply.TheVariants.{Ended, Committed, Aborted, No}
use Rattle.tx_base.specs.declared.steps.Refusal.TheVariants.{NoTransaction}
use Rattle.tx_base.specs.declared.steps.Step.{Step}
use Rattle.tx_base.specs.declared.steps.Step.TheVariants.{Call as Calls, Deliver, KernelAbort}
use Rattle.tx_model.specs.State.{Process, State, Sending, SetHeld, with_writes, is_between}
use Rattle.tx_model.specs.Posts.{is_quiet, post_answer, post_answers}
use Rattle.tx_model.specs.Effects.{Inside, Conclusion, Replies, concluding_reply, send_answers, failed_sends}
use Rattle.tx_model.specs.Processes.{child_notice, NotTold, parent_notice, notice_now}
use Rattle.tx_model.specs.Book.{member_sends}
use Rattle.tx_model.specs.Events.{Event, Do, Note, Commit, effect, reply_of}
use Rattle.tx_model.specs.Membership.{is_member_of, is_live, inside_by, Parks, Within, Kind, Ordinary, Forking, Beginning, Leaving, Aborting, says_ended, others_open, kind_event, event_in, table_after}
use Rattle.tx_model.specs.Words.{notice_by, member_end_role, ordinary_role, kind_of, kind_role}
use Rattle.tx_model.specs.View.{View, view, present, kernel_status, abort_status}
use Rattle.tx_model.specs.Answer.{is_running, refusal, plain_reply, accepted_reply, answer, Lawful}
use Rattle.tx_laws.specs.Sound.{IsSound}
use Rattle.tx_laws.specs.WellFormed.{IsPlaced, IsWellFormed}
use Rattle.tx_laws.specs.WellFormedTable.{sent_by_kernel, IsTransaction, IsWellFormedView}
use Rattle.tx_laws.proofs.KeepsFormReleased.{written_append}
use Rattle.tx_laws.proofs.PlainWrites.{concludes_ended}
use Rattle.tx_laws.proofs.Standings.{stand, parent_of, parent_is}
use Rattle.tx_laws.proofs.Turns.{orphan_some, IsOrphan, standing, Turn, Stays, Sends, Grows, Reaps, Ends, step_turn}
use Rattle.tx_laws.proofs.KeepsOwn.{sent_length}
use Rattle.tx_laws.proofs.Taken.{unless_accepted}
use Rattle.tx_laws.proofs.Erased.{lawful_sound}
use Rattle.tx_laws.proofs.KeepsView.{running_some, reply_ends, inner, parked_own, note_turn}
use Rattle.tx_laws.proofs.TableHistory.{not_own, history_kept, present_form}

-- an event that is no commit answers no commit
reply_by : (ev : Event) (S : State) → (effect ev S).conclusion ≡ Replies Ended → reply_of ev S ≡ Ended
unfolding reply_of
reply_by ev S h = ap (λ (c : Conclusion). concluding_reply c (effect ev S).sends (send_answers (effect ev S) S)) h

no_commit : (inside : Option Inside) (p : ℕ) (S : State) (ev : Event) (u : List Missed) → Turn inside p S (effect ev S) → reply_of ev S ≡ Committed (record { items = u }) → ⊥
no_commit inside p S ev u turn h = by turn
  where
    says : concludes_ended (effect ev S).conclusion ≡ true
    says = sym (reply_ends ev S) ∙ ap says_ended h

    by : Turn inside p S (effect ev S) → ⊥
    by (Stays goes stands held) = both_ways (concludes_ended (effect ev S).conclusion) goes says
    by (Sends goes j e m sender room stands held) = both_ways (concludes_ended (effect ev S).conclusion) goes says
    by (Grows goes c free child stands held) = both_ways (concludes_ended (effect ev S).conclusion) goes says
    by (Reaps goes c was now stands held) = both_ways (concludes_ended (effect ev S).conclusion) goes says
    by (Ends concludes parent was now orphans sends told) = let no : Ended ≡ Committed (record { items = u }) = sym (reply_by ev S concludes) ∙ h in cc

-- no more fail than are sent
failed_fewer : (ms : List Sending) (rs : List ℤ) → length (failed_sends ms rs) ≤ length ms
failed_fewer [] rs = omega arith
failed_fewer (m ∷ ms) [] = omega arith
failed_fewer (m ∷ ms) (pos n ∷ rs) = let k : length (failed_sends ms rs) ≤ length ms = failed_fewer ms rs in omega arith
failed_fewer (m ∷ ms) (negsuc n ∷ rs) = let k : length (failed_sends ms rs) ≤ length ms = failed_fewer ms rs in omega arith

-- the kernel's own signal reaches a process that is there
told_answer : (parent : ℕ) (x : Option Process) → is_some x ≡ true → post_answer (child_notice parent) x ≡ pos 0
told_answer parent None h = cc
told_answer parent (Some q) h = by (is_quiet (child_notice parent) q)
  where
    by : (b : Bool) → (if b then pos 0 else pos 0) ≡ pos 0
    by true = refl
    by false = refl

failed_told : (parent : ℕ) (ms : List Sending) (X : State) → is_some (X.procs parent) ≡ true → length (failed_sends (child_notice parent ∷ ms) (post_answers (child_notice parent ∷ ms) X)) ≤ length ms
unfolding post_answers
failed_told parent ms X h = rw (told_answer parent (X.procs parent) h) (failed_fewer ms _)

-- what a reply lists
abbrev items_in : Reply → List Missed
items_in (Committed v) = v.items
items_in r = []

-- what a commit lists
listed_by : (s : ℕ) (ev : Event) (S : State) (u : List Missed) → reply_of (Commit s ev) S ≡ Committed (record { items = u })
    → u ≡ failed_sends ((effect ev S).sends ++ (with_writes (effect ev S).writes S).held s)
    (post_answers ((effect ev S).sends ++ (with_writes (effect ev S).writes S).held s) (with_writes ((effect ev S).writes ++ SetHeld s [] ∷ []) S))
unfolding reply_of effect
listed_by s ev S u h = sym (ap items_in h)

module _ (V : View) (sound : IsSound V) (kept : IsWellFormedView V) (form : IsWellFormed (present V)) (p : ℕ) (m : Mark) (e : V.table.marks p ≡ Some m) where
  abbrev s : ℕ
  s = m.starter.0

  abbrev S : State
  S = present V

  -- what it holds as it commits
  few_held : (ev : Event) → Turn (Some (inner V sound kept.formed form p m e)) p S (effect ev S) → length ((with_writes (effect ev S).writes S).held s) ≤ 33
  few_held ev turn =
      let k : IsTransaction (table_after (Within s Parks) p V.table) (with_writes (effect ev S).writes S) s = parked_own V sound kept.formed form p m e ev turn in
      let sent : member_sends ((with_writes (effect ev S).writes S).held s) ≤ 32 = k.sent in
      let told : sent_by_kernel ((with_writes (effect ev S).writes S).held s) ≤ 1 = k.told_once in
      let all : length ((with_writes (effect ev S).writes S).held s) ≡ member_sends ((with_writes (effect ev S).writes S).held s) + sent_by_kernel ((with_writes (effect ev S).writes S).held s) =
      sent_length ((with_writes (effect ev S).writes S).held s) in
      omega arith

  -- where it posts nothing itself
  none_sent : (ev : Event) (u : List Missed) → (effect ev S).sends ≡ [] → reply_of (Commit s ev) S ≡ Committed (record { items = u })
      → Turn (Some (inner V sound kept.formed form p m e)) p S (effect ev S) → length u ≤ 33
  none_sent ev u none h turn =
      let ms : List Sending = (with_writes (effect ev S).writes S).held s in
      let few : length ms ≤ 33 = few_held ev turn in
      let list : length u ≤ length ((effect ev S).sends ++ ms) =
      subst (λ (xs : List Missed). length xs ≤ length ((effect ev S).sends ++ ms)) (sym (listed_by s ev S u h)) (failed_fewer ((effect ev S).sends ++ ms) _) in
      let more : length ((effect ev S).sends ++ ms) ≡ length ms = ap (λ (xs : List Sending). length (xs ++ ms)) none in
      omega arith

  -- where it tells a parent that is a member, the parent is there
  told_sent : (ev : Event) (u : List Missed) (parent : ℕ) → (effect ev S).sends ≡ child_notice parent ∷ [] → is_some ((with_writes (effect ev S).writes S).procs parent) ≡ true
      → reply_of (Commit s ev) S ≡ Committed (record { items = u }) → Turn (Some (inner V sound kept.formed form p m e)) p S (effect ev S) → length u ≤ 33
  unfolding with_writes
  told_sent ev u parent one there h turn =
      let T : State = with_writes (effect ev S).writes S in
      let few : length (T.held s) ≤ 33 = few_held ev turn in
      let after_all : State = with_writes ((effect ev S).writes ++ SetHeld s [] ∷ []) S in
      let here : is_some (after_all.procs parent) ≡ true =
      ap (λ (X : State). is_some (X.procs parent)) (written_append (effect ev S).writes (SetHeld s [] ∷ []) S) ∙ there in
      let list : u ≡ failed_sends (child_notice parent ∷ T.held s) (post_answers (child_notice parent ∷ T.held s) after_all) =
      listed_by s ev S u h ∙ ap (λ (xs : List Sending). failed_sends (xs ++ T.held s) (post_answers (xs ++ T.held s) after_all)) one in
      let fewer : length u ≤ length (T.held s) =
      subst (λ (xs : List Missed). length xs ≤ length (T.held s)) (sym list) (failed_told parent (T.held s) after_all here) in
      omega arith

  -- a process's parent that is a member runs, and is another one
  parent_there : (parent : ℕ) → stand (S.procs p) ≡ standing parent true → is_member_of V.table s parent ≡ true → (parent ≢ p) × (is_some (S.procs parent) ≡ true)
  parent_there parent was member = by (S.procs p) refl (parent_is (S.procs p) parent true was)
    where
      not_first : (me : Process) → S.procs p ≡ Some me → me.parent ≡ parent → p ≢ 1
      not_first me k is one =
          let same : Some form.first.0 ≡ Some me = sym form.first.1 ∙ ap S.procs (sym one) ∙ k in
          let first : form.first.0 ≡ me = cc in
          let none : parent ≡ 0 = sym is ∙ ap (λ (x : Process). x.parent) (sym first) ∙ form.first.2.parent in
          let no : is_between V.table.width 0 ≡ true = subst (λ (n : ℕ). is_between V.table.width n ≡ true) none (sound.bounded s parent member) in
          cc

      by : (x : Option Process) → S.procs p ≡ x → parent_of x ≡ Some parent → (parent ≢ p) × (is_some (S.procs parent) ≡ true)
      by None k h = cc
      by (Some me) k h =
          let is : me.parent ≡ parent = cc in
          let placed : IsPlaced S p me = form.placed p me k in
          (λ z. placed.other (is ∙ z), running_some (S.procs parent) (ap (λ (n : ℕ). is_running (S.procs n)) (sym is) ∙ placed.parent (not_first me k is)))

  ends_few : (ev : Event) (u : List Missed) → reply_of (Commit s ev) S ≡ Committed (record { items = u }) → Turn (Some (inner V sound kept.formed form p m e)) p S (effect ev S)
      → (parent : ℕ) → stand (S.procs p) ≡ standing parent true → ((n : ℕ) → n ≢ p → IsOrphan p (S.procs n) ((with_writes (effect ev S).writes S).procs n))
      → (effect ev S).sends ≡ notice_now (parent_notice (Some (inner V sound kept.formed form p m e)) parent) parent → length u ≤ 33
  ends_few ev u h turn parent was orphans sends = by (parent == 1) (is_member_of V.table s parent) refl sends
    where
      by : (a b : Bool) → is_member_of V.table s parent ≡ b
          → (effect ev S).sends ≡ notice_now (if a then NotTold else (notice_by (if b then None else Some (inner V sound kept.formed form p m e)))) parent → length u ≤ 33
      by true b k z = none_sent ev u z h turn
      by false true k z =
          let there = parent_there parent was k in
          told_sent ev u parent z (orphan_some p (S.procs parent) ((with_writes (effect ev S).writes S).procs parent) (orphans parent there.0) there.1) h turn
      by false false k z = none_sent ev u z h turn

  -- a member's end that commits
  end_few : (ev : Event) (u : List Missed) → concludes_ended (effect ev S).conclusion ≡ true → reply_of (Commit s ev) S ≡ Committed (record { items = u })
      → Turn (Some (inner V sound kept.formed form p m e)) p S (effect ev S) → length u ≤ 33
  end_few ev u says h (Stays goes stands held) = absurd (both_ways (concludes_ended (effect ev S).conclusion) goes says)
  end_few ev u says h (Sends goes j z n sender room stands held) = absurd (both_ways (concludes_ended (effect ev S).conclusion) goes says)
  end_few ev u says h (Grows goes c free child stands held) = absurd (both_ways (concludes_ended (effect ev S).conclusion) goes says)
  end_few ev u says h (Reaps goes c was now stands held) = absurd (both_ways (concludes_ended (effect ev S).conclusion) goes says)
  end_few ev u says h (Ends concludes parent was now orphans sends told) = ends_few ev u h (Ends concludes parent was now orphans sends told) parent was orphans sends

  -- the replies to a member's end, and to any other step of it
  ends_listed : (k : ℕ) (ev : Event) (u : List Missed) (b : Bool) → plain_reply k (member_end_role b s) (event_in (member_end_role b s) ev) S ≡ Committed (record { items = u })
      → (reply_of (Commit s ev) S ≡ Committed (record { items = u }) → length u ≤ 33) → Turn (Some (inner V sound kept.formed form p m e)) p S (effect ev S) → length u ≤ 33
  ends_listed k ev u true h few turn = absurd (no_commit (Some (inner V sound kept.formed form p m e)) p S ev u turn h)
  ends_listed k ev u false h few turn = few h

  ordinary_listed : (k : ℕ) (ev : Event) (u : List Missed) (b : Bool) → concludes_ended (effect ev S).conclusion ≡ b
      → plain_reply k (ordinary_role b V.table s p) (event_in (ordinary_role b V.table s p) ev) S ≡ Committed (record { items = u })
      → Turn (Some (inner V sound kept.formed form p m e)) p S (effect ev S) → length u ≤ 33
  ordinary_listed k ev u true z h turn = ends_listed k ev u (others_open V.table s p V.table.width) h (λ y. end_few ev u z y turn) turn
  ordinary_listed k ev u false z h turn = absurd (no_commit (Some (inner V sound kept.formed form p m e)) p S ev u turn h)

note_sends : (p : ℕ) (r : ℤ) (S : State) → (effect (Note p r) S).sends ≡ []
unfolding effect
note_sends p r S = refl

module _ (V : View) (sound : IsSound V) (kept : IsWellFormedView V) (form : IsWellFormed (present V)) where
  notes : (inside : Option Inside) (p q : ℕ) (r : ℤ) → Turn inside p (present V) (effect (Note q r) (present V))
  notes inside p q r = note_turn V sound kept.formed form inside p q r

  kind_listed : (n p : ℕ) (step : Step) (u : List Missed) → ((inside : Option Inside) → Turn inside p (present V) (effect (Do step inside) (present V)))
      → (k : Kind) (mark : Option Mark) → V.table.marks p ≡ mark
      → plain_reply n (kind_role V.table p k (reply_of (kind_event V.table p step k mark) (present V)) mark)
      (event_in (kind_role V.table p k (reply_of (kind_event V.table p step k mark) (present V)) mark) (kind_event V.table p step k mark)) (present V) ≡ Committed (record { items = u })
      → length u ≤ 33
  kind_listed n p step u turn Ordinary None e h = absurd (no_commit None p (present V) (Do step None) u (turn None) h)
  kind_listed n p step u turn Ordinary (Some m) e h =
      ordinary_listed V sound kept form p m e n (Do step (inside_by V.table (Some m))) u (says_ended (reply_of (Do step (inside_by V.table (Some m))) (present V)))
      (sym (reply_ends (Do step (inside_by V.table (Some m))) (present V))) h (turn (inside_by V.table (Some m)))
  kind_listed n p step u turn (Forking c) None e h = absurd (no_commit None p (present V) (Do step None) u (turn None) h)
  kind_listed n p step u turn (Forking c) (Some m) e h =
      absurd (no_commit (inside_by V.table (Some m)) p (present V) (Do step (inside_by V.table (Some m))) u (turn (inside_by V.table (Some m))) h)
  kind_listed n p step u turn (Beginning defers) None e h = absurd (no_commit None p (present V) (Note p (pos 0)) u (notes None p p (pos 0)) h)
  kind_listed n p step u turn (Beginning defers) (Some m) e h = absurd (no_commit None p (present V) (Note p (negsuc 21)) u (notes None p p (negsuc 21)) h)
  kind_listed n p step u turn Leaving None e h = absurd (no_commit None p (present V) (Note p (negsuc 21)) u (notes None p p (negsuc 21)) h)
  kind_listed n p step u turn Leaving (Some m) e h =
      let mine : Turn (Some (inner V sound kept.formed form p m e)) p (present V) (effect (Note p (pos 0)) (present V)) = notes (Some (inner V sound kept.formed form p m e)) p p (pos 0) in
      ends_listed V sound kept form p m e n (Note p (pos 0)) u (others_open V.table m.starter.0 p V.table.width) h
      (λ y. none_sent V sound kept form p m e (Note p (pos 0)) u (note_sends p (pos 0) (present V)) y mine) mine
  kind_listed n p step u turn Aborting None e h = absurd (no_commit None p (present V) (Note p (negsuc 21)) u (notes None p p (negsuc 21)) h)
  kind_listed n p step u turn Aborting (Some m) e h = cc

  -- the answer to a step lists at most 33
  pub answer_listed : (step : Step) (u : List Missed) → answer V step ≡ Committed (record { items = u }) → length u ≤ 33
  unfolding answer effect
  answer_listed (Calls pid c) u h =
      let step : Step = Calls pid c in
      let z = unless_accepted (refusal V pid.0 step) (accepted_reply V step) (Committed (record { items = u })) h tt in
      kind_listed (abort_status V step) pid.0 step u (λ inside. step_turn inside (present V) step (not_own (present V) pid.0 form)) (kind_of c) (V.table.marks pid.0) refl z.1
  answer_listed (Deliver pid signo) u h =
      let step : Step = Deliver pid signo in
      let z = unless_accepted (refusal V pid.0 step) (accepted_reply V step) (Committed (record { items = u })) h tt in
      kind_listed (abort_status V step) pid.0 step u (λ inside. step_turn inside (present V) step (not_own (present V) pid.0 form)) Ordinary (V.table.marks pid.0) refl z.1
  answer_listed (KernelAbort s) u h = by (is_live V.table s.0) h
    where
      by : (b : Bool) → (if b then Aborted (kernel_status V s.0) else No NoTransaction) ≡ Committed (record { items = u }) → length u ≤ 33
      by true k = cc
      by false k = cc

pub history_listed : (S : State) (h : List Accepted) (step : Step) (u : List Missed) → IsWellFormed S → ((s : ℕ) → S.held s ≡ []) → Lawful S h → answer (view S h) step ≡ Committed (record { items = u })
    → length u ≤ 33
history_listed S h step u w none l k = answer_listed (view S h) (lawful_sound S h l) (history_kept S h w none l) (present_form S h w l) step u k
