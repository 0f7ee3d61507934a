-- Every accepted step leaves the live transactions so.
use Rattle.std.proofs.Common.{◌≡◌, ◌≢◌, ℕ, ◌≤◌, Bool, true, false, List, [], ℤ, pos, negsuc, Option, Some, None, is_some, if◌then◌else◌, ◌==◌, refl, sym, ap, ◌∙◌, subst, inl, inr, eq-eqb, arith}
use Rattle.std.proofs.lemmas.Bool.{both_ways}
use Rattle.tx_base.specs.declared.marks.Mark.{Mark}
use Rattle.tx_base.specs.declared.steps.Step.{Step}
use Rattle.tx_model.specs.State.{Process, State, Sending, Proc, with_writes, has_object, is_between}
use Rattle.tx_model.specs.StateLaws.{put_here, put_cases, put_there}
use Rattle.tx_model.specs.Effects.{Inside, Conclusion, Replies, AnswersPost, ListsFailed, concluding_reply}
use Rattle.tx_model.specs.Numbers.{negative}
use Rattle.tx_model.specs.Book.{member_sends}
use Rattle.tx_model.specs.Events.{Event, Do, Note, Commit, actor, effect, objects, after, reply_of}
use Rattle.tx_model.specs.Membership.{Table, is_of, is_member_of, is_live, is_open_of, inside_by, Progress, Continues, Parks, Forks, Begins, Role, Outside, Within, Commits, Aborts, Kind, Ordinary, Forking, Beginning, Leaving, Aborting, says_ended, others_open, kind_event, event_in, parked_mark, defers_in, new_mark, table_after}
use Rattle.tx_model.specs.Words.{member_end_role, ordinary_role, called_by_status, next_by, kind_role, starters_without}
use Rattle.tx_model.specs.History.{Starters, nobody, just}
use Rattle.tx_model.specs.View.{View, present}
use Rattle.tx_model.specs.Answer.{is_running}
use Rattle.tx_laws.specs.Sound.{IsSound}
use Rattle.tx_laws.specs.Fits.{FitsWithin, Fits, Passes}
use Rattle.tx_laws.specs.WellFormed.{IsPlaced, IsWellFormed}
use Rattle.tx_laws.specs.WellFormedTable.{sent_by_kernel, HasParentOutside, IsTransaction, IsWellFormedWith}
use Rattle.tx_laws.proofs.Coherence.{sound_by}
use Rattle.tx_laws.proofs.Tables.{of_none}
use Rattle.tx_laws.proofs.KeepsFormParts.{same_or_other}
use Rattle.tx_laws.proofs.WithinSets.{false_unless}
use Rattle.tx_laws.proofs.PlainWrites.{concludes_ended}
use Rattle.tx_laws.proofs.Standings.{parent_of, outside_same, running_same, parent_same, SameFor, open_member, note_stand}
use Rattle.tx_laws.proofs.Turns.{Same, Turn, Stays, GrowsBy}
use Rattle.tx_laws.proofs.KeepsOwn.{grows_kept, own_kept}
use Rattle.tx_laws.proofs.KeepsTable.{after_stand, after_holds, same_table, not_open, parked_table, new_table, outside_holds, inside_holds, after_kept, unreserved, outside_formed, within_formed, commits_formed, aborts_formed}

-- what is so after a step with this role and event
abbrev Formed : View → Role → Event → ℕ → Type 0
Formed V r ev p = IsWellFormedWith (table_after r p V.table) (present (next_by r ev p V))

-- who runs is there
pub running_some : (x : Option Process) → is_running x ≡ true → is_some x ≡ true
running_some None h = cc
running_some (Some q) h = refl

-- the reply says that the process ended as the conclusion does
pub ended_reply : (c : Conclusion) (ms : List Sending) (rs : List ℤ) → says_ended (concluding_reply c ms rs) ≡ concludes_ended c
ended_reply (Replies r) ms rs = refl
ended_reply (AnswersPost p) ms rs = refl
ended_reply ListsFailed ms rs = refl

pub reply_ends : (ev : Event) (S : State) → says_ended (reply_of ev S) ≡ concludes_ended (effect ev S).conclusion
unfolding reply_of
reply_ends ev S = ended_reply (effect ev S).conclusion (effect ev S).sends _

note_goes : (p : ℕ) (r : ℤ) (S : State) → concludes_ended (effect (Note p r) S).conclusion ≡ false
unfolding effect
note_goes p r S = refl

less_nobody : (s : ℕ) → starters_without s nobody ≡ nobody
less_nobody s = λ i n. at n i
  where
    at_case : (b : Bool) → (if b then false else false) ≡ false
    at_case true = refl
    at_case false = refl

    at : (n : ℕ) → starters_without s nobody n ≡ nobody n
    at n = at_case (n == s)

module _ (V : View) (sound : IsSound V) (kept : IsWellFormedWith V.table (present V)) (form : IsWellFormed (present V)) where
  -- members are of live transactions after it too
  members_after : (r : Role) (ev : Event) (p : ℕ) → Passes r ev V → Fits r ev p V → (u n : ℕ) → is_member_of (table_after r p V.table) u n ≡ true → is_live (table_after r p V.table) u ≡ true
  members_after r ev p passes fits u n h =
      let now : IsSound (next_by r ev p V) = sound_by r V ev p sound passes fits in
      now.owned_live u (Proc n) (now.own_procs u n h)

  within_mine : (ev : Event) (s p : ℕ) (part : Progress) → FitsWithin s part ev p V → (u : ℕ) → is_member_of V.table u (actor ev) ≡ true → u ≡ s
  within_mine ev s p part fits u h = fits.mine u (subst (λ (n : ℕ). is_member_of V.table u n ≡ true) fits.actor_is h)

  -- a member's step
  module _ (p : ℕ) (m : Mark) (e : V.table.marks p ≡ Some m) where
    abbrev s : ℕ
    s = m.starter.0

    abbrev pub inner : Inside
    inner = record { starter = m.starter.0; members = is_member_of V.table m.starter.0; defers = m.defers }

    mine : is_member_of V.table s p ≡ true
    mine = rw e (eq-eqb m.starter.0 m.starter.0 refl)

    live : is_live V.table s ≡ true
    live = kept.members s p mine

    continues_formed : (ev : Event) → Passes (Within s Continues) ev V → Fits (Within s Continues) ev p V → concludes_ended (effect ev (present V)).conclusion ≡ false
        → Turn (Some inner) p (present V) (effect ev (present V)) → Formed V (Within s Continues) ev p
    continues_formed ev passes fits goes turn =
        within_formed V sound kept ev passes V.table s (within_mine ev s p Continues fits) live (members_after (Within s Continues) ev p passes fits) (λ u ne. same_table V.table u)
        (after_kept V.table ev (present V) s live
        (own_kept V.table (present V) inner p mine (λ n. refl) live (kept.live s live) V.table (effect ev (present V)) (same_table V.table s)
        (λ c. absurd (both_ways (concludes_ended (effect ev (present V)).conclusion) goes c)) turn))
        (λ u ne. after_holds ev (present V) u ∙ inside_holds inner p (present V) (effect ev (present V)) turn u ne)

    -- the transaction after the member's part has ended
    pub parked_own : (ev : Event) → Turn (Some inner) p (present V) (effect ev (present V))
        → IsTransaction (table_after (Within s Parks) p V.table) (with_writes (effect ev (present V)).writes (present V)) s
    parked_own ev turn =
        own_kept V.table (present V) inner p mine (λ n. refl) live (kept.live s live) (table_after (Within s Parks) p V.table) (effect ev (present V)) (parked_table V.table p s s)
        (λ c. ap (is_open_of s) (put_here V.table.marks p (parked_mark (V.table.marks p))) ∙ not_open s (V.table.marks p)) turn

    parks_formed : (ev : Event) → Passes (Within s Parks) ev V → Fits (Within s Parks) ev p V → Turn (Some inner) p (present V) (effect ev (present V))
        → Formed V (Within s Parks) ev p
    parks_formed ev passes fits turn =
        let lives : is_live (table_after (Within s Parks) p V.table) s ≡ true = (parked_table V.table p s s).members s ∙ live in
        within_formed V sound kept ev passes (table_after (Within s Parks) p V.table) s (within_mine ev s p Parks fits) lives (members_after (Within s Parks) ev p passes fits)
        (λ u ne. parked_table V.table p u s)
        (after_kept (table_after (Within s Parks) p V.table) ev (present V) s lives (parked_own ev turn))
        (λ u ne. after_holds ev (present V) u ∙ inside_holds inner p (present V) (effect ev (present V)) turn u ne)

    -- the parent of the starter is no new process
    starter_parent : (c : ℕ) → (present V).procs c ≡ None → is_between V.table.width c ≡ true → (q : ℕ) → parent_of ((present V).procs s) ≡ Some q → q ≢ c
    starter_parent c free number q h = by ((present V).procs s) refl h
      where
        by : (x : Option Process) → (present V).procs s ≡ x → parent_of x ≡ Some q → q ≢ c
        by None k z = cc
        by (Some me) k z = elim (same_or_other s 1) [
          | inl one ↦
              let same : Some form.first.0 ≡ Some me = sym form.first.1 ∙ ap (present V).procs (sym one) ∙ k in
              let first : form.first.0 ≡ me = cc in
              let is : me.parent ≡ q = cc in
              let none : q ≡ 0 = sym is ∙ ap (λ (x : Process). x.parent) (sym first) ∙ form.first.2.parent in
              λ y. let no : is_between V.table.width 0 ≡ true = subst (λ (n : ℕ). is_between V.table.width n ≡ true) (sym y ∙ none) number in cc
          | inr ne ↦
              let is : me.parent ≡ q = cc in
              let placed : IsPlaced (present V) s me = form.placed s me k in
              λ y.
              let runs : is_running ((present V).procs me.parent) ≡ true = placed.parent ne in
              let none : is_running ((present V).procs me.parent) ≡ false = ap (λ (n : ℕ). is_running ((present V).procs n)) (is ∙ y) ∙ ap is_running free in
              both_ways (is_running ((present V).procs me.parent)) none runs
        ]

    forks_formed : (c : ℕ) (ev : Event) → Passes (Within s (Forks c)) ev V → Fits (Within s (Forks c)) ev p V
        → GrowsBy p c (present V) (effect ev (present V)) → Formed V (Within s (Forks c)) ev p
    forks_formed c ev passes fits g =
        within_formed V sound kept ev passes new s (within_mine ev s p (Forks c) fits) lives (members_after (Within s (Forks c)) ev p passes fits) others
        (after_kept new ev (present V) s lives
        (grows_kept V.table (present V) inner p mine (λ n. refl) live (kept.live s live) new (with_writes (effect ev (present V)).writes (present V)) c g.free g.child g.others (g.held s)
        stays joins opens apart))
        (λ u ne. after_holds ev (present V) u ∙ g.held u)
      where
        mark : Mark
        mark = new_mark s (defers_in (V.table.marks s))

        new : Table
        new = table_after (Within s (Forks c)) p V.table

        stays : (n : ℕ) → is_member_of V.table s n ≡ true → is_member_of new s n ≡ true
        stays n h = elim (put_cases V.table.marks c (Some mark) n) [
          | inl z ↦ ap (is_of s) z.1 ∙ eq-eqb s s refl
          | inr z ↦ ap (is_of s) z.1 ∙ h
        ]

        lives : is_live new s ≡ true
        lives = stays s live

        joins : (n : ℕ) → n ≢ c → is_member_of new s n ≡ true → is_member_of V.table s n ≡ true
        joins n ne h = sym (ap (is_of s) (put_there V.table.marks c (Some mark) n ne)) ∙ h

        opens : (n : ℕ) → n ≢ c → is_open_of s (new.marks n) ≡ true → is_open_of s (V.table.marks n) ≡ true
        opens n ne h = sym (ap (is_open_of s) (put_there V.table.marks c (Some mark) n ne)) ∙ h

        apart : (n : ℕ) → parent_of ((present V).procs s) ≡ Some n → is_member_of V.table s n ≡ false → is_member_of new s n ≡ false
        apart n h k = ap (is_of s) (put_there V.table.marks c (Some mark) n (starter_parent c g.free fits.progress_fits.2 n h)) ∙ k

        -- the child's number is of no other transaction
        unowned : (u : ℕ) → u ≢ s → is_member_of V.table u c ≡ false
        unowned u ne = false_unless (is_member_of V.table u c) (λ h.
            let out : is_member_of V.table u (actor ev) ≡ false = false_unless (is_member_of V.table u (actor ev)) (λ k. ne (within_mine ev s p (Forks c) fits u k)) in
            both_ways (has_object (Proc c) (objects ev (present V))) (unreserved V sound kept ev passes (Proc c) u (sound.own_procs u c h) out) fits.progress_fits.1)

        others : (u : ℕ) → u ≢ s → SameFor V.table new u
        others u ne = new_table V.table c s u (defers_in (V.table.marks s)) ne (unowned u ne)

    commits_by : (ev : Event) → Passes (Commits s) (Commit s ev) V → Fits (Commits s) (Commit s ev) p V → Turn (Some inner) p (present V) (effect ev (present V))
        → Formed V (Commits s) (Commit s ev) p
    commits_by ev passes fits turn =
        subst (λ (X : Starters). IsWellFormedWith (table_after (Commits s) p V.table) (after (Commit s ev) (V.without X))) (sym (less_nobody s))
        (commits_formed V sound kept ev s passes p fits (λ u ne. inside_holds inner p (present V) (effect ev (present V)) turn u ne)
        (members_after (Commits s) (Commit s ev) p passes fits))

    -- the member's part ends
    ends_by : (ev : Event) (b : Bool) → Passes (member_end_role b s) (event_in (member_end_role b s) ev) V → Fits (member_end_role b s) (event_in (member_end_role b s) ev) p V
        → Turn (Some inner) p (present V) (effect ev (present V)) → Formed V (member_end_role b s) (event_in (member_end_role b s) ev) p
    ends_by ev true passes fits turn = parks_formed ev passes fits turn
    ends_by ev false passes fits turn = commits_by ev passes fits turn

    ordinary_by : (ev : Event) (b : Bool) → concludes_ended (effect ev (present V)).conclusion ≡ b
        → Passes (ordinary_role b V.table s p) (event_in (ordinary_role b V.table s p) ev) V → Fits (ordinary_role b V.table s p) (event_in (ordinary_role b V.table s p) ev) p V
        → Turn (Some inner) p (present V) (effect ev (present V)) → Formed V (ordinary_role b V.table s p) (event_in (ordinary_role b V.table s p) ev) p
    ordinary_by ev true z passes fits turn = ends_by ev (others_open V.table s p V.table.width) passes fits turn
    ordinary_by ev false z passes fits turn = continues_formed ev passes fits z turn

  -- the first step of a transaction
  begins_formed : (p : ℕ) (defers : Bool) → V.table.marks p ≡ None → is_running ((present V).procs p) ≡ true
      → Passes (Within p (Begins defers)) (Note p (pos 0)) V → Fits (Within p (Begins defers)) (Note p (pos 0)) p V
      → Turn None p (present V) (effect (Note p (pos 0)) (present V)) → Formed V (Within p (Begins defers)) (Note p (pos 0)) p
  unfolding effect with_writes member_sends sent_by_kernel
  begins_formed p defers none runs passes fits turn =
      within_formed V sound kept ev passes new p (within_mine ev p p (Begins defers) fits) lives (members_after (Within p (Begins defers)) ev p passes fits) others own
      (λ u ne. after_holds ev (present V) u ∙ outside_holds p (present V) (effect ev (present V)) turn u)
    where
      ev : Event
      ev = Note p (pos 0)

      new : Table
      new = table_after (Within p (Begins defers)) p V.table

      before : is_live V.table p ≡ false
      before = of_none p (V.table.marks p) none

      lives : is_live new p ≡ true
      lives = ap (is_of p) (put_here V.table.marks p (Some (new_mark p defers))) ∙ eq-eqb p p refl

      others : (u : ℕ) → u ≢ p → SameFor V.table new u
      others u ne = new_table V.table p p u defers ne (of_none u (V.table.marks p) none)

      -- no other number is a member
      alone : (n : ℕ) → n ≢ p → is_member_of new p n ≡ false
      alone n ne = false_unless (is_member_of new p n) (λ h.
          both_ways (is_live V.table p) before (kept.members p n (sym (ap (is_of p) (put_there V.table.marks p (Some (new_mark p defers)) n ne)) ∙ h)))

      stands : Same (present V) (after ev (present V))
      stands n = after_stand ev (present V) n ∙ note_stand p (pos 0) (present V) n

      nothing : (after ev (present V)).held p ≡ []
      nothing = after_holds ev (present V) p ∙ outside_holds p (present V) (effect ev (present V)) turn p ∙ kept.others p before

      now_runs : is_running ((after ev (present V)).procs p) ≡ true
      now_runs = running_same ((after ev (present V)).procs p) ((present V).procs p) (stands p) ∙ runs

      outer : (x : Option Process) → (present V).procs p ≡ x → HasParentOutside new p x
      outer None e = tt
      outer (Some q) e = alone q.parent (form.placed p q e).other

      own : IsTransaction new (after ev (present V)) p
      own = record {
        starter = running_some ((after ev (present V)).procs p) now_runs;
        open_parts = λ n h. elim (same_or_other n p) [
          | inl z ↦ ap (λ (i : ℕ). is_running ((after ev (present V)).procs i)) z ∙ now_runs
          | inr z ↦ absurd (both_ways (is_member_of new p n) (alone n z) (open_member p (new.marks n) h))
        ];
        parents = λ n h ne. absurd (both_ways (is_member_of new p n) (alone n ne) h);
        outside = outside_same new new p ((after ev (present V)).procs p) ((present V).procs p) (parent_same ((after ev (present V)).procs p) ((present V).procs p) (stands p)) (λ n e h. h)
            (outer ((present V).procs p) refl);
        sent = subst (λ (ms : List Sending). member_sends ms ≤ 32) (sym nothing) (omega arith);
        told_none = λ h. ap sent_by_kernel nothing;
        told_once = subst (λ (ms : List Sending). sent_by_kernel ms ≤ 1) (sym nothing) (omega arith);
      }

  -- a step by its kind and the mark of its process
  outside_by : (ev : Event) (p : ℕ) → Passes Outside ev V → Fits Outside ev p V → Turn None p (present V) (effect ev (present V)) → Formed V Outside ev p
  outside_by ev p passes fits turn = outside_formed V sound kept ev p passes fits turn

  pub aborts_by : (s : ℕ) (r : ℤ) (p k : ℕ) → (V.without (just s)).held s ≡ [] → Passes (Aborts s k) (Note s r) V → Fits (Aborts s k) (Note s r) p V → Formed V (Aborts s k) (Note s r) p
  aborts_by s r p k left passes fits = aborts_formed V sound kept s r p k left (members_after (Aborts s k) (Note s r) p passes fits)

  -- where the step forks, it makes its child
  abbrev pub ForksNow : ℕ → Step → Kind → Type 0
  ForksNow p step Ordinary = Unit {0}
  ForksNow p step (Forking c) = (inside : Option Inside) → GrowsBy p c (present V) (effect (Do step inside) (present V))
  ForksNow p step (Beginning defers) = Unit {0}
  ForksNow p step Leaving = Unit {0}
  ForksNow p step Aborting = Unit {0}

  pub note_turn : (inside : Option Inside) (p q : ℕ) (r : ℤ) → Turn inside p (present V) (effect (Note q r) (present V))
  unfolding effect with_writes
  note_turn inside p q r = Stays refl (note_stand q r (present V)) (λ u. refl)

  pub kind_formed : (p : ℕ) (step : Step) → is_running ((present V).procs p) ≡ true → ((inside : Option Inside) → Turn inside p (present V) (effect (Do step inside) (present V)))
      → ((s : ℕ) → (V.without (just s)).held s ≡ []) → (k : Kind) → ForksNow p step k → (mark : Option Mark) → V.table.marks p ≡ mark
      → Passes (kind_role V.table p k (reply_of (kind_event V.table p step k mark) (present V)) mark)
      (event_in (kind_role V.table p k (reply_of (kind_event V.table p step k mark) (present V)) mark) (kind_event V.table p step k mark)) V
      → Fits (kind_role V.table p k (reply_of (kind_event V.table p step k mark) (present V)) mark)
      (event_in (kind_role V.table p k (reply_of (kind_event V.table p step k mark) (present V)) mark) (kind_event V.table p step k mark)) p V
      → Formed V (kind_role V.table p k (reply_of (kind_event V.table p step k mark) (present V)) mark)
      (event_in (kind_role V.table p k (reply_of (kind_event V.table p step k mark) (present V)) mark) (kind_event V.table p step k mark)) p
  kind_formed p step runs turn left Ordinary f None e passes fits = outside_by (Do step None) p passes fits (turn None)
  kind_formed p step runs turn left Ordinary f (Some m) e passes fits =
      ordinary_by p m e (Do step (inside_by V.table (Some m))) (says_ended (reply_of (Do step (inside_by V.table (Some m))) (present V)))
      (sym (reply_ends (Do step (inside_by V.table (Some m))) (present V))) passes fits (turn (inside_by V.table (Some m)))
  kind_formed p step runs turn left (Forking c) f None e passes fits = outside_by (Do step None) p passes fits (turn None)
  kind_formed p step runs turn left (Forking c) f (Some m) e passes fits =
      forks_formed p m e c (Do step (inside_by V.table (Some m))) passes fits (f (inside_by V.table (Some m)))
  kind_formed p step runs turn left (Beginning defers) f None e passes fits = begins_formed p defers e runs passes fits (note_turn None p p (pos 0))
  kind_formed p step runs turn left (Beginning defers) f (Some m) e passes fits =
      continues_formed p m e (Note p (negsuc 21)) passes fits goes (note_turn (Some (inner p m e)) p p (negsuc 21))
    where
      goes : concludes_ended (effect (Note p (negsuc 21)) (present V)).conclusion ≡ false
      goes = note_goes p (negsuc 21) (present V)
  kind_formed p step runs turn left Leaving f None e passes fits = outside_by (Note p (negsuc 21)) p passes fits (note_turn None p p (negsuc 21))
  kind_formed p step runs turn left Leaving f (Some m) e passes fits =
      ends_by p m e (Note p (pos 0)) (others_open V.table m.starter.0 p V.table.width) passes fits (note_turn (Some (inner p m e)) p p (pos 0))
  kind_formed p step runs turn left Aborting f None e passes fits = outside_by (Note p (negsuc 21)) p passes fits (note_turn None p p (negsuc 21))
  kind_formed p step runs turn left Aborting f (Some m) e passes fits = aborts_by m.starter.0 (negative called_by_status) p called_by_status (left m.starter.0) passes fits
