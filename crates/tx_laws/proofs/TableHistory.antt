-- The live transactions of every lawful history are so.
use Rattle.std.proofs.Common.{◌≡◌, ℕ, Bool, true, false, not, List, [], ◌∷◌, ℤ, Option, Some, None, ◌==◌, refl, sym, ◌∙◌, subst, inl, inr, eq-eqb, eqb-true}
use Rattle.std.proofs.lemmas.Bool.{both_ways, cases_Bool}
use Rattle.tx_base.specs.declared.names.Pid.{Pid}
use Rattle.tx_base.specs.declared.steps.Accepted.{Accepted}
use Rattle.tx_base.specs.declared.steps.Call.{Call}
use Rattle.tx_base.specs.declared.steps.Call.TheVariants as call
use Rattle.tx_base.specs.declared.steps.Refusal.TheVariants.{NoProcess, NotRunning, BadNumber, NumberTaken}
use Rattle.tx_base.specs.declared.steps.Step.{Step}
use Rattle.tx_base.specs.declared.steps.Step.TheVariants.{Call as Calls, Deliver, KernelAbort}
use Rattle.tx_model.specs.State.{Process, State, with_writes, Object, Held, has_object, has_parent}
use Rattle.tx_model.specs.Numbers.{negative}
use Rattle.tx_model.specs.Effects.{Inside}
use Rattle.tx_model.specs.Book.{page_of_call}
use Rattle.tx_model.specs.Events.{Event, Note, process_of, actor, effect, objects, after, run, effect_at}
use Rattle.tx_model.specs.Membership.{is_member_of, is_live, Role, Outside, Within, Commits, Aborts, Ordinary, table_after}
use Rattle.tx_model.specs.BookLaws.{runs_as}
use Rattle.tx_model.specs.Words.{kind_of, IsClear, after_if, has_bad_number, has_number_in_use, next_by, starters_with, starters_without}
use Rattle.tx_model.specs.History.{Starters, nobody, just, table_of, survivors, without}
use Rattle.tx_model.specs.View.{View, view, present, kernel_status, role_on, event_on, next}
use Rattle.tx_model.specs.Answer.{is_running, is_there, refusal, accepted_reply, answer, IsAccepted, Lawful}
use Rattle.tx_laws.specs.Sound.{IsSound}
use Rattle.tx_laws.specs.Fits.{IsQuiet, Fits, Passes}
use Rattle.tx_laws.specs.WellFormed.{IsWellFormed}
use Rattle.tx_laws.specs.WellFormedTable.{IsWellFormedWith, IsWellFormedView}
use Rattle.tx_laws.proofs.Local.{objects_same}
use Rattle.tx_laws.proofs.Coherence.{quiet_objects, outside_quiet, commits_quiet, sound_by}
use Rattle.tx_laws.proofs.Tables.{of_unique, of_unmarked}
use Rattle.tx_laws.proofs.Taken.{if_none, IsUnrefused, unrefused, unless_accepted}
use Rattle.tx_laws.proofs.Erased.{lawful_sound, lawful_next}
use Rattle.tx_laws.proofs.StepView.{IsFitting, fitting}
use Rattle.tx_laws.proofs.FormHistory.{history_form}
use Rattle.tx_laws.proofs.WithinSets.{false_unless}
use Rattle.tx_laws.proofs.OfPages.{none_there}
use Rattle.tx_laws.proofs.Turns.{GrowsBy, step_turn, forks_by}
use Rattle.tx_laws.proofs.KeepsTable.{after_holds, other_part, unreserved}
use Rattle.tx_laws.proofs.KeepsView.{ForksNow, kind_formed, aborts_by}
use Rattle.tx_laws.proofs.OfActs.{runs_some}

note_held : (p : ℕ) (r : ℤ) (S : State) (u : ℕ) → (after (Note p r) S).held u ≡ S.held u
unfolding effect with_writes
note_held p r S u = after_holds (Note p r) S u

-- a number that is chosen is free
free_number : (V : View) (p : ℕ) (step : Step) → refusal V p step ≡ None → has_number_in_use (present V) step ≡ false
free_number V p step h =
    let a = if_none (not (is_there V p)) NoProcess _ h in
    let b = if_none (not (is_running ((present V).procs p))) NotRunning _ a.1 in
    let c = if_none (has_bad_number V.table.width step) BadNumber _ b.1 in
    let d = if_none (has_number_in_use (present V) step) NumberTaken _ c.1 in
    d.0

-- no process is its own parent
pub not_own : (S : State) (p : ℕ) → IsWellFormed S → has_parent p (S.procs p) ≡ false
not_own S p w = by (S.procs p) refl
  where
    by : (x : Option Process) → S.procs p ≡ x → has_parent p x ≡ false
    by None e = refl
    by (Some q) e = false_unless (q.parent == p) (λ h. (w.placed p q e).other (eqb-true q.parent p h))

-- a process that runs and forks makes its child
module _ (S : State) (w : IsWellFormed S) (inside : Option Inside) (p : ℕ) (child : Pid) (free : S.procs child.0 ≡ None) where
  fork_grows : is_running (S.procs p) ≡ true → GrowsBy p child.0 S (effect_at inside p (page_of_call (call.Fork child)) S)
  fork_grows h =
      let r = runs_some (S.procs p) h in
      subst (GrowsBy p child.0 S) (sym (runs_as inside p (page_of_call (call.Fork child)) S r.0 r.1 r.2)) (forks_by inside S p r.0 r.1 r.2 (not_own S p w) child.0 free)

module _ (V : View) (sound : IsSound V) (kept : IsWellFormedView V) (form : IsWellFormed (present V)) where
  forks_now : (pid : Pid) (c : Call) → is_running ((present V).procs pid.0) ≡ true → has_number_in_use (present V) (Calls pid c) ≡ false
      → ForksNow V sound kept.formed form pid.0 (Calls pid c) (kind_of c)
  unfolding effect
  forks_now pid (call.Fork child) runs free = λ inside.
      fork_grows (present V) form inside pid.0 child (none_there ((present V).procs child.0) free) runs
  forks_now pid call.SysXbegin runs free = tt
  forks_now pid call.SysXbeginDefer runs free = tt
  forks_now pid call.SysXend runs free = tt
  forks_now pid call.SysXabort runs free = tt
  forks_now pid c runs free = tt

  next_formed : (step : Step) → IsAccepted (answer V step) → IsWellFormedWith (next V step).table (present (next V step))
  unfolding next answer effect
  next_formed (Calls pid c) a =
      let step : Step = Calls pid c in
      let z = unless_accepted (refusal V pid.0 step) (accepted_reply V step) _ refl a in
      let u : IsUnrefused V pid.0 step = unrefused V pid.0 step z.0 in
      let f : IsFitting V step = fitting V step sound a in
      kind_formed V sound kept.formed form pid.0 step u.running (λ inside. step_turn inside (present V) step (not_own (present V) pid.0 form)) kept.left (kind_of c)
      (forks_now pid c u.running (free_number V pid.0 step z.0)) (V.table.marks pid.0) refl f.passes f.fits
  next_formed (Deliver pid signo) a =
      let step : Step = Deliver pid signo in
      let z = unless_accepted (refusal V pid.0 step) (accepted_reply V step) _ refl a in
      let u : IsUnrefused V pid.0 step = unrefused V pid.0 step z.0 in
      let f : IsFitting V step = fitting V step sound a in
      kind_formed V sound kept.formed form pid.0 step u.running (λ inside. step_turn inside (present V) step (not_own (present V) pid.0 form)) kept.left Ordinary tt
      (V.table.marks pid.0) refl f.passes f.fits
  next_formed (KernelAbort s) a =
      let f : IsFitting V (KernelAbort s) = fitting V (KernelAbort s) sound a in
      aborts_by V sound kept.formed form s.0 (negative (kernel_status V s.0)) s.0 (kernel_status V s.0) (kept.left s.0) f.passes f.fits

  -- what a number holds, where its transaction is left out
  quiet_held : (ev : Event) → IsClear V ev → (X : Starters) → IsQuiet V ev X → (u : ℕ) → is_live V.table u ≡ true → is_member_of V.table u (actor ev) ≡ false
      → (after ev (V.without X)).held u ≡ (V.without X).held u
  quiet_held ev clear X quiet u live out =
      after_holds ev (V.without X) u
      ∙ (other_part ev (V.without X) (Held u)
      (subst (λ (os : List Object). has_object (Held u) os ≡ false) (objects_same ev (present V) (V.without X) (quiet_objects V ev sound clear X quiet))
      (unreserved V sound kept.formed ev clear (Held u) u (sound.own_held u live) out))).equal

  -- two sets that leave out this number alike
  alike : (X Y : Starters) (u : ℕ) → X u ≡ Y u → (V.without X).held u ≡ (V.without Y).held u
  alike X Y u same = (sound.coherent X Y (Held u) (λ v z. subst (λ (n : ℕ). X n ≡ Y n) (sym (sound.held_own v u z)) same)).equal

  self : (u : ℕ) → just u u ≡ true
  self u = eq-eqb u u refl

  left_live : (r : Role) (ev : Event) (p : ℕ) → Passes r ev V → Fits r ev p V → (u : ℕ) → is_live (table_after r p V.table) u ≡ true
      → ((next_by r ev p V).without (just u)).held u ≡ []
  left_live Outside ev p passes fits u live = quiet_held ev passes (just u) (outside_quiet V ev fits (just u)) u live (fits u) ∙ kept.left u
  left_live (Within s part) ev p passes fits u live = by (s == u) refl
    where
      by : (b : Bool) → (s == u) ≡ b → (after_if (not b) ev (V.without (just u))).held u ≡ []
      by true e = kept.left u
      by false e =
          let no : has_object (Held u) (objects ev (V.without (just u))) ≡ false =
          false_unless (has_object (Held u) (objects ev (V.without (just u)))) (λ h. both_ways (s == u) e (eq-eqb s u (sym (fits.holds (V.without (just u)) u h)))) in
          after_holds ev (V.without (just u)) u ∙ (other_part ev (V.without (just u)) (Held u) no).equal ∙ kept.left u
  left_live (Commits s) ev p passes fits u live = by (u == s) refl
    where
      by : (b : Bool) → (u == s) ≡ b → ((next_by (Commits s) ev p V).without (just u)).held u ≡ []
      by true e =
          let gone : is_live (table_after (Commits s) p V.table) u ≡ false = of_unmarked u s (V.table.marks u) ∙ rw e refl in
          absurd (both_ways (is_live (table_after (Commits s) p V.table) u) gone live)
      by false e =
          let was : is_live V.table u ≡ true = sym (of_unmarked u s (V.table.marks u) ∙ rw e refl) ∙ live in
          let out : is_member_of V.table u (actor ev) ≡ false =
          false_unless (is_member_of V.table u (actor ev)) (λ h. both_ways (u == s) e (eq-eqb u s (of_unique u s (V.table.marks (actor ev)) h fits))) in
          let same : starters_without s (just u) u ≡ just u u = rw e refl in
          quiet_held ev passes (starters_without s (just u)) (commits_quiet V ev s fits (just u)) u was out ∙ alike (starters_without s (just u)) (just u) u same ∙ kept.left u
  left_live (Aborts s k) ev p passes fits u live =
      subst (λ (x : Event). (after x (V.without (starters_with s (just u)))).held u ≡ []) (sym fits.1.1) (note_left fits.1.0)
    where
      same : starters_with s (just u) u ≡ just u u
      same = elim (cases_Bool (u == s)) [ inl e ↦ rw (e, self u) refl | inr e ↦ rw e refl ]

      note_left : (r : ℤ) → (after (Note s r) (V.without (starters_with s (just u)))).held u ≡ []
      note_left r = note_held s r (V.without (starters_with s (just u))) u ∙ alike (starters_with s (just u)) (just u) u same ∙ kept.left u

  left_by : (r : Role) (ev : Event) (p : ℕ) → Passes r ev V → Fits r ev p V → IsWellFormedWith (table_after r p V.table) (present (next_by r ev p V)) → (u : ℕ)
      → ((next_by r ev p V).without (just u)).held u ≡ []
  left_by r ev p passes fits formed u = elim (cases_Bool (is_live (table_after r p V.table) u)) [
    | inl live ↦ left_live r ev p passes fits u live
    | inr dead ↦
        let now : IsSound (next_by r ev p V) = sound_by r V ev p sound passes fits in
        (now.coherent (just u) nobody (Held u) (λ v z.
        absurd (both_ways (is_live (table_after r p V.table) u) dead (subst (λ (n : ℕ). is_live (table_after r p V.table) n ≡ true) (now.held_own v u z) (now.owned_live v (Held u) z))))).equal
        ∙ formed.others u dead
  ]

  pub next_kept : (step : Step) → IsAccepted (answer V step) → IsWellFormedView (next V step)
  unfolding next
  next_kept step a =
      let f : IsFitting V step = fitting V step sound a in
      let formed : IsWellFormedWith (next V step).table (present (next V step)) = next_formed step a in
      record { formed = formed; left = left_by (role_on V step) (event_on V step) (process_of step) f.passes f.fits formed }

-- the view of the empty history
pub start_kept : (S : State) → ((s : ℕ) → S.held s ≡ []) → IsWellFormedView (view S [])
unfolding view without survivors run table_of
start_kept S none = record { formed = record { live = λ s h. cc; members = λ s p h. cc; others = λ s h. none s }; left = none }

pub present_form : (S : State) (h : List Accepted) → IsWellFormed S → Lawful S h → IsWellFormed (present (view S h))
unfolding view
present_form S h w l = history_form S h w l nobody

pub history_kept : (S : State) (h : List Accepted) → IsWellFormed S → ((s : ℕ) → S.held s ≡ []) → Lawful S h → IsWellFormedView (view S h)
unfolding Lawful
history_kept S [] w none l = start_kept S none
history_kept S (e ∷ h) w none l =
    let a : IsAccepted (answer (view S h) e.step) = subst IsAccepted (sym l.1) l.2 in
    subst IsWellFormedView (sym (lawful_next S e h l))
    (next_kept (view S h) (lawful_sound S h l.0) (history_kept S h w none l.0) (present_form S h w l.0) e.step a)

pub table_kept : (S : State) (h : List Accepted) → IsWellFormed S → ((s : ℕ) → S.held s ≡ []) → Lawful S h → IsWellFormedWith (table_of S h) (without S nobody h)
unfolding view
table_kept S h w none l = (history_kept S h w none l).formed
