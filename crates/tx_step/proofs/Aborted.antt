-- An abort that was made is a step, of a member or of the kernel.
use Rattle.std.proofs.Common.{◌≡◌, ℕ, ℤ, pos, ◌-ℤ◌, of_z, to_z, w64, Bool, true, false, Option, Some, None, is_some, option_map, if◌then◌else◌, IsSome, refl, sym, ap, subst, ◌∙◌, eq-eqb}
use Rattle.tx_base.specs.Slots.{slot_at}
use Rattle.tx_base.specs.declared.marks.Mark.{Mark}
use Rattle.tx_base.specs.declared.names.Pid.{Pid}
use Rattle.tx_base.specs.declared.steps.Reply.{Reply}
use Rattle.tx_base.specs.declared.steps.Reply.TheVariants.{Aborted, No}
use Rattle.tx_base.specs.declared.steps.Refusal.TheVariants.{NoTransaction}
use Rattle.tx_base.specs.declared.steps.Step.{Step}
use Rattle.tx_base.specs.declared.steps.Step.TheVariants.{Call as Calls, Deliver, KernelAbort}
use Rattle.tx_step.specs.Contents.{IsContent}
use Rattle.tx_step.specs.declared.roles.StepRole.TheVariants as the
use Rattle.tx_laws.specs.TwoStates.{states_view}
use Rattle.tx_content.specs.Content.{content_of, txn_of, view_of}
use Rattle.tx_content.specs.Made.{IsMade}
use Rattle.tx_content.specs.declared.content.BoxedTxn.{BoxedTxn}
use Rattle.tx_content.specs.declared.content.Content.{Content}
use Rattle.tx_content.specs.declared.inverse.Inverse.{Inverse}
use Rattle.tx_model.specs.Answer.{answer}
use Rattle.tx_model.specs.Events.{Note, process_of}
use Rattle.tx_model.specs.Membership.{Kind, Ordinary, Forking, Beginning, Leaving, Aborting, Role, Outside, Within, Commits, Aborts, Table, event_in, is_live, is_of, kind_event, others_open, says_ended}
use Rattle.tx_model.specs.Words.{called_by_status, kind_of, kind_role, member_end_role, ordinary_role}
use Rattle.tx_model.specs.Numbers.{negative}
use Rattle.tx_model.specs.SignalSets.{is_in_set, kill_signo}
use Rattle.tx_model.specs.View.{View, event_on, first_reply, is_doomed, kernel_status, role_on}
use Rattle.tx_step.proofs.Taken.{answered, stepped}
use Rattle.tx_step.specs.Requests.{step_of}
use Rattle.tx_step.specs.Laws.{StepLaws}
use Rattle.tx_step.specs.Steps.{IsStep}
use Rattle.tx_step.specs.Through.{IsLetThrough}
use Rattle.tx_step.specs.declared.request.Request.{Request}
use Rattle.tx_step.specs.declared.request.Request.TheVariants.{Call, Delivery}
use Rattle.tx_txn.specs.Content.{IsKept}
use Rattle.tx_txn.specs.Marks.{table_at}

-- the starter whose transaction a step of this role aborts
aborted : Role → Option ℕ
aborted Outside = None
aborted (Within s part) = None
aborted (Commits s) = None
aborted (Aborts s status) = Some s

end_aborts : (b : Bool) (s : ℕ) → aborted (member_end_role b s) ≡ None
unfolding aborted
end_aborts true s = refl
end_aborts false s = refl

ordinary_aborts : (b : Bool) (t : Table) (s p : ℕ) → aborted (ordinary_role b t s p) ≡ None
unfolding aborted
ordinary_aborts true t s p = end_aborts (others_open t s p t.width) s
ordinary_aborts false t s p = refl

-- a call that aborts a transaction is of a member of it, and its event is the note to the starter
kind_aborts : (t : Table) (p : ℕ) (step : Step) (kind : Kind) (r : Reply) (mark : Option Mark) (s : ℕ) → aborted (kind_role t p kind r mark) ≡ Some s →
    (is_of s mark ≡ true) × (kind_event t p step kind mark ≡ Note s (negative called_by_status))
unfolding aborted
kind_aborts t p step Ordinary r None s e = cc
kind_aborts t p step Ordinary r (Some m) s e = let clash : None ≡ Some s = sym (ordinary_aborts (says_ended r) t m.starter.0 p) ∙ e in cc
kind_aborts t p step (Forking child) r None s e = cc
kind_aborts t p step (Forking child) r (Some m) s e = cc
kind_aborts t p step (Beginning defers) r None s e = cc
kind_aborts t p step (Beginning defers) r (Some m) s e = cc
kind_aborts t p step Leaving r None s e = cc
kind_aborts t p step Leaving r (Some m) s e = let clash : None ≡ Some s = sym (end_aborts (others_open t m.starter.0 p t.width) m.starter.0) ∙ e in cc
kind_aborts t p step Aborting r None s e = cc
kind_aborts t p step Aborting r (Some m) s e = let same : m.starter.0 ≡ s = cc in (eq-eqb m.starter.0 s same, ap (λ (n : ℕ). Note n (negative called_by_status)) same)

-- and so is a step
abort_told : (V : View) (pid : Pid) (request : Request) (s status : ℕ) → role_on V (step_of pid request) ≡ Aborts s status →
    (is_of s (V.table.marks pid.0) ≡ true) × (event_on V (step_of pid request) ≡ Note s (negative called_by_status))
unfolding aborted
abort_told V pid (Call call) s status is =
    let told = kind_aborts V.table pid.0 (Calls pid call.now) (kind_of call.now) (first_reply V (Calls pid call.now)) (V.table.marks pid.0) s (ap aborted is) in
    (told.0, ap (λ (r : Role). event_in r (kind_event V.table pid.0 (Calls pid call.now) (kind_of call.now) (V.table.marks pid.0))) is ∙ told.1)
abort_told V pid (Delivery signo) s status is =
    let told = kind_aborts V.table pid.0 (Deliver pid signo) Ordinary (first_reply V (Deliver pid signo)) (V.table.marks pid.0) s (ap aborted is) in
    (told.0, ap (λ (r : Role). event_in r (kind_event V.table pid.0 (Deliver pid signo) Ordinary (V.table.marks pid.0))) is ∙ told.1)

-- a starter that is live has a transaction
pub live_txn : (k : Content) → IsKept (content_of k) → (s : ℕ) → is_live (table_at k.marks) s ≡ true → IsSome (slot_at k.txns s)
live_txn k kept s live = by (slot_at k.txns s) (kept.live s ∙ live)
  where
    by : (slot : Option BoxedTxn) → is_some (option_map txn_of slot) ≡ true → IsSome slot
    by None e = e
    by (Some boxed) e = refl

-- and a starter that has one is live
pub txn_live : (k : Content) → IsKept (content_of k) → (s : ℕ) → IsSome (slot_at k.txns s) → is_live (view_of k).table s ≡ true
unfolding view_of states_view
txn_live k kept s there = sym (kept.live s) ∙ by (slot_at k.txns s) there
  where
    by : (slot : Option BoxedTxn) → IsSome slot → is_some (option_map txn_of slot) ≡ true
    by None e = e
    by (Some boxed) e = refl

-- where there is none its starter is not live
pub none_live : (k : Content) → IsKept (content_of k) → (s : ℕ) → None ≡ slot_at k.txns s → is_live (view_of k).table s ≡ true → ⊥
unfolding view_of states_view
none_live k kept s none live = let clash : false ≡ true = subst IsSome (sym none) (live_txn k kept s live) in cc

-- a number as the negative of the machine's
abbrev pub negated : ℤ → ℤ
negated r = to_z w64 (of_z w64 (pos 0 -ℤ to_z w64 (of_z w64 r)))

module _ (laws : StepLaws) (k : Content) (is : IsContent k) where
  module _ (pid starter : Pid) (request : Request) (through : IsLetThrough k pid request (the.Aborts starter)) where
    told : (is_of starter.0 (slot_at k.marks pid.0) ≡ true) × (event_on (view_of k) (step_of pid request) ≡ Note starter.0 (negative called_by_status))
    unfolding view_of states_view
    told = abort_told (view_of k) pid request starter.0 called_by_status (sym through.is)

    -- its transaction is there
    pub called_live : IsSome (slot_at k.txns starter.0)
    unfolding view_of states_view
    called_live = live_txn k is.kept starter.0 (is.view.formed.members starter.0 pid.0 told.0)

    -- an abort by a member is a step
    pub called_step : (ret : ℤ) → ret ≡ negative called_by_status → (new : Content) (inverse : Inverse) →
        ((process : ℕ) → IsMade k (Aborts starter.0 called_by_status) (Note starter.0 ret) process new inverse) → IsStep k (step_of pid request) (Aborted called_by_status) inverse new
    called_step ret is_ret new inverse made =
        stepped laws k is (step_of pid request) (Aborts starter.0 called_by_status) (Note starter.0 (negative called_by_status)) (sym through.is) told.1 (Aborted called_by_status)
        (answered laws k is pid request (the.Aborts starter) through (Aborts starter.0 called_by_status) (Note starter.0 (negative called_by_status)) (sym through.is) told.1) tt
        (λ no_abort. cc) new inverse
        (λ fits. subst (λ (r : ℤ). IsMade k (Aborts starter.0 called_by_status) (Note starter.0 r) (process_of (step_of pid request)) new inverse) is_ret (made (process_of (step_of pid request))))

  -- an abort by the kernel is a step
  pub kernel_step : (starter : Pid) (status : ℕ) → is_live (view_of k).table starter.0 ≡ true → kernel_status (view_of k) starter.0 ≡ status →
      (new : Content) (inverse : Inverse) → IsMade k (Aborts starter.0 status) (Note starter.0 (negative status)) starter.0 new inverse →
      IsStep k (KernelAbort starter) (Aborted status) inverse new
  unfolding answer
  kernel_step starter status live same new inverse made =
      stepped laws k is (KernelAbort starter) (Aborts starter.0 status) (Note starter.0 (negative status)) (ap (Aborts starter.0) same) (ap (λ (n : ℕ). Note starter.0 (negative n)) same) (Aborted status)
      (λ j. if live j then Aborted (same j) else No NoTransaction) tt (λ no_abort. cc) new inverse (λ fits. made)

  -- whether its transaction is doomed, what is kept pending at its starter tells
  doom_seen : (s : ℕ) (boxed : BoxedTxn) → slot_at k.txns s ≡ Some boxed → is_doomed (view_of k) s ≡ is_in_set boxed.txn.value.kept.pending.standard kill_signo
  unfolding view_of
  doom_seen s boxed there = laws.doom (content_of k) s (txn_of boxed) is.kept (ap (option_map txn_of) there)

  -- and so it tells the status of the kernel's abort
  pub status_seen : (s : ℕ) (boxed : BoxedTxn) → slot_at k.txns s ≡ Some boxed → (doomed : Bool) → doomed ≡ is_in_set boxed.txn.value.kept.pending.standard kill_signo →
      (if doomed then 203 else 202) ≡ kernel_status (view_of k) s
  status_seen s boxed there doomed is_doom = ap (λ (b : Bool). if b then 203 else 202) (is_doom ∙ sym (doom_seen s boxed there))

  status_negates : (doomed : Bool) → negated (pos (if doomed then 203 else 202)) ≡ negative (if doomed then 203 else 202)
  status_negates true = refl
  status_negates false = refl

  -- the kernel's abort with that status is a step
  pub kernel_taken : (starter : Pid) (status : ℕ) → status ≡ kernel_status (view_of k) starter.0 → is_live (view_of k).table starter.0 ≡ true → (ret : ℤ) → ret ≡ pos status →
      (new : Content) (inverse : Inverse) → IsMade k (Aborts starter.0 status) (Note starter.0 (negated ret)) starter.0 new inverse → IsStep k (KernelAbort starter) (Aborted status) inverse new
  kernel_taken starter status is_status live ret is_ret new inverse made =
      let answered : negated ret ≡ negative status = ap negated (is_ret ∙ ap pos is_status) ∙ status_negates (is_doomed (view_of k) starter.0) ∙ sym (ap negative is_status) in
      kernel_step starter status live (sym is_status) new inverse (subst (λ (r : ℤ). IsMade k (Aborts starter.0 status) (Note starter.0 r) starter.0 new inverse) answered made)
