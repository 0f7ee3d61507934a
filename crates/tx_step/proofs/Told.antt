-- What a step of a process is to the transactions, and its event, by the kind of its request and by the process's mark.
use Rattle.std.proofs.Common.{◌≡◌, ℕ, Bool, true, false, Option, Some, None, refl, sym, ap, subst, ◌∙◌}
use Rattle.tx_base.specs.Slots.{slot_at}
use Rattle.tx_base.specs.declared.marks.Mark.{Mark}
use Rattle.tx_base.specs.declared.names.Pid.{Pid}
use Rattle.tx_base.specs.declared.steps.Reply.{Reply}
use Rattle.tx_base.specs.declared.steps.Step.{Step}
use Rattle.tx_kernel.specs.Acts.{choice_of, event_of}
use Rattle.tx_kernel.specs.declared.events.Act.{Act}
use Rattle.tx_kernel.specs.declared.events.Act.TheVariants as act
use Rattle.tx_laws.specs.TwoStates.{states_view}
use Rattle.tx_content.specs.Content.{view_of}
use Rattle.tx_content.specs.HeldPosts.{IsEnd}
use Rattle.tx_content.specs.Progresses.{part_of}
use Rattle.tx_content.specs.declared.content.Content.{Content}
use Rattle.tx_content.specs.declared.marking.Progress.{Progress as TheProgress}
use Rattle.tx_content.specs.declared.marking.Progress.TheVariants as the
use Rattle.tx_model.specs.Effects.{Inside}
use Rattle.tx_model.specs.Events.{Event, Do, actor, reply_of}
use Rattle.tx_model.specs.Membership.{Table, Progress, Role, Outside, Within, Commits, Begins, Kind, Ordinary, Forking, Beginning, Leaving, Aborting, event_in, inside_by, kind_event, others_open, says_ended, step_event}
use Rattle.tx_model.specs.Answer.{is_bad_choice}
use Rattle.tx_model.specs.Words.{has_bad_number, kind_role, member_end_role, ordinary_role}
use Rattle.tx_model.specs.State.{State}
use Rattle.tx_model.specs.View.{event_on, first_reply, present, role_on}
use Rattle.tx_step.specs.Requests.{is_own, kind_requested, step_of}
use Rattle.tx_step.specs.declared.request.Request.{Request}
use Rattle.tx_step.specs.declared.request.Request.TheVariants.{Call, Delivery}
use Rattle.tx_txn.specs.Marks.{table_at}

-- the mark is one of the transaction of s
pub record OfMember (mark : Option Mark) (s : ℕ) : Type 0 where
  pub m : Mark
  pub is : mark ≡ Some m
  pub starter : m.starter.0 ≡ s

-- the end of a member's part is a step inside, or commits
end_not_outside : (b : Bool) (s : ℕ) → member_end_role b s ≡ Outside → ⊥
end_not_outside true s e = cc
end_not_outside false s e = cc

own_not_outside : (b : Bool) (t : Table) (s p : ℕ) → ordinary_role b t s p ≡ Outside → ⊥
own_not_outside true t s p e = end_not_outside (others_open t s p t.width) s e
own_not_outside false t s p e = cc

-- a step outside is of a process without mark, and begins nothing
pub outside_kind : (t : Table) (p : ℕ) (kind : Kind) (r : Reply) (mark : Option Mark) → kind_role t p kind r mark ≡ Outside → (mark ≡ None) × (is_own kind false ≡ true)
outside_kind t p Ordinary r None e = (refl, refl)
outside_kind t p (Forking c) r None e = (refl, refl)
outside_kind t p (Beginning d) r None e = cc
outside_kind t p Leaving r None e = (refl, refl)
outside_kind t p Aborting r None e = (refl, refl)
outside_kind t p Ordinary r (Some m) e = absurd (own_not_outside (says_ended r) t m.starter.0 p e)
outside_kind t p (Forking c) r (Some m) e = cc
outside_kind t p (Beginning d) r (Some m) e = cc
outside_kind t p Leaving r (Some m) e = absurd (end_not_outside (others_open t m.starter.0 p t.width) m.starter.0 e)
outside_kind t p Aborting r (Some m) e = cc

within_same : (a b : ℕ) (x y : Progress) → Within a x ≡ Within b y → a ≡ b
within_same a b x y e = cc

end_same : (b : Bool) (a s : ℕ) (x : Progress) → member_end_role b a ≡ Within s x → a ≡ s
end_same true a s x e = cc
end_same false a s x e = cc

own_same : (b : Bool) (t : Table) (a p s : ℕ) (x : Progress) → ordinary_role b t a p ≡ Within s x → a ≡ s
own_same true t a p s x e = end_same (others_open t a p t.width) a s x e
own_same false t a p s x e = cc

-- what goes on in a transaction does not begin it
goes_on : (progress : TheProgress) (defers : Bool) (p s : ℕ) → Within p (Begins defers) ≡ Within s (part_of progress) → ⊥
goes_on the.Continues defers p s e = cc
goes_on the.Parks defers p s e = cc
goes_on (the.Forks child) defers p s e = cc

-- a step inside is of a member
pub within_kind : (t : Table) (p s : ℕ) (kind : Kind) (r : Reply) (mark : Option Mark) (progress : TheProgress) → kind_role t p kind r mark ≡ Within s (part_of progress) →
    OfMember mark s × (is_own kind true ≡ true)
within_kind t p s Ordinary r None progress e = cc
within_kind t p s (Forking c) r None progress e = cc
within_kind t p s (Beginning d) r None progress e = absurd (goes_on progress d p s e)
within_kind t p s Leaving r None progress e = cc
within_kind t p s Aborting r None progress e = cc
within_kind t p s Ordinary r (Some m) progress e = (record { m = m; is = refl; starter = own_same (says_ended r) t m.starter.0 p s (part_of progress) e }, refl)
within_kind t p s (Forking c) r (Some m) progress e = (record { m = m; is = refl; starter = cc }, refl)
within_kind t p s (Beginning d) r (Some m) progress e = (record { m = m; is = refl; starter = cc }, refl)
within_kind t p s Leaving r (Some m) progress e = (record { m = m; is = refl; starter = end_same (others_open t m.starter.0 p t.width) m.starter.0 s (part_of progress) e }, refl)
within_kind t p s Aborting r (Some m) progress e = cc

end_commits : (b : Bool) (a s : ℕ) → member_end_role b a ≡ Commits s → a ≡ s
end_commits true a s e = cc
end_commits false a s e = cc

own_commits : (b : Bool) (t : Table) (a p s : ℕ) → ordinary_role b t a p ≡ Commits s → (a ≡ s) × (b ≡ true)
own_commits true t a p s e = (end_commits (others_open t a p t.width) a s e, refl)
own_commits false t a p s e = cc

-- a step that commits is of a member
pub commits_kind : (t : Table) (p s : ℕ) (kind : Kind) (r : Reply) (mark : Option Mark) → kind_role t p kind r mark ≡ Commits s → OfMember mark s × (is_own kind true ≡ true)
commits_kind t p s Ordinary r None e = cc
commits_kind t p s (Forking c) r None e = cc
commits_kind t p s (Beginning d) r None e = cc
commits_kind t p s Leaving r None e = cc
commits_kind t p s Aborting r None e = cc
commits_kind t p s Ordinary r (Some m) e = (record { m = m; is = refl; starter = (own_commits (says_ended r) t m.starter.0 p s e).0 }, refl)
commits_kind t p s (Forking c) r (Some m) e = cc
commits_kind t p s (Beginning d) r (Some m) e = cc
commits_kind t p s Leaving r (Some m) e = (record { m = m; is = refl; starter = end_commits (others_open t m.starter.0 p t.width) m.starter.0 s e }, refl)
commits_kind t p s Aborting r (Some m) e = cc

-- and its event ends the part of its process
pub commits_end : (t : Table) (p s : ℕ) (step : Step) (kind : Kind) (mark : Option Mark) (S : State) →
    kind_role t p kind (reply_of (kind_event t p step kind mark) S) mark ≡ Commits s → IsEnd (kind_event t p step kind mark) S
commits_end t p s step Ordinary None S e = cc
commits_end t p s step (Forking c) None S e = cc
commits_end t p s step (Beginning d) None S e = tt
commits_end t p s step Leaving None S e = tt
commits_end t p s step Aborting None S e = tt
commits_end t p s step Ordinary (Some m) S e = (own_commits (says_ended (reply_of (Do step (inside_by t (Some m))) S)) t m.starter.0 p s e).1
commits_end t p s step (Forking c) (Some m) S e = cc
commits_end t p s step (Beginning d) (Some m) S e = tt
commits_end t p s step Leaving (Some m) S e = tt
commits_end t p s step Aborting (Some m) S e = tt

-- who makes an act of a process is the process
pub act_actor : (inside : Option Inside) (pid : Pid) (act : Act) → actor (event_of inside pid act) ≡ pid.0
act_actor inside pid (act.Call call) = refl
act_actor inside pid (act.Delivery signo) = refl
act_actor inside pid (act.Answer ret) = refl

module _ (k : Content) (pid : Pid) where
  -- what the step is to the transactions
  pub role_told : (request : Request) →
      role_on (view_of k) (step_of pid request) ≡ kind_role (table_at k.marks) pid.0 (kind_requested request) (first_reply (view_of k) (step_of pid request)) (slot_at k.marks pid.0)
  unfolding view_of states_view
  role_told (Call call) = refl
  role_told (Delivery signo) = refl

  -- its event, in each role
  pub event_told : (request : Request) (R : Role) (r : Reply) → R ≡ role_on (view_of k) (step_of pid request) →
      event_on (view_of k) (step_of pid request) ≡ event_in R (step_event (table_at k.marks) (step_of pid request) r)
  unfolding view_of states_view
  event_told (Call call) R r is = ap (λ (x : Role). event_in x (kind_event (table_at k.marks) pid.0 (step_of pid (Call call)) (kind_requested (Call call)) (slot_at k.marks pid.0))) (sym is)
  event_told (Delivery signo) R r is = ap (λ (x : Role). event_in x (kind_event (table_at k.marks) pid.0 (step_of pid (Delivery signo)) Ordinary (slot_at k.marks pid.0))) (sym is)

  step_told : (request : Request) (r : Reply) → step_event (table_at k.marks) (step_of pid request) r ≡ kind_event (table_at k.marks) pid.0 (step_of pid request) (kind_requested request) (slot_at k.marks pid.0)
  step_told (Call call) r = refl
  step_told (Delivery signo) r = refl

  -- what chooses good numbers does so as an event
  pub good_choice : (width : ℕ) (request : Request) (r : Reply) → has_bad_number width (step_of pid request) ≡ false →
      is_bad_choice width (choice_of (step_event (table_at k.marks) (step_of pid request) r)) ≡ false
  good_choice width request r good =
      ap (λ (E : Event). is_bad_choice width (choice_of E)) (step_told request r) ∙ by (kind_requested request) (slot_at k.marks pid.0)
    where
      by : (kind : Kind) (mark : Option Mark) → is_bad_choice width (choice_of (kind_event (table_at k.marks) pid.0 (step_of pid request) kind mark)) ≡ false
      by Ordinary mark = good
      by (Forking child) mark = good
      by (Beginning defers) None = refl
      by (Beginning defers) (Some m) = refl
      by Leaving None = refl
      by Leaving (Some m) = refl
      by Aborting None = refl
      by Aborting (Some m) = refl

  -- the first reply is that of this event
  first_told : (request : Request) →
      first_reply (view_of k) (step_of pid request) ≡ reply_of (kind_event (table_at k.marks) pid.0 (step_of pid request) (kind_requested request) (slot_at k.marks pid.0)) (present (view_of k))
  unfolding view_of states_view
  first_told (Call call) = refl
  first_told (Delivery signo) = refl

  -- a step that commits ends the part of its process
  pub ends_told : (request : Request) (s : ℕ) (r : Reply) → Commits s ≡ role_on (view_of k) (step_of pid request) →
      IsEnd (step_event (table_at k.marks) (step_of pid request) r) (present (view_of k))
  ends_told request s r is =
      subst (λ (E : Event). IsEnd E (present (view_of k))) (sym (step_told request r))
      (commits_end (table_at k.marks) pid.0 s (step_of pid request) (kind_requested request) (slot_at k.marks pid.0) (present (view_of k))
      (sym (is ∙ role_told request ∙ ap (λ (r : Reply). kind_role (table_at k.marks) pid.0 (kind_requested request) r (slot_at k.marks pid.0)) (first_told request))))
