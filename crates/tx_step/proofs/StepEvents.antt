-- Whose the event of a step is, and what transaction it is made for.
use Rattle.std.proofs.Common.{◌≡◌, ℕ, Bool, true, false, Option, Some, None, refl, sym, ap, ◌∙◌, inl, inr}
use Rattle.std.proofs.lemmas.Bool.{both_ways}
use Rattle.tx_base.specs.Slots.{slot_at}
use Rattle.tx_base.specs.declared.marks.Mark.{Mark}
use Rattle.tx_base.specs.declared.steps.Reply.{Reply}
use Rattle.tx_base.specs.declared.steps.Step.{Step}
use Rattle.tx_step.specs.InWay.{IsOfMember, starter_in}
use Rattle.tx_laws.specs.Fits.{HoldsFor}
use Rattle.tx_laws.specs.Footprints.{is_abort}
use Rattle.tx_laws.specs.LawsOfEvents.{HoldsForItsOwn}
use Rattle.tx_content.specs.Content.{now_of}
use Rattle.tx_content.specs.declared.content.Content.{Content}
use Rattle.tx_model.specs.Events.{Event, Note, actor, process_of}
use Rattle.tx_model.specs.Membership.{Table, Role, Outside, Within, Commits, Aborts, Kind, Ordinary, Forking, Beginning, Leaving, Aborting, event_in, kind_event, others_open, says_ended}
use Rattle.tx_model.specs.Words.{called_by_status, kind_role, member_end_role, ordinary_role}
use Rattle.tx_model.specs.Numbers.{negative}

-- the end of a part is no abort, and commits its own transaction
end_aborts : (b : Bool) (u : ℕ) → is_abort (member_end_role b u) ≡ false
end_aborts true u = refl
end_aborts false u = refl

end_commits : (b : Bool) (u s : ℕ) → Commits s ≡ member_end_role b u → Some u ≡ Some s
end_commits true u s h = cc
end_commits false u s h = cc

-- nor does what is ordinary abort
pub ordinary_aborts : (t : Table) (p : ℕ) (r : Reply) (mark : Option Mark) → is_abort (kind_role t p Ordinary r mark) ≡ false
ordinary_aborts t p r None = refl
ordinary_aborts t p r (Some m) = by (says_ended r)
  where
    by : (b : Bool) → is_abort (ordinary_role b t m.starter.0 p) ≡ false
    by true = end_aborts (others_open t m.starter.0 p t.width) m.starter.0
    by false = refl

-- a step commits the transaction that its process is a member of
pub commits_own : (t : Table) (p : ℕ) (kind : Kind) (r : Reply) (mark : Option Mark) (s : ℕ) → Commits s ≡ kind_role t p kind r mark → starter_in mark ≡ Some s
commits_own t p Ordinary r None s h = cc
commits_own t p Ordinary r (Some m) s h = by (says_ended r) h
  where
    by : (b : Bool) → Commits s ≡ ordinary_role b t m.starter.0 p → Some m.starter.0 ≡ Some s
    by true e = end_commits (others_open t m.starter.0 p t.width) m.starter.0 s e
    by false e = cc
commits_own t p (Forking c) r None s h = cc
commits_own t p (Forking c) r (Some m) s h = cc
commits_own t p (Beginning defers) r None s h = cc
commits_own t p (Beginning defers) r (Some m) s h = cc
commits_own t p Leaving r None s h = cc
commits_own t p Leaving r (Some m) s h = end_commits (others_open t m.starter.0 p t.width) m.starter.0 s h
commits_own t p Aborting r None s h = cc
commits_own t p Aborting r (Some m) s h = cc

aborts : (x : Role) (s status : ℕ) → Aborts s status ≡ x → is_abort x ≡ true
aborts x s status h = ap is_abort (sym h)

-- an abort is of the transaction that its process is a member of, and stands for a note to the starter
pub aborts_own : (t : Table) (p : ℕ) (step : Step) (kind : Kind) (r : Reply) (mark : Option Mark) (s status : ℕ) → Aborts s status ≡ kind_role t p kind r mark →
    (starter_in mark ≡ Some s) × (kind_event t p step kind mark ≡ Note s (negative called_by_status))
aborts_own t p step Ordinary r mark s status h = absurd (both_ways (is_abort (kind_role t p Ordinary r mark)) (ordinary_aborts t p r mark) (aborts (kind_role t p Ordinary r mark) s status h))
aborts_own t p step (Forking c) r None s status h = cc
aborts_own t p step (Forking c) r (Some m) s status h = cc
aborts_own t p step (Beginning defers) r None s status h = cc
aborts_own t p step (Beginning defers) r (Some m) s status h = cc
aborts_own t p step Leaving r None s status h = cc
aborts_own t p step Leaving r (Some m) s status h =
    absurd (both_ways (is_abort (kind_role t p Leaving r (Some m))) (end_aborts (others_open t m.starter.0 p t.width) m.starter.0) (aborts (kind_role t p Leaving r (Some m)) s status h))
aborts_own t p step Aborting r None s status h = cc
aborts_own t p step Aborting r (Some m) s status h = let same : m.starter.0 ≡ s = cc in (ap Some same, ap (λ (u : ℕ). Note u (negative called_by_status)) same)

-- the event of a step that is no abort is made by its process
made_by : (t : Table) (p : ℕ) (step : Step) (kind : Kind) (r : Reply) (mark : Option Mark) → process_of step ≡ p → is_abort (kind_role t p kind r mark) ≡ false →
    actor (kind_event t p step kind mark) ≡ p
made_by t p step Ordinary r mark is h = is
made_by t p step (Forking c) r mark is h = is
made_by t p step (Beginning defers) r None is h = refl
made_by t p step (Beginning defers) r (Some m) is h = refl
made_by t p step Leaving r None is h = refl
made_by t p step Leaving r (Some m) is h = refl
made_by t p step Aborting r None is h = refl
made_by t p step Aborting r (Some m) is h = cc

-- it holds for the transaction of its process alone
holds_inside : (t : Table) (p : ℕ) (step : Step) (kind : Kind) (mark : Option Mark) (s : ℕ) → HoldsFor s (kind_event t p step kind mark) → starter_in mark ≡ Some s
holds_inside t p step Ordinary None s h = absurd h
holds_inside t p step Ordinary (Some m) s h = ap Some h
holds_inside t p step (Forking c) None s h = absurd h
holds_inside t p step (Forking c) (Some m) s h = ap Some h
holds_inside t p step (Beginning defers) None s h = absurd h
holds_inside t p step (Beginning defers) (Some m) s h = absurd h
holds_inside t p step Leaving None s h = absurd h
holds_inside t p step Leaving (Some m) s h = absurd h
holds_inside t p step Aborting None s h = absurd h
holds_inside t p step Aborting (Some m) s h = absurd h

holds_own : (t : Table) (p : ℕ) (step : Step) (kind : Kind) (r : Reply) (mark : Option Mark) (s : ℕ) → HoldsFor s (event_in (kind_role t p kind r mark) (kind_event t p step kind mark)) → starter_in mark ≡ Some s
holds_own t p step kind r mark s h = by (kind_role t p kind r mark) refl h
  where
    by : (role : Role) → role ≡ kind_role t p kind r mark → HoldsFor s (event_in role (kind_event t p step kind mark)) → starter_in mark ≡ Some s
    by Outside e h = holds_inside t p step kind mark s h
    by (Within u part) e h = holds_inside t p step kind mark s h
    by (Commits u) e (inl z) = commits_own t p kind r mark u e ∙ ap Some (sym z)
    by (Commits u) e (inr z) = holds_inside t p step kind mark s z
    by (Aborts u status) e h = holds_inside t p step kind mark s h

actor_in : (role : Role) (ev : Event) → actor (event_in role ev) ≡ actor ev
actor_in Outside ev = refl
actor_in (Within s part) ev = refl
actor_in (Commits s) ev = refl
actor_in (Aborts s status) ev = refl

-- the event of a step that is no abort is of a member of the transaction of its process
pub of_member : HoldsForItsOwn → (k : Content) (t : Table) (p : ℕ) (step : Step) (kind : Kind) (r : Reply) → process_of step ≡ p →
    is_abort (kind_role t p kind r (slot_at k.marks p)) ≡ false →
    IsOfMember k (starter_in (slot_at k.marks p)) (event_in (kind_role t p kind r (slot_at k.marks p)) (kind_event t p step kind (slot_at k.marks p)))
of_member own k t p step kind r is no_abort =
    let mark : Option Mark = slot_at k.marks p in
    let ev : Event = event_in (kind_role t p kind r mark) (kind_event t p step kind mark) in
    record {
      member = ap (λ (n : ℕ). starter_in (slot_at k.marks n)) (sym (actor_in (kind_role t p kind r mark) (kind_event t p step kind mark) ∙ made_by t p step kind r mark is no_abort));
      holds = λ s h. holds_own t p step kind r mark s (own ev (now_of k) s h);
    }
