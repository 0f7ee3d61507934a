-- Each reply of a lawful history is that of the plain run of its survivors.
use Rattle.std.proofs.Common.{◌≡◌, ℕ, Bool, true, false, List, [], ◌∷◌, ◌++◌, refl, sym, ap, ap₂, ◌∙◌, subst}
use Rattle.std.proofs.lemmas.Bool.{not-true}
use Rattle.tx_base.specs.declared.steps.Accepted.{Accepted}
use Rattle.tx_base.specs.declared.steps.Reply.{Reply}
use Rattle.tx_base.specs.declared.steps.Step.{Step}
use Rattle.tx_model.specs.State.{State}
use Rattle.tx_model.specs.Events.{Event, process_of, run}
use Rattle.tx_model.specs.Membership.{Role, Outside, Within, Commits, Aborts, role, event, is_member_of}
use Rattle.tx_model.specs.History.{Starters, nobody, table_of, role_in, event_of, left_out_before, is_left_in, survivors, without, reserved_of}
use Rattle.tx_model.specs.Words.{event_if, after_if, next_by, starters_without}
use Rattle.tx_model.specs.View.{View, view, present, abort_status, next}
use Rattle.tx_model.specs.Answer.{plain_reply, Lawful, AgreesWithout, Agreement}
use Rattle.tx_laws.specs.Sound.{IsSound}
use Rattle.tx_laws.proofs.Agree.{agree_refl}
use Rattle.tx_laws.specs.Fits.{Fits, Passes}
use Rattle.tx_laws.proofs.Coherence.{sound_by, quiet_reply, outside_quiet, commits_quiet}
use Rattle.tx_laws.proofs.Taken.{IsTaken, taken}

run_placed : (S : State) (b : Bool) (ev : Event) (evs : List Event) → run S (event_if b ev evs) ≡ after_if b ev (run S evs)
unfolding run
run_placed S true ev evs = refl
run_placed S false ev evs = refl

without_more : (S : State) (e : Accepted) (h : List Accepted) (X : Starters)
    → without S X (e ∷ h) ≡ after_if (is_left_in (role_in S e h) X) (event_of S e h) (without S (left_out_before (role_in S e h) X) h)
unfolding without survivors
without_more S e h X = run_placed S (is_left_in (role_in S e h) X) (event_of S e h) (survivors S (left_out_before (role_in S e h) X) h)

-- the view of one more entry, by what the entry is in the history
view_more : (S : State) (e : Accepted) (h : List Accepted)
    → view S (e ∷ h) ≡ next_by (role (view S h).table e.step e.reply) (event (view S h).table e.step e.reply) (process_of e.step) (view S h)
unfolding view table_of reserved_of
view_more S e h =
    let V : View = next_by (role_in S e h) (event_of S e h) (process_of e.step) (view S h) in
    let w : (λ X. without S X (e ∷ h)) ≡ V.without = λ i X. without_more S e h X i in
    ap (λ (f : Starters → State). record { without = f; table = V.table; reserved = V.reserved }) w

-- the view of one more step that may be taken is the next view
pub view_taken : (S : State) (e : Accepted) (h : List Accepted) → IsTaken (view S h) e.step e.reply → view S (e ∷ h) ≡ next (view S h) e.step
unfolding next
view_taken S e h t =
    view_more S e h ∙ ap₂ (λ (r : Role) (ev : Event). next_by r ev (process_of e.step) (view S h)) t.role_is t.event_is

taken_sound : (V : View) (step : Step) (r : Reply) → IsSound V → IsTaken V step r → IsSound (next_by (role V.table step r) (event V.table step r) (process_of step) V)
taken_sound V step r sound t = sound_by (role V.table step r) V (event V.table step r) (process_of step) sound t.passes t.fits

-- a step that may be taken keeps the view sound
pub next_sound : (V : View) (step : Step) (r : Reply) → IsSound V → IsTaken V step r → IsSound (next V step)
unfolding next
next_sound V step r sound t =
    subst IsSound (ap₂ (λ (a : Role) (ev : Event). next_by a ev (process_of step) V) t.role_is t.event_is) (taken_sound V step r sound t)

pub start_sound : (S : State) → IsSound (view S [])
unfolding view without survivors run table_of reserved_of
start_sound S = record {
  coherent = λ X Y o same. agree_refl S o;
  owned_live = λ s o h. cc;
  single = λ s t o h k. cc;
  own_procs = λ s p h. cc;
  own_held = λ s h. cc;
  held_own = λ s t h. cc;
  width = λ X. refl;
  starter_runs = λ s h. cc;
  bounded = λ s p h. cc;
}

pub lawful_sound : (S : State) (h : List Accepted) → Lawful S h → IsSound (view S h)
unfolding Lawful
lawful_sound S [] l = start_sound S
lawful_sound S (e ∷ h) l =
    let sound : IsSound (view S h) = lawful_sound S h l.0 in
    let t : IsTaken (view S h) e.step e.reply = taken (view S h) e.step e.reply sound l.1 l.2 in
    subst IsSound (sym (view_more S e h)) (taken_sound (view S h) e.step e.reply sound t)

-- the view of a lawful history is the next view of that of the entries before the last
pub lawful_next : (S : State) (e : Accepted) (h : List Accepted) → Lawful S (e ∷ h) → view S (e ∷ h) ≡ next (view S h) e.step
unfolding Lawful
lawful_next S e h l = view_taken S e h (taken (view S h) e.step e.reply (lawful_sound S h l.0) l.1 l.2)

-- what an entry of a lawful history is to the transactions goes with its event, and nobody is in its way
pub entry_fits : (S : State) (e : Accepted) (h : List Accepted) → Lawful S (e ∷ h) →
    Passes (role_in S e h) (event_of S e h) (view S h) × Fits (role_in S e h) (event_of S e h) (process_of e.step) (view S h)
unfolding Lawful view
entry_fits S e h l = let t : IsTaken (view S h) e.step e.reply = taken (view S h) e.step e.reply (lawful_sound S h l.0) l.1 l.2 in (t.passes, t.fits)

-- the reply in the run without some transactions is the reply in the state, where the step survives there
replies_by : (k : ℕ) (r : Role) (V : View) (ev : Event) (p : ℕ) → IsSound V → Passes r ev V → Fits r ev p V → (X : Starters) → is_left_in r X ≡ true
    → plain_reply k r ev (present V) ≡ plain_reply k r ev (V.without (left_out_before r X))
replies_by k Outside V ev p sound clear fits X s = quiet_reply V ev sound clear X (outside_quiet V ev fits X)
replies_by k (Within u part) V ev p sound clear fits X s = quiet_reply V ev sound clear X
    (λ t h. subst (λ (x : ℕ). X x ≡ false) (sym (fits.mine t (subst (λ (q : ℕ). is_member_of V.table t q ≡ true) fits.actor_is h))) (not-true (X u) s))
replies_by k (Commits u) V ev p sound clear fits X s = quiet_reply V ev sound clear (starters_without u X) (commits_quiet V ev u fits X)
replies_by k (Aborts u status) V ev p sound clear fits X s = refl

pub agrees : (S : State) (h : List Accepted) → Lawful S h → (X : Starters) → AgreesWithout S X h
unfolding Lawful AgreesWithout view
agrees S [] l X = tt
agrees S (e ∷ h) l X =
    let V : View = view S h in
    let sound : IsSound V = lawful_sound S h l.0 in
    let t : IsTaken V e.step e.reply = taken V e.step e.reply sound l.1 l.2 in (
      λ s. t.reply ∙ replies_by (abort_status V e.step) (role V.table e.step e.reply) V (event V.table e.step e.reply) (process_of e.step) sound t.passes t.fits X s,
      agrees S h l.0 (left_out_before (role_in S e h) X),
    )

prefix_lawful : (S : State) (later h : List Accepted) → Lawful S (later ++ h) → Lawful S h
unfolding Lawful
prefix_lawful S [] h l = l
prefix_lawful S (e ∷ later) h l = prefix_lawful S later h l.0

-- erasure: every prefix of a lawful history agrees with the plain run of its survivors
pub erased : (S : State) (later h : List Accepted) → Lawful S (later ++ h) → Agreement S h
erased S later h l = agrees S h (prefix_lawful S later h l) nobody
