-- What was made on the parts, as its event.
use Rattle.std.proofs.Common.{◌≡◌, ℕ, true, false, List, ◌++◌, Option, Some, ◌==◌, refl, sym, ap, ◌∙◌, subst}
use Rattle.tx_base.specs.declared.names.Pid.{Pid}
use Rattle.tx_change.specs.Exchange.{undone}
use Rattle.tx_change.specs.States.{state_of, changed_by}
use Rattle.tx_change.specs.declared.change.Change.{Change}
use Rattle.tx_change.specs.declared.parts.Parts.{Parts}
use Rattle.tx_kernel.specs.Actors.{CountsHeld, inside_of, transaction_of}
use Rattle.tx_kernel.specs.Acts.{Makes}
use Rattle.tx_kernel.specs.Plans.{held_after, sent_at_once}
use Rattle.tx_kernel.specs.Steps.{target_objects}
use Rattle.tx_kernel.specs.declared.inside.Inside.{Inside}
use Rattle.tx_kernel.specs.declared.planned.Planned.{Planned}
use Rattle.tx_kernel.specs.declared.planned.Sends.{Sends}
use Rattle.tx_kernel.specs.declared.planned.Sends.TheVariants.{Nothing, AtOnce, AtCommit}
use Rattle.tx_laws.specs.Fits.{FitsWithin}
use Rattle.tx_laws.specs.TwoStates.{made, states_view}
use Rattle.tx_model.specs.Effects.{Inside as TheInside}
use Rattle.tx_model.specs.Events.{Event, actor, effect, objects}
use Rattle.tx_model.specs.History.{event_footprint, objects_reserved}
use Rattle.tx_model.specs.Words.{processes_of}
use Rattle.tx_model.specs.Membership.{Progress, Within}
use Rattle.tx_model.specs.State.{State, Sending, Object, has_object}
use Rattle.tx_txn.specs.Content.{LogKernel, two_states_of}
use Rattle.tx_txn.specs.Laws.{LogLaws}
use Rattle.tx_txn.specs.Logs.{newest_first}
use Rattle.tx_txn.specs.Steps.{AgreeBut, LeadsBack, Logs}
use Rattle.tx_txn.proofs.Facts.{all_targets, reserved_foot}
use Rattle.tx_txn.proofs.OfLogs.{step_leads_back}

targets_are : (sends : Sends) → processes_of (sent_at_once sends) ≡ target_objects sends
targets_are Nothing = refl
targets_are (AtOnce m) = refl
targets_are (AtCommit m) = refl

-- another transaction holds what it held
others_hold : (inside : TheInside) (sends : Sends) (held : ℕ → List Sending) (n : ℕ) → (n == inside.starter) ≡ false → held_after (Some inside) sends held n ≡ held n
others_hold inside Nothing held n h = refl
others_hold inside (AtOnce m) held n h = refl
others_hold inside (AtCommit m) held n h = rw h refl

pub event_made : (held : ℕ → List Sending) (before after : Parts) (pid : Pid) (inside : Option Inside) (event : Event) (log now : List Change) (planned : Planned)
    → Makes before pid inside event log now after planned → CountsHeld inside held
    → made event (state_of held before) (state_of held before) ≡ state_of (held_after (inside_of inside) planned.sends held) after
event_made held before after pid inside event log now planned makes count = (makes.gives held count).state

-- what a member's step made is logged
pub event_logged : LogLaws → (c : LogKernel) (held : ℕ → List Sending) (before after : Parts) (pid : Pid) (inside : Inside) (event : Event) (log now : List Change) (planned : Planned)
    (part : Progress) (p : ℕ) (makes : Makes before pid (Some inside) event log now after planned) → c.now ≡ state_of held before → CountsHeld (Some inside) held
    → FitsWithin inside.starter.0 part event p (states_view (two_states_of c))
    → Logs (Within inside.starter.0 part) event (newest_first makes.kept) c
unfolding states_view event_footprint
event_logged laws c held before after pid inside event log now planned part p makes is_now count fits =
    subst (λ (S : State). LeadsBack s (objects_reserved part s (event_footprint c.table event S)) (newest_first makes.kept) (made event S S) S) (sym is_now)
    (record {
      named = λ o h. reserved_foot part s (event_footprint c.table event S) o (subst (λ (F : List Object). has_object o F ≡ true) (sym foot) (leads.named o h));
      back = λ o. subst (λ (R : State). AgreeBut s (changed_by (newest_first makes.kept) R) S o) (sym (event_made held before after pid (Some inside) event log now planned makes count))
          (subst (λ (P : Parts). AgreeBut s (changed_by (newest_first makes.kept) (state_of later after)) (state_of held P) o) makes.back (leads.back o));
    })
  where
    s : ℕ
    s = inside.starter.0

    S : State
    S = state_of held before

    later : ℕ → List Sending
    later = held_after (Some (transaction_of inside)) planned.sends held

    F : List Object
    F = objects event (state_of held before) ++ target_objects planned.sends

    leads : LeadsBack s F (newest_first makes.kept) (state_of later after) (state_of held (undone after makes.kept))
    leads = step_leads_back laws held later s F after makes.kept makes.named (makes.among held) (others_hold (transaction_of inside) planned.sends held)

    foot : event_footprint c.table event S ≡ F
    foot =
        ap (λ (ys : List Object). objects event S ++ ys)
        (all_targets c.table (actor event) (effect event S).sends (λ m i. fits.sends S m i)
        ∙ ap processes_of (makes.gives held count).sent ∙ targets_are planned.sends)
