-- Every state that a lawful history leads to is well formed.
use Rattle.std.proofs.Common.{◌≡◌, ℕ, ◌≤◌, Bool, true, false, List, [], ◌∷◌, refl, sym, ◌∙◌, subst}
use Rattle.tx_base.specs.declared.steps.Accepted.{Accepted}
use Rattle.tx_model.specs.Posts.{after_post}
use Rattle.tx_model.specs.State.{State, boot_state}
use Rattle.tx_model.specs.Events.{Event, after, run}
use Rattle.tx_model.specs.Membership.{Table, Role, step_event, table_after}
use Rattle.tx_model.specs.History.{Starters, table_of, left_out_before, is_left_in, role_in, event_of, survivors, without}
use Rattle.tx_model.specs.Words.{event_if, has_bad_number}
use Rattle.tx_model.specs.View.{view}
use Rattle.tx_model.specs.Answer.{answer, IsAccepted, Lawful}
use Rattle.tx_laws.specs.Laws.{HeldKeepsForm, PostKeepsForm}
use Rattle.tx_laws.specs.WellFormed.{HasGoodNumbers, IsWellFormed}
use Rattle.tx_laws.proofs.Local.{after_width}
use Rattle.tx_laws.proofs.GoodNumbers.{step_numbers, role_numbers, accepted_numbers}
use Rattle.tx_laws.proofs.KeepsFormParts.{IsArranged}
use Rattle.tx_laws.proofs.KeepsFormEnding.{held_arranged}
use Rattle.tx_laws.proofs.KeepsFormEvents as arranged
use Rattle.tx_laws.proofs.WithinEvents.{IsWithin, after_within, booted_within, post_within}

-- a well-formed state by what is arranged in it, and by its limits
pub arranged_of : (S : State) → IsWellFormed S → IsArranged S
arranged_of S w = record { first = w.first; placed = w.placed; names = w.names; named = w.named; pipes = w.pipes }

within_of : (S : State) → IsWellFormed S → IsWithin S
within_of S w = record { limits = w.limits; held = w.held }

formed_from : (S : State) → IsArranged S → IsWithin S → IsWellFormed S
formed_from S a l = record { first = a.first; placed = a.placed; names = a.names; named = a.named; pipes = a.pipes; limits = l.limits; held = l.held }

-- the state at the start is well formed, and every event keeps that
pub booted_form : (width count : ℕ) → 1 ≤ count → count ≤ width → IsWellFormed (boot_state width count)
booted_form width count some fits = formed_from (boot_state width count) (arranged.booted_form width count some fits) (booted_within width count)

pub after_form : (ev : Event) (S : State) → IsWellFormed S → HasGoodNumbers S.width ev → IsWellFormed (after ev S)
after_form ev S w h = formed_from (after ev S) (arranged.after_form ev S (arranged_of S w) h) (after_within ev S (arranged_of S w) (within_of S w))

-- a post keeps it, and so do other sends that are held
pub post_formed : PostKeepsForm
post_formed m S may w =
    formed_from (after_post m S) (arranged.post_form m S (S.procs m.target) refl (arranged_of S w)) (post_within m S may (within_of S w))

pub held_formed : HeldKeepsForm
held_formed held S may w = formed_from (record S { held = held }) (held_arranged S held (arranged_of S w)) (record { limits = w.limits; held = may })

table_width : (r : Role) (p : ℕ) (t : Table) → (table_after r p t).width ≡ t.width
table_width r p t = refl

table_of_width : (S : State) (h : List Accepted) → (table_of S h).width ≡ S.width
unfolding table_of
table_of_width S [] = refl
table_of_width S (e ∷ h) = table_of_width S h

placed_form : (S : State) (b : Bool) (ev : Event) (evs : List Event) → HasGoodNumbers S.width ev → (run S evs).width ≡ S.width → IsWellFormed (run S evs)
    → IsWellFormed (run S (event_if b ev evs))
unfolding run
placed_form S true ev evs g w form = after_form ev (run S evs) form (subst (λ (n : ℕ). HasGoodNumbers n ev) (sym w) g)
placed_form S false ev evs g w form = form

run_width : (S : State) (evs : List Event) → (run S evs).width ≡ S.width
unfolding run
run_width S [] = refl
run_width S (ev ∷ evs) = after_width ev (run S evs) ∙ run_width S evs

pub history_form : (S : State) (h : List Accepted) → IsWellFormed S → Lawful S h → (X : Starters) → IsWellFormed (without S X h)
unfolding without survivors Lawful run view
history_form S [] form l X = form
history_form S (e ∷ h) form l X =
    let Y : Starters = left_out_before (role_in S e h) X in
    let a : IsAccepted (answer (view S h) e.step) = subst IsAccepted (sym l.1) l.2 in
    let g : has_bad_number S.width e.step ≡ false = subst (λ (n : ℕ). has_bad_number n e.step ≡ false) (table_of_width S h) (accepted_numbers (view S h) e.step a) in
    let good : HasGoodNumbers S.width (event_of S e h) = role_numbers S.width (role_in S e h) (step_event (table_of S h) e.step e.reply) (step_numbers (table_of S h) S.width e.step e.reply g) in
    placed_form S (is_left_in (role_in S e h) X) (event_of S e h) (survivors S Y h) good (run_width S (survivors S Y h)) (history_form S h form l.0 Y)
