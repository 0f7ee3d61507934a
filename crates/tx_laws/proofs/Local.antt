-- What an event does depends on its objects alone.
use Rattle.std.proofs.Common.{◌≡◌, ℕ, true, List, [], ◌∷◌, ◌++◌, ℤ, Option, refl, ap, ap₂, ◌∙◌, subst}
use Rattle.tx_base.specs.declared.steps.Step.{Step}
use Rattle.tx_base.specs.declared.steps.Step.TheVariants.{KernelAbort}
use Rattle.tx_model.specs.ObjectFacts.{has_head, has_tail}
use Rattle.tx_model.specs.State.{State, Sending, Object, Proc, Held, SetHeld, with_writes, has_object}
use Rattle.tx_model.specs.StateLaws.{EqualAt, AgreeAt, AgreeOn}
use Rattle.tx_model.specs.Effects.{Inside, Effect, ListsFailed, send_answers, after_effect, concluding_reply, commit_effect}
use Rattle.tx_model.specs.Events.{Event, Do, Note, Commit, process_of, page_of_step, objects_at, actor, step_effect, effect, objects, after, reply_of}
use Rattle.tx_model.specs.Words.{note_effect}
use Rattle.tx_laws.proofs.Agree.{written_part, applied_keeps, applied_width}
use Rattle.tx_laws.proofs.OfActs.{act_same, footprint_same}

-- where two states agree, they agree after an event that does the same in both
pub after_keeps : (ev : Event) (S R : State) → effect ev S ≡ effect ev R → send_answers (effect ev S) S ≡ send_answers (effect ev R) R
    → (o : Object) → AgreeAt S R o → AgreeAt (after ev S) (after ev R) o
unfolding after
after_keeps ev S R e a o h =
    subst (λ (x : Effect × List ℤ). AgreeAt (after_effect (effect ev S) (send_answers (effect ev S) S) S) (after_effect x.0 x.1 R) o)
    (ap₂ (λ (x : Effect) (y : List ℤ). (x, y)) e a) (applied_keeps (effect ev S) (send_answers (effect ev S) S) S R o h)

-- an event leaves the width as it was
pub after_width : (ev : Event) (S : State) → (after ev S).width ≡ S.width
unfolding after
after_width ev S = applied_width (effect ev S) (send_answers (effect ev S) S) S

pub reply_same : (ev : Event) (S R : State) → effect ev S ≡ effect ev R → send_answers (effect ev S) S ≡ send_answers (effect ev R) R → reply_of ev S ≡ reply_of ev R
unfolding reply_of
reply_same ev S R e a = ap₂ (λ (x : Effect) (y : List ℤ). concluding_reply x.conclusion x.sends y) e a

step_effect_same : (step : Step) (inside : Option Inside) (S R : State) → AgreeOn (objects_at inside (process_of step) (page_of_step step) S) S R
    → step_effect step inside S ≡ step_effect step inside R
step_effect_same (KernelAbort s) inside S R a = refl
step_effect_same step inside S R a = act_same inside (process_of step) step S R a

-- the effect of a committing step depends on that of the step and on what was held
committing_same : (s : ℕ) (f : Effect) (S R : State) → EqualAt S R (Held s) → commit_effect s f S ≡ commit_effect s f R
committing_same s f S R h =
    let e : (with_writes f.writes S).held s ≡ (with_writes f.writes R).held s = written_part f.writes S R (Held s) h in
    ap (λ (ms : List Sending). record { writes = f.writes ++ SetHeld s [] ∷ []; sends = f.sends ++ ms; conclusion = ListsFailed }) e

-- the locality of every event: what it does is a function of its objects
pub effect_same : (ev : Event) (S R : State) → AgreeOn (objects ev S) S R → effect ev S ≡ effect ev R
unfolding effect objects
effect_same (Do step inside) S R a = step_effect_same step inside S R a
effect_same (Note p r) S R a = ap (note_effect p r) (a (Proc p) (has_head (Proc p) [])).equal
effect_same (Commit s ev) S R a =
    committing_same s (effect ev S) S R (a (Held s) (has_head (Held s) (objects ev S))).equal
    ∙ ap (λ (f : Effect). commit_effect s f R) (effect_same ev S R (λ o h. a o (has_tail o (Held s) (objects ev S) h)))

pub objects_same : (ev : Event) (S R : State) → AgreeOn (objects ev S) S R → objects ev S ≡ objects ev R
unfolding objects
objects_same (Do step inside) S R a = footprint_same inside (process_of step) step S R a
objects_same (Note p r) S R a = refl
objects_same (Commit s ev) S R a = ap (λ (os : List Object). Held s ∷ os) (objects_same ev S R (λ o h. a o (has_tail o (Held s) (objects ev S) h)))

-- who makes an event is one of its objects
pub actor_in : (ev : Event) (S : State) → has_object (Proc (actor ev)) (objects ev S) ≡ true
unfolding objects
actor_in (Do step inside) S = has_head (Proc (process_of step)) _
actor_in (Note p r) S = has_head (Proc p) []
actor_in (Commit s ev) S = has_tail (Proc (actor ev)) (Held s) (objects ev S) (actor_in ev S)
