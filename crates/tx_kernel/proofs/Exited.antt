-- The exit of a process.
use Rattle.std.proofs.Common.{◌≡◌, ◌≢◌, ◌==◌, ℕ, Bool, List, [], if◌then◌else◌, ℤ, refl, ap, sym, ◌∙◌, eq-eqb}
use Rattle.std.proofs.lemmas.Bool.{ne_eqb}
use Rattle.tx_base.specs.declared.errors.Errno.TheVariants.{NotPermitted}
use Rattle.tx_change.specs.States.{state_of}
use Rattle.tx_change.specs.declared.change.Change.{Change}
use Rattle.tx_kernel.proofs.Beside.{plans_same}
use Rattle.tx_kernel.proofs.PageLines.{decides, passes}
use Rattle.tx_kernel.specs.Actors.{caller_of, effect_by, me_of, names_by}
use Rattle.tx_kernel.specs.Plans.{Plans}
use Rattle.tx_kernel.specs.declared.actor.Actor.{Actor}
use Rattle.tx_kernel.specs.declared.planned.Planned.{Planned}
use Rattle.tx_model.specs.Book.{exit}
use Rattle.tx_model.specs.Forms.{Caller, does, effect_of, fails, caller}
use Rattle.tx_model.specs.Processes.{ending, ending_objects, exit_status}
use Rattle.tx_model.specs.Words.{exit_objects}
use Rattle.tx_model.specs.State.{Object, State}

abbrev pub exit_names : Actor → State → List Object
exit_names actor = names_by actor exit_objects

-- process 1 does not end
pub exit_refused : (c : Caller) (status : ℤ) → c.number ≡ 1 → exit status c ≡ fails NotPermitted
exit_refused c status first = decides (c.number == 1) (fails NotPermitted) (does (ending (exit_status status) (caller c.inside c.number c.process c.state))) (eq-eqb c.number 1 first)

pub exit_fails : (actor : Actor) (before now : List Change) (planned : Planned) (status : ℤ) → actor.pid.0 ≡ 1 →
    Plans actor before now planned (effect_by actor (λ c. fails NotPermitted)) (exit_names actor) → Plans actor before now planned (effect_by actor (exit status)) (exit_names actor)
exit_fails actor before now planned status first plans =
    plans_same actor before now planned (effect_by actor (λ c. fails NotPermitted)) (effect_by actor (exit status)) (exit_names actor) (exit_names actor)
    (λ held counted. sym (ap (effect_of actor.pid.0 (me_of actor)) (exit_refused (caller_of actor (state_of held actor.parts.now)) status first))) (λ held. refl) plans

-- any other does
pub exit_done : (c : Caller) (status : ℤ) → c.number ≢ 1 → exit status c ≡ does (ending (exit_status status) (caller c.inside c.number c.process c.state))
exit_done c status other = passes (c.number == 1) (fails NotPermitted) (does (ending (exit_status status) (caller c.inside c.number c.process c.state))) (ne_eqb c.number 1 other)

pub exit_ends : (actor : Actor) (before now : List Change) (planned : Planned) (status : ℤ) (code : ℕ) → actor.pid.0 ≢ 1 → code ≡ exit_status status →
    Plans actor before now planned (effect_by actor (λ c. does (ending code c))) (names_by actor ending_objects) →
    Plans actor before now planned (effect_by actor (exit status)) (exit_names actor)
exit_ends actor before now planned status code other is plans =
    plans_same actor before now planned (effect_by actor (λ c. does (ending code c))) (effect_by actor (exit status))
    (names_by actor ending_objects) (exit_names actor)
    (λ held counted. ap (λ (n : ℕ). ending n (caller_of actor (state_of held actor.parts.now))) is
    ∙ sym (ap (effect_of actor.pid.0 (me_of actor)) (exit_done (caller_of actor (state_of held actor.parts.now)) status other)))
    (λ held. sym (ap (λ (b : Bool). if b then [] else ending_objects (caller_of actor (state_of held actor.parts.now))) (ne_eqb actor.pid.0 1 other))) plans
