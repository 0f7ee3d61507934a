-- The footprint of a step whose process may be missing.
use Rattle.std.proofs.Common.{◌≡◌, ℕ, suc, Bool, true, false, if◌then◌else◌, ◌==◌, [], ◌∷◌, List, Option, None, ap, refl, sym, ◌∙◌, subst}
use Rattle.tx_base.specs.Slots.{slot_at}
use Rattle.tx_base.specs.declared.marks.Mark.{Mark}
use Rattle.tx_base.specs.declared.names.Pid.{Pid}
use Rattle.tx_base.specs.declared.names.Sending.{Sending}
use Rattle.tx_base.specs.declared.names.Signo.{Signo}
use Rattle.tx_base.specs.declared.steps.Call.{Call}
use Rattle.tx_base.specs.declared.steps.Step.{Step}
use Rattle.tx_base.specs.declared.steps.Step.TheVariants.{Call as Calls, Deliver, KernelAbort}
use Rattle.tx_change.specs.declared.parts.Parts.{Parts}
use Rattle.tx_model.specs.Footprints.{call_row_at, delivery_row_at, footprint}
use Rattle.tx_model.specs.Membership.{Table, is_open_of, others_open}
use Rattle.tx_model.specs.State.{Proc, Process, Sending as TheSending, State}
use Rattle.tx_reserve.specs.Footprints.{HoldsBy, HoldsFor, IsStepOf}

-- what is so of the parts and the number of an actor is so of those that it was found by
pub found_by : (P : Parts → Pid → Type 0) {parts here : Parts} {pid p : Pid} → here ≡ parts → p ≡ pid → P here p → P parts pid
found_by P {parts} {here} {pid} {p} same number holds = subst (λ (x : Parts). P x pid) same (subst (λ (q : Pid). P here q) number holds)

-- whether another part is open, of one number more
pub one_more : (t : Table) (s p n : ℕ) {m : ℕ} (was is more : Bool) → m ≡ suc n → was ≡ others_open t s p n
    → more ≡ (if m == p then false else is_open_of s (t.marks m)) → is ≡ (if was then true else more) → is ≡ others_open t s p m
unfolding others_open
one_more t s p n {m} was is more next before one after =
    subst (λ (k : ℕ). is ≡ others_open t s p k) (sym next) (after ∙ rw (before, one, next) refl)

pub either_then : (was is more : Bool) → more ≡ true → is ≡ true → is ≡ (if was then true else more)
either_then true is more opens set = set
either_then false is more opens set = set ∙ sym opens

pub either_else : (was is more : Bool) → more ≡ false → is ≡ was → is ≡ (if was then true else more)
either_else true is more opens kept = kept
either_else false is more opens kept = kept ∙ sym opens

-- what a process's own transaction holds is what the transaction holds that its step is made in
pub held_by : (marks : List (Option Mark)) (p : Pid) (step : Step) (sends : List Sending) (all : ℕ → List TheSending)
    → IsStepOf p step → HoldsFor marks step sends all → HoldsBy (slot_at marks p.0) sends all
held_by marks p (Calls q call) sends all own holds = subst (λ (n : Pid). HoldsBy (slot_at marks n.0) sends all) (sym own) holds
held_by marks p (Deliver q signo) sends all own holds = subst (λ (n : Pid). HoldsBy (slot_at marks n.0) sends all) (sym own) holds
held_by marks p (KernelAbort starter) sends all none holds = absurd none

-- the call of a step, and its delivery, are of the process that makes it
pub own_call : {p q : Pid} {call : Call} {step : Step} → step ≡ Calls q call → IsStepOf p step → Calls p call ≡ step
own_call {p} {q} {call} is own = let same : p ≡ q = subst (IsStepOf p) is own in ap (λ (n : Pid). Calls n call) same ∙ sym is

pub own_delivery : {p q : Pid} {signo : Signo} {step : Step} → step ≡ Deliver q signo → IsStepOf p step → Deliver p signo ≡ step
own_delivery {p} {q} {signo} is own = let same : p ≡ q = subst (IsStepOf p) is own in ap (λ (n : Pid). Deliver n signo) same ∙ sym is

-- a process that is missing names itself alone
pub missing_named : (t : Table) (p : Pid) (step : Step) (S : State) → IsStepOf p step → S.procs p.0 ≡ None → Proc p.0 ∷ [] ≡ footprint t step S
unfolding footprint
missing_named t p (Calls q call) S own none =
    ap (λ (x : Option Process). Proc p.0 ∷ call_row_at t p.0 call x S) (sym none) ∙ ap (λ (n : Pid). Proc n.0 ∷ call_row_at t n.0 call (S.procs n.0) S) own
missing_named t p (Deliver q signo) S own none =
    ap (λ (x : Option Process). Proc p.0 ∷ delivery_row_at t p.0 signo.0 x S) (sym none) ∙ ap (λ (n : Pid). Proc n.0 ∷ delivery_row_at t n.0 signo.0 (S.procs n.0) S) own
missing_named t p (KernelAbort starter) S none is = absurd none
