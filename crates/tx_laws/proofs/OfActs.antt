-- Every call and every delivery, made by a process that runs or not.
use Rattle.std.proofs.Common.{◌≡◌, ℕ, true, List, [], ◌∷◌, pos, Option, Some, None, is_some, is_none, refl, ap, subst}
use Rattle.tx_base.specs.declared.steps.Call.{Call}
use Rattle.tx_base.specs.declared.steps.Call.TheVariants as call
use Rattle.tx_model.specs.ObjectFacts.{has_head}
use Rattle.tx_model.specs.State.{Process, State, Sending, Object, Proc, Held, has_object}
use Rattle.tx_model.specs.StateLaws.{AgreeOn}
use Rattle.tx_model.specs.Effects.{Inside, idle}
use Rattle.tx_model.specs.Book.{page_of_call}
use Rattle.tx_base.specs.declared.steps.Step.{Step}
use Rattle.tx_base.specs.declared.steps.Step.TheVariants.{Call as Calls, Deliver, KernelAbort}
use Rattle.tx_base.specs.declared.steps.Refusal.TheVariants.{NoProcess, NotRunning, NoTransaction}
use Rattle.tx_model.specs.Forms.{caller, effect_of}
use Rattle.tx_model.specs.Events.{page_of_step, effect_at, objects_at}
use Rattle.tx_model.specs.Answer.{is_running}
use Rattle.tx_model.specs.BookLaws.{names_as, where_runs, where_there}
use Rattle.tx_model.specs.Words.{call_effect, call_objects}
use Rattle.tx_laws.specs.Fits.{IsIn}
use Rattle.tx_laws.proofs.Objects.{WritesFit, ConclusionIn, Covers}
use Rattle.tx_laws.proofs.Owed.{IsLocal}
use Rattle.tx_laws.proofs.Mild.{IsMild}
use Rattle.tx_laws.proofs.InPlace.{held_nowhere, idle_local}
use Rattle.tx_laws.proofs.OfPages.{page_local, or_same, when_same}
use Rattle.tx_laws.proofs.OwnPages.{own_page, own_owed}
use Rattle.tx_laws.proofs.OfDeliveries.{delivery_local}
use Rattle.tx_laws.proofs.OfDescriptors.{dup_owes, dup_local, dup2_owes, dup2_local, close_owes, close_local, nonblock_owes, nonblock_local, pipe_owes, pipe_local}
use Rattle.tx_laws.proofs.OfProcesses.{fork_owes, fork_local, exit_local, waitpid_owes, waitpid_local}
use Rattle.tx_laws.proofs.OfSends.{send_local}
use Rattle.tx_laws.proofs.OfTransfers.{read_owes, read_local, write_owes, write_local}

call_local : (inside : Option Inside) (p : ℕ) (c : Call) (me : Process) → IsLocal inside p me (λ S. call_effect inside p c me S) (λ S. call_objects inside c p me S)
call_local inside p (call.Fork child) me = fork_local inside p child.0 me
call_local inside p (call.Exit status) me = exit_local inside p status me
call_local inside p (call.Waitpid t nohang) me = waitpid_local inside p me t nohang
call_local inside p (call.Pipe q r w) me = pipe_local inside p q.0 r.0 w.0 me
call_local inside p (call.Dup f) me = dup_local inside p me f
call_local inside p (call.Dup2 f g) me = dup2_local inside p me f g
call_local inside p (call.Close f) me = close_local inside p me f
call_local inside p (call.SetNonblock f on) me = nonblock_local inside p me f on
call_local inside p (call.Read f address n) me = read_local inside p me f address n
call_local inside p (call.Write f address n) me = write_local inside p me f address n
call_local inside p (call.Kill t signo) me = send_local inside p me t signo (pos 0)
call_local inside p (call.Sigqueue t signo value) me = send_local inside p me t signo value
call_local inside p c me = page_local inside p me (page_of_call c).outcome (λ S. []) (λ S R a. refl) (λ S R a. refl) (λ S u. held_nowhere u) (λ S. own_owed p me S ((page_of_call c).outcome (caller inside p me S)) (own_page (caller inside p me S) c refl))

-- the calls that end nothing, and send to nobody but their own process
abbrev pub IsMildCall : Call → Type 0
IsMildCall (call.Exit status) = ⊥
IsMildCall (call.Kill t signo) = ⊥
IsMildCall (call.Sigqueue t signo value) = ⊥
IsMildCall c = Unit {0}

pub call_mild : (inside : Option Inside) (p : ℕ) (c : Call) (me : Process) (S : State) → IsMildCall c → IsMild p (call_effect inside p c me S)
call_mild inside p (call.Fork child) me S calm = (fork_owes inside p child.0 me S).mild
call_mild inside p (call.Exit status) me S calm = absurd calm
call_mild inside p (call.Waitpid t nohang) me S calm = (waitpid_owes inside p me t nohang S).mild
call_mild inside p (call.Pipe q r w) me S calm = (pipe_owes inside p q.0 r.0 w.0 me S).mild
call_mild inside p (call.Dup f) me S calm = (dup_owes inside p me f S).mild
call_mild inside p (call.Dup2 f g) me S calm = (dup2_owes inside p me f g S).mild
call_mild inside p (call.Close f) me S calm = (close_owes inside p me f S).mild
call_mild inside p (call.SetNonblock f on) me S calm = (nonblock_owes inside p me f on S).mild
call_mild inside p (call.Read f address n) me S calm = (read_owes inside p me f address n S).mild
call_mild inside p (call.Write f address n) me S calm = (write_owes inside p me f address n S).mild
call_mild inside p (call.Kill t signo) me S calm = absurd calm
call_mild inside p (call.Sigqueue t signo value) me S calm = absurd calm
call_mild inside p c me S calm = (own_owed p me S ((page_of_call c).outcome (caller inside p me S)) (own_page (caller inside p me S) c refl)).mild

-- a process that runs is there
pub runs_some : (x : Option Process) → is_running x ≡ true → (me : Process) × (x ≡ Some me) × (me.status ≡ None)
runs_some None h = cc
runs_some (Some me) h = (me, refl, by me.status h)
  where
    by : (y : Option ℕ) → is_none y ≡ true → y ≡ None
    by None k = refl
    by (Some n) k = cc

-- what every step owes
step_local : (inside : Option Inside) (p : ℕ) (step : Step) (me : Process)
    → IsLocal inside p me (λ S. effect_of p me ((page_of_step step).outcome (caller inside p me S))) (λ S. (page_of_step step).names (caller inside p me S))
step_local inside p (Calls pid c) me = call_local inside p c me
step_local inside p (Deliver pid signo) me = delivery_local inside p signo.0 me
step_local inside p (KernelAbort s) me = idle_local inside p me NoTransaction

module _ (inside : Option Inside) (p : ℕ) (step : Step) where
  -- a step does the same where two states agree at what it reads and writes
  pub act_same : (S R : State) → AgreeOn (objects_at inside p (page_of_step step) S) S R
      → effect_at inside p (page_of_step step) S ≡ effect_at inside p (page_of_step step) R
  act_same S R a =
      or_same (S.procs p) (R.procs p) (idle NoProcess) _ _ (a (Proc p) (has_head (Proc p) _)).equal
      λ me there. when_same (is_some me.status) (is_some me.status) (idle NotRunning) _ _ refl
      λ runs. (step_local inside p step me).same S R (subst (λ (os : List Object). AgreeOn os S R) (names_as inside p (page_of_step step) S me there) a)

  -- and reads and writes the same
  pub footprint_same : (S R : State) → AgreeOn (objects_at inside p (page_of_step step) S) S R
      → objects_at inside p (page_of_step step) S ≡ objects_at inside p (page_of_step step) R
  footprint_same S R a =
      ap (λ (os : List Object). Proc p ∷ os)
      (or_same (S.procs p) (R.procs p) [] _ _ (a (Proc p) (has_head (Proc p) _)).equal
      λ me there. (step_local inside p step me).foot S R (subst (λ (os : List Object). AgreeOn os S R) (names_as inside p (page_of_step step) S me there) a))

  -- its writes stay in what it names
  pub act_fits : (S : State) (all : List Object) → Covers all (objects_at inside p (page_of_step step) S)
      → WritesFit S all (effect_at inside p (page_of_step step) S).writes × ConclusionIn (effect_at inside p (page_of_step step) S).conclusion all
  act_fits S all c =
      where_runs inside p (page_of_step step) S (λ f. WritesFit S all f.writes × ConclusionIn f.conclusion all) (λ why. (tt, tt))
      λ me there runs. (step_local inside p step me).fits S all there (subst (Covers all) (names_as inside p (page_of_step step) S me there) c)

  module _ (i : Inside) (e : inside ≡ Some i) where
    -- a member sends to members
    pub act_sends : (S : State) → i.members p ≡ true → (m : Sending) → IsIn m (effect_at inside p (page_of_step step) S).sends → i.members m.target ≡ true
    act_sends S member m =
        where_runs inside p (page_of_step step) S (λ f. IsIn m f.sends → i.members m.target ≡ true) (λ why h. absurd h)
        λ me there runs h. (step_local inside p step me).sends S i e member m h

    -- and holds with its own transaction
    pub act_holds : (S : State) (u : ℕ) → has_object (Held u) (objects_at inside p (page_of_step step) S) ≡ true → u ≡ i.starter
    unfolding has_object
    act_holds S u =
        where_there inside p (page_of_step step) S (λ os. has_object (Held u) os ≡ true → u ≡ i.starter) (λ h. cc)
        λ me there h. (step_local inside p step me).holds S i e u h
