-- What a step shows on the console fits its reply.
use Rattle.std.proofs.Common.{◌≡◌, ◌+◌, ◌<◌, ℕ, Bool, true, false, List, length, ℤ, pos, Option, Some, None, if◌then◌else◌, nat_lt, refl, subst, arith}
use Rattle.std.proofs.lemmas.Bool.{ltb-true}
use Rattle.tx_base.specs.declared.limits.TheConstants.{CONSOLE_BYTES}
use Rattle.tx_base.specs.declared.steps.Call.{Call}
use Rattle.tx_base.specs.declared.steps.Call.TheVariants as call
use Rattle.tx_base.specs.declared.steps.Refusal.{Refusal}
use Rattle.tx_base.specs.declared.steps.Refusal.TheVariants.{NoTransaction}
use Rattle.tx_base.specs.declared.steps.Reply.{Reply}
use Rattle.tx_base.specs.declared.steps.Reply.TheVariants.{Done, Ended, Committed, Aborted, Out, No}
use Rattle.tx_base.specs.declared.steps.Step.{Step}
use Rattle.tx_base.specs.declared.steps.Step.TheVariants.{Call as Calls, Deliver, KernelAbort}
use Rattle.tx_model.specs.Forms.{caller, effect_of}
use Rattle.tx_model.specs.Book.{sigqueue}
use Rattle.tx_model.specs.State.{Process, State, Sending}
use Rattle.tx_model.specs.Effects.{Inside, Effect, Conclusion, Replies, AnswersPost, ListsFailed, concluding_reply, send_answers}
use Rattle.tx_model.specs.Words.{unless_refused, call_effect, delivery_effect}
use Rattle.tx_model.specs.Deliveries.{delivery_page}
use Rattle.tx_model.specs.Book.{page_of_call}
use Rattle.tx_model.specs.Events.{Event, Do, Note, Commit, step_effect, effect, reply_of}
use Rattle.tx_model.specs.Membership.{Role, Outside, Within, Commits, Aborts, is_live}
use Rattle.tx_model.specs.View.{View, present, kernel_status, abort_status, role_on, event_on}
use Rattle.tx_model.specs.Answer.{refusal, plain_reply, accepted_reply, answer}
use Rattle.tx_model.specs.BookLaws.{exit_lines, sigqueue_lines, delivery_lines, where_runs}
use Rattle.tx_laws.proofs.OfActs.{call_mild}
use Rattle.tx_laws.specs.Shown.{ShowsFew}
use Rattle.tx_laws.proofs.Mild.{GoesOn, IsMild, goes}

-- whether what the reply shows fits it
abbrev shows_few : Reply → Bool
shows_few (Done r) = true
shows_few Ended = true
shows_few (Committed undelivered) = true
shows_few (Aborted status) = true
shows_few (Out bytes) = nat_lt (length bytes.items) (CONSOLE_BYTES + 1)
shows_few (No why) = true

abbrev concludes_few : Conclusion → Bool
concludes_few (Replies r) = shows_few r
concludes_few (AnswersPost p) = true
concludes_few ListsFailed = true

goes_few : (r : Reply) → goes r ≡ true → shows_few r ≡ true
goes_few (Done r) h = refl
goes_few Ended h = refl
goes_few (Committed undelivered) h = refl
goes_few (Aborted status) h = refl
goes_few (Out bytes) h = h
goes_few (No why) h = refl

on_few : (c : Conclusion) → GoesOn c → concludes_few c ≡ true
on_few (Replies r) h = goes_few r h
on_few (AnswersPost p) h = refl
on_few ListsFailed h = refl

mild_few : {p : ℕ} (f : Effect) → IsMild p f → concludes_few f.conclusion ≡ true
mild_few f h = on_few f.conclusion h.goes_on

-- an act of process p, which is me and runs
module _ (inside : Option Inside) (p : ℕ) (me : Process) (S : State) where
  send_few : (t signo value : ℤ) → concludes_few (effect_of p me (sigqueue t signo value (caller inside p me S))).conclusion ≡ true
  send_few t signo value =
      sigqueue_lines (λ o. concludes_few (effect_of p me o).conclusion ≡ true) (caller inside p me S) (λ e. refl) t signo value refl (λ n target a b out. refl) (λ n target i a b held some room. refl)

  call_few : (c : Call) → concludes_few (call_effect inside p c me S).conclusion ≡ true
  call_few (call.Exit status) = exit_lines (λ o. concludes_few (effect_of p me o).conclusion ≡ true) (caller inside p me S) (λ e. refl) status (λ other. refl)
  call_few (call.Kill t signo) = send_few t signo (pos 0)
  call_few (call.Sigqueue t signo value) = send_few t signo value
  call_few c = mild_few _ (call_mild inside p c me S tt)

  delivery_few : (signo : ℕ) → concludes_few (delivery_effect inside p signo me S).conclusion ≡ true
  delivery_few signo =
      delivery_lines (λ o. concludes_few (effect_of p me o).conclusion ≡ true) (caller inside p me S) signo (λ why e. refl)
      (λ value d e. refl) (λ value d e. refl) (λ value point mask d e k room. refl)

step_few : (step : Step) (inside : Option Inside) (S : State) → concludes_few (step_effect step inside S).conclusion ≡ true
step_few (Calls pid c) inside S = where_runs inside pid.0 (page_of_call c) S (λ f. concludes_few f.conclusion ≡ true) (λ why. refl) (λ me here runs. call_few inside pid.0 me S c)
step_few (Deliver pid signo) inside S = where_runs inside pid.0 (delivery_page signo.0) S (λ f. concludes_few f.conclusion ≡ true) (λ why. refl) (λ me here runs. delivery_few inside pid.0 me S signo.0)
step_few (KernelAbort s) inside S = refl

event_few : (ev : Event) (S : State) → concludes_few (effect ev S).conclusion ≡ true
unfolding effect
event_few (Do step inside) S = step_few step inside S
event_few (Note p r) S = refl
event_few (Commit s ev) S = refl

-- the replies
concluded_few : (c : Conclusion) (ms : List Sending) (rs : List ℤ) → concludes_few c ≡ true → shows_few (concluding_reply c ms rs) ≡ true
concluded_few (Replies r) ms rs h = h
concluded_few (AnswersPost p) ms rs h = refl
concluded_few ListsFailed ms rs h = refl

reply_few : (ev : Event) (S : State) → shows_few (reply_of ev S) ≡ true
unfolding reply_of
reply_few ev S = concluded_few (effect ev S).conclusion (effect ev S).sends (send_answers (effect ev S) S) (event_few ev S)

plain_few : (status : ℕ) (r : Role) (ev : Event) (S : State) → shows_few (plain_reply status r ev S) ≡ true
plain_few status Outside ev S = reply_few ev S
plain_few status (Within s part) ev S = reply_few ev S
plain_few status (Commits s) ev S = reply_few ev S
plain_few status (Aborts s k) ev S = refl

refused_few : (why : Option Refusal) (r : Reply) → shows_few r ≡ true → shows_few (unless_refused why r) ≡ true
refused_few None r h = h
refused_few (Some why) r h = refl

accepted_few : (V : View) (step : Step) → shows_few (accepted_reply V step) ≡ true
accepted_few V step = plain_few (abort_status V step) (role_on V step) (event_on V step) (present V)

answer_few : (V : View) (step : Step) → shows_few (answer V step) ≡ true
unfolding answer
answer_few V (Calls p c) = refused_few (refusal V p.0 (Calls p c)) (accepted_reply V (Calls p c)) (accepted_few V (Calls p c))
answer_few V (Deliver p signo) = refused_few (refusal V p.0 (Deliver p signo)) (accepted_reply V (Deliver p signo)) (accepted_few V (Deliver p signo))
answer_few V (KernelAbort s) = by (is_live V.table s.0)
  where
    by : (b : Bool) → shows_few (if b then Aborted (kernel_status V s.0) else No NoTransaction) ≡ true
    by true = refl
    by false = refl

-- what a step shows fits its reply
pub shown_few : ShowsFew
shown_few V step bytes h =
    let few : nat_lt (length bytes.items) 65 ≡ true = subst (λ (r : Reply). shows_few r ≡ true) h (answer_few V step) in
    let less : length bytes.items < 65 = ltb-true (length bytes.items) 65 few in
    omega arith
