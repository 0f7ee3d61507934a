-- Which calls and deliveries end their process, and what the transactions make of that.
use Rattle.std.proofs.Common.{◌≡◌, ℕ, Bool, true, false, not, ℤ, pos, negsuc, Option, Some, None, ◌==◌, refl, sym, ap, ◌∙◌}
use Rattle.tx_base.specs.declared.marks.Mark.{Mark}
use Rattle.tx_base.specs.declared.steps.Call.{Call}
use Rattle.tx_base.specs.declared.steps.Call.TheVariants as call
use Rattle.tx_base.specs.declared.steps.Reply.{Reply}
use Rattle.tx_base.specs.declared.steps.Step.{Step}
use Rattle.tx_base.specs.declared.steps.Step.TheVariants.{Call as Calls, Deliver, KernelAbort}
use Rattle.tx_base.specs.declared.errors.Errno.TheVariants.{NotPermitted}
use Rattle.tx_model.specs.Forms.{caller, fails, does, effect_of, ◌when◌}
use Rattle.tx_model.specs.Book.{sigqueue}
use Rattle.tx_model.specs.State.{Process, State}
use Rattle.tx_model.specs.Effects.{Inside, Effect, Conclusion, Replies, AnswersPost, ListsFailed}
use Rattle.tx_model.specs.Processes.{ending, exit_status}
use Rattle.tx_model.specs.Deliveries.{delivered_value, ends_by, delivery_page}
use Rattle.tx_model.specs.Book.{page_of_call}
use Rattle.tx_model.specs.Events.{Do, Note, effect, reply_of}
use Rattle.tx_model.specs.Membership.{Table, inside_by, Kind, Ordinary, Forking, Beginning, Leaving, Aborting, says_ended, kind_event, Role, event_in}
use Rattle.tx_model.specs.Words.{ordinary_role, call_effect, delivery_effect, kind_of, kind_role}
use Rattle.tx_model.specs.View.{View, present, first_reply}
use Rattle.tx_model.specs.BookLaws.{sigqueue_lines, delivery_lines, where_runs, runs_as}
use Rattle.tx_laws.proofs.OfActs.{call_mild}
use Rattle.tx_laws.specs.Endings.{is_exit, end_reply, ExitIsTold, ExitsSayEnd, OtherCallsSayNoEnd, DeliveriesSayEnd, StepIsToldByEnd, OtherCallIsTold, DeliveryIsTold}
use Rattle.tx_laws.proofs.Mild.{GoesOn, goes_unended}
use Rattle.tx_laws.proofs.KeepsView.{reply_ends}
use Rattle.tx_laws.proofs.PlainWrites.{concludes_ended}

goes_concludes : (c : Conclusion) → GoesOn c → concludes_ended c ≡ false
goes_concludes (Replies r) h = goes_unended r h
goes_concludes (AnswersPost p) h = refl
goes_concludes ListsFailed h = absurd h

-- an act of process p, which is me and runs
module _ (inside : Option Inside) (p : ℕ) (me : Process) (S : State) where
  -- a send ends nobody
  send_goes : (t signo value : ℤ) → concludes_ended (effect_of p me (sigqueue t signo value (caller inside p me S))).conclusion ≡ false
  send_goes t signo value =
      sigqueue_lines (λ o. concludes_ended (effect_of p me o).conclusion ≡ false) (caller inside p me S) (λ e. refl) t signo value refl (λ n target a b out. refl) (λ n target i a b held some room. refl)

  -- no call but an exit ends its process
  call_goes : (c : Call) → is_exit c ≡ false → concludes_ended (call_effect inside p c me S).conclusion ≡ false
  call_goes (call.Exit status) other = cc
  call_goes (call.Kill t signo) other = send_goes t signo (pos 0)
  call_goes (call.Sigqueue t signo value) other = send_goes t signo value
  call_goes c other = goes_concludes (call_effect inside p c me S).conclusion (call_mild inside p c me S tt).goes_on

  delivery_ends : (signo : ℕ) → concludes_ended (delivery_effect inside p signo me S).conclusion ≡ ends_by inside signo me (delivered_value signo me)
  delivery_ends signo =
      delivery_lines (λ o. concludes_ended (effect_of p me o).conclusion ≡ ends_by inside signo me (delivered_value signo me)) (caller inside p me S) signo (λ why e. sym e)
      (λ value d e. sym e) (λ value d e. sym e) (λ value point mask d e k room. sym e)

-- the replies
pub other_calls_say : OtherCallsSayNoEnd
unfolding effect
other_calls_say S pid c inside other =
    reply_ends (Do (Calls pid c) inside) S
    ∙ where_runs inside pid.0 (page_of_call c) S (λ f. concludes_ended f.conclusion ≡ false) (λ why. refl) (λ me here runs. call_goes inside pid.0 me S c other)

pub deliveries_say : DeliveriesSayEnd
unfolding effect
deliveries_say S pid signo inside me here runs =
    reply_ends (Do (Deliver pid signo) inside) S
    ∙ ap (λ (f : Effect). concludes_ended f.conclusion) (runs_as inside pid.0 (delivery_page signo.0) S me here runs)
    ∙ delivery_ends inside pid.0 me S signo.0

pub exits_say : ExitsSayEnd
unfolding effect
exits_say S pid status inside me here runs =
    reply_ends (Do (Calls pid (call.Exit status)) inside) S
    ∙ ap (λ (f : Effect). concludes_ended f.conclusion) (runs_as inside pid.0 (page_of_call (call.Exit status)) S me here runs)
    ∙ by (pid.0 == 1)
  where
    by : (b : Bool) → concludes_ended (effect_of pid.0 me ((fails NotPermitted when b) (does (ending (exit_status status) (caller inside pid.0 me S))))).conclusion ≡ not b
    by true = refl
    by false = refl

note_says : (p : ℕ) (r : ℤ) (S : State) → says_ended (reply_of (Note p r) S) ≡ false
unfolding reply_of effect
note_says p r S = refl

-- the first reply to a call that says of no end where its step is made as it is
kind_says : (t : Table) (p : ℕ) (step : Step) (S : State) (k : Kind) (mark : Option Mark) → says_ended (reply_of (Do step (inside_by t mark)) S) ≡ false
    → says_ended (reply_of (kind_event t p step k mark) S) ≡ false
kind_says t p step S Ordinary mark h = h
kind_says t p step S (Forking c) mark h = h
kind_says t p step S (Beginning defers) None h = note_says p (pos 0) S
kind_says t p step S (Beginning defers) (Some m) h = note_says p (negsuc 21) S
kind_says t p step S Leaving None h = note_says p (negsuc 21) S
kind_says t p step S Leaving (Some m) h = note_says p (pos 0) S
kind_says t p step S Aborting None h = note_says p (negsuc 21) S
kind_says t p step S Aborting (Some m) h = note_says m.starter.0 _ S

end_says : (ends : Bool) → says_ended (end_reply ends) ≡ ends
end_says true = refl
end_says false = refl

-- of a reply, a role asks for nothing but whether the process ended
same_role : (t : Table) (p : ℕ) (k : Kind) (mark : Option Mark) (a b : Reply) → says_ended a ≡ says_ended b → kind_role t p k a mark ≡ kind_role t p k b mark
same_role t p Ordinary None a b h = refl
same_role t p Ordinary (Some m) a b h = ap (λ (ends : Bool). ordinary_role ends t m.starter.0 p) h
same_role t p (Forking c) None a b h = refl
same_role t p (Forking c) (Some m) a b h = refl
same_role t p (Beginning defers) None a b h = refl
same_role t p (Beginning defers) (Some m) a b h = refl
same_role t p Leaving None a b h = refl
same_role t p Leaving (Some m) a b h = refl
same_role t p Aborting None a b h = refl
same_role t p Aborting (Some m) a b h = refl

told_by : (V : View) (p : ℕ) (step : Step) (k : Kind) (a : Reply) (ends : Bool) → says_ended a ≡ ends
    → (kind_role V.table p k (end_reply ends) (V.table.marks p) ≡ kind_role V.table p k a (V.table.marks p))
    × (event_in (kind_role V.table p k (end_reply ends) (V.table.marks p)) (kind_event V.table p step k (V.table.marks p))
    ≡ event_in (kind_role V.table p k a (V.table.marks p)) (kind_event V.table p step k (V.table.marks p)))
told_by V p step k a ends h =
    let same : kind_role V.table p k (end_reply ends) (V.table.marks p) ≡ kind_role V.table p k a (V.table.marks p) =
    same_role V.table p k (V.table.marks p) (end_reply ends) a (end_says ends ∙ sym h)
    in
    (same, ap (λ (r : Role). event_in r (kind_event V.table p step k (V.table.marks p))) same)

pub step_told : StepIsToldByEnd
step_told V (Calls pid c) ends asked h = told_by V pid.0 (Calls pid c) (kind_of c) (first_reply V (Calls pid c)) ends h
step_told V (Deliver pid signo) ends asked h = told_by V pid.0 (Deliver pid signo) Ordinary (first_reply V (Deliver pid signo)) ends h
step_told V (KernelAbort s) ends asked h = cc

pub other_call_told : OtherCallIsTold
other_call_told V pid c other =
    step_told V (Calls pid c) false refl
    (kind_says V.table pid.0 (Calls pid c) (present V) (kind_of c) (V.table.marks pid.0) (other_calls_say (present V) pid c (inside_by V.table (V.table.marks pid.0)) other))

pub delivery_told : DeliveryIsTold
delivery_told V pid signo me here runs =
    step_told V (Deliver pid signo) _ refl (deliveries_say (present V) pid signo (inside_by V.table (V.table.marks pid.0)) me here runs)

pub exit_told : ExitIsTold
exit_told V pid status me here runs =
    step_told V (Calls pid (call.Exit status)) (not (pid.0 == 1)) refl (exits_say (present V) pid status (inside_by V.table (V.table.marks pid.0)) me here runs)
