-- What steps send, and what they leave of what is held.
use Rattle.std.proofs.Common.{◌≡◌, ℕ, ℤ, pos, Bool, true, false, if◌then◌else◌, List, [], ◌∷◌, ◌++◌, Option, Some, None, Ok, refl, ap, sym, ◌∙◌}
use Rattle.tx_base.specs.declared.names.Sending.{Sending as TheSending}
use Rattle.tx_base.specs.declared.steps.Call.{Call}
use Rattle.tx_base.specs.declared.steps.Call.TheVariants as call
use Rattle.tx_base.specs.declared.steps.Refusal.TheVariants.{Deferred}
use Rattle.tx_change.specs.States.{state_of}
use Rattle.tx_kernel.proofs.EndStates.{told_same, written-append}
use Rattle.tx_kernel.proofs.OwnPlans.{held_quiet}
use Rattle.tx_kernel.specs.Actors.{effect_by, inside_of, me_of, CountsHeld}
use Rattle.tx_kernel.proofs.Sent.{same_held}
use Rattle.tx_kernel.specs.Calls.{sends_nothing}
use Rattle.tx_kernel.specs.Plans.{held_after, sending_of, sent_at_once}
use Rattle.tx_kernel.specs.Piped.{broken_sending, writing_outcome}
use Rattle.tx_kernel.specs.Sends.{IsSentBy, holds_more, sends_by, sent}
use Rattle.tx_kernel.specs.declared.actor.Actor.{Actor}
use Rattle.tx_kernel.specs.declared.inside.Inside.{Inside as InsideOf}
use Rattle.tx_kernel.specs.declared.planned.Outcome.TheVariants.{Ended}
use Rattle.tx_kernel.specs.declared.planned.Sends.{Sends}
use Rattle.tx_kernel.specs.declared.planned.Sends.TheVariants.{AtCommit, AtOnce, Nothing}
use Rattle.tx_kernel.specs.declared.sends.Send.{Send}
use Rattle.tx_kernel.specs.declared.sends.Send.TheVariants.{Answers, Holds, Posts}
use Rattle.tx_kernel.specs.declared.transfers.Writing.{Writing}
use Rattle.tx_kernel.specs.declared.transfers.Writing.TheVariants as writing
use Rattle.tx_model.specs.BookLaws.{fork_lines, waitpid_lines, pipe_lines, dup_lines, dup2_lines, close_lines, set_nonblock_lines, read_lines, through_when}
use Rattle.tx_kernel.proofs.AnyCall.{own_lines}
use Rattle.tx_laws.specs.OwnCalls.{OwnCallsStayOwn}
use Rattle.tx_model.specs.Book.{release, page_of_call, broken_pipe}
use Rattle.tx_model.specs.Words.{call_effect, is_full, before_sends, answer_effect}
use Rattle.tx_model.specs.Forms.{Caller, Outcome, caller, changes, does, effect_of, refuses}
use Rattle.tx_model.specs.Deliveries.{action_at, ends_by, is_deferred, killed_status, is_killing, without_delivered}
use Rattle.tx_kernel.proofs.Delivered.{delivered, reacting}
use Rattle.tx_model.specs.Descriptors.{pipe_removals, has_description, is_named, option_list, description_named, open_in, pipes_of, removals, description_removals, with_descriptor}
use Rattle.tx_model.specs.Effects.{with_answer, Effect, Inside}
use Rattle.tx_model.specs.Processes.{children_of, ended_process, ending, orphan_writes, parent_notice, Notice, notice_now, notice_held}
use Rattle.tx_model.specs.Signals.{disposition, Caught, Disposition, Fatal, Ignored}
use Rattle.tx_model.specs.State.{write_one, with_writes, Process, Sending, SetDesc, SetHeld, SetPipe, SetProc, State, Write}

-- the writes leave what is held
abbrev LeaveHeld : List Write → Type 0
LeaveHeld [] = Unit {0}
LeaveHeld (SetProc n q ∷ ws) = LeaveHeld ws
LeaveHeld (SetDesc n d ∷ ws) = LeaveHeld ws
LeaveHeld (SetPipe n bytes ∷ ws) = LeaveHeld ws
LeaveHeld (SetHeld n ms ∷ ws) = ⊥

held_left : (ws : List Write) (S : State) → LeaveHeld ws → (with_writes ws S).held ≡ S.held
unfolding with_writes
held_left [] S leave = refl
held_left (SetProc n q ∷ ws) S leave = held_left ws (write_one (SetProc n q) S) leave
held_left (SetDesc n d ∷ ws) S leave = held_left ws (write_one (SetDesc n d) S) leave
held_left (SetPipe n bytes ∷ ws) S leave = held_left ws (write_one (SetPipe n bytes) S) leave
held_left (SetHeld n ms ∷ ws) S leave = absurd leave

leave_both : (front behind : List Write) → LeaveHeld front → LeaveHeld behind → LeaveHeld (front ++ behind)
leave_both [] behind f b = b
leave_both (SetProc n q ∷ front) behind f b = leave_both front behind f b
leave_both (SetDesc n d ∷ front) behind f b = leave_both front behind f b
leave_both (SetPipe n bytes ∷ front) behind f b = leave_both front behind f b
leave_both (SetHeld n ms ∷ front) behind f b = absurd f

unnamed_leave : (ds : List ℕ) (S : State) → LeaveHeld (description_removals ds S)
unfolding description_removals
unnamed_leave [] S = tt
unnamed_leave (d ∷ ds) S = by (unnamed_leave ds S) (is_named d S)
  where
    by : LeaveHeld (description_removals ds S) → (b : Bool) → LeaveHeld (if b then description_removals ds S else SetDesc d None ∷ description_removals ds S)
    by rest true = rest
    by rest false = rest

endless_leave : (ks : List ℕ) (S : State) → LeaveHeld (pipe_removals ks S)
unfolding pipe_removals
endless_leave [] S = tt
endless_leave (k ∷ ks) S = by (endless_leave ks S) (has_description k S)
  where
    by : LeaveHeld (pipe_removals ks S) → (b : Bool) → LeaveHeld (if b then pipe_removals ks S else SetPipe k None ∷ pipe_removals ks S)
    by rest true = rest
    by rest false = rest

released_leave : (ds : List ℕ) (S : State) → LeaveHeld (removals ds S)
released_leave ds S =
    leave_both (description_removals ds S) (pipe_removals (pipes_of ds S) (with_writes (description_removals ds S) S)) (unnamed_leave ds S) (endless_leave (pipes_of ds S) (with_writes (description_removals ds S) S))

orphans_leave : (qs : List ℕ) (S : State) → LeaveHeld (orphan_writes qs S)
unfolding orphan_writes
orphans_leave [] S = tt
orphans_leave (q ∷ qs) S = orphans_leave qs S

-- nothing is sent, and what is held is left
pub record IsSilent (f : Effect) : Type 0 where
  pub sends : f.sends ≡ []
  pub leaves : LeaveHeld f.writes

pub silent_sends : (actor : Actor) (rule : State → Effect) → ((held : ℕ → List Sending) → IsSilent (rule (state_of held actor.parts.now))) → IsSentBy actor Nothing rule
silent_sends actor rule silent = record {
  at_once = λ held counted. (silent held).sends;
  handed_out = λ held counted. held_left (rule (state_of held actor.parts.now)).writes (state_of held actor.parts.now) (silent held).leaves ∙ sym (held_quiet actor.inside Ended held);
}

-- a call that sends nothing
pub record SendsNothing (c : Call) : Type 0 where
  pub kill : (x y : ℤ) → c ≡ call.Kill x y → ⊥
  pub sigqueue : (x y z : ℤ) → c ≡ call.Sigqueue x y z → ⊥
  pub exit : (x : ℤ) → c ≡ call.Exit x → ⊥
  pub write : (x y z : ℤ) → c ≡ call.Write x y z → ⊥

apart : {b : Bool} → b ≡ true → b ≡ false → ⊥
apart {b} is other = cc

-- such a call is none of the four that may send
pub quiet_call_is : (called : Call) → sends_nothing called ≡ true → SendsNothing called
quiet_call_is called quiet = record {
  kill = λ x y e. apart quiet (ap sends_nothing e);
  sigqueue = λ x y z e. apart quiet (ap sends_nothing e);
  exit = λ x e. apart quiet (ap sends_nothing e);
  write = λ x y z e. apart quiet (ap sends_nothing e);
}

-- what comes to this sends nothing
abbrev IsSilentBy : Caller → Outcome → Type 0
IsSilentBy c outcome = IsSilent (effect_of c.number c.process outcome)

silent_up : (d : Caller) (ds : List ℕ) (r : ℤ) (q : Process) → IsSilentBy d (release ds r q d)
silent_up d ds r q = record { sends = refl; leaves = released_leave ds (write_one (SetProc d.number (Some (with_answer r q))) d.state) }

page_silent : OwnCallsStayOwn → (d : Caller) (c : Call) → SendsNothing c → IsSilentBy d ((page_of_call c).outcome d)
page_silent law d (call.Kill x y) is = absurd (is.kill x y refl)
page_silent law d (call.Sigqueue x y z) is = absurd (is.sigqueue x y z refl)
page_silent law d (call.Exit x) is = absurd (is.exit x refl)
page_silent law d (call.Write x y z) is = absurd (is.write x y z refl)
page_silent law d (call.Fork child) is = fork_lines (IsSilentBy d) d (λ e. record { sends = refl; leaves = tt }) child.0 (λ z. record { sends = refl; leaves = tt }) (λ z. record { sends = refl; leaves = tt })
page_silent law d (call.Waitpid t nohang) is = waitpid_lines (IsSilentBy d) d (λ e. record { sends = refl; leaves = tt }) t nohang (record { sends = refl; leaves = tt }) (record { sends = refl; leaves = tt }) (λ child status q a b e z. record { sends = refl; leaves = tt })
page_silent law d (call.Pipe k r w) is = pipe_lines (IsSilentBy d) d (λ e. record { sends = refl; leaves = tt }) k.0 r.0 w.0 (record { sends = refl; leaves = tt }) (λ f g a b z. record { sends = refl; leaves = tt })
page_silent law d (call.Dup f) is = dup_lines (IsSilentBy d) d (λ e. record { sends = refl; leaves = tt }) f (λ x g a z. record { sends = refl; leaves = tt })
page_silent law d (call.Dup2 f g) is = dup2_lines (IsSilentBy d) d (λ e. record { sends = refl; leaves = tt }) f g (λ k. record { sends = refl; leaves = tt }) (λ k x l a b e z. silent_up d (option_list (description_named d.process (Some l))) (pos l) (with_descriptor l (Some x) d.process))
page_silent law d (call.Close f) is = close_lines (IsSilentBy d) d (λ e. record { sends = refl; leaves = tt }) f (λ k x a z. silent_up d (x ∷ []) (pos 0) (with_descriptor k None d.process))
page_silent law d (call.SetNonblock f on) is = set_nonblock_lines (IsSilentBy d) d (λ e. record { sends = refl; leaves = tt }) f on (λ k x a z. record { sends = refl; leaves = tt })
page_silent law d (call.Read f address n) is = read_lines (IsSilentBy d) d (λ e. record { sends = refl; leaves = tt }) f address n (record { sends = refl; leaves = tt }) (record { sends = refl; leaves = tt }) (λ end m a b z. record { sends = refl; leaves = tt })
page_silent law d c is = own_lines law (IsSilentBy d) d (λ e. record { sends = refl; leaves = tt }) (λ r. record { sends = refl; leaves = tt }) (λ r q. record { sends = refl; leaves = tt }) (λ q reply accepted. record { sends = refl; leaves = tt }) c refl

pub silent_call : OwnCallsStayOwn → (inside : Option Inside) (p : ℕ) (c : Call) (me : Process) (S : State) → SendsNothing c → IsSilent (call_effect inside p c me S)
silent_call law inside p c me S is = page_silent law (record { number = p; process = me; inside = inside; state = S }) c is

-- the end of a process: its parent may be told
pub ending_sends : (actor : Actor) (sends : Sends) (status : ℕ) (me : Process) →
    notice_now (parent_notice (inside_of actor.inside) me.parent) me.parent ≡ sent_at_once sends →
    ((S : State) → with_writes (notice_held (parent_notice (inside_of actor.inside) me.parent) me.parent S) S ≡ record S { held = held_after (inside_of actor.inside) sends S.held }) →
    IsSentBy actor sends (λ S. ending status (caller (inside_of actor.inside) actor.pid.0 me S))
ending_sends actor sends status me at_once at_commit = record {
  at_once = λ held counted. at_once;
  handed_out = λ held counted.
      let S : State = state_of held actor.parts.now in
      let p : ℕ = actor.pid.0 in
      let told : Notice = parent_notice (inside_of actor.inside) me.parent in
      let first : Write = SetProc p (Some (ended_process status me)) in
      let up : List Write = removals (open_in me.descriptors) (write_one first S) in
      let front : List Write = (first ∷ orphan_writes (children_of p S) S) ++ up in
      let T : State = with_writes front S in
      let same : T.held ≡ S.held = held_left front S (leave_both (first ∷ orphan_writes (children_of p S) S) up (orphans_leave (children_of p S) S) (released_leave (open_in me.descriptors) (write_one first S))) in
      ap (λ (X : State). X.held) (written-append front (notice_held told me.parent S) S
      ∙ ap (λ (ws : List Write). with_writes ws T) (told_same told me.parent S T (sym same)) ∙ at_commit T)
      ∙ ap (held_after (inside_of actor.inside) sends) same;
}

-- a rule that is equal to another sends the same
pub sends_same : (actor : Actor) (sends : Sends) (rule other : State → Effect) →
    ((held : ℕ → List Sending) → CountsHeld actor.inside held → rule (state_of held actor.parts.now) ≡ other (state_of held actor.parts.now)) →
    IsSentBy actor sends rule → IsSentBy actor sends other
sends_same actor sends rule other same by_rule = record {
  at_once = λ held counted. ap (λ (f : Effect). f.sends) (sym (same held counted)) ∙ by_rule.at_once held counted;
  handed_out = λ held counted. ap (λ (f : Effect). (before_sends f (state_of held actor.parts.now)).held) (sym (same held counted)) ∙ by_rule.handed_out held counted;
}

-- a delivery that ends the process, and one that does not
pub fatal_delivery : (c : Caller) (signo : ℕ) (value : Option ℤ) → ends_by c.inside signo c.process value ≡ true →
    delivered signo value c ≡ does (ending (killed_status signo) (record c { process = without_delivered signo c.process }))
fatal_delivery c signo None ends = cc
fatal_delivery c signo (Some value) ends = by (is_deferred c.inside signo) (disposition signo (action_at signo c.process)) ends
  where
    by : (b : Bool) (d : Disposition) → (if b then false else is_killing d) ≡ true →
        (if b then refuses Deferred else reacting signo value d c) ≡ does (ending (killed_status signo) (record c { process = without_delivered signo c.process }))
    by true d e = cc
    by false Ignored e = cc
    by false Fatal e = refl
    by false (Caught point mask) e = cc

pub silent_delivery : (c : Caller) (signo : ℕ) (value : Option ℤ) → ends_by c.inside signo c.process value ≡ false → IsSilentBy c (delivered signo value c)
silent_delivery c signo None ends = record { sends = refl; leaves = tt }
silent_delivery c signo (Some value) ends = by (is_deferred c.inside signo) (disposition signo (action_at signo c.process)) ends
  where
    by : (b : Bool) (d : Disposition) → (if b then false else is_killing d) ≡ false → IsSilentBy c (if b then refuses Deferred else reacting signo value d c)
    by true d e = record { sends = refl; leaves = tt }
    by false Ignored e = record { sends = refl; leaves = tt }
    by false Fatal e = cc
    by false (Caught point mask) e = through_when (IsSilentBy c) (is_full (without_delivered signo c.process)) _ _ (λ full. record { sends = refl; leaves = tt }) λ room. record { sends = refl; leaves = tt }

-- what a write comes to
pub broken_sends : (actor : Actor) (address : ℤ) (w : Writing) (m : TheSending) → w ≡ writing.Breaks → m ≡ broken_sending actor →
    IsSentBy actor (AtOnce m) (effect_by actor (writing_outcome address (Ok w)))
unfolding with_writes
broken_sends actor address w m is told =
    sends_same actor (AtOnce m) (λ S. broken_pipe actor.pid.0 (me_of actor)) (effect_by actor (writing_outcome address (Ok w)))
    (λ held counted. ap (λ (v : Writing). effect_by actor (writing_outcome address (Ok v)) (state_of held actor.parts.now)) (sym is))
    (record {
      at_once = λ held counted. ap (λ (n : TheSending). sending_of n ∷ []) (sym told);
      handed_out = λ held counted. sym (same_held actor.inside m held);
    })

pub unbroken_sends : (actor : Actor) (address : ℤ) (w : Writing) → (w ≡ writing.Breaks → ⊥) → IsSentBy actor Nothing (effect_by actor (writing_outcome address (Ok w)))
unbroken_sends actor address writing.Nothing other = silent_sends actor _ (λ held. record { sends = refl; leaves = tt })
unbroken_sends actor address writing.Breaks other = absurd (other refl)
unbroken_sends actor address writing.Waits other = silent_sends actor _ (λ held. record { sends = refl; leaves = tt })
unbroken_sends actor address (writing.Puts pipe n) other = silent_sends actor _ (λ held. record { sends = refl; leaves = tt })

-- an answer sends nothing
pub done_sends : (actor : Actor) (r : ℤ) → IsSentBy actor Nothing (λ S. answer_effect actor.pid.0 r (me_of actor))
done_sends actor r = silent_sends actor (λ S. answer_effect actor.pid.0 r (me_of actor)) (λ held. record { sends = refl; leaves = tt })

-- what a kill or a sigqueue comes to
pub sent_sends : (actor : Actor) (send : Send) → IsSentBy actor (sends_by send) (effect_by actor (sent send))
unfolding with_writes
sent_sends actor (Answers ret) = done_sends actor ret
sent_sends actor (Posts m) = record { at_once = λ held counted. refl; handed_out = λ held counted. sym (same_held actor.inside m held) }
sent_sends actor (Holds m) = record { at_once = λ held counted. refl; handed_out = λ held counted. by actor.inside held }
  where
    by : (inside : Option InsideOf) (held : ℕ → List Sending) →
        (before_sends (effect_of actor.pid.0 (me_of actor) (changes (pos 0) (me_of actor) (holds_more (inside_of inside) (sending_of m) (state_of held actor.parts.now)))) (state_of held actor.parts.now)).held
        ≡ held_after (inside_of inside) (AtCommit m) held
    by None held = refl
    by (Some inside) held = refl
