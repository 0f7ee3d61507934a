-- The answer to a step, and the histories of answered steps. Own rules.
use Rattle.std.specs.Prelude.{◌≡◌, ℕ, Bool, true, false, not, ◌&&◌, ◌||◌, ◌==◌, nat_lt, List, [], ◌∷◌, Option, Some, None, is_some, is_none, if◌then◌else◌}
use Rattle.tx_base.specs.declared.limits.TheConstants.{DESCRIPTIONS, PIPES}
use Rattle.tx_base.specs.declared.marks.Mark.{Mark}
use Rattle.tx_base.specs.declared.steps.Accepted.{Accepted}
use Rattle.tx_base.specs.declared.steps.Refusal.{Refusal}
use Rattle.tx_base.specs.declared.steps.Refusal.TheVariants.{NoProcess, NotRunning, BadNumber, NumberTaken, Doomed, Parked, KillPending, Busy, NoTransaction}
use Rattle.tx_base.specs.declared.steps.Reply.{Reply}
use Rattle.tx_base.specs.declared.steps.Reply.TheVariants.{Aborted, No}
use Rattle.tx_base.specs.declared.steps.Step.{Step}
use Rattle.tx_base.specs.declared.steps.Step.TheVariants.{Deliver, KernelAbort}
pub use Rattle.tx_model.specs.Forms.{Choice, ChoosesNothing, ChoosesProcess, ChoosesPipe}
use Rattle.tx_model.specs.Forms.{◌when◌, ◌>>◌, ◌or◌, ◌>>=◌}
use Rattle.tx_model.specs.State.{Process, State, is_between}
use Rattle.tx_model.specs.SignalSets.{kill_signo}
use Rattle.tx_model.specs.Descriptors.{is_pipe_in_use}
use Rattle.tx_model.specs.Events.{Event, reply_of, process_of, page_of_step}
use Rattle.tx_model.specs.Membership.{is_live, Role, Aborts}
use Rattle.tx_model.specs.History.{Starters, nobody, role_in, event_of, left_out_before, is_left_in, without}
use Rattle.tx_model.specs.View.{View, view, present, has_pending, is_doomed, kernel_status, abort_status, role_on, event_on, starter_in_way}

abbrev pub is_running : Option Process → Bool
is_running None = false
is_running (Some q) = is_none q.status

abbrev pub is_parked : Option Mark → Bool
is_parked None = false
is_parked (Some m) = m.ended

abbrev pub delivers_kill : Step → Bool
delivers_kill (Deliver p signo) = signo.0 == kill_signo
delivers_kill step = false

-- whether a chosen number is out of range, or one is chosen twice: processes are 1 to the width,
-- pipes 0 to 31, descriptions 0 to 63
abbrev pub is_bad_choice : ℕ → Choice → Bool
is_bad_choice width ChoosesNothing = false
is_bad_choice width (ChoosesProcess child) = not (is_between width child)
is_bad_choice width (ChoosesPipe q r w) =
    not (nat_lt q PIPES && nat_lt r DESCRIPTIONS && nat_lt w DESCRIPTIONS) || r == w

abbrev pub is_choice_in_use : State → Choice → Bool
is_choice_in_use S ChoosesNothing = false
is_choice_in_use S (ChoosesProcess child) = is_some (S.procs child)
is_choice_in_use S (ChoosesPipe q r w) = is_pipe_in_use q r w S

-- at an abort its status. A call that waits and a delivery that can't be made are refused by their
-- rules
abbrev pub plain_reply : ℕ → Role → Event → State → Reply
plain_reply status (Aborts s k) ev S = Aborted status
plain_reply status other ev S = reply_of ev S

abbrev pub IsAccepted : Reply → Type 0
IsAccepted (No why) = ⊥
IsAccepted reply = Unit {0}

module _ (V : View) where
  abbrev pub is_there : ℕ → Bool
  is_there p = if is_between V.table.width p then is_some ((present V).procs p) else false

  abbrev pub is_doomed_at : Option Mark → Bool
  is_doomed_at None = false
  is_doomed_at (Some m) = is_doomed V m.starter.0

  -- why a step of process p is refused before it is made
  abbrev pub refusal : ℕ → Step → Option Refusal
  refusal p step = do
    let mark = V.table.marks p
    let chosen = (page_of_step step).chooses
    Some NoProcess when not (is_there p)
    Some NotRunning when not (is_running ((present V).procs p))
    Some BadNumber when is_bad_choice V.table.width chosen
    Some NumberTaken when is_choice_in_use (present V) chosen
    Some Doomed when is_doomed_at mark
    Some Parked when is_parked mark
    Some KillPending when has_pending kill_signo ((present V).procs p) && not (delivers_kill step)
    starter ← starter_in_way V (event_on V step) or None
    Some (Busy (record { 0 = starter }))

  abbrev pub accepted_reply : Step → Reply
  accepted_reply step =
      plain_reply (abort_status V step) (role_on V step) (event_on V step) (present V)

  unfoldable pub answer : Step → Reply
  answer (KernelAbort s) =
      if is_live V.table s.0 then Aborted (kernel_status V s.0) else No NoTransaction
  answer step =
      elim (refusal (process_of step) step) [ None ↦ accepted_reply step | Some why ↦ No why ]

module _ (S : State) where
  -- each reply is the accepted answer to its step on the view of the entries before it
  unfoldable pub Lawful : List Accepted → Type 0
  Lawful [] = Unit {0}
  Lawful (e ∷ h) = Lawful h × (answer (view S h) e.step ≡ e.reply) × IsAccepted e.reply

  -- at each place whose step survives without X, the reply is that of its event in the plain run of
  -- the survivors
  unfoldable pub AgreesWithout : Starters → List Accepted → Type 0
  AgreesWithout X [] = Unit {0}
  AgreesWithout X (e ∷ h) =
      (is_left_in (role_in S e h) X ≡ true
      → e.reply
      ≡ plain_reply (abort_status (view S h) e.step) (role_in S e h) (event_of S e h)
      (without S (left_out_before (role_in S e h) X) h))
      × AgreesWithout (left_out_before (role_in S e h) X) h

  abbrev pub Agreement : List Accepted → Type 0
  Agreement h = AgreesWithout nobody h
