-- What there is to see of a history, and what one more step makes of it. Own rules.
use Rattle.std.specs.Prelude.{ℕ, zero, suc, Bool, false, List, [], ◌∷◌, ℤ, Option, Some, None, is_some, if◌then◌else◌, ◌==◌, true}
use Rattle.std.specs.Ordering.{int_eq}
use Rattle.std.specs.Int.{bit_at}
use Rattle.tx_base.specs.declared.limits.TheConstants.{ABORTED_BY_CALL, ABORTED_BY_KERNEL, ABORTED_DOOMED}
use Rattle.tx_base.specs.declared.steps.Accepted.{Accepted}
use Rattle.tx_base.specs.declared.steps.Reply.{Reply}
use Rattle.tx_base.specs.declared.steps.Reply.TheVariants.{Aborted}
use Rattle.tx_base.specs.declared.steps.Step.{Step}
use Rattle.tx_base.specs.declared.steps.Step.TheVariants.{KernelAbort}
use Rattle.tx_model.specs.State.{Process, State, Sending, Object}
use Rattle.tx_model.specs.SignalSets.{kill_signo}
use Rattle.tx_model.specs.Effects.{send_answers}
use Rattle.tx_model.specs.Events.{Event, process_of, actor, effect, after, reply_of}
use Rattle.tx_model.specs.Membership.{Table, Role, role, requested_event, event, table_after}
use Rattle.tx_model.specs.History.{Starters, nobody, just, table_of, left_out_before, is_left_in, without, event_footprint, reserved_after, reserved_of, is_other_starter}

pub record View : Type 0 where
  pub without : Starters → State
  pub table : Table
  pub reserved : ℕ → Object → Bool

unfoldable pub view : State → List Accepted → View
view S h = record { without = λ X. without S X h; table = table_of S h; reserved = reserved_of S h }

abbrev pub has_pending : ℕ → Option Process → Bool
has_pending signo None = false
has_pending signo (Some q) = bit_at q.pending signo == 1

unfoldable pub some_object : List Object → (Object → Bool) → Bool
some_object [] P = false
some_object (o ∷ os) P = if P o then true else some_object os P

-- whether the two lists answer a post to target t otherwise
unfoldable pub differs_at : ℕ → List Sending → List ℤ → List ℤ → Bool
differs_at t [] xs ys = false
differs_at t (m ∷ ms) [] ys = false
differs_at t (m ∷ ms) (x ∷ xs) [] = false
differs_at t (m ∷ ms) (x ∷ xs) (y ∷ ys) =
    if m.target == t
    then (if int_eq x y then differs_at t ms xs ys else true)
    else differs_at t ms xs ys

-- up to n
unfoldable pub least : (ℕ → Bool) → ℕ → Option ℕ
least P zero = if P zero then Some zero else None
least P (suc n) =
    if is_some (least P n) then least P n else (if P (suc n) then Some (suc n) else None)

module _ (V : View) where
  abbrev pub present : State
  present = V.without nobody

  -- doomed: SIGKILL would be pending at the starter after an abort
  abbrev pub is_doomed : ℕ → Bool
  is_doomed s = has_pending kill_signo ((V.without (just s)).procs s)

  -- 203 where it is doomed, else 202 (own numbers)
  abbrev pub kernel_status : ℕ → ℕ
  kernel_status s = if is_doomed s then ABORTED_DOOMED else ABORTED_BY_KERNEL

  abbrev pub abort_status : Step → ℕ
  abort_status (KernelAbort s) = kernel_status s.0
  abort_status step = ABORTED_BY_CALL

  -- the reply before it is known whether the step commits
  abbrev pub first_reply : Step → Reply
  first_reply (KernelAbort s) = Aborted (kernel_status s.0)
  first_reply step = reply_of (requested_event V.table step) present

  abbrev pub role_on : Step → Role
  role_on step = role V.table step (first_reply step)

  abbrev pub event_on : Step → Event
  event_on step = event V.table step (first_reply step)

  -- whether a post of the event to s is answered otherwise without the transaction of s
  abbrev pub has_two_answers : Event → ℕ → Bool
  has_two_answers ev s =
      let f = effect ev present in
      differs_at s f.sends (send_answers f present) (send_answers f (V.without (just s)))

  -- whether the live transaction of s is in the way, of which the actor is no member
  unfoldable pub in_way : Event → ℕ → Bool
  in_way ev s =
      let is_reserved = some_object (event_footprint V.table ev present) (V.reserved s) in
      if is_other_starter V.table (actor ev) s
      then (if is_reserved then true else has_two_answers ev s)
      else false

  abbrev pub starter_in_way : Event → Option ℕ
  starter_in_way ev = least (in_way ev) V.table.width

  -- the view after an accepted step
  unfoldable pub next : Step → View
  next step =
      let r = role_on step in
      let ev = event_on step in
      record {
        without =
            λ X.
            let S = V.without (left_out_before r X) in if is_left_in r X then after ev S else S;
        table = table_after r (process_of step) V.table;
        reserved = reserved_after r (event_footprint V.table ev present) V.reserved;
      }
