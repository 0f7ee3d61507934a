-- The delivery of a pending signal (POSIX.1-2017, XSH, Signal Generation and Delivery). Which one
-- is delivered, and when, is the schedule's choice (own rule).
use Rattle.std.specs.Prelude.{ℕ, ◌+◌, Bool, false, not, ◌&&◌, ◌||◌, List, [], ◌∷◌, ◌++◌, length, ℤ, pos, Option, Some, None, if◌then◌else◌, nat_lt, ◌==◌, bit_or, slice_index_or, true}
use Rattle.tx_base.specs.Signals.{bits_of}
use Rattle.tx_base.specs.declared.signals.Action.{Action}
use Rattle.tx_base.specs.declared.signals.Action.TheVariants.{Usual}
use Rattle.tx_base.specs.declared.signals.SigSet.{SigSet}
use Rattle.tx_base.specs.declared.steps.Refusal.TheVariants.{NotDeliverable, Deferred, FramesFull}
use Rattle.tx_base.specs.declared.steps.Reply.TheVariants.{Done}
use Rattle.tx_base.specs.declared.limits.TheConstants.{FRAMES}
use Rattle.tx_model.specs.SignalSets.{kill_signo, is_realtime, is_in_set, with_one_more, without_one}
use Rattle.tx_model.specs.State.{Process, Queued}
use Rattle.tx_model.specs.Effects.{Inside}
use Rattle.tx_model.specs.Processes.{ending, ending_objects}
use Rattle.tx_model.specs.Forms.{Rule, stands, refuses, does, ◌or◌, ◌>>=◌, ◌when◌, ◌>>◌, Page, page_naming}
use Rattle.tx_model.specs.Signals.{Disposition, Ignored, Fatal, Caught, disposition}

abbrev pub is_killing : Disposition → Bool
is_killing Fatal = true
is_killing disposition = false

-- that of SIGKILL never is
abbrev pub is_deferred : Option Inside → ℕ → Bool
is_deferred None signo = false
is_deferred (Some inside) signo = inside.defers && not (signo == kill_signo)

module _ (signo : ℕ) where
  unfoldable pub first_value : List Queued → Option ℤ
  first_value [] = None
  first_value (entry ∷ entries) =
      if entry.signo == signo then Some entry.value else first_value entries

  unfoldable pub without_first : List Queued → List Queued
  without_first [] = []
  without_first (entry ∷ entries) =
      if entry.signo == signo then entries else entry ∷ without_first entries

  -- a realtime signal of a lower number is pending outside the mask
  unfoldable pub has_lower : ℕ → List Queued → Bool
  has_lower mask [] = false
  has_lower mask (entry ∷ entries) =
      (nat_lt entry.signo signo && not (is_in_set mask entry.signo)) || has_lower mask entries

  abbrev pub pending_value : Process → Option ℤ
  pending_value me =
      if is_realtime signo
      then first_value me.queued
      else (if is_in_set me.pending signo then Some (pos 0) else None)

  abbrev pub is_blocked : Process → Bool
  is_blocked me = is_in_set me.mask signo || (is_realtime signo && has_lower me.mask me.queued)

  -- the value that a delivery brings, where there may be one now
  abbrev pub delivered_value : Process → Option ℤ
  delivered_value me = if is_blocked me then None else pending_value me

  -- without the signal that is delivered
  abbrev pub without_delivered : Process → Process
  without_delivered me = record me {
    pending = if is_realtime signo then me.pending else without_one me.pending signo;
    queued = if is_realtime signo then without_first me.queued else me.queued;
  }

  abbrev pub action_at : Process → Action
  action_at me = slice_index_or me.actions signo Usual

  -- at its catch point, with what it goes back to in a new frame
  abbrev pub at_catch_point : ℤ → ℕ → SigSet → Process → Process
  at_catch_point value point mask me = record me {
    registers = record me.registers { point = point; ret = value };
    mask = with_one_more (bit_or me.mask (bits_of mask)) signo;
    frames = me.frames ++ record { registers = me.registers; mask = me.mask } ∷ [];
  }

  -- own numbers
  abbrev pub killed_status : ℕ
  killed_status = 256 + signo

  -- what a signal does that is no longer pending; an ignored one does nothing else
  abbrev pub reaction : ℤ → Disposition → Rule
  reaction value Ignored c = stands c.process (Done c.process.registers.ret)
  reaction value Fatal c = does (ending killed_status c)
  reaction value (Caught point mask) c = do
    refuses FramesFull when not (nat_lt (length c.process.frames) FRAMES)
    stands (at_catch_point value point mask c.process) (Done value)

  abbrev pub delivery : Rule
  delivery c = do
    value ← delivered_value c.process or refuses NotDeliverable
    refuses Deferred when is_deferred c.inside signo
    reaction value (disposition signo (action_at c.process))
        (record c { process = without_delivered c.process })

abbrev pub ends_by : Option Inside → ℕ → Process → Option ℤ → Bool
ends_by inside signo me None = false
ends_by inside signo me (Some value) =
    if is_deferred inside signo then false else is_killing (disposition signo (action_at signo me))

abbrev pub delivery_page : ℕ → Page
delivery_page signo =
    page_naming (delivery signo) λ c.
    if ends_by c.inside signo c.process (delivered_value signo c.process)
    then ending_objects c
    else []
