-- A journal that grows by turns.
use Rattle.std.proofs.Common.{◌≡◌, ℕ, ◌+◌, ◌≤◌, List, [], ◌∷◌, ◌++◌, Option, Some, None, ◌⊎◌, inl, inr, length, arith, ap, sym, refl, subst, ◌∙◌, length-append}
use Rattle.std.proofs.lemmas.List.{append-nil, append_assoc}
use Rattle.tx_base.specs.declared.marks.Mark.{Mark}
use Rattle.tx_base.specs.declared.steps.Refusal.{Refusal}
use Rattle.tx_base.specs.declared.steps.Refusal.TheVariants as why
use Rattle.tx_base.specs.declared.steps.Reply.{Reply}
use Rattle.tx_base.specs.declared.steps.Reply.TheVariants.{Done, Ended, Committed, Aborted, Out, No}
use Rattle.tx_base.specs.declared.steps.Step.{Step}
use Rattle.tx_base.specs.declared.steps.Step.TheVariants.{KernelAbort}
use Rattle.tx_journal.specs.Sessions.{start_of, SessionState, SameBoot}
use Rattle.tx_journal.specs.declared.entry.Entry.{Entry}
use Rattle.tx_model.specs.Answer.{answer}
use Rattle.tx_model.specs.State.{State}
use Rattle.tx_model.specs.View.{View}
use Rattle.tx_lines.specs.declared.instructions.Instruction.{Instruction}
use Rattle.tx_workers.specs.Desks.{HasGrown}
use Rattle.tx_workers.specs.Histories.{view_after, AllNamed, EachNamed, IsNamed}
use Rattle.tx_workers.specs.Named.{named}
use Rattle.tx_workers.specs.Turns.{abort_of, adds_by, adds_by_next, adds_for, entry_of, turn_adds}

-- no entry, or one of that worker
abbrev pub IsOneAtMost : ℕ → List Entry → Type 0
IsOneAtMost worker entries = (entries ≡ []) ⊎ ((entry : Entry) × (entries ≡ entry ∷ []) × (entry.worker ≡ worker))

entry_is_one : (worker : ℕ) (step : Step) (reply : Reply) → IsOneAtMost worker (entry_of worker step reply)
entry_is_one worker step (No refusal) = inl refl
entry_is_one worker step (Done ret) = inr (record { step = step; worker = worker; reply = Done ret }, refl, refl)
entry_is_one worker step Ended = inr (record { step = step; worker = worker; reply = Ended }, refl, refl)
entry_is_one worker step (Committed undelivered) = inr (record { step = step; worker = worker; reply = Committed undelivered }, refl, refl)
entry_is_one worker step (Aborted status) = inr (record { step = step; worker = worker; reply = Aborted status }, refl, refl)
entry_is_one worker step (Out bytes) = inr (record { step = step; worker = worker; reply = Out bytes }, refl, refl)

abort_is_one : (V : View) (worker : ℕ) (mark : Option Mark) → IsOneAtMost worker (abort_of V worker mark)
abort_is_one V worker None = inl refl
abort_is_one V worker (Some mark) = entry_is_one worker (KernelAbort mark.starter) (answer V (KernelAbort mark.starter))

refused_is_one : (V : View) (worker p : ℕ) (step : Step) (refusal : Refusal) → IsOneAtMost worker (adds_by V worker p step (No refusal))
refused_is_one V worker p step why.Doomed = abort_is_one V worker (V.table.marks p)
refused_is_one V worker p step _ = inl refl

step_is_one : (V : View) (worker p : ℕ) (step : Step) (reply : Reply) → IsOneAtMost worker (adds_by V worker p step reply)
step_is_one V worker p step (No refusal) = refused_is_one V worker p step refusal
step_is_one V worker p step (Done ret) = entry_is_one worker step (Done ret)
step_is_one V worker p step Ended = entry_is_one worker step Ended
step_is_one V worker p step (Committed undelivered) = entry_is_one worker step (Committed undelivered)
step_is_one V worker p step (Aborted status) = entry_is_one worker step (Aborted status)
step_is_one V worker p step (Out bytes) = entry_is_one worker step (Out bytes)

named_is_one : (V : View) (worker p : ℕ) (step : Option Step) → IsOneAtMost worker (adds_for V worker p step)
named_is_one V worker p None = inl refl
named_is_one V worker p (Some step) = step_is_one V worker p step (answer V step)

-- what a turn adds is one entry at most
pub turn_is_one : (instructions : List Instruction) (V : View) (worker : ℕ) (next : Option ℕ) → IsOneAtMost worker (adds_by_next instructions V worker next)
turn_is_one instructions V worker None = inl refl
turn_is_one instructions V worker (Some p) = named_is_one V worker p (named instructions V p)

-- the program names what a turn adds, on the view of the entries before
pub turn_is_named : (instructions : List Instruction) (start : State) (before : List Entry) (V : View) (worker : ℕ) (next : Option ℕ) → V ≡ view_after start before
    → AllNamed instructions start before (adds_by_next instructions V worker next)
turn_is_named instructions start before V worker None after = tt
turn_is_named instructions start before V worker (Some p) after = elim (turn_is_one instructions V worker (Some p)) [
  | inl none ↦ subst (AllNamed instructions start before) (sym none) tt
  | inr one ↦
      subst (AllNamed instructions start before) (sym one.1)
      (record { process = p; adds = (λ j. turn_adds instructions (sym after j) (one.2 j) p) ∙ one.1 }, tt)
]

all_named-append : (instructions : List Instruction) (start : State) (before xs ys : List Entry) → AllNamed instructions start before xs
    → AllNamed instructions start (before ++ xs) ys → AllNamed instructions start before (xs ++ ys)
all_named-append instructions start before [] ys named more = rw (append-nil before) at more
all_named-append instructions start before (x ∷ xs) ys named more =
    (named.0, all_named-append instructions start (before ++ x ∷ []) xs ys named.1 (rw (← append_assoc before (x ∷ []) xs) at more))

-- what has grown so far has grown by a turn more
pub grown_more : (instructions : List Instruction) (given old new : SessionState) (adds : List Entry) (total count : ℕ) → HasGrown instructions given old total
    → AllNamed instructions (start_of given) old.entries adds → new.entries ≡ old.entries ++ adds → SameBoot new old → count ≡ total + length adds
    → HasGrown instructions given new count
grown_more instructions given old new adds total count so named entries boot counted = record {
  added = so.added ++ adds;
  grown = entries ∙ (ap (λ (xs : List Entry). xs ++ adds) so.grown ∙ append_assoc given.entries so.added adds);
  named = all_named-append instructions (start_of given) given.entries so.added adds so.named (rw so.grown at named);
  counted = omega (arith, length-append so.added adds, so.counted, counted);
  boot = record { width = boot.width ∙ so.boot.width; count = boot.count ∙ so.boot.count };
}

named_at : (instructions : List Instruction) (start : State) (given before : List Entry) (entry : Entry) (after : List Entry)
    → AllNamed instructions start given (before ++ entry ∷ after) → IsNamed instructions start (given ++ before) entry
named_at instructions start given [] entry after named = rw (append-nil given) named.0
named_at instructions start given (b ∷ bs) entry after named =
    rw (← append_assoc given (b ∷ []) bs) (named_at instructions start (given ++ b ∷ []) bs entry after named.1)

-- where all are named one after another, each is
pub each_named : (instructions : List Instruction) (start : State) (given added : List Entry) → AllNamed instructions start given added
    → EachNamed instructions start given added
each_named instructions start given added named before entry after split = named_at instructions start given before entry after (rw split at named)

-- one entry at most is few
pub one_is_few : (worker : ℕ) (entries : List Entry) → IsOneAtMost worker entries → length entries ≤ 1
one_is_few worker entries (inl none) = omega (arith, ap length none)
one_is_few worker entries (inr one) = omega (arith, ap length one.1)
