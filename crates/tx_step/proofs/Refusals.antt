-- The early refusals, one after another.
use Rattle.std.proofs.Common.{◌≡◌, ◌&&◌, ℕ, ◌≤◌, zero, suc, Bool, true, false, not, if◌then◌else◌, List, [], length, Option, Some, None, is_some, is_none, option_map, pos, arith, refl, sym, ap, ap₂, subst, ◌∙◌, eq-eqb, lt-ltb}
use Rattle.std.specs.Option.{option_or}
use Rattle.tx_base.specs.Slots.{slot_at}
use Rattle.tx_base.specs.declared.marks.Mark.{Mark}
use Rattle.tx_base.specs.declared.names.Pid.{Pid}
use Rattle.tx_base.specs.declared.steps.Call.TheVariants as call
use Rattle.tx_base.specs.declared.steps.Refusal.{Refusal}
use Rattle.tx_base.specs.declared.steps.Refusal.TheVariants.{NoProcess, NotRunning, BadNumber, NumberTaken, Doomed, Parked, KillPending}
use Rattle.tx_base.specs.declared.steps.Reply.TheVariants.{Done, No}
use Rattle.tx_base.specs.declared.steps.Step.{Step}
use Rattle.tx_change.specs.States.{state_of}
use Rattle.tx_change.specs.declared.parts.Parts.{Parts}
use Rattle.tx_step.proofs.WholeContents.{now_seen, slot_seen}
use Rattle.tx_step.specs.Early.{early_refusal, kill_refusal, member_refusal, own_refusal, process_refusal, RefusalIsEarly}
use Rattle.tx_step.specs.RefusalLaws.{JudgeLaws}
use Rattle.tx_kernel.specs.Actors.{IsActor}
use Rattle.tx_kernel.specs.Refusals.{number_refusal}
use Rattle.tx_kernel.specs.declared.actor.Actor.{Actor}
use Rattle.tx_laws.specs.TwoStates.{states_view}
use Rattle.tx_base.specs.SlotFacts.{slot_there}
use Rattle.tx_content.specs.Content.{content_of, held_of, txn_of, view_of, IsShaped}
use Rattle.tx_content.specs.declared.content.BoxedTxn.{BoxedTxn}
use Rattle.tx_content.specs.declared.content.Content.{Content}
use Rattle.tx_model.specs.Answer.{delivers_kill, is_doomed_at, is_parked, is_running, is_there}
use Rattle.tx_model.specs.Words.{busy, has_bad_number, has_number_in_use, is_stopped_by_kill}
use Rattle.tx_model.specs.Events.{effect_at, page_of_step}
use Rattle.tx_model.specs.Effects.{Effect, Replies, idle}
use Rattle.tx_model.specs.Membership.{is_live, is_of}
use Rattle.tx_model.specs.SignalSets.{is_in_set, kill_signo}
use Rattle.tx_model.specs.State.{Process, Proc, Sending, State, is_between}
use Rattle.tx_model.specs.View.{View, event_on, has_pending, starter_in_way, is_doomed, present}
use Rattle.tx_model.specs.Book.{page_of_call}
use Rattle.tx_model.specs.Forms.{Page, answers, effect_of, ◌or◌, ◌when◌}
use Rattle.tx_proc.specs.Parts.{process_in, process_of}
use Rattle.tx_proc.specs.declared.proc.Proc.{Proc as TheProc}
use Rattle.tx_txn.specs.Content.{IsKept}
use Rattle.tx_txn.specs.Marks.{table_at}

-- a reason before others, and what there is after them
if_or : (b : Bool) (why : Refusal) (x y : Option Refusal) → (if b then Some why else option_or x y) ≡ option_or (if b then Some why else x) y
if_or true why x y = refl
if_or false why x y = refl

-- two reasons before others
or_two : (a b : Bool) (p q : Refusal) (y : Option Refusal) → (if a then Some p else (if b then Some q else y)) ≡ option_or (if a then Some p else (if b then Some q else None)) y
or_two a b p q y = ap (λ (z : Option Refusal). if a then Some p else z) (if_or b q None y) ∙ if_or a p (if b then Some q else None) y

-- the early refusal is that of the process number, or else that of the numbers that the step chooses, or else the process's own
early_in_turn : (V : View) (p : ℕ) (step : Step) →
    early_refusal V p step ≡ option_or (process_refusal V p) (option_or (number_refusal V.table.width (present V) (page_of_step step).chooses) (own_refusal V p (delivers_kill step)))
early_in_turn V p step =
    ap (λ (z : Option Refusal). if not (is_there V p) then Some NoProcess else (if not (is_running ((present V).procs p)) then Some NotRunning else z))
    (ap (λ (z : Option Refusal). if has_bad_number V.table.width step then Some BadNumber else (if has_number_in_use (present V) step then Some NumberTaken else z))
    (or_two (is_doomed_at V (V.table.marks p)) (is_parked (V.table.marks p)) Doomed Parked (kill_refusal V p (delivers_kill step)))
    ∙ or_two (has_bad_number V.table.width step) (has_number_in_use (present V) step) BadNumber NumberTaken (own_refusal V p (delivers_kill step)))
    ∙ or_two (not (is_there V p)) (not (is_running ((present V).procs p))) NoProcess NotRunning (option_or (number_refusal V.table.width (present V) (page_of_step step).chooses) (own_refusal V p (delivers_kill step)))

-- the first of seven reasons that there is, or else this
abbrev first_reason : Bool → Bool → Bool → Bool → Bool → Bool → Bool → Option Refusal → Option Refusal
first_reason a b c d e f g rest =
    if a then Some NoProcess else
    if b then Some NotRunning else
    if c then Some BadNumber else
    if d then Some NumberTaken else
    if e then Some Doomed else
    if f then Some Parked else
    if g then Some KillPending else rest

first_or : (a b c d e f g : Bool) (rest : Option Refusal) → first_reason a b c d e f g rest ≡ option_or (first_reason a b c d e f g None) rest
first_or true b c d e f g rest = refl
first_or false true c d e f g rest = refl
first_or false false true d e f g rest = refl
first_or false false false true e f g rest = refl
first_or false false false false true f g rest = refl
first_or false false false false false true g rest = refl
first_or false false false false false false true rest = refl
first_or false false false false false false false rest = refl

pub refusal_early : RefusalIsEarly
refusal_early V p step =
    first_or (not (is_there V p)) (not (is_running ((present V).procs p))) (has_bad_number V.table.width step) (has_number_in_use (present V) step)
    (is_doomed_at V (V.table.marks p)) (is_parked (V.table.marks p)) (is_stopped_by_kill (present V) p step) (busy (starter_in_way V (event_on V step)))

-- why what is in a slot makes no step, where the slot's number is one that there is, or not
abbrev slot_refusal : Bool → Option Process → Option Refusal
slot_refusal b slot = if not (if b then is_some slot else false) then Some NoProcess else (if not (is_running slot) then Some NotRunning else None)

-- the effects of two refusals tell them apart
idle_why : (one other : Refusal) → idle one ≡ idle other → one ≡ other
idle_why one other e = let replies : Replies (No one) ≡ Replies (No other) = ap (λ (f : Effect). f.conclusion) e in cc

-- what does not run is refused by its rule as it is by the view
as_ruled : (S : State) (p : ℕ) (why : Refusal) → effect_at None p (page_of_call call.Getpid) S ≡ idle why → slot_refusal true (S.procs p) ≡ Some why
as_ruled S p why refused = by (S.procs p) refused
  where
    runs : (me : Process) (status : Option ℕ) → (idle NotRunning when is_some status) (effect_of p me (answers (pos p))) ≡ idle why →
        (if not (is_none status) then Some NotRunning else None) ≡ Some why
    runs me None e = let replies : Replies (Done (pos p)) ≡ Replies (No why) = ap (λ (f : Effect). f.conclusion) e in cc
    runs me (Some ended) e = ap Some (idle_why NotRunning why e)

    by : (slot : Option Process) → (slot or idle NoProcess) (λ me. (idle NotRunning when is_some me.status) (effect_of p me (answers (pos p)))) ≡ idle why → slot_refusal true slot ≡ Some why
    by None e = ap Some (idle_why NoProcess why e)
    by (Some me) e = runs me me.status e

-- a number of the table
pub between : (width n : ℕ) → 1 ≤ n → n ≤ width → is_between width n ≡ true
between width zero low high = absurd (omega arith)
between width (suc n) low high = lt-ltb n width (omega arith)

-- a slot whose process has a number of the table gives the same reason without that test
any_number : (b : Bool) (slot : Option Process) → ((me : Process) → slot ≡ Some me → b ≡ true) → slot_refusal b slot ≡ slot_refusal true slot
any_number true slot good = refl
any_number false None good = refl
any_number false (Some me) good = let no : false ≡ true = good me refl in cc

-- a starter is live whose mark a process has
pub marked_live : (k : Content) (pid : Pid) (m : Mark) → IsKept (content_of k) → slot_at k.marks pid.0 ≡ Some m → is_live (table_at k.marks) m.starter.0 ≡ true
unfolding states_view
marked_live k pid m kept at = kept.sound.owned_live m.starter.0 (Proc pid.0) (kept.sound.own_procs m.starter.0 pid.0 (ap (is_of m.starter.0) at ∙ eq-eqb m.starter.0 m.starter.0 refl))

-- what a content shows of a number
module _ (laws : JudgeLaws) (k : Content) (pid : Pid) where
  -- a process that is there has a number of the table
  numbered : IsShaped k → (slot : Option TheProc) → slot_at k.parts.procs pid.0 ≡ slot → (me : Process) → process_in slot ≡ Some me → is_between (length k.marks) pid.0 ≡ true
  numbered shaped None at me is = cc
  numbered shaped (Some proc) at me is =
      let bounds : (1 ≤ pid.0) × (pid.0 ≤ length k.parts.procs) = slot_there k.parts.procs pid.0 proc at in
      between (length k.marks) pid.0 bounds.0 (subst (λ (w : ℕ). pid.0 ≤ w) (sym shaped.marks) bounds.1)

  process_seen : IsShaped k → process_refusal (view_of k) pid.0 ≡ slot_refusal true (process_in (slot_at k.parts.procs pid.0))
  unfolding view_of states_view
  process_seen shaped =
      ap (slot_refusal (is_between (length k.marks) pid.0)) (slot_seen laws.present k pid)
      ∙ any_number (is_between (length k.marks) pid.0) (process_in (slot_at k.parts.procs pid.0)) (numbered shaped (slot_at k.parts.procs pid.0) refl)

  -- the reasons in turn, where that of the number is this
  in_turn : (step : Step) (own : Option Refusal) → process_refusal (view_of k) pid.0 ≡ own →
      early_refusal (view_of k) pid.0 step
      ≡ option_or own (option_or (number_refusal (view_of k).table.width (present (view_of k)) (page_of_step step).chooses) (own_refusal (view_of k) pid.0 (delivers_kill step)))
  in_turn step own is =
      early_in_turn (view_of k) pid.0 step
      ∙ ap (λ (x : Option Refusal). option_or x (option_or (number_refusal (view_of k).table.width (present (view_of k)) (page_of_step step).chooses) (own_refusal (view_of k) pid.0 (delivers_kill step)))) is

  -- who does not run is refused any step
  pub not_run : IsShaped k → (why : Refusal) (step : Step) → ((page : Page) (held : ℕ → List Sending) → effect_at None pid.0 page (state_of held k.parts) ≡ idle why) →
      Some why ≡ early_refusal (view_of k) pid.0 step
  not_run shaped why step refused =
      let S : State = state_of (λ starter. []) k.parts in
      sym (in_turn step (Some why) (process_seen shaped ∙ as_ruled S pid.0 why (refused (page_of_call call.Getpid) (λ starter. []))))

  -- who runs is refused a step for the numbers that it chooses, and then for the process's own reasons
  pub who_runs : IsShaped k → (actor : Actor) (step : Step) (numbers : Option Refusal) → IsActor actor → actor.parts.now ≡ k.parts → actor.pid ≡ pid →
      ((held : ℕ → List Sending) → numbers ≡ number_refusal (length actor.parts.now.procs) (state_of held actor.parts.now) (page_of_step step).chooses) →
      option_or numbers (own_refusal (view_of k) pid.0 (delivers_kill step)) ≡ early_refusal (view_of k) pid.0 step
  unfolding view_of states_view
  who_runs shaped actor step numbers is parts at chosen =
      let there : slot_at k.parts.procs pid.0 ≡ Some actor.proc.now = sym (λ j. slot_at (parts j).procs (at j).0) ∙ is.there in
      let runs : process_refusal (view_of k) pid.0 ≡ None
      = process_seen shaped ∙ ap (λ (slot : Option TheProc). slot_refusal true (process_in slot)) there
      ∙ ap (λ (status : Option ℕ). if not (is_none status) then Some NotRunning else None) is.runs in
      let same : numbers ≡ number_refusal (length k.marks) (present (view_of k)) (page_of_step step).chooses
      = chosen (held_of k) ∙ ap (λ (now : Parts). number_refusal (length now.procs) (state_of (held_of k) now) (page_of_step step).chooses) parts
      ∙ sym (ap₂ (λ (w : ℕ) (S : State). number_refusal w S (page_of_step step).chooses) shaped.marks (now_seen laws.present k)) in
      ap (λ (x : Option Refusal). option_or x (own_refusal (view_of k) pid.0 (delivers_kill step))) same ∙ sym (in_turn step None runs)

  -- its own reasons are those of its mark, and then that SIGKILL is pending at it
  pub own_seen : (proc : TheProc) (delivers : Bool) (member : Option Refusal) (held : Bool) → slot_at k.parts.procs pid.0 ≡ Some proc →
      member ≡ member_refusal (view_of k) (slot_at k.marks pid.0) → held ≡ (has_pending kill_signo (Some (process_of proc)) && not delivers) →
      option_or member (if held then Some KillPending else None) ≡ own_refusal (view_of k) pid.0 delivers
  unfolding view_of states_view
  own_seen proc delivers member held there members kill =
      ap₂ (λ (x : Option Refusal) (b : Bool). option_or x (if b then Some KillPending else None)) members
      (kill ∙ sym (ap (λ (slot : Option Process). has_pending kill_signo slot && not delivers) (slot_seen laws.present k pid ∙ ap process_in there)))

  -- what is kept pending at a live starter tells whether its transaction is doomed
  pub doom_seen : IsKept (content_of k) → (boxed : BoxedTxn) → slot_at k.txns pid.0 ≡ Some boxed →
      is_in_set boxed.txn.value.kept.pending.standard kill_signo ≡ is_doomed (view_of k) pid.0
  unfolding view_of
  doom_seen kept boxed there = sym (laws.doom (content_of k) pid.0 (txn_of boxed) kept (ap (option_map txn_of) there))
