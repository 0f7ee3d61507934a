-- An abort that was taken back, and what makes it again.
use Rattle.std.proofs.Common.{◌≡◌, ℕ, ◌≤◌, Bool, false, if◌then◌else◌, List, length, Option, Some, None, option_map, refl, sym, ap, subst, ◌∙◌, inl, inr, eq-eqb}
use Rattle.std.proofs.lemmas.Bool.{cases_Bool}
use Rattle.std.proofs.lemmas.Option.{same_Some}
use Rattle.tx_base.specs.SlotFacts.{length-with_slot, slot_now, slot_same, slot_twice}
use Rattle.tx_base.specs.Slots.{slot_at, with_slot}
use Rattle.tx_base.specs.declared.marks.Mark.{Mark}
use Rattle.tx_base.specs.declared.names.Pid.{Pid}
use Rattle.tx_change.specs.Exchange.{applied, exchanged, parts_after, reverted, sizes_of, undone, Sizes, AreNamed, AreWithin}
use Rattle.tx_change.specs.declared.change.Change.{Change}
use Rattle.tx_change.specs.declared.parts.Parts.{Parts}
use Rattle.tx_content.specs.ContentFacts.{is_covered}
use Rattle.tx_content.proofs.LedBack.{pending_again, pending_came, stands_again}
use Rattle.tx_content.proofs.OutsideAgain.{all_below, led_named}
use Rattle.tx_content.specs.Aborts.{forth_parts, forth_txn, led_parts, led_txn, standing, standing_at}
use Rattle.tx_content.specs.Content.{IsShaped, IsTxn}
use Rattle.tx_content.specs.Inverses.{with_txn, HasNumbers, Revives, UndoesAborted}
use Rattle.tx_content.specs.Laws.{LiveLaws}
use Rattle.tx_content.specs.Redone.{inverse_aborted, IsGone, IsTakenBack}
use Rattle.tx_content.specs.declared.content.BoxedTxn.{BoxedTxn}
use Rattle.tx_content.specs.declared.content.Content.{Content}
use Rattle.tx_content.specs.declared.undone.Undone.TheVariants as undo
use Rattle.tx_model.specs.Membership.{is_of, mark_unless_of}
use Rattle.tx_model.specs.State.{Object, Proc}
use Rattle.tx_proc.specs.Parts.{edited_once, pending_in}
use Rattle.tx_proc.specs.declared.proc.Answer.{Answer as TheAnswer}
use Rattle.tx_proc.specs.declared.proc.Part.TheVariants.{Answer}
use Rattle.tx_proc.specs.declared.proc.Proc.{Proc as TheProc}
use Rattle.tx_reserve.specs.Objects.{is_in}
use Rattle.tx_reserve.specs.Reservations.{owner_of}
use Rattle.tx_signal.specs.Parts.{PendingView}
use Rattle.tx_txn.specs.Logs.{with_pending_at, with_pending_in}
use Rattle.tx_txn.specs.Marks.{mark_of}
use Rattle.tx_txn.specs.declared.members.Members.{Members}
use Rattle.tx_txn.specs.declared.txn.Txn.{Txn}

-- a process that stands as it stood
abbrev edited : TheAnswer → Option TheProc → Option TheProc
edited answer x = option_map (λ proc. edited_once proc (Answer answer)) x

stood_same : (answer : TheAnswer) (x : Option TheProc) → edited (standing (edited answer x)) x ≡ edited answer x
stood_same answer None = refl
stood_same answer (Some proc) = refl

-- a slot that was changed twice
changed_twice : (parts : Parts) (n : ℕ) (one : Option TheProc → Option TheProc) (slot : Option TheProc) → 1 ≤ n → n ≤ length parts.procs → slot ≡ slot_at parts.procs n →
    with_slot (with_slot parts.procs n (one (slot_at parts.procs n))) n slot ≡ parts.procs
changed_twice parts n one slot low high is = slot_twice parts.procs n (one (slot_at parts.procs n)) slot ∙ ap (with_slot parts.procs n) is ∙ slot_same parts.procs n low

-- a process was given an answer, and then the one at which it stood
answer_back : (parts : Parts) (pid : Pid) (answer : TheAnswer) → 1 ≤ pid.0 → pid.0 ≤ length parts.procs →
    parts_after (parts_after parts (standing_at pid answer)) (standing_at pid (standing (slot_at parts.procs pid.0))) ≡ parts
answer_back parts pid answer low high = λ i. record parts {
  procs = (
      ap (λ (x : Option TheProc). with_slot (with_slot parts.procs pid.0 (edited answer slot)) pid.0 (edited (standing slot) x)) (slot_now parts.procs pid.0 (edited answer slot) low high)
      ∙ changed_twice parts pid.0 (edited answer) (edited (standing slot) (edited answer slot)) low high (stands_again answer slot)
      ) i;
}
  where
    slot : Option TheProc
    slot = slot_at parts.procs pid.0

-- a process was given an answer, and is given the one at which it stands then
answer_again : (parts : Parts) (pid : Pid) (answer : TheAnswer) → 1 ≤ pid.0 → pid.0 ≤ length parts.procs →
    parts_after parts (standing_at pid (standing (slot_at (parts_after parts (standing_at pid answer)).procs pid.0))) ≡ parts_after parts (standing_at pid answer)
answer_again parts pid answer low high = λ i. record parts {
  procs = (
      ap (λ (x : Option TheProc). with_slot parts.procs pid.0 (edited (standing x) slot)) (slot_now parts.procs pid.0 (edited answer slot) low high)
      ∙ ap (with_slot parts.procs pid.0) (stood_same answer slot)
      ) i;
}
  where
    slot : Option TheProc
    slot = slot_at parts.procs pid.0

-- what is pending was put at a process, and then what was pending there
pending_back : (parts : Parts) (n : ℕ) (pending : PendingView) → 1 ≤ n → n ≤ length parts.procs →
    with_pending_at n (pending_in (slot_at parts.procs n) pending) (with_pending_at n pending parts) ≡ parts
pending_back parts n pending low high = λ i. record parts {
  procs = (
      ap (λ (x : Option TheProc). with_slot (with_slot parts.procs n (with_pending_in pending slot)) n (with_pending_in (pending_in slot pending) x)) (slot_now parts.procs n (with_pending_in pending slot) low high)
      ∙ changed_twice parts n (with_pending_in pending) (with_pending_in (pending_in slot pending) (with_pending_in pending slot)) low high (pending_again pending slot)
      ) i;
}
  where
    slot : Option TheProc
    slot = slot_at parts.procs n

-- a mark that is not of the transaction stays
mark_stays : (s : ℕ) (x : Option Mark) → is_of s x ≡ false → x ≡ mark_unless_of s x
mark_stays s None other = refl
mark_stays s (Some m) other = rw other refl

-- the marks and the owners after a transaction ended are those before, without its own
pub ended_marks : (k before : Content) (txn : Txn) (members : Members) → IsGone k txn members → Revives k txn members before → (n : ℕ) → slot_at k.marks n ≡ mark_unless_of txn.starter.0 (slot_at before.marks n)
ended_marks k before txn members gone revives n = elim (cases_Bool (is_in members.joined (Proc n))) [
  | inl e ↦ gone.joined n e ∙ sym (ap (mark_unless_of txn.starter.0) (revives.marks n ∙ ap (λ (b : Bool). if b then Some (mark_of txn.starter members n txn.defers) else slot_at k.marks n) e) ∙ mine)
  | inr e ↦ mark_stays txn.starter.0 (slot_at k.marks n) (gone.marks n)
      ∙ ap (mark_unless_of txn.starter.0) (sym (revives.marks n ∙ ap (λ (b : Bool). if b then Some (mark_of txn.starter members n txn.defers) else slot_at k.marks n) e))
]
  where
    mine : mark_unless_of txn.starter.0 (Some (mark_of txn.starter members n txn.defers)) ≡ None
    mine = rw (eq-eqb txn.starter.0 txn.starter.0 refl) refl

pub ended_owners : (k before : Content) (txn : Txn) (members : Members) → IsGone k txn members → Revives k txn members before → (o : Object) → owner_of k.owners o ≡ (if is_in txn.objects o then None else owner_of before.owners o)
ended_owners k before txn members gone revives o = elim (cases_Bool (is_in txn.objects o)) [
  | inl e ↦ rw e (gone.owners o e)
  | inr e ↦ rw e (sym (revives.owners o ∙ ap (λ (b : Bool). if b then Some txn.starter.0 else owner_of k.owners o) e))
]

module _ (laws : LiveLaws) (k before : Content) (boxed : BoxedTxn) (stood : TheAnswer) (members : Members) (stack : List Change)
    (shaped : IsShaped k) (shaped_before : IsShaped before) (gone : IsGone k boxed.txn.value members) (fits : HasNumbers k boxed.txn.value) (undoes : UndoesAborted k boxed stood before members) where
  abbrev t0 : Txn
  t0 = boxed.txn.value

  abbrev s : ℕ
  s = t0.starter.0

  -- where the starter stands before, and with what was pending there then
  abbrev P : Parts
  P = parts_after k.parts (standing_at t0.starter stood)

  abbrev F : Parts
  F = forth_parts k.parts t0 stood

  -- the transaction before the abort
  abbrev t1 : Txn
  t1 = record (forth_txn k.parts t0 stood) { members = None }

  abbrev prior : Content
  prior = record { parts = applied F t0.log; marks = before.marks; owners = before.owners; txns = with_slot k.txns s (Some (with_txn boxed t1)) }

  prior_is : prior ≡ before
  prior_is = λ i. record { parts = undoes.parts i; marks = before.marks; owners = before.owners; txns = undoes.txns i }

  shaped_prior : IsShaped prior
  shaped_prior = subst IsShaped (sym prior_is) shaped_before

  slots_high : s ≤ length k.txns
  slots_high = subst (λ (n : ℕ). s ≤ n) (sym fits.slots) fits.high

  there_prior : slot_at prior.txns s ≡ Some (with_txn boxed t1)
  there_prior = slot_now k.txns s (Some (with_txn boxed t1)) fits.low slots_high

  was : IsTxn prior s t1
  was = shaped_prior.each s (with_txn boxed t1) there_prior

  high_P : s ≤ length P.procs
  high_P = subst (λ (n : ℕ). s ≤ n) (sym (length-with_slot k.parts.procs s (edited stood (slot_at k.parts.procs s)))) fits.high

  sizes_F : sizes_of F ≡ sizes_of k.parts
  sizes_F = λ i. record {
    procs = (length-with_slot P.procs s (with_pending_in t0.kept.pending (slot_at P.procs s)) ∙ length-with_slot k.parts.procs s (edited stood (slot_at k.parts.procs s))) i;
    descs = length k.parts.descs;
    pipes = length k.parts.pipes;
  }

  sizes_prior : sizes_of prior.parts ≡ sizes_of k.parts
  sizes_prior = laws.sizes F t0.log ∙ sizes_F

  -- the log of the transaction leads back to there
  led_F : undone prior.parts t1.log ≡ F
  led_F = laws.revert_again F t0.log (subst (λ (z : Sizes). AreWithin z t0.log) (sym sizes_F) fits.named)

  led_P : led_parts prior.parts t1 ≡ P
  led_P = ap (with_pending_at s t1.kept.pending) led_F ∙ pending_back P s t0.kept.pending fits.low high_P

  -- what the abort keeps then is what was kept after it
  kept_again : (led_txn prior.parts t1).kept.pending ≡ t0.kept.pending
  kept_again =
      ap (λ (p : Parts). pending_in (slot_at p.procs s) t1.kept.pending) led_F
      ∙ ap (λ (x : Option TheProc). pending_in x t1.kept.pending) (slot_now P.procs s (with_pending_in t0.kept.pending (slot_at P.procs s)) fits.low high_P)
      ∙ pending_came t0.kept.pending (slot_at P.procs s)

  abbrev again : TheAnswer
  again = standing (slot_at (led_parts prior.parts t1).procs s)

  stood_again : parts_after k.parts (standing_at t0.starter again) ≡ P
  stood_again = ap (λ (p : Parts). parts_after k.parts (standing_at t0.starter (standing (slot_at p.procs s)))) led_P ∙ answer_again k.parts t0.starter stood fits.low fits.high

  named_prior : AreNamed prior.parts t1.log
  named_prior = was.named

  named_led : AreNamed k.parts (reverted prior.parts t1.log)
  named_led = subst (λ (z : Sizes). AreWithin z (reverted prior.parts t1.log)) (laws.sizes_back prior.parts t1.log ∙ sizes_prior) (led_named laws prior.parts t1.log named_prior)

  -- the transaction after the abort that is made again, and led forth
  abbrev t2 : Txn
  t2 = record (led_txn prior.parts t1) { members = t0.members }

  forth_again : forth_parts k.parts t2 again ≡ undone prior.parts t1.log
  forth_again = (λ i. with_pending_at s (kept_again i) (stood_again i)) ∙ sym led_F

  txn_again : record (forth_txn k.parts t2 again) { members = None } ≡ t1
  txn_again = λ i. record t1 {
    kept = record t0.kept { pending = pending_in (slot_at (stood_again i).procs s) (kept_again i) };
    log = (ap (λ (p : Parts). exchanged p t2.log) forth_again ∙ laws.come_back prior.parts t1.log named_prior was.brings shaped_prior.places) i;
  }

  revives : Revives k t2 members prior
  revives = record {
    ended = undoes.revives.ended;
    marks = undoes.revives.marks;
    width = undoes.revives.width;
    owners = undoes.revives.owners;
    sized = undoes.revives.sized;
  }

  again_here : IsTakenBack prior (undo.Aborted t0.starter (standing (slot_at k.parts.procs s)) t0.members) stack k stack
  again_here = record {
    inverse = inverse_aborted prior t0.starter t0.members (with_txn boxed t1);
    fits = record {
      boxed = with_txn boxed t1;
      there = there_prior;
      same = refl;
      high = subst (λ (z : Sizes). s ≤ z.procs) (sym sizes_prior) fits.high;
      named = named_prior;
      covered = is_covered prior s t1 s refl was;
    };
    redoes = (
      with_txn boxed t1,
      record {
        there = there_prior;
        parts = ap (λ (p : Parts). parts_after p (standing_at t0.starter (standing (slot_at k.parts.procs s)))) led_P ∙ answer_back k.parts t0.starter stood fits.low fits.high;
        marks = ended_marks k before t0 members gone undoes.revives;
        width = sym undoes.revives.width;
        owners = ended_owners k before t0 members gone undoes.revives;
        sized = shaped.owners;
        txns = slot_twice k.txns s (Some (with_txn boxed t1)) None ∙ ap (with_slot k.txns s) (sym gone.slot) ∙ slot_same k.txns s fits.low;
      },
      refl,
    );
    below = all_below stack;
    goes = record { low = fits.low; high = fits.high; slots = fits.slots; named = named_led; joined = fits.joined };
    whole = (members, record { ended = gone.ended; slot = gone.slot; marks = gone.marks; joined = gone.joined; owners = gone.owners });
    back = (
      members,
      record {
        revives = revives;
        parts = ap (λ (p : Parts). applied p t2.log) forth_again ∙ laws.apply_again prior.parts t1.log named_prior;
        txns = ap (λ (t : Txn). with_slot k.txns s (Some (with_txn boxed t))) txn_again;
      },
    );
  }

  aborted_here : IsTakenBack before (undo.Aborted t0.starter (standing (slot_at k.parts.procs s)) t0.members) stack k stack
  aborted_here = subst (λ (b : Content). IsTakenBack b (undo.Aborted t0.starter (standing (slot_at k.parts.procs s)) t0.members) stack k stack) prior_is again_here

pub aborted_again : LiveLaws → (k before : Content) (boxed : BoxedTxn) (stood stands : TheAnswer) (own members : Members) (starter : Pid) (all : Option Members) (stack : List Change) →
    IsShaped k → IsShaped before → IsGone k boxed.txn.value own → HasNumbers k boxed.txn.value → UndoesAborted k boxed stood before members →
    starter ≡ boxed.txn.value.starter → stands ≡ standing (slot_at k.parts.procs starter.0) → all ≡ boxed.txn.value.members → IsTakenBack before (undo.Aborted starter stands all) stack k stack
aborted_again laws k before boxed stood stands own members starter all stack shaped shaped_before gone fits undoes named stands_is all_is =
    subst (λ (p : Pid). IsTakenBack before (undo.Aborted p stands all) stack k stack) (sym named)
    (subst (λ (a : TheAnswer). IsTakenBack before (undo.Aborted boxed.txn.value.starter a all) stack k stack) (sym (stands_is ∙ ap (λ (p : Pid). standing (slot_at k.parts.procs p.0)) named))
    (subst (λ (ms : Option Members). IsTakenBack before (undo.Aborted boxed.txn.value.starter (standing (slot_at k.parts.procs boxed.txn.value.starter.0)) ms) stack k stack) (sym all_is)
    (aborted_here laws k before boxed stood members stack shaped shaped_before (subst (IsGone k boxed.txn.value) (same_Some own members (sym gone.ended ∙ undoes.revives.ended)) gone) fits undoes)))
