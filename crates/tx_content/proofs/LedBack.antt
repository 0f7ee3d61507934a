-- The abort of a transaction.
use Rattle.std.proofs.Common.{◌≡◌, ◌≢◌, ℕ, ℤ, ◌≤◌, Bool, true, false, ◌==◌, if◌then◌else◌, List, [], ◌∷◌, length, Option, Some, None, option_map, ◌⊎◌, refl, sym, ap, subst, ◌∙◌, inl, inr, eq-eqb, eqb-true}
use Rattle.std.proofs.lemmas.Bool.{both_ways, cases_Bool}
use Rattle.std.specs.Prelude.{IsSomeAnd}
use Rattle.tx_base.specs.SlotFacts.{length-with_slot, slot_at-with_slot, slot_same, slot_there, slot_twice}
use Rattle.tx_base.specs.Slots.{slot_at, with_slot}
use Rattle.tx_base.specs.declared.names.Pid.{Pid}
use Rattle.tx_change.specs.Counts.{CountsAgree}
use Rattle.tx_change.specs.CountsBack.{counting, opened_at}
use Rattle.tx_change.specs.Exchange.{applied, change_after, exchanged, object_of, parts_after, reverted, sizes_of, undone, Sizes, AreNamed, AreWithin}
use Rattle.tx_change.specs.Laws.{AreElsewhere, HaveAllPlaces, HasPlaces}
use Rattle.tx_change.specs.States.{changed, state_of}
use Rattle.tx_change.specs.declared.change.Change.{Change}
use Rattle.tx_change.specs.declared.change.Change.TheVariants as change
use Rattle.tx_change.specs.declared.parts.Parts.{Parts}
use Rattle.tx_laws.specs.TwoStates.{freed, made}
use Rattle.tx_content.proofs.Ended.{is_gone, joined_few, other_stays, owner_freed, revives, unmarks}
use Rattle.tx_content.proofs.Others.{elsewhere_or, owned_named, txn_stays, Stays}
use Rattle.tx_content.proofs.Outsides.{same_content}
use Rattle.tx_content.specs.Aborts.{answered_from, forth_parts, forth_txn, led_parts, led_txn, standing, standing_at, IsLedBack}
use Rattle.tx_content.specs.Content.{content_of, held_in, held_of, now_of, owner_at, own_held, txn_of, IsShaped, IsTxn}
use Rattle.tx_content.specs.Inverses.{with_txn, HasNumbers, UndoesAborted}
use Rattle.tx_content.specs.Laws.{LiveLaws}
use Rattle.tx_content.specs.Made.{IsMade}
use Rattle.tx_content.specs.declared.content.BoxedTxn.{BoxedTxn}
use Rattle.tx_content.specs.declared.content.Content.{Content}
use Rattle.tx_content.specs.declared.inverse.Inverse.TheVariants.{Aborted}
use Rattle.tx_model.specs.Effects.{with_answer_if}
use Rattle.tx_model.specs.Events.{Note, effect}
use Rattle.tx_model.specs.Membership.{Aborts, is_of, mark_unless_of}
use Rattle.tx_model.specs.State.{Object, Proc, Desc, Pipe, Held, Process, SetProc, State, same_object, write_one, with_writes}
use Rattle.tx_model.specs.Posts.{after_posts}
use Rattle.tx_proc.specs.Parts.{edited_once, pending_in, process_in, revised}
use Rattle.tx_proc.specs.declared.proc.Answer.{Answer as TheAnswer}
use Rattle.tx_proc.specs.declared.proc.Part.TheVariants.{Answer}
use Rattle.tx_proc.specs.declared.proc.Proc.{Proc as TheProc}
use Rattle.tx_reserve.specs.Objects.{is_in}
use Rattle.tx_reserve.specs.Reservations.{owner_of}
use Rattle.tx_signal.specs.Parts.{PendingView}
use Rattle.tx_txn.specs.Content.{led_by, is_named, IsKept, Txn as TheTxn}
use Rattle.tx_txn.specs.Logs.{newest_first, with_pending_at, with_pending_in}
use Rattle.tx_txn.specs.Marks.{ended_of}
use Rattle.tx_txn.specs.Steps.{next_content}
use Rattle.tx_txn.specs.declared.members.Members.{Members}
use Rattle.tx_txn.specs.declared.txn.Txn.{Txn}

-- a process that is given an answer from where it stands
noted_slot : (ret : ℤ) (x : Option TheProc) → option_map (λ me. revised (Answer (answered_from (standing x) ret)) me) (process_in x) ≡ with_answer_if ret (process_in x)
noted_slot ret None = refl
noted_slot ret (Some proc) = refl

-- the note, made on a state whose process stands so
note_made : (S : State) (pid : Pid) (ret : ℤ) (x : Option TheProc) → S.procs pid.0 ≡ process_in x →
    changed (standing_at pid (answered_from (standing x) ret)) S ≡ made (Note pid.0 ret) S S
unfolding effect with_writes after_posts
note_made S pid ret x is = ap (λ (q : Option Process). write_one (SetProc pid.0 q) S)
    (ap (option_map (λ me. revised (Answer (answered_from (standing x) ret)) me)) is ∙ noted_slot ret x ∙ ap (with_answer_if ret) (sym is))

-- the answer and what is pending do not count
counting_noted : (pending : PendingView) (answer : TheAnswer) (x : Option TheProc) →
    counting (option_map (λ proc. edited_once proc (Answer answer)) (with_pending_in pending x)) ≡ counting x
counting_noted pending answer None = refl
counting_noted pending answer (Some proc) = refl

places_noted : (pending : PendingView) (answer : TheAnswer) (x : Option TheProc) → HasPlaces x → HasPlaces (option_map (λ proc. edited_once proc (Answer answer)) (with_pending_in pending x))
places_noted pending answer None has = tt
places_noted pending answer (Some proc) has = record { slots = has.slots; pages = has.pages; descriptors = has.descriptors; actions = has.actions }

-- the process stands again as it did
pub stands_again : (answer : TheAnswer) (x : Option TheProc) → option_map (λ proc. edited_once proc (Answer (standing x))) (option_map (λ proc. edited_once proc (Answer answer)) x) ≡ x
stands_again answer None = refl
stands_again answer (Some proc) = refl

-- what was pending is pending again
pub pending_again : (pending : PendingView) (x : Option TheProc) → with_pending_in (pending_in x pending) (with_pending_in pending x) ≡ x
pending_again pending None = refl
pending_again pending (Some proc) = refl

pub pending_came : (pending : PendingView) (x : Option TheProc) → pending_in (with_pending_in pending x) (pending_in x pending) ≡ pending
pending_came pending None = refl
pending_came pending (Some proc) = refl

-- changes that were led back name what they named
object_same : (parts : Parts) (c : Change) → object_of (change_after parts c) ≡ object_of c
object_same parts (change.Slot pid slot) = refl
object_same parts (change.Part pid part) = refl
object_same parts (change.Description number opened) = refl
object_same parts (change.Pipe number part) = refl

named_reverted : (o : Object) (parts : Parts) (log : List Change) → is_named o (reverted parts log) ≡ is_named o log
unfolding is_named
named_reverted o parts [] = refl
named_reverted o parts (c ∷ log) = λ j. if same_object o (object_same (undone parts log) c j) then true else named_reverted o parts log j

none_named : (o : Object) (log : List Change) → AreElsewhere o log → is_named o log ≡ false
unfolding is_named
none_named o [] none = refl
none_named o (c ∷ log) none = rw none.0 (none_named o log none.1)

named_newest : (o : Object) (log : List Change) → is_named o log ≡ true → is_named o (newest_first log) ≡ true
named_newest o log named = elim (elsewhere_or o log) [
  | inl none ↦ absurd (both_ways (is_named o log) (none_named o log none) named)
  | inr some ↦ some
]

module _ (laws : LiveLaws) (old new : Content) (starter : Pid) (ret : ℤ) (boxed : BoxedTxn) (led after : Txn) (stood : TheAnswer)
    (shaped : IsShaped old) (kept_old : IsKept (content_of old)) (there : slot_at old.txns starter.0 ≡ Some boxed)
    (back : IsLedBack old.parts new.parts ret boxed.txn.value led stood)
    (marks : (n : ℕ) → slot_at new.marks n ≡ mark_unless_of led.starter.0 (slot_at old.marks n)) (marks_long : length new.marks ≡ length old.marks)
    (owners : (o : Object) → owner_of new.owners o ≡ (if is_in led.objects o then None else owner_of old.owners o)) (sized : length new.owners ≡ 352)
    (rest : after ≡ record led { members = after.members }) (txns : new.txns ≡ with_slot old.txns starter.0 None) where
  abbrev s : ℕ
  s = starter.0

  abbrev t0 : Txn
  t0 = boxed.txn.value

  abbrev S : State
  S = now_of old

  -- the parts led back by the log, and with what was kept as pending
  abbrev U : Parts
  U = undone old.parts t0.log

  abbrev P : Parts
  P = led_parts old.parts t0

  abbrev note : Change
  note = standing_at t0.starter (answered_from stood ret)

  was : IsTxn old s t0
  was = shaped.each s boxed there

  starter_is : t0.starter ≡ starter
  starter_is = λ j. record { 0 = was.starter j }

  bounds : (1 ≤ s) × (s ≤ length old.txns)
  bounds = slot_there old.txns s boxed there

  high : s ≤ length old.parts.procs
  high = subst (λ (k : ℕ). s ≤ k) shaped.txns bounds.1

  slots : (n : ℕ) → slot_at new.txns n ≡ (if n == s then None else slot_at old.txns n)
  slots n = ap (λ (ts : List (Option BoxedTxn)). slot_at ts n) txns ∙ slot_at-with_slot old.txns s None n bounds.0 bounds.1

  led_is : led ≡ led_txn old.parts t0
  led_is = back.txn

  led_starter : led.starter ≡ t0.starter
  led_starter = ap (λ (t : Txn). t.starter) led_is

  led_objects : led.objects ≡ t0.objects
  led_objects = ap (λ (t : Txn). t.objects) led_is

  led_defers : led.defers ≡ t0.defers
  led_defers = ap (λ (t : Txn). t.defers) led_is

  sizes_led : sizes_of U ≡ sizes_of old.parts
  sizes_led = laws.sizes_back old.parts t0.log

  high_led : s ≤ length U.procs
  high_led = subst (λ (z : Sizes). s ≤ z.procs) (sym sizes_led) high

  procs_P : P.procs ≡ with_slot U.procs s (with_pending_in t0.kept.pending (slot_at U.procs s))
  procs_P = ap (λ (k : ℕ). with_slot U.procs k (with_pending_in t0.kept.pending (slot_at U.procs k))) was.starter

  slot_P : slot_at P.procs s ≡ with_pending_in t0.kept.pending (slot_at U.procs s)
  slot_P = ap (λ (ps : List (Option TheProc)). slot_at ps s) procs_P ∙ slot_at-with_slot U.procs s (with_pending_in t0.kept.pending (slot_at U.procs s)) s bounds.0 high_led ∙ rw (eq-eqb s s refl) refl

  high_P : s ≤ length P.procs
  high_P = subst (λ (k : ℕ). s ≤ k) (sym (ap length procs_P ∙ length-with_slot U.procs s (with_pending_in t0.kept.pending (slot_at U.procs s)))) high_led

  -- a process number after the abort: its starter's has what was pending and its answer, and all others what the log led to
  procs_new : (n : ℕ) → slot_at new.parts.procs n ≡ (if n == s then option_map (λ proc. edited_once proc (Answer (answered_from stood ret))) (with_pending_in t0.kept.pending (slot_at U.procs s)) else slot_at U.procs n)
  procs_new n =
      ap (λ (R : Parts). slot_at R.procs n) back.parts
      ∙ ap (λ (k : ℕ). slot_at (with_slot P.procs k (option_map (λ proc. edited_once proc (Answer (answered_from stood ret))) (slot_at P.procs k))) n) was.starter
      ∙ slot_at-with_slot P.procs s (option_map (λ proc. edited_once proc (Answer (answered_from stood ret))) (slot_at P.procs s)) n bounds.0 high_P
      ∙ elim (cases_Bool (n == s)) [
        | inl e ↦ rw e (ap (option_map (λ proc. edited_once proc (Answer (answered_from stood ret)))) slot_P)
        | inr e ↦ rw e (ap (λ (ps : List (Option TheProc)). slot_at ps n) procs_P
            ∙ slot_at-with_slot U.procs s (with_pending_in t0.kept.pending (slot_at U.procs s)) n bounds.0 high_led ∙ rw e refl)
      ]

  descs_new : new.parts.descs ≡ U.descs
  descs_new = ap (λ (R : Parts). R.descs) back.parts

  sizes_new : sizes_of new.parts ≡ sizes_of old.parts
  sizes_new = ap sizes_of back.parts
      ∙ (λ j. record {
        procs = (length-with_slot P.procs t0.starter.0 (option_map (λ proc. edited_once proc (Answer (answered_from stood ret))) (slot_at P.procs t0.starter.0)) ∙ length-with_slot U.procs t0.starter.0 (with_pending_in t0.kept.pending (slot_at U.procs t0.starter.0))) j;
        descs = length U.descs;
        pipes = length U.pipes;
      })
      ∙ sizes_led

  long_new : length new.parts.procs ≡ length old.parts.procs
  long_new = ap (λ (z : Sizes). z.procs) sizes_new

  -- the state is led back, and the note is made on it
  held_same : (n : ℕ) → held_of new n ≡ (if n == s then [] else held_of old n)
  held_same n = ap held_in (slots n) ∙ elim (cases_Bool (n == s)) [
    | inl e ↦ rw e refl
    | inr e ↦ rw e refl
  ]

  abbrev R : State
  R = led_by s (Some (txn_of boxed)) S

  led_state : state_of (λ n. if n == s then [] else held_of old n) P ≡ R
  led_state = ap (λ (k : ℕ). state_of (λ n. if n == s then [] else held_of old n) (with_pending_at k t0.kept.pending U)) was.starter
      ∙ laws.abort (held_of old) old.parts s t0.log (txn_of boxed) was.named refl bounds.0 high

  now_same : now_of new ≡ made (Note s ret) R R
  now_same = (λ j. state_of (λ n. held_same n j) (back.parts j))
      ∙ laws.change (λ n. if n == s then [] else held_of old n) P note (record { low = subst (λ (k : ℕ). 1 ≤ k) (sym was.starter) bounds.0; high = subst (λ (k : ℕ). k ≤ length P.procs) (sym was.starter) high_P }, tt)
      ∙ ap (changed note) led_state
      ∙ (λ j. changed (standing_at (starter_is j) (answered_from (stood_is j) ret)) R)
      ∙ note_made R starter ret (slot_at P.procs s) (sym (ap (λ (Q : State). Q.procs s) led_state))
    where
      stood_is : stood ≡ standing (slot_at P.procs s)
      stood_is = back.stands ∙ ap (λ (k : ℕ). standing (slot_at P.procs k)) was.starter

  next_same : (status process : ℕ) → content_of new ≡ next_content (Aborts s status) (Note s ret) process [] (content_of old)
  unfolding next_content
  next_same status process = same_content (content_of new) (next_content (Aborts s status) (Note s ret) process [] (content_of old))
      (now_same ∙ ap (λ (x : Option TheTxn). made (Note s ret) (led_by s x S) (led_by s x S)) (sym (ap (option_map txn_of) there)))
      txns_same owners_same (λ j. record { width = marks_long j; marks = λ n. unmarks old new s boxed led after shaped there led_starter led_objects led_defers marks marks_long owners rest n j })
    where
      txns_same : (n : ℕ) → option_map txn_of (slot_at new.txns n) ≡ (if n == s then None else option_map txn_of (slot_at old.txns n))
      txns_same n = ap (option_map txn_of) (slots n) ∙ elim (cases_Bool (n == s)) [
        | inl e ↦ rw e refl
        | inr e ↦ rw e refl
      ]

      owners_same : (o : Object) → owner_at new o ≡ freed s (owner_at old o)
      owners_same = owner_freed old new s boxed led after shaped there led_starter led_objects led_defers marks marks_long owners rest (slots s ∙ rw (eq-eqb s s refl) refl)
          (λ n e. ap (own_held n) (slots n) ∙ rw e refl)

  -- a number whose process the log leads to counts as that does
  counting_new : (n : ℕ) → counting (slot_at U.procs n) ≡ counting (slot_at new.parts.procs n)
  counting_new n = sym (ap counting (procs_new n) ∙ elim (cases_Bool (n == s)) [
    | inl e ↦ rw e (counting_noted t0.kept.pending (answered_from stood ret) (slot_at U.procs s) ∙ ap (λ (k : ℕ). counting (slot_at U.procs k)) (sym (eqb-true n s e)))
    | inr e ↦ rw e refl
  ])

  counts_new : CountsAgree new.parts
  counts_new = laws.names U new.parts (ap (λ (z : Sizes). z.procs) (sizes_led ∙ sym sizes_new)) counting_new (λ d. ap (λ ds. opened_at ds d) (sym descs_new)) was.counts

  places_led : HaveAllPlaces U
  places_led = laws.places_back old.parts t0.log was.named was.brings shaped.places

  places_new : HaveAllPlaces new.parts
  places_new n = subst HasPlaces (sym (procs_new n)) (by (n == s))
    where
      by : (b : Bool) → HasPlaces (if b then option_map (λ proc. edited_once proc (Answer (answered_from stood ret))) (with_pending_in t0.kept.pending (slot_at U.procs s)) else slot_at U.procs n)
      by true = places_noted t0.kept.pending (answered_from stood ret) (slot_at U.procs s) (places_led s)
      by false = places_led n

  stays : (n : ℕ) (b : BoxedTxn) → (n == s) ≡ false → slot_at old.txns n ≡ Some b → Stays old new n b.txn.value
  stays n b apart at = other_stays old new s boxed led after shaped there led_starter led_objects led_defers marks marks_long owners rest sizes_new n b.txn.value apart
      (laws.led_back old.parts new.parts b.txn.value.log sizes_new other.named procs descs shaped.counts counts_new other.counts)
    where
      other : IsTxn old n b.txn.value
      other = shaped.each n b at

      differs : n ≢ s
      differs e = both_ways (n == s) apart (eq-eqb n s e)

      some_same : {a c : ℕ} → Some a ≡ Some c → a ≡ c
      some_same {a} e = ap of e
        where
          of : Option ℕ → ℕ
          of None = a
          of (Some x) = x

      -- what its log names the other log does not
      unreserved : (o : Object) → is_named o (newest_first b.txn.value.log) ≡ true → AreElsewhere o t0.log
      unreserved o named = elim (elsewhere_or o t0.log) [
        | inl none ↦ none
        | inr some ↦ absurd (differs (some_same (sym (owned_named laws old new shaped kept_old n b at o named) ∙ owned_named laws old new shaped kept_old s boxed there o some)))
      ]

      procs : (p : ℕ) → AreElsewhere (Proc p) b.txn.value.log ⊎ (counting (slot_at old.parts.procs p) ≡ counting (slot_at new.parts.procs p))
      procs p = elim (elsewhere_or (Proc p) b.txn.value.log) [
        | inl none ↦ inl none
        | inr some ↦ inr (ap counting (sym ((laws.elsewhere old.parts t0.log was.named).0 p (unreserved (Proc p) some))) ∙ counting_new p)
      ]

      descs : (d : ℕ) → AreElsewhere (Desc d) b.txn.value.log ⊎ (opened_at old.parts.descs d ≡ opened_at new.parts.descs d)
      descs d = elim (elsewhere_or (Desc d) b.txn.value.log) [
        | inl none ↦ inl none
        | inr some ↦ inr (sym ((laws.elsewhere old.parts t0.log was.named).1 d (unreserved (Desc d) some)) ∙ ap (λ ds. opened_at ds d) (sym descs_new))
      ]

  each_after : (n : ℕ) (b : BoxedTxn) → slot_at new.txns n ≡ Some b → IsTxn new n b.txn.value
  each_after n b at = elim (cases_Bool (n == s)) [
    | inl e ↦ absurd (none_some (sym (slots n ∙ ap (λ (z : Bool). if z then None else slot_at old.txns n) e) ∙ at))
    | inr e ↦ by e (sym (slots n ∙ ap (λ (z : Bool). if z then None else slot_at old.txns n) e) ∙ at)
  ]
    where
      none_some : None ≡ Some b → ⊥
      none_some e = cc

      by : (n == s) ≡ false → slot_at old.txns n ≡ Some b → IsTxn new n b.txn.value
      by e there = txn_stays old new n b.txn.value (shaped.each n b there) (stays n b e there)

  shaped_after : IsShaped new
  shaped_after = record {
    counts = counts_new;
    places = places_new;
    few = subst (λ (k : ℕ). k ≤ 256) (sym long_new) shaped.few;
    marks = marks_long ∙ shaped.marks ∙ sym long_new;
    txns = ap length txns ∙ length-with_slot old.txns s None ∙ shaped.txns ∙ sym long_new;
    owners = sized;
    each = each_after;
  }

  after_starter : after.starter ≡ t0.starter
  after_starter = ap (λ (t : Txn). t.starter) rest ∙ led_starter

  after_is : after.starter.0 ≡ s
  after_is = ap (λ (p : Pid). p.0) after_starter ∙ was.starter

  after_log : after.log ≡ reverted old.parts t0.log
  after_log = ap (λ (t : Txn). t.log) rest ∙ ap (λ (t : Txn). t.log) led_is

  after_kept : after.kept ≡ record t0.kept { pending = pending_in (slot_at U.procs s) t0.kept.pending }
  after_kept = ap (λ (t : Txn). t.kept) rest ∙ ap (λ (t : Txn). t.kept) led_is ∙ ap (λ (k : ℕ). record t0.kept { pending = pending_in (slot_at U.procs k) t0.kept.pending }) was.starter

  -- the starter stands as it did, and what was pending there is pending again
  stood_again : parts_after new.parts (standing_at after.starter stood) ≡ P
  stood_again =
      (λ j. parts_after (back.parts j) (standing_at (after_starter j) stood))
      ∙ (λ j. record P { procs = (slot_twice P.procs t0.starter.0 first (option_map (λ proc. edited_once proc (Answer stood)) (slot_at (with_slot P.procs t0.starter.0 first) t0.starter.0)) ∙ again) j })
    where
      first : Option TheProc
      first = option_map (λ proc. edited_once proc (Answer (answered_from stood ret))) (slot_at P.procs t0.starter.0)

      low_t : 1 ≤ t0.starter.0
      low_t = subst (λ (k : ℕ). 1 ≤ k) (sym was.starter) bounds.0

      high_t : t0.starter.0 ≤ length P.procs
      high_t = subst (λ (k : ℕ). k ≤ length P.procs) (sym was.starter) high_P

      again : with_slot P.procs t0.starter.0 (option_map (λ proc. edited_once proc (Answer stood)) (slot_at (with_slot P.procs t0.starter.0 first) t0.starter.0)) ≡ P.procs
      again =
          ap (λ (x : Option TheProc). with_slot P.procs t0.starter.0 (option_map (λ proc. edited_once proc (Answer stood)) x))
          (slot_at-with_slot P.procs t0.starter.0 first t0.starter.0 low_t high_t ∙ rw (eq-eqb t0.starter.0 t0.starter.0 refl) refl)
          ∙ ap (λ (a : TheAnswer). with_slot P.procs t0.starter.0 (option_map (λ proc. edited_once proc (Answer a)) first)) back.stands
          ∙ ap (with_slot P.procs t0.starter.0) (stands_again (answered_from stood ret) (slot_at P.procs t0.starter.0))
          ∙ slot_same P.procs t0.starter.0 low_t

  pending_same : forth_parts new.parts after stood ≡ U
  pending_same =
      (λ j. with_pending_at (after_is j) (after_kept j).pending (stood_again j))
      ∙ (λ j. record U { procs = procs j })
    where
      procs : with_slot P.procs s (with_pending_in (pending_in (slot_at U.procs s) t0.kept.pending) (slot_at P.procs s)) ≡ U.procs
      procs =
          (λ j. with_slot (procs_P j) s (with_pending_in (pending_in (slot_at U.procs s) t0.kept.pending) (slot_P j)))
          ∙ slot_twice U.procs s (with_pending_in t0.kept.pending (slot_at U.procs s)) (with_pending_in (pending_in (slot_at U.procs s) t0.kept.pending) (with_pending_in t0.kept.pending (slot_at U.procs s)))
          ∙ ap (with_slot U.procs s) (pending_again t0.kept.pending (slot_at U.procs s))
          ∙ slot_same U.procs s bounds.0

  revived_is : record (forth_txn new.parts after stood) { members = None } ≡ t0
  revived_is = λ j. record {
    starter = after_starter j;
    defers = (ap (λ (t : Txn). t.defers) rest ∙ ap (λ (t : Txn). t.defers) led_is) j;
    kept = (kept_again j);
    log = ((λ i. exchanged (pending_same i) (after_log i)) ∙ laws.come_back old.parts t0.log was.named was.brings shaped.places) j;
    outbox = (ap (λ (t : Txn). t.outbox) rest ∙ ap (λ (t : Txn). t.outbox) led_is) j;
    objects = (ap (λ (t : Txn). t.objects) rest ∙ ap (λ (t : Txn). t.objects) led_is) j;
    members = sym was.members j;
  }
    where
      kept_again : record after.kept { pending = pending_in (slot_at (parts_after new.parts (standing_at after.starter stood)).procs after.starter.0) after.kept.pending } ≡ t0.kept
      kept_again =
          (λ j. record (after_kept j) { pending = pending_in (slot_at (stood_again j).procs (after_is j)) (after_kept j).pending })
          ∙ (λ j. record t0.kept { pending = (ap (λ (x : Option TheProc). pending_in x (pending_in (slot_at U.procs s) t0.kept.pending)) slot_P ∙ pending_came t0.kept.pending (slot_at U.procs s)) j })

  module _ (members : Members) (has_members : after.members ≡ Some members)
      (joined : (n : ℕ) → is_in members.joined (Proc n) ≡ is_of led.starter.0 (slot_at old.marks n))
      (ended : (n : ℕ) → is_in members.ended (Proc n) ≡ ended_of led.starter.0 (slot_at old.marks n)) where
    undoes : UndoesAborted new (with_txn boxed after) stood old members
    undoes = record {
      revives = revives old new s boxed led after shaped there led_starter led_objects led_defers marks marks_long owners rest members has_members joined ended;
      parts = (λ j. applied (pending_same j) (after_log j)) ∙ laws.apply_again old.parts t0.log was.named;
      txns = (λ j. with_slot (txns j) (after_is j) (Some (with_txn boxed (revived_is j))))
          ∙ slot_twice old.txns s None (Some boxed) ∙ ap (with_slot old.txns s) (sym there) ∙ slot_same old.txns s bounds.0;
    }

    numbers : HasNumbers new after
    numbers = record {
      low = subst (λ (k : ℕ). 1 ≤ k) (sym after_is) bounds.0;
      high = subst (λ (k : ℕ). k ≤ length new.parts.procs) (sym after_is) (subst (λ (k : ℕ). s ≤ k) (sym long_new) high);
      slots = shaped_after.txns;
      named = subst (AreNamed new.parts) (sym after_log) (subst (λ (z : Sizes). AreWithin z (reverted old.parts t0.log)) (sym sizes_new) (laws.reverted (sizes_of old.parts) old.parts t0.log was.named));
      joined = joined_few old new s boxed led after shaped there led_starter led_objects led_defers marks marks_long owners rest members has_members joined ended;
    }

    local : (o : Object) → is_named o (standing_at after.starter stood ∷ after.log) ≡ true → owner_at old o ≡ Some s
    unfolding is_named
    local o named = by (same_object o (Proc after.starter.0)) refl named
      where
        starter_own : (x : Object) → same_object x (Proc after.starter.0) ≡ true → owner_at old x ≡ Some s
        starter_own (Proc n) e = ap (λ (k : ℕ). owner_of old.owners (Proc k)) (eqb-true n after.starter.0 e ∙ after_is) ∙ was.own s was.live
        starter_own (Desc n) e = cc
        starter_own (Pipe n) e = cc
        starter_own (Held n) e = cc

        by : (b : Bool) → same_object o (Proc after.starter.0) ≡ b → (if b then true else is_named o after.log) ≡ true → owner_at old o ≡ Some s
        by true e h = starter_own o e
        by false e h = owned_named laws old new shaped kept_old s boxed there o
            (named_newest o t0.log (sym (named_reverted o old.parts t0.log) ∙ ap (is_named o) (sym after_log) ∙ h))

    pub abort_with : (status process : ℕ) → IsMade old (Aborts s status) (Note s ret) process new (Aborted (with_txn boxed after) stood)
    abort_with status process = record {
      records = [];
      logs = tt;
      next = next_same status process;
      shaped = shaped_after;
      goes = numbers;
      back = (members, undoes);
      local = local;
      whole = (members, is_gone old new s boxed led after shaped there led_starter led_objects led_defers marks marks_long owners rest members has_members joined ended (slots s ∙ rw (eq-eqb s s refl) refl));
    }

  pub abort_made : IsSomeAnd after.members (λ members. (n : ℕ) → is_in members.joined (Proc n) ≡ is_of led.starter.0 (slot_at old.marks n)) →
      IsSomeAnd after.members (λ members. (n : ℕ) → is_in members.ended (Proc n) ≡ ended_of led.starter.0 (slot_at old.marks n)) →
      (status process : ℕ) → IsMade old (Aborts s status) (Note s ret) process new (Aborted (with_txn boxed after) stood)
  abort_made joined ended = by after.members refl joined ended
    where
      by : (x : Option Members) → after.members ≡ x → IsSomeAnd x (λ members. (n : ℕ) → is_in members.joined (Proc n) ≡ is_of led.starter.0 (slot_at old.marks n)) →
          IsSomeAnd x (λ members. (n : ℕ) → is_in members.ended (Proc n) ≡ ended_of led.starter.0 (slot_at old.marks n)) →
          (status process : ℕ) → IsMade old (Aborts s status) (Note s ret) process new (Aborted (with_txn boxed after) stood)
      by None e joined ended = absurd joined
      by (Some members) e joined ended = abort_with members e joined ended

-- what it takes to lead a live transaction back
pub can_lead : (k : Content) (s : ℕ) (boxed : BoxedTxn) (txn : Txn) → IsShaped k → slot_at k.txns s ≡ Some boxed → txn ≡ boxed.txn.value →
    (1 ≤ txn.starter.0) × (txn.starter.0 ≤ length k.parts.procs) × AreNamed k.parts txn.log
can_lead k s boxed txn shaped there is =
    let was : IsTxn k s boxed.txn.value = shaped.each s boxed there in
    let bounds : (1 ≤ s) × (s ≤ length k.txns) = slot_there k.txns s boxed there in
    subst (λ (t : Txn). (1 ≤ t.starter.0) × (t.starter.0 ≤ length k.parts.procs) × AreNamed k.parts t.log) (sym is)
    (subst (λ (n : ℕ). 1 ≤ n) (sym was.starter) bounds.0, subst (λ (n : ℕ). n ≤ length k.parts.procs) (sym was.starter) (subst (λ (n : ℕ). s ≤ n) shaped.txns bounds.1), was.named)
