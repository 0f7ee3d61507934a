-- The first step of a transaction.
use Rattle.std.proofs.Common.{◌≡◌, ◌≢◌, ℕ, zero, suc, pos, ◌≤◌, Bool, true, false, ◌||◌, ◌==◌, if◌then◌else◌, List, [], ◌∷◌, length, map, drop, Option, Some, None, option_map, refl, sym, ap, subst, ◌∙◌, inl, inr, eq-eqb, eqb-true, arith, lt-ltb}
use Rattle.std.proofs.lemmas.Bool.{both_ways, cases_Bool}
use Rattle.tx_base.specs.SlotFacts.{length-with_slot, slot_at-with_slot, slot_same, slot_there, slot_twice}
use Rattle.tx_base.specs.Slots.{slot_at, with_slot}
use Rattle.tx_base.specs.declared.marks.Mark.{Mark}
use Rattle.tx_base.specs.declared.names.Pid.{Pid}
use Rattle.tx_change.specs.Counts.{CountsAgree}
use Rattle.tx_change.specs.Exchange.{applied, exchanged, sizes_of, undone, Sizes, AreNamed}
use Rattle.tx_change.specs.Laws.{BringPlaces, HaveAllPlaces}
use Rattle.tx_change.specs.States.{state_of}
use Rattle.tx_change.specs.declared.change.Change.{Change}
use Rattle.tx_change.specs.declared.parts.Parts.{Parts}
use Rattle.tx_cred.specs.Cred.{ids_of}
use Rattle.tx_kernel.specs.Acts.{Makes}
use Rattle.tx_kernel.specs.Plans.{AreAmong}
use Rattle.tx_kernel.specs.Steps.{target_objects}
use Rattle.tx_kernel.specs.declared.planned.Planned.{Planned}
use Rattle.tx_laws.specs.Commuting.{named_by}
use Rattle.tx_laws.specs.Footprints.{is_shared}
use Rattle.tx_laws.specs.TwoStates.{is_owner, made}
use Rattle.tx_content.proofs.Others.{counts_stay, txn_stays, Stays}
use Rattle.tx_content.proofs.Outsides.{same_content, targets_are}
use Rattle.tx_content.specs.Begins.{is_only, IsAlone, IsBegun, Starts, StartsOf}
use Rattle.tx_content.specs.Content.{content_of, held_in, held_of, now_of, owner_at, own_held, txn_of, IsShaped, IsTxn}
use Rattle.tx_content.specs.Inverses.{log_in, with_txn, UndoesBegun}
use Rattle.tx_content.specs.Laws.{LiveLaws}
use Rattle.tx_content.proofs.Planned.{makes_all}
use Rattle.tx_content.specs.Made.{IsMade, IsPlanned}
use Rattle.tx_content.specs.declared.content.BoxedTxn.{BoxedTxn}
use Rattle.tx_content.specs.declared.content.Content.{Content}
use Rattle.tx_content.specs.declared.inverse.Inverse.TheVariants.{Begun}
use Rattle.tx_base.specs.declared.steps.Reply.TheVariants.{Done}
use Rattle.tx_model.specs.Events.{Event, Note, effect, objects, reply_of}
use Rattle.tx_model.specs.History.{event_footprint, targets}
use Rattle.tx_model.specs.Words.{processes_of}
use Rattle.tx_model.specs.Membership.{Begins, Within, is_of, new_mark}
use Rattle.tx_model.specs.State.{Object, Proc, Desc, Pipe, Held, State, has_object, is_between}
use Rattle.tx_proc.specs.Parts.{process_in}
use Rattle.tx_proc.specs.declared.proc.Proc.{Proc as TheProc}
use Rattle.tx_reserve.specs.Reservations.{owner_of}
use Rattle.tx_txn.specs.Content.{IsKept}
use Rattle.tx_txn.specs.Logs.{newest_first}
use Rattle.tx_txn.specs.Outboxes.{unmade, Held as HeldSends}
use Rattle.tx_txn.specs.Steps.{logged, next_content, LeadsBack, Logs}
use Rattle.tx_txn.specs.declared.txn.Txn.{Txn}

small_proc : (n : ℕ) → 1 ≤ n → n ≤ 256 → is_between 256 n ≡ true
small_proc zero low high = absurd (omega arith)
small_proc (suc n) low high = lt-ltb n 256 (omega arith)

only_is : (s n : ℕ) → is_between 256 s ≡ true → is_only s (Proc n) ≡ (n == s)
only_is s n small = by (n == s) refl
  where
    by : (b : Bool) → (n == s) ≡ b → (if b then is_between 256 n else false) ≡ b
    by true e = ap (is_between 256) (eqb-true n s e) ∙ small
    by false e = refl

among_more : (o : Object) (os : List Object) (changes : List Change) → AreAmong os changes → AreAmong (o ∷ os) changes
unfolding has_object
among_more o os [] among = tt
among_more o os (change ∷ changes) among = (by _ among.0, among_more o os changes among.1)
  where
    by : (b : Bool) {x : Bool} → x ≡ true → (if b then true else x) ≡ true
    by true h = refl
    by false h = h

module _ (laws : LiveLaws) (old new : Content) (pid : Pid) (defers : Bool) (boxed : BoxedTxn) (after : Txn) (shaped : IsShaped old) (kept_old : IsKept (content_of old)) (alone : IsAlone old pid.0)
    (begun : IsBegun old.parts pid defers boxed.txn.value) (starts : Starts old.parts new.parts old.owners new.owners boxed.txn.value after)
    (marks : new.marks ≡ with_slot old.marks pid.0 (Some (new_mark pid.0 defers))) (txns : new.txns ≡ with_slot old.txns pid.0 (Some (with_txn boxed after))) where
  abbrev s : ℕ
  s = pid.0

  abbrev t0 : Txn
  t0 = boxed.txn.value

  abbrev box1 : BoxedTxn
  box1 = with_txn boxed after

  abbrev S : State
  S = now_of old

  abbrev event : Event
  event = Note s (pos 0)

  makes : Makes old.parts pid None event [] (exchanged old.parts t0.log) (applied old.parts t0.log) begun.planned
  makes = begun.makes

  kept_is : exchanged old.parts t0.log ≡ makes.kept
  kept_is = makes.added

  log_is : after.log ≡ makes.kept
  log_is = starts.log ∙ kept_is

  bounds : (1 ≤ s) × (s ≤ length old.parts.procs)
  bounds = slot_there old.parts.procs s begun.proc begun.there

  small : is_between 256 s ≡ true
  small = small_proc s bounds.0 (by bounds.1 shaped.few)
    where
      by : {a b c : ℕ} → a ≤ b → b ≤ c → a ≤ c
      by x y = omega (arith, x, y)

  txn_slots : (n : ℕ) → slot_at new.txns n ≡ (if n == s then Some box1 else slot_at old.txns n)
  txn_slots n = ap (λ (ts : List (Option BoxedTxn)). slot_at ts n) txns ∙ slot_at-with_slot old.txns s (Some box1) n bounds.0 (subst (λ (k : ℕ). s ≤ k) (sym shaped.txns) bounds.1)

  mark_slots : (n : ℕ) → slot_at new.marks n ≡ (if n == s then Some (new_mark s defers) else slot_at old.marks n)
  mark_slots n = ap (λ (ms : List (Option Mark)). slot_at ms n) marks ∙ slot_at-with_slot old.marks s (Some (new_mark s defers)) n bounds.0 (subst (λ (k : ℕ). s ≤ k) (sym shaped.marks) bounds.1)

  slot_s : slot_at new.txns s ≡ Some box1
  slot_s = txn_slots s ∙ rw (eq-eqb s s refl) refl

  -- it had no transaction
  no_txn : slot_at old.txns s ≡ None
  no_txn = by (slot_at old.txns s) refl
    where
      by : (x : Option BoxedTxn) → slot_at old.txns s ≡ x → x ≡ None
      by None e = refl
      by (Some b) e = absurd (both_ways (is_of s (slot_at old.marks s)) (alone.members s) ((shaped.each s b e).live))

  starter_is : after.starter ≡ pid
  starter_is = ap (λ (t : Txn). t.starter) starts.rest ∙ begun.starter

  outbox_is : after.outbox ≡ record { sendings = []; posts = [] }
  outbox_is = ap (λ (t : Txn). t.outbox) starts.rest ∙ begun.outbox

  held_same : (n : ℕ) → held_of new n ≡ held_of old n
  held_same n = ap held_in (txn_slots n) ∙ elim (cases_Bool (n == s)) [
    | inl e ↦ rw e (ap (λ (h : HeldSends). held_in (Some (with_txn boxed (record after { outbox = h })))) outbox_is ∙ sym (ap held_in (ap (slot_at old.txns) (eqb-true n s e) ∙ no_txn)))
    | inr e ↦ rw e refl
  ]

  now_same : now_of new ≡ made event S S
  now_same = ap (state_of (held_of new)) starts.parts ∙ (λ j. state_of (λ n. held_same n j) (applied old.parts t0.log))
      ∙ sym (laws.made (held_of old) old.parts (applied old.parts t0.log) pid None event [] (exchanged old.parts t0.log) begun.planned makes tt)

  txn_is : txn_of box1 ≡ record { log = newest_first makes.kept; pending = begun.proc.pending; ids = ids_of begun.proc.cred }
  txn_is = λ j. record { log = newest_first (log_is j); pending = (ap (λ (t : Txn). t.kept.pending) starts.rest ∙ begun.pending) j; ids = ids_of ((ap (λ (t : Txn). t.kept.ids) starts.rest ∙ begun.ids) j) }

  txns_same : (n : ℕ) → option_map txn_of (slot_at new.txns n) ≡ (next_content (Within s (Begins defers)) event s (newest_first makes.kept) (content_of old)).txns n
  unfolding next_content
  txns_same n = ap (option_map txn_of) (txn_slots n) ∙ elim (cases_Bool (n == s)) [
    | inl e ↦ rw e (ap Some txn_is ∙ sym ((λ j. logged (newest_first makes.kept) (ap process_in begun.there j) (option_map txn_of (no_txn j)))))
    | inr e ↦ rw e refl
  ]

  owns : (o : Object) → owner_of new.owners o ≡ (if is_only s o then Some s else owner_of old.owners o)
  owns o = starts.owns o ∙ ap (λ (p : Pid). if is_only p.0 o then Some p.0 else owner_of old.owners o) begun.starter

  owners_same : (o : Object) → owner_at new o ≡ (next_content (Within s (Begins defers)) event s (newest_first makes.kept) (content_of old)).owner o
  unfolding next_content event_footprint has_object targets effect objects
  owners_same (Proc n) = owns (Proc n) ∙ ap (λ (b : Bool). if b then Some s else owner_of old.owners (Proc n)) (only_is s n small ∙ by (n == s))
    where
      by : (b : Bool) → b ≡ (if b then true else false)
      by true = refl
      by false = refl
  owners_same (Desc n) = owns (Desc n)
  owners_same (Pipe n) = owns (Pipe n)
  owners_same (Held n) = ap (own_held n) (txn_slots n) ∙ elim (cases_Bool (n == s)) [
    | inl e ↦ rw e (ap Some (eqb-true n s e))
    | inr e ↦ rw e refl
  ]

  next_same : content_of new ≡ next_content (Within s (Begins defers)) event s (newest_first makes.kept) (content_of old)
  unfolding next_content
  next_same = same_content (content_of new) (next_content (Within s (Begins defers)) event s (newest_first makes.kept) (content_of old)) now_same txns_same owners_same
      (λ j. record { width = (ap length marks ∙ length-with_slot old.marks s (Some (new_mark s defers))) j; marks = λ n. mark_slots n j })

  -- it sends nothing
  quiet : target_objects begun.planned.sends ≡ []
  unfolding effect
  quiet = sym (targets_are begun.planned.sends) ∙ sym (ap processes_of (makes.gives (held_of old) tt).sent)

  among : AreAmong (Proc s ∷ []) makes.kept
  unfolding objects
  among = subst (λ (os : List Object). AreAmong (Proc s ∷ os) makes.kept) quiet (makes.among (held_of old))

  logs : Logs (Within s (Begins defers)) event (newest_first makes.kept) (content_of old)
  unfolding event_footprint targets effect objects
  logs =
      subst (λ (R : State). LeadsBack s (Held s ∷ Proc s ∷ []) (newest_first makes.kept) R S)
      (sym (laws.made (held_of old) old.parts (applied old.parts t0.log) pid None event [] (exchanged old.parts t0.log) begun.planned makes tt))
      (subst (λ (P : Parts). LeadsBack s (Held s ∷ Proc s ∷ []) (newest_first makes.kept) (state_of (held_of old) (applied old.parts t0.log)) (state_of (held_of old) P)) makes.back
      (laws.step (held_of old) (held_of old) s (Held s ∷ Proc s ∷ []) (applied old.parts t0.log) makes.kept makes.named (among_more (Held s) (Proc s ∷ []) makes.kept among) (λ n e. refl)))

  sizes_new : sizes_of new.parts ≡ sizes_of old.parts
  sizes_new = ap sizes_of starts.parts ∙ laws.sizes old.parts t0.log

  long_new : length new.parts.procs ≡ length old.parts.procs
  long_new = ap (λ (z : Sizes). z.procs) sizes_new

  named_log : AreNamed new.parts after.log
  named_log = subst (λ (p : Parts). AreNamed p after.log) (sym starts.parts) (subst (AreNamed (applied old.parts t0.log)) (sym log_is) makes.named)

  back_is : undone new.parts after.log ≡ old.parts
  back_is = (λ j. undone (starts.parts j) (log_is j)) ∙ makes.back

  among_named : AreAmong (named_by event S) after.log
  unfolding named_by objects effect
  among_named = subst (AreAmong (Proc s ∷ [])) (sym log_is) among

  mine : IsTxn new s after
  mine = record {
    starter = ap (λ (p : Pid). p.0) starter_is;
    live = ap (is_of s) (mark_slots s) ∙ rw (eq-eqb s s refl) (eq-eqb s s refl);
    own = λ p of. owns (Proc p) ∙ ap (λ (b : Bool). if b then Some s else owner_of old.owners (Proc p)) (only_is s p small) ∙ own_at p (p == s) refl (sym (ap (is_of s) (mark_slots p)) ∙ of);
    named = named_log;
    brings = subst BringPlaces (sym log_is) makes.brings;
    counts = subst CountsAgree (sym back_is) shaped.counts;
    objects = λ o. starts.objects o ∙ ap (λ (b : Bool). b || is_only t0.starter.0 o) (begun.objects o) ∙ ap (λ (p : Pid). is_only p.0 o) begun.starter
        ∙ owned_at o (is_only s o) ∙ ap (is_owner s) (sym (owns o));
    posts = ap (λ (h : HeldSends). h.posts) outbox_is ∙ sym (ap (λ (h : HeldSends). map (λ sending. unmade) h.sendings) outbox_is);
    members = ap (λ (t : Txn). t.members) starts.rest ∙ begun.members;
    defers = λ p m at is. defers_at p m (p == s) refl (sym (mark_slots p) ∙ at) is ∙ sym (ap (λ (t : Txn). t.defers) starts.rest ∙ begun.deferring);
  }
    where
      own_at : (p : ℕ) (b : Bool) → (p == s) ≡ b → is_of s (if b then Some (new_mark s defers) else slot_at old.marks p) ≡ true → (if b then Some s else owner_of old.owners (Proc p)) ≡ Some s
      own_at p true e of = refl
      own_at p false e of = absurd (both_ways (is_of s (slot_at old.marks p)) (alone.members p) of)

      owned_at : (o : Object) (b : Bool) → b ≡ is_owner s (if b then Some s else owner_of old.owners o)
      owned_at o true = sym (eq-eqb s s refl)
      owned_at o false = sym (alone.owns o)

      mark_in : Option Mark → Bool
      mark_in None = defers
      mark_in (Some x) = x.defers

      defers_at : (p : ℕ) (m : Mark) (b : Bool) → (p == s) ≡ b → (if b then Some (new_mark s defers) else slot_at old.marks p) ≡ Some m → m.starter.0 ≡ s → m.defers ≡ defers
      defers_at p m true e at is = sym (ap mark_in at)
      defers_at p m false e at is = absurd (both_ways (is_of s (slot_at old.marks p)) (alone.members p) (ap (is_of s) at ∙ eq-eqb m.starter.0 s is))

  stays : (n : ℕ) (b : BoxedTxn) → (n == s) ≡ false → slot_at old.txns n ≡ Some b → Stays old new n b.txn.value
  unfolding objects has_object
  stays n b apart at = record {
    sizes = sizes_new;
    members = λ p. ap (is_of n) (mark_slots p) ∙ same_of p (p == s) refl;
    defers = λ d so p m e is. so p m (same_mark p m (p == s) refl (sym (mark_slots p) ∙ e) is) is;
    owns = λ o. ap (is_owner n) (owns o) ∙ owned_at o (is_only s o) refl;
    counts = counts_stay laws old new shaped kept_old event after.log named_log back_is among_named now_same (subst CountsAgree (sym starts.parts) makes.counts) n b at unnamed;
  }
    where
      differs : n ≢ s
      differs e = both_ways (n == s) apart (eq-eqb n s e)

      not_same : (x : Bool) → (s == n) ≡ x → x ≡ false
      not_same true z = absurd (differs (sym (eqb-true s n z)))
      not_same false z = refl

      same_of : (p : ℕ) (x : Bool) → (p == s) ≡ x → is_of n (if x then Some (new_mark s defers) else slot_at old.marks p) ≡ is_of n (slot_at old.marks p)
      same_of p true e = not_same (s == n) refl ∙ sym (ap (λ (k : ℕ). is_of n (slot_at old.marks k)) (eqb-true p s e) ∙ ap (is_of n) alone.mark)
      same_of p false e = refl

      same_mark : (p : ℕ) (m : Mark) (x : Bool) → (p == s) ≡ x → (if x then Some (new_mark s defers) else slot_at old.marks p) ≡ Some m → m.starter.0 ≡ n → slot_at old.marks p ≡ Some m
      same_mark p m true e at is = absurd (differs (sym is ∙ sym (ap starter_in at)))
        where
          starter_in : Option Mark → ℕ
          starter_in None = s
          starter_in (Some x) = x.starter.0
      same_mark p m false e at is = at

      owned_at : (o : Object) (x : Bool) → is_only s o ≡ x → is_owner n (if x then Some s else owner_of old.owners o) ≡ is_owner n (owner_of old.owners o)
      owned_at (Proc p) true e = not_same (s == n) refl ∙ sym (ap (λ (k : ℕ). is_owner n (owner_of old.owners (Proc k))) (eqb-true p s (sym (only_is s p small) ∙ e)) ∙ ap (is_owner n) alone.owner)
      owned_at (Desc p) true e = cc
      owned_at (Pipe p) true e = cc
      owned_at (Held p) true e = cc
      owned_at o false e = refl

      unnamed : (o : Object) → is_shared o ≡ true → owner_at old o ≡ Some n → has_object o (objects event S) ≡ false
      unnamed (Proc p) shared own = by (p == s) refl
        where
          by : (x : Bool) → (p == s) ≡ x → (if x then true else false) ≡ false
          by true e = absurd (apart_none (sym alone.owner ∙ ap (λ (k : ℕ). owner_of old.owners (Proc k)) (sym (eqb-true p s e)) ∙ own))
            where
              apart_none : None ≡ Some n → ⊥
              apart_none z = cc
          by false e = refl
      unnamed (Desc p) shared own = refl
      unnamed (Pipe p) shared own = refl
      unnamed (Held p) shared own = refl

  each_after : (n : ℕ) (b : BoxedTxn) → slot_at new.txns n ≡ Some b → IsTxn new n b.txn.value
  each_after n b at = elim (cases_Bool (n == s)) [
    | inl e ↦ subst (λ (k : ℕ). IsTxn new k b.txn.value) (sym (eqb-true n s e)) (subst IsMine (sym (slot_now e) ∙ at) mine)
    | inr e ↦ other n b e (sym (txn_slots n ∙ ap (λ (z : Bool). if z then Some box1 else slot_at old.txns n) e) ∙ at)
  ]
    where
      IsMine : Option BoxedTxn → Type 0
      IsMine None = ⊥
      IsMine (Some x) = IsTxn new s x.txn.value

      other : (n : ℕ) (b : BoxedTxn) → (n == s) ≡ false → slot_at old.txns n ≡ Some b → IsTxn new n b.txn.value
      other n b apart there = txn_stays old new n b.txn.value (shaped.each n b there) (stays n b apart there)

      slot_now : (n == s) ≡ true → slot_at new.txns n ≡ Some box1
      slot_now e = txn_slots n ∙ ap (λ (z : Bool). if z then Some box1 else slot_at old.txns n) e

  shaped_after : IsShaped new
  shaped_after = record {
    counts = subst CountsAgree (sym starts.parts) makes.counts;
    places = subst HaveAllPlaces (sym starts.parts) makes.places;
    few = subst (λ (k : ℕ). k ≤ 256) (sym long_new) shaped.few;
    marks = ap length marks ∙ length-with_slot old.marks s (Some (new_mark s defers)) ∙ shaped.marks ∙ sym long_new;
    txns = ap length txns ∙ length-with_slot old.txns s (Some box1) ∙ shaped.txns ∙ sym long_new;
    owners = starts.sized;
    each = each_after;
  }

  undoes : UndoesBegun new pid old box1
  undoes = record {
    there = slot_s;
    parts = back_is;
    marks = ap (λ (ms : List (Option Mark)). with_slot ms s None) marks ∙ slot_twice old.marks s (Some (new_mark s defers)) None ∙ ap (with_slot old.marks s) (sym alone.mark) ∙ slot_same old.marks s bounds.0;
    owners = λ o. was_owned o (is_only s o) refl
        ∙ sym (λ j. if (starts.objects o ∙ ap (λ (b : Bool). b || is_only t0.starter.0 o) (begun.objects o) ∙ ap (λ (p : Pid). is_only p.0 o) begun.starter) j then None else owns o j);
    sized = shaped.owners;
    txns = ap (λ (ts : List (Option BoxedTxn)). with_slot ts s None) txns ∙ slot_twice old.txns s (Some box1) None ∙ ap (with_slot old.txns s) (sym no_txn) ∙ slot_same old.txns s bounds.0;
  }
    where
      was_owned : (o : Object) (b : Bool) → is_only s o ≡ b → owner_of old.owners o ≡ (if b then None else (if b then Some s else owner_of old.owners o))
      was_owned (Proc p) true e = ap (λ (k : ℕ). owner_of old.owners (Proc k)) (eqb-true p s (sym (only_is s p small) ∙ e)) ∙ alone.owner
      was_owned (Desc p) true e = cc
      was_owned (Pipe p) true e = cc
      was_owned (Held p) true e = cc
      was_owned o false e = refl

  pub begin_made : IsMade old (Within s (Begins defers)) event s new (Begun pid)
  unfolding named_by effect objects
  begin_made = record {
    records = newest_first makes.kept;
    logs = logs;
    next = next_same;
    shaped = shaped_after;
    goes = (
      (box1, record { there = slot_s; named = named_log; few = none_few; same = starter_is }),
      subst (λ (k : ℕ). s ≤ k) (sym (ap length marks ∙ length-with_slot old.marks s (Some (new_mark s defers)) ∙ shaped.marks)) bounds.1,
    );
    back = (box1, undoes);
    local = subst (AreAmong (Proc s ∷ [])) (sym (ap log_in slot_s ∙ log_is)) among;
    whole = tt;
  }
    where
      none_few : 0 ≤ length after.log
      none_few = omega arith

-- the answer is 0
pub answers_nothing : (s : ℕ) (R : State) → reply_of (Note s (pos 0)) R ≡ Done (pos 0)
unfolding reply_of effect
answers_nothing s R = refl

-- a transaction that was made so begins so
pub as_begun : (parts : Parts) (pid : Pid) (defers : Bool) (proc : TheProc) (first : Txn) (between : List Change) (planned : Planned) →
    slot_at parts.procs pid.0 ≡ Some proc → StartsOf pid defers proc first → AreNamed parts (drop (length first.log) between) →
    IsPlanned parts pid None (Note pid.0 (pos 0)) first.log between planned → IsBegun parts pid defers (record first { log = between })
as_begun parts pid defers proc first between planned there starts named plans = record {
  starter = starts.starter;
  deferring = starts.deferring;
  proc = proc;
  there = there;
  ids = starts.ids;
  pending = starts.pending;
  outbox = starts.outbox;
  objects = starts.objects;
  members = starts.members;
  named = subst (λ (xs : List Change). AreNamed parts (drop (length xs) between)) starts.log named;
  planned = planned;
  makes = makes_all parts pid None (Note pid.0 (pos 0)) first.log between planned starts.log plans;
}
