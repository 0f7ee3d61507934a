-- A transaction that ends: its marks are taken out, and what it owned is nobody's.
use Rattle.std.proofs.Common.{◌≡◌, ◌≢◌, ℕ, ◌≤◌, Bool, true, false, ◌==◌, if◌then◌else◌, length, Option, Some, None, refl, sym, ap, subst, ◌∙◌, inl, inr, eq-eqb, eqb-true}
use Rattle.std.proofs.lemmas.Bool.{both_ways, cases_Bool}
use Rattle.std.specs.Prelude.{IfSome}
use Rattle.tx_base.specs.Slots.{slot_at}
use Rattle.tx_base.specs.declared.marks.Mark.{Mark}
use Rattle.tx_base.specs.declared.names.Pid.{Pid}
use Rattle.tx_change.specs.Counts.{CountsAgree}
use Rattle.tx_change.specs.Exchange.{sizes_of, undone}
use Rattle.tx_laws.specs.TwoStates.{freed, is_owner}
use Rattle.tx_base.specs.SlotFacts.{slot_there}
use Rattle.tx_content.proofs.Others.{DefersSo, Stays}
use Rattle.tx_content.specs.Content.{owner_at, own_held, IsShaped, IsTxn}
use Rattle.tx_content.specs.Inverses.{Revives}
use Rattle.tx_content.specs.Redone.{IsGone}
use Rattle.tx_content.specs.declared.content.BoxedTxn.{BoxedTxn}
use Rattle.tx_content.specs.declared.content.Content.{Content}
use Rattle.tx_model.specs.Membership.{is_of, mark_unless_of}
use Rattle.tx_model.specs.State.{Object, Proc, Desc, Pipe, Held}
use Rattle.tx_reserve.specs.Objects.{is_in}
use Rattle.tx_reserve.specs.Reservations.{owner_of}
use Rattle.tx_txn.specs.Marks.{ended_of, mark_of}
use Rattle.tx_txn.specs.declared.members.Members.{Members}
use Rattle.tx_txn.specs.declared.txn.Txn.{Txn}

-- a mark of another transaction stays
unmarked_of : (s n : ℕ) (x : Option Mark) → n ≢ s → is_of n (mark_unless_of s x) ≡ is_of n x
unmarked_of s n None apart = refl
unmarked_of s n (Some m) apart = by (m.starter.0 == s) (m.starter.0 == n) refl refl
  where
    by : (a b : Bool) → (m.starter.0 == s) ≡ a → (m.starter.0 == n) ≡ b → is_of n (if a then None else Some m) ≡ b
    by true true e f = absurd (apart (sym (eqb-true m.starter.0 n f) ∙ eqb-true m.starter.0 s e))
    by true false e f = refl
    by false b e f = f

unmarked_was : (s : ℕ) (x : Option Mark) (m : Mark) → mark_unless_of s x ≡ Some m → x ≡ Some m
unmarked_was s None m e = cc
unmarked_was s (Some k) m e = by (k.starter.0 == s) e
  where
    by : (b : Bool) → (if b then None else Some k) ≡ Some m → Some k ≡ Some m
    by true e = cc
    by false e = e

-- no mark of the transaction is left
none_left : (s : ℕ) (x : Option Mark) → is_of s (mark_unless_of s x) ≡ false
none_left s None = refl
none_left s (Some m) = by (m.starter.0 == s) refl
  where
    by : (b : Bool) → (m.starter.0 == s) ≡ b → is_of s (if b then None else Some m) ≡ false
    by true e = refl
    by false e = e

mark_gone : (s : ℕ) (x : Option Mark) → is_of s x ≡ true → mark_unless_of s x ≡ None
mark_gone s None of = refl
mark_gone s (Some m) of = rw of refl

-- the mark of a member, from who joined and who ended
mark_again : (s : ℕ) (starter : Pid) (members : Members) (n : ℕ) (defers : Bool) (x : Option Mark) → starter.0 ≡ s → is_in members.joined (Proc n) ≡ is_of s x → is_in members.ended (Proc n) ≡ ended_of s x →
    DefersSo s defers x → x ≡ (if is_in members.joined (Proc n) then Some (mark_of starter members n defers) else mark_unless_of s x)
mark_again s starter members n defers None is joined ended so = sym (ap (λ (b : Bool). if b then Some (mark_of starter members n defers) else None) joined)
mark_again s starter members n defers (Some m) is joined ended so = by (m.starter.0 == s) refl joined ended ∙ refl
  where
    by : (b : Bool) → (m.starter.0 == s) ≡ b → is_in members.joined (Proc n) ≡ b → is_in members.ended (Proc n) ≡ (if b then m.ended else false) →
        Some m ≡ (if is_in members.joined (Proc n) then Some (mark_of starter members n defers) else (if m.starter.0 == s then None else Some m))
    by true e j h = rw j (ap Some (λ i. record { starter = starter_same i; ended = sym h i; defers = so m refl (eqb-true m.starter.0 s e) i }))
      where
        starter_same : m.starter ≡ starter
        starter_same = λ i. record { 0 = (eqb-true m.starter.0 s e ∙ sym is) i }
    by false e j h = rw j (rw e refl)

-- what a transaction of s owned is nobody's
freed_is : (s : ℕ) (was : Option ℕ) → (if is_owner s was then None else was) ≡ freed s was
freed_is s None = refl
freed_is s (Some t) = refl

-- another one's stays its own
freed_other : (s n : ℕ) (was : Option ℕ) → n ≢ s → is_owner n (if is_owner s was then None else was) ≡ is_owner n was
freed_other s n None apart = refl
freed_other s n (Some t) apart = by (t == s) (t == n) refl refl
  where
    by : (a b : Bool) → (t == s) ≡ a → (t == n) ≡ b → is_owner n (if a then None else Some t) ≡ b
    by true true e f = absurd (apart (sym (eqb-true t n f) ∙ eqb-true t s e))
    by true false e f = refl
    by false b e f = f

-- and it is owned again
owned_again : (s : ℕ) (was : Option ℕ) → was ≡ (if is_owner s was then Some s else (if is_owner s was then None else was))
owned_again s None = refl
owned_again s (Some t) = by (t == s) refl
  where
    by : (b : Bool) → (t == s) ≡ b → Some t ≡ (if b then Some s else (if b then None else Some t))
    by true e = ap Some (eqb-true t s e)
    by false e = refl

-- a transaction in the slot of s, before it ends and after
module _ (old new : Content) (s : ℕ) (boxed : BoxedTxn) (led after : Txn) (shaped : IsShaped old) (there : slot_at old.txns s ≡ Some boxed)
    (starter_led : led.starter ≡ boxed.txn.value.starter) (objects_led : led.objects ≡ boxed.txn.value.objects) (defers_led : led.defers ≡ boxed.txn.value.defers)
    (marks : (n : ℕ) → slot_at new.marks n ≡ mark_unless_of led.starter.0 (slot_at old.marks n)) (marks_long : length new.marks ≡ length old.marks)
    (owners : (o : Object) → owner_of new.owners o ≡ (if is_in led.objects o then None else owner_of old.owners o)) (rest : after ≡ record led { members = after.members }) where
  was : IsTxn old s boxed.txn.value
  was = shaped.each s boxed there

  pub led_s : led.starter.0 ≡ s
  led_s = ap (λ (p : Pid). p.0) starter_led ∙ was.starter

  pub after_s : after.starter.0 ≡ s
  after_s = ap (λ (t : Txn). t.starter.0) rest ∙ led_s

  pub unmarks : (n : ℕ) → slot_at new.marks n ≡ mark_unless_of s (slot_at old.marks n)
  unmarks n = marks n ∙ ap (λ (k : ℕ). mark_unless_of k (slot_at old.marks n)) led_s

  objects_are : (o : Object) → is_in led.objects o ≡ is_owner s (owner_of old.owners o)
  objects_are o = ap (λ os. is_in os o) objects_led ∙ was.objects o

  owns : (o : Object) → owner_of new.owners o ≡ (if is_owner s (owner_of old.owners o) then None else owner_of old.owners o)
  owns o = owners o ∙ ap (λ (b : Bool). if b then None else owner_of old.owners o) (objects_are o)

  -- what the transaction owned is nobody's, and what others own is theirs
  pub owner_freed : slot_at new.txns s ≡ None → ((n : ℕ) → (n == s) ≡ false → own_held n (slot_at new.txns n) ≡ own_held n (slot_at old.txns n)) → (o : Object) → owner_at new o ≡ freed s (owner_at old o)
  owner_freed none others (Proc n) = owns (Proc n) ∙ freed_is s (owner_of old.owners (Proc n))
  owner_freed none others (Desc n) = owns (Desc n) ∙ freed_is s (owner_of old.owners (Desc n))
  owner_freed none others (Pipe n) = owns (Pipe n) ∙ freed_is s (owner_of old.owners (Pipe n))
  owner_freed none others (Held n) = elim (cases_Bool (n == s)) [
    | inl e ↦ ap (λ (k : ℕ). own_held k (slot_at new.txns k)) (eqb-true n s e) ∙ ap (own_held s) none ∙ own_own n (slot_at old.txns n) e
    | inr e ↦ others n e ∙ own_freed n (slot_at old.txns n) e
  ]
    where
      own_freed : (n : ℕ) (x : Option BoxedTxn) → (n == s) ≡ false → own_held n x ≡ freed s (own_held n x)
      own_freed n None e = refl
      own_freed n (Some b) e = rw e refl

      own_own : (n : ℕ) (x : Option BoxedTxn) → (n == s) ≡ true → None ≡ freed s (own_held n x)
      own_own n None e = refl
      own_own n (Some b) e = rw e refl

  -- another transaction stays, if the counts without it do
  pub other_stays : sizes_of new.parts ≡ sizes_of old.parts → (n : ℕ) (txn : Txn) → (n == s) ≡ false → CountsAgree (undone new.parts txn.log) → Stays old new n txn
  other_stays sizes n txn apart counts = record {
    sizes = sizes;
    members = λ p. ap (is_of n) (unmarks p) ∙ unmarked_of s n (slot_at old.marks p) differs;
    defers = λ d so p m e. so p m (unmarked_was s (slot_at old.marks p) m (sym (unmarks p) ∙ e));
    owns = λ o. ap (is_owner n) (owns o) ∙ freed_other s n (owner_of old.owners o) differs;
    counts = counts;
  }
    where
      differs : n ≢ s
      differs e = both_ways (n == s) apart (eq-eqb n s e)

  module _ (members : Members) (has_members : after.members ≡ Some members)
      (joined : (n : ℕ) → is_in members.joined (Proc n) ≡ is_of led.starter.0 (slot_at old.marks n))
      (ended : (n : ℕ) → is_in members.ended (Proc n) ≡ ended_of led.starter.0 (slot_at old.marks n)) where
    pub revives : Revives new after members old
    revives = record {
      ended = has_members;
      marks = λ n. mark_again s after.starter members n after.defers (slot_at old.marks n) after_s
          (joined n ∙ ap (λ (k : ℕ). is_of k (slot_at old.marks n)) led_s) (ended n ∙ ap (λ (k : ℕ). ended_of k (slot_at old.marks n)) led_s)
          (λ m at is. was.defers n m at is ∙ sym (ap (λ (t : Txn). t.defers) rest ∙ defers_led))
          ∙ ap (λ (x : Option Mark). if is_in members.joined (Proc n) then Some (mark_of after.starter members n after.defers) else x) (sym (unmarks n));
      width = sym marks_long;
      owners = λ o. owned_again s (owner_of old.owners o)
          ∙ sym (λ j. if (ap (λ (t : Txn). is_in t.objects o) rest ∙ objects_are o) j then Some (after_s j) else owns o j);
      sized = shaped.owners;
    }

    pub joined_few : IfSome after.members (λ ms. (n : ℕ) → is_in ms.joined (Proc n) ≡ true → n ≤ length new.marks)
    joined_few = subst (λ (x : Option Members). IfSome x (λ ms. (n : ℕ) → is_in ms.joined (Proc n) ≡ true → n ≤ length new.marks)) (sym has_members)
        (λ n in_it. subst (λ (k : ℕ). n ≤ k) (sym marks_long) (marked n (slot_at old.marks n) refl (sym (joined n) ∙ in_it)))
      where
        marked : (n : ℕ) (x : Option Mark) → slot_at old.marks n ≡ x → is_of led.starter.0 x ≡ true → n ≤ length old.marks
        marked n None e of = cc
        marked n (Some m) e of = (slot_there old.marks n m e).1

    -- nothing of the transaction is left
    pub is_gone : slot_at new.txns s ≡ None → IsGone new after members
    is_gone none = record {
      ended = has_members;
      slot = ap (slot_at new.txns) after_s ∙ none;
      marks = λ n. ap (λ (k : ℕ). is_of k (slot_at new.marks n)) after_s ∙ ap (is_of s) (unmarks n) ∙ none_left s (slot_at old.marks n);
      joined = λ n in_it. unmarks n ∙ mark_gone s (slot_at old.marks n) (sym (joined n ∙ ap (λ (k : ℕ). is_of k (slot_at old.marks n)) led_s) ∙ in_it);
      owners = λ o in_it. owns o ∙ ap (λ (b : Bool). if b then None else owner_of old.owners o) (sym (ap (λ (t : Txn). is_in t.objects o) rest ∙ objects_are o) ∙ in_it);
    }
