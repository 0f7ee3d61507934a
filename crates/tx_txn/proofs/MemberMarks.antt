-- The marks that are taken out, one object after another.
use Rattle.std.proofs.Common.{◌≡◌, ◌≢◌, ◌≤◌, ℕ, zero, suc, nat_lt, Bool, true, false, ◌||◌, List, length, Option, Some, None, if◌then◌else◌, ◌==◌, refl, ap, sym, subst, ◌∙◌, eqb-true, arith, inl, inr}
use Rattle.std.proofs.lemmas.Bool.{both_ways, cases_Bool, cases_lt, eqb-false, ltb-true}
use Rattle.std.proofs.lemmas.List.{get_or_past}
use Rattle.tx_base.specs.Slots.{slot_at}
use Rattle.tx_base.specs.declared.names.Pid.{Pid}
use Rattle.tx_base.specs.declared.marks.Mark.{Mark}
use Rattle.tx_model.specs.Membership.{Table, is_of, is_open_of, others_open, mark_unless_of}
use Rattle.tx_model.specs.State.{Proc}
use Rattle.tx_reserve.specs.Objects.{has_place, is_in, place_of, TakesOut}
use Rattle.tx_reserve.specs.declared.objects.Objects.{Objects}
use Rattle.tx_txn.specs.Marks.{IsCovered, ended_of, mark_of, table_at}
use Rattle.tx_txn.specs.declared.members.Members.{Members}

unmarked_other : (s : ℕ) (m : Option Mark) → is_of s m ≡ false → mark_unless_of s m ≡ m
unmarked_other s None other = refl
unmarked_other s (Some m) other = rw other refl

ended_other : (s : ℕ) (m : Option Mark) → is_of s m ≡ false → ended_of s m ≡ false
ended_other s None other = refl
ended_other s (Some m) other = rw other refl

-- the marks of the transaction of s are taken out, but for those of the rest
pub record TookMarks (s : ℕ) (rest : Objects) (before now : List (Option Mark)) (members : Members) : Type 0 where
  pub marks : (n : ℕ) → slot_at now n ≡ (if is_in rest (Proc n) then slot_at before n else mark_unless_of s (slot_at before n))
  pub long : length now ≡ length before
  pub joined : (n : ℕ) → is_in members.joined (Proc n) ≡ (if is_in rest (Proc n) then false else is_of s (slot_at before n))
  pub ended : (n : ℕ) → is_in members.ended (Proc n) ≡ (if is_in rest (Proc n) then false else ended_of s (slot_at before n))

uncovered : (s : ℕ) (marks : List (Option Mark)) (objects : Objects) (n : ℕ) → IsCovered s marks objects → is_in objects (Proc n) ≡ false → is_of s (slot_at marks n) ≡ false
uncovered s marks objects n covered out = by (is_of s (slot_at marks n)) refl
  where
    by : (b : Bool) → is_of s (slot_at marks n) ≡ b → b ≡ false
    by true e = absurd (both_ways (is_in objects (Proc n)) out (covered n e))
    by false e = refl

pub took_none : (s : ℕ) (objects : Objects) (marks : List (Option Mark)) (members : Members) → IsCovered s marks objects →
    ((n : ℕ) → is_in members.joined (Proc n) ≡ false) → ((n : ℕ) → is_in members.ended (Proc n) ≡ false) → TookMarks s objects marks marks members
took_none s objects marks members covered none_joined none_ended = record {
  marks = λ n. elim (cases_Bool (is_in objects (Proc n))) [
    | inl e ↦ rw e refl
    | inr e ↦ rw e (sym (unmarked_other s (slot_at marks n) (uncovered s marks objects n covered e)))
  ];
  long = refl;
  joined = λ n. elim (cases_Bool (is_in objects (Proc n))) [
    | inl e ↦ rw e (none_joined n)
    | inr e ↦ rw e (none_joined n ∙ sym (uncovered s marks objects n covered e))
  ];
  ended = λ n. elim (cases_Bool (is_in objects (Proc n))) [
    | inl e ↦ rw e (none_ended n)
    | inr e ↦ rw e (none_ended n ∙ sym (ended_other s (slot_at marks n) (uncovered s marks objects n covered e)))
  ];
}

or_false : (a b : Bool) → b ≡ false → (a || b) ≡ a
or_false true b e = refl
or_false false b e = e

pub took_one : (s p : ℕ) (rest left : Objects) (before now after : List (Option Mark)) (members more : Members) → TookMarks s rest before now members → TakesOut rest left (Proc p) →
    ((n : ℕ) → slot_at after n ≡ (if n == p then mark_unless_of s (slot_at now n) else slot_at now n)) → length after ≡ length now →
    ((n : ℕ) → is_in more.joined (Proc n) ≡ (if n == p then is_of s (slot_at now n) || is_in members.joined (Proc n) else is_in members.joined (Proc n))) →
    ((n : ℕ) → is_in more.ended (Proc n) ≡ (if n == p then ended_of s (slot_at now n) || is_in members.ended (Proc n) else is_in members.ended (Proc n))) →
    TookMarks s left before after more
took_one s p rest left before now after members more took out marks long joined ended = record {
  marks = λ n. elim (cases_Bool (n == p)) [
    | inl e ↦ rw (gone n e) ((rw e at (marks n)) ∙ ap (mark_unless_of s) (rw (was n e) at (took.marks n)))
    | inr e ↦ rw (stays n e) ((rw e at (marks n)) ∙ took.marks n)
  ];
  long = long ∙ took.long;
  joined = λ n. elim (cases_Bool (n == p)) [
    | inl e ↦ rw (gone n e) ((rw e at (joined n)) ∙ or_false (is_of s (slot_at now n)) (is_in members.joined (Proc n)) (rw (was n e) at (took.joined n)) ∙ ap (is_of s) (rw (was n e) at (took.marks n)))
    | inr e ↦ rw (stays n e) ((rw e at (joined n)) ∙ took.joined n)
  ];
  ended = λ n. elim (cases_Bool (n == p)) [
    | inl e ↦ rw (gone n e) ((rw e at (ended n)) ∙ or_false (ended_of s (slot_at now n)) (is_in members.ended (Proc n)) (rw (was n e) at (took.ended n)) ∙ ap (ended_of s) (rw (was n e) at (took.marks n)))
    | inr e ↦ rw (stays n e) ((rw e at (ended n)) ∙ took.ended n)
  ];
}
  where
    was : (n : ℕ) → (n == p) ≡ true → is_in rest (Proc n) ≡ true
    was n e = ap (λ (m : ℕ). is_in rest (Proc m)) (eqb-true n p e) ∙ out.was_in

    gone : (n : ℕ) → (n == p) ≡ true → is_in left (Proc n) ≡ false
    gone n e = rw e at (out.left (Proc n))

    stays : (n : ℕ) → (n == p) ≡ false → is_in left (Proc n) ≡ is_in rest (Proc n)
    stays n e = rw e at (out.left (Proc n))

-- a process of a set has a number up to 256
pub low_proc : (objects : Objects) (p : ℕ) → is_in objects (Proc p) ≡ true → p ≤ 256
unfolding is_in
low_proc objects zero there = omega arith
low_proc objects (suc n) there = by (nat_lt n 256) refl there
  where
    by : (b : Bool) → nat_lt n 256 ≡ b → (if b then has_place objects.words (place_of (Proc (suc n))) else false) ≡ true → suc n ≤ 256
    by true e h = let low = ltb-true n 256 e in omega (arith, low)
    by false e h = absurd (both_ways false refl h)

pub positive_proc : (objects : Objects) (p : ℕ) → is_in objects (Proc p) ≡ true → 1 ≤ p
unfolding is_in
positive_proc objects zero there = absurd (both_ways false refl there)
positive_proc objects (suc n) there = omega arith

-- the marks of all members but those of the rest are put back
pub record PutMarks (starter : Pid) (defers : Bool) (members : Members) (rest : Objects) (before now : List (Option Mark)) : Type 0 where
  pub marks : (n : ℕ) → slot_at now n ≡ (if is_in rest (Proc n) then slot_at before n else (if is_in members.joined (Proc n) then Some (mark_of starter members n defers) else slot_at before n))
  pub long : length now ≡ length before
  pub within : (n : ℕ) → is_in rest (Proc n) ≡ true → is_in members.joined (Proc n) ≡ true

pub put_none : (starter : Pid) (defers : Bool) (members : Members) (marks : List (Option Mark)) → PutMarks starter defers members members.joined marks marks
put_none starter defers members marks = record {
  marks = λ n. elim (cases_Bool (is_in members.joined (Proc n))) [ inl e ↦ rw e refl | inr e ↦ rw e refl ];
  long = refl;
  within = λ n there. there;
}

pub put_one : (starter : Pid) (defers : Bool) (members : Members) (p : ℕ) (rest left : Objects) (before now after : List (Option Mark)) → PutMarks starter defers members rest before now →
    TakesOut rest left (Proc p) → ((n : ℕ) → slot_at after n ≡ (if n == p then Some (mark_of starter members p defers) else slot_at now n)) → length after ≡ length now →
    PutMarks starter defers members left before after
put_one starter defers members p rest left before now after put out at long = record {
  marks = λ n. elim (cases_Bool (n == p)) [
    | inl e ↦
        let same : n ≡ p = eqb-true n p e in
        let there : is_in rest (Proc n) ≡ true = ap (λ (m : ℕ). is_in rest (Proc m)) same ∙ out.was_in in
        rw (gone n e, put.within n there) ((rw e at (at n)) ∙ ap (λ (m : ℕ). Some (mark_of starter members m defers)) (sym same))
    | inr e ↦ rw (stays n e) ((rw e at (at n)) ∙ put.marks n)
  ];
  long = long ∙ put.long;
  within = λ n there. elim (cases_Bool (n == p)) [
    | inl e ↦ absurd (both_ways (is_in left (Proc n)) (gone n e) there)
    | inr e ↦ put.within n (sym (stays n e) ∙ there)
  ];
}
  where
    gone : (n : ℕ) → (n == p) ≡ true → is_in left (Proc n) ≡ false
    gone n e = rw e at (out.left (Proc n))

    stays : (n : ℕ) → (n == p) ≡ false → is_in left (Proc n) ≡ is_in rest (Proc n)
    stays n e = rw e at (out.left (Proc n))

-- whether another member's part is open, asked of one number after another
pub others_none : (s p : ℕ) (t : Table) (n : ℕ) → ((k : ℕ) → (if k == p then false else is_open_of s (t.marks k)) ≡ false) → others_open t s p n ≡ false
unfolding others_open
others_none s p t zero none = refl
others_none s p t (suc n) none = rw (others_none s p t n none) (none (suc n))

pub others_some : (s p : ℕ) (t : Table) (n k : ℕ) → 1 ≤ k → k ≤ n → (if k == p then false else is_open_of s (t.marks k)) ≡ true → others_open t s p n ≡ true
unfolding others_open
others_some s p t zero k low high is = let never : ⊥ = omega (arith, low, high) in absurd never
others_some s p t (suc n) k low high is = elim (cases_Bool (k == suc n)) [
  | inl e ↦
      let same : k ≡ suc n = eqb-true k (suc n) e in
      let here : (if suc n == p then false else is_open_of s (t.marks (suc n))) ≡ true = subst (λ (m : ℕ). (if m == p then false else is_open_of s (t.marks m)) ≡ true) same is in
      elim (cases_Bool (others_open t s p n)) [ inl f ↦ rw f refl | inr f ↦ rw f here ]
  | inr e ↦
      let apart : k ≢ suc n = eqb-false k (suc n) e in
      rw (others_some s p t n k low (omega (arith, low, high, apart)) is) refl
]

-- a number with a mark is one that there is
there_is : (marks : List (Option Mark)) (k s : ℕ) → is_open_of s (slot_at marks k) ≡ true → (1 ≤ k) × (k ≤ length marks)
there_is marks zero s is = absurd (both_ways false refl is)
there_is marks (suc i) s is = elim (cases_lt i (length marks)) [
  | inl low ↦ (omega arith, omega (arith, low))
  | inr high ↦ absurd (both_ways false refl (subst (λ (m : Option Mark). is_open_of s m ≡ true) (get_or_past marks i None high) is))
]

open_of_member : (s : ℕ) (m : Option Mark) → is_open_of s m ≡ true → is_of s m ≡ true
open_of_member s None is = absurd (both_ways false refl is)
open_of_member s (Some m) is = by m.ended (m.starter.0 == s) is
  where
    by : (ended b : Bool) → (if ended then false else b) ≡ true → b ≡ true
    by true b e = absurd (both_ways false refl e)
    by false b e = e

-- no other one's part is open, of the objects but for the rest
abbrev pub NoneOpen : ℕ → ℕ → List (Option Mark) → Objects → Objects → Type 0
NoneOpen s p marks all rest = (k : ℕ) → is_in all (Proc k) ≡ true → is_in rest (Proc k) ≡ false → (if k == p then false else is_open_of s (slot_at marks k)) ≡ false

pub none_at_first : (s p : ℕ) (marks : List (Option Mark)) (all : Objects) → NoneOpen s p marks all all
none_at_first s p marks all k there out = absurd (both_ways (is_in all (Proc k)) out there)

pub none_more : (s p q : ℕ) (marks : List (Option Mark)) (all rest left : Objects) → NoneOpen s p marks all rest → TakesOut rest left (Proc q) →
    (if q == p then false else is_open_of s (slot_at marks q)) ≡ false → NoneOpen s p marks all left
none_more s p q marks all rest left none out closed k there gone = elim (cases_Bool (k == q)) [
  | inl e ↦ subst (λ (m : ℕ). (if m == p then false else is_open_of s (slot_at marks m)) ≡ false) (sym (eqb-true k q e)) closed
  | inr e ↦ none k there (sym (rw e at (out.left (Proc k))) ∙ gone)
]

-- so none is, where all members are among the objects
pub none_open : (s p : ℕ) (marks : List (Option Mark)) (all rest : Objects) → IsCovered s marks all → NoneOpen s p marks all rest → ((n : ℕ) → is_in rest (Proc n) ≡ false) →
    others_open (table_at marks) s p (length marks) ≡ false
none_open s p marks all rest covered none over = others_none s p (table_at marks) (length marks) (λ k. elim (cases_Bool (is_in all (Proc k))) [
  | inl e ↦ none k e (over k)
  | inr e ↦ elim (cases_Bool (k == p)) [
    | inl f ↦ rw f refl
    | inr f ↦ rw f (closed k (is_open_of s (slot_at marks k)) refl (uncovered s marks all k covered e))
  ]
])
  where
    closed : (k : ℕ) (b : Bool) → is_open_of s (slot_at marks k) ≡ b → is_of s (slot_at marks k) ≡ false → b ≡ false
    closed k true e other = absurd (both_ways (is_of s (slot_at marks k)) other (open_of_member s (slot_at marks k) e))
    closed k false e other = refl

-- one is
pub one_open : (s p k : ℕ) (marks : List (Option Mark)) → (if k == p then false else is_open_of s (slot_at marks k)) ≡ true → others_open (table_at marks) s p (length marks) ≡ true
one_open s p k marks is =
    let there = there_is marks k s (by (k == p) is) in
    others_some s p (table_at marks) (length marks) k there.0 there.1 is
  where
    by : (b : Bool) → (if b then false else is_open_of s (slot_at marks k)) ≡ true → is_open_of s (slot_at marks k) ≡ true
    by true e = absurd (both_ways false refl e)
    by false e = e
