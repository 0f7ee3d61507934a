-- What the steps of others leave of the marks of a transaction, and of all other marks without them.
use Rattle.std.proofs.Common.{◌≡◌, inl, inr, ℕ, Bool, true, false, Option, Some, None, if◌then◌else◌, ◌==◌, refl, sym, ap, ◌∙◌, subst, eqb-true}
use Rattle.std.proofs.lemmas.Bool.{both_ways, cases_Bool}
use Rattle.tx_base.specs.declared.marks.Mark.{Mark}
use Rattle.tx_model.specs.StateLaws.{put_cases}
use Rattle.tx_model.specs.Membership.{Table, is_of, is_open_of, Continues, Parks, Forks, Begins, Role, Outside, Within, Commits, Aborts, parked_mark, defers_in, new_mark, mark_unless_of, marks_after, table_after}
use Rattle.tx_laws.proofs.Tables.{eq_comm, of_parked, of_unmarked}
use Rattle.tx_moment.proofs.Alike.{AlikeFor}
use Rattle.tx_moment.proofs.Marks.{without_marks}

pub unmarked_other : (s : ℕ) (m : Option Mark) → is_of s m ≡ false → mark_unless_of s m ≡ m
unmarked_other s None h = refl
unmarked_other s (Some m) h = rw h refl

pub unmarked_own : (s : ℕ) (m : Option Mark) → is_of s m ≡ true → mark_unless_of s m ≡ None
unmarked_own s None h = refl
unmarked_own s (Some m) h = rw h refl

unended_unmarked : (s u : ℕ) (m : Option Mark) → (u == s) ≡ false → is_open_of u m ≡ is_open_of u (mark_unless_of s m)
unended_unmarked s u None h = refl
unended_unmarked s u (Some m) h = elim (cases_Bool (m.starter.0 == s)) [
  | inl e ↦ rw (e, subst (λ (x : ℕ). (x == u) ≡ false) (sym (eqb-true m.starter.0 s e)) (eq_comm s u ∙ h)) (closed m.ended)
  | inr e ↦ rw e refl
]
  where
    closed : (b : Bool) → (if b then false else false) ≡ false
    closed true = refl
    closed false = refl

-- without the marks of s a table is alike for every other transaction
pub without_alike : (s u : ℕ) (t : Table) → (u == s) ≡ false → AlikeFor u t (without_marks s t)
without_alike s u t h = record {
  width = refl;
  of = λ n. sym (of_unmarked u s (t.marks n) ∙ rw h refl);
  unended = λ n. unended_unmarked s u (t.marks n) h;
}

unmarked_twice : (s u : ℕ) (m : Option Mark) → mark_unless_of u (mark_unless_of s m) ≡ mark_unless_of s (mark_unless_of u m)
unmarked_twice s u None = refl
unmarked_twice s u (Some m) = by (m.starter.0 == s) (m.starter.0 == u) refl refl
  where
    by : (b c : Bool) → (m.starter.0 == s) ≡ b → (m.starter.0 == u) ≡ c → mark_unless_of u (if b then None else Some m) ≡ mark_unless_of s (if c then None else Some m)
    by true true x y = refl
    by true false x y = rw x refl
    by false true x y = rw y refl
    by false false x y = rw (x, y) refl

-- a step of process p, which is so to the transactions, is of another than that of s: who makes it has no mark of s, and whom it makes a member had none
abbrev pub IsOther : ℕ → Role → ℕ → Table → Type 0
IsOther s Outside p t = Unit {0}
IsOther s (Within u Continues) p t = Unit {0}
IsOther s (Within u Parks) p t = is_of s (t.marks p) ≡ false
IsOther s (Within u (Forks c)) p t = ((u == s) ≡ false) × (is_of s (t.marks c) ≡ false) × (is_of s (t.marks u) ≡ false)
IsOther s (Within u (Begins defers)) p t = ((u == s) ≡ false) × (is_of s (t.marks u) ≡ false)
IsOther s (Commits u) p t = (u == s) ≡ false
IsOther s (Aborts u status) p t = (u == s) ≡ false

module _ (s p : ℕ) (t : Table) where
  unparked : is_of s (t.marks p) ≡ false → is_of s (parked_mark (t.marks p)) ≡ false
  unparked h = of_parked s (t.marks p) ∙ h

  -- without the marks of s the step leaves what it leaves with them, without these
  lacks_at : (r : Role) → IsOther s r p t → (n : ℕ) → marks_after r p (λ k. mark_unless_of s (t.marks k)) n ≡ mark_unless_of s (marks_after r p t.marks n)
  lacks_at Outside other n = refl
  lacks_at (Within u Continues) other n = refl
  lacks_at (Within u Parks) other n = by (n == p)
    where
      by : (b : Bool) → (if b then parked_mark (mark_unless_of s (t.marks p)) else mark_unless_of s (t.marks n)) ≡ mark_unless_of s (if b then parked_mark (t.marks p) else t.marks n)
      by true = ap parked_mark (unmarked_other s (t.marks p) other) ∙ sym (unmarked_other s (parked_mark (t.marks p)) (unparked other))
      by false = refl
  lacks_at (Within u (Forks c)) other n = by (n == c)
    where
      mark : Option Mark → Option Mark
      mark m = Some (new_mark u (defers_in m))

      by : (b : Bool) → (if b then mark (mark_unless_of s (t.marks u)) else mark_unless_of s (t.marks n)) ≡ mark_unless_of s (if b then mark (t.marks u) else t.marks n)
      by true = ap mark (unmarked_other s (t.marks u) other.2) ∙ sym (unmarked_other s (mark (t.marks u)) other.0)
      by false = refl
  lacks_at (Within u (Begins defers)) other n = by (n == u)
    where
      by : (b : Bool) → (if b then Some (new_mark u defers) else mark_unless_of s (t.marks n)) ≡ mark_unless_of s (if b then Some (new_mark u defers) else t.marks n)
      by true = sym (unmarked_other s (Some (new_mark u defers)) other.0)
      by false = refl
  lacks_at (Commits u) other n = unmarked_twice s u (t.marks n)
  lacks_at (Aborts u status) other n = unmarked_twice s u (t.marks n)

  pub lacks_after : (r : Role) → IsOther s r p t → table_after r p (without_marks s t) ≡ without_marks s (table_after r p t)
  lacks_after r other = λ i. record { width = t.width; marks = λ n. lacks_at r other n i }

  kept_of : (u : ℕ) → (u == s) ≡ false → (m : Option Mark) → is_of s m ≡ true → mark_unless_of u m ≡ m
  kept_of u other None h = refl
  kept_of u other (Some m) h = unmarked_other u (Some m) (subst (λ (x : ℕ). (x == u) ≡ false) (sym (eqb-true m.starter.0 s h)) (eq_comm s u ∙ other))

  unmarked_none : (u : ℕ) (m : Option Mark) → is_of s m ≡ false → is_of s (mark_unless_of u m) ≡ false
  unmarked_none u None h = refl
  unmarked_none u (Some m) h = by (m.starter.0 == u)
    where
      by : (b : Bool) → is_of s (if b then None else Some m) ≡ false
      by true = refl
      by false = h

  -- it leaves the marks of s as they are
  pub own_kept : (r : Role) → IsOther s r p t → (n : ℕ) → is_of s (t.marks n) ≡ true → marks_after r p t.marks n ≡ t.marks n
  own_kept Outside other n h = refl
  own_kept (Within u Continues) other n h = refl
  own_kept (Within u Parks) other n h = elim (put_cases t.marks p (parked_mark (t.marks p)) n) [
    | inl e ↦ absurd (both_ways (is_of s (t.marks n)) (subst (λ (k : ℕ). is_of s (t.marks k) ≡ false) (sym e.0) other) h)
    | inr e ↦ e.1
  ]
  own_kept (Within u (Forks c)) other n h = elim (put_cases t.marks c (Some (new_mark u (defers_in (t.marks u)))) n) [
    | inl e ↦ absurd (both_ways (is_of s (t.marks n)) (subst (λ (k : ℕ). is_of s (t.marks k) ≡ false) (sym e.0) other.1) h)
    | inr e ↦ e.1
  ]
  own_kept (Within u (Begins defers)) other n h = elim (put_cases t.marks u (Some (new_mark u defers)) n) [
    | inl e ↦ absurd (both_ways (is_of s (t.marks n)) (subst (λ (k : ℕ). is_of s (t.marks k) ≡ false) (sym e.0) other.1) h)
    | inr e ↦ e.1
  ]
  own_kept (Commits u) other n h = kept_of u other (t.marks n) h
  own_kept (Aborts u status) other n h = kept_of u other (t.marks n) h

  -- and gives nobody else one
  pub none_given : (r : Role) → IsOther s r p t → (n : ℕ) → is_of s (t.marks n) ≡ false → is_of s (marks_after r p t.marks n) ≡ false
  none_given Outside other n h = h
  none_given (Within u Continues) other n h = h
  none_given (Within u Parks) other n h = by (n == p)
    where
      by : (b : Bool) → is_of s (if b then parked_mark (t.marks p) else t.marks n) ≡ false
      by true = unparked other
      by false = h
  none_given (Within u (Forks c)) other n h = by (n == c)
    where
      by : (b : Bool) → is_of s (if b then Some (new_mark u (defers_in (t.marks u))) else t.marks n) ≡ false
      by true = other.0
      by false = h
  none_given (Within u (Begins defers)) other n h = by (n == u)
    where
      by : (b : Bool) → is_of s (if b then Some (new_mark u defers) else t.marks n) ≡ false
      by true = other.0
      by false = h
  none_given (Commits u) other n h = unmarked_none u (t.marks n) h
  none_given (Aborts u status) other n h = unmarked_none u (t.marks n) h
