-- What a step makes of the table of transactions.
use Rattle.std.proofs.Common.{◌≡◌, ℕ, Bool, true, false, Option, Some, None, if◌then◌else◌, ◌==◌, refl, sym, ap, ◌∙◌, subst, inl, inr, ◌⊎◌, eq-eqb, eqb-true, ne_eqb}
use Rattle.std.proofs.lemmas.Bool.{both_ways, cases_Bool}
use Rattle.tx_base.specs.declared.marks.Mark.{Mark}
use Rattle.tx_model.specs.State.{put_at}
use Rattle.tx_model.specs.Membership.{Table, is_of, is_member_of, is_live, Progress, Continues, Parks, Forks, Begins, Within, parked_mark, defers_in, new_mark, mark_unless_of, table_after}

-- two numbers compare alike in either order
pub eq_comm : (s t : ℕ) → (s == t) ≡ (t == s)
eq_comm s t = elim (cases_Bool (s == t)) [
  | inl e ↦ e ∙ sym (eq-eqb t s (sym (eqb-true s t e)))
  | inr e ↦ e ∙ sym (ne_eqb t s (λ h. both_ways (s == t) e (eq-eqb s t (sym h))))
]

-- a number is a member of one transaction at most
pub of_unique : (s t : ℕ) (x : Option Mark) → is_of s x ≡ true → is_of t x ≡ true → s ≡ t
of_unique s t None h k = cc
of_unique s t (Some m) h k = sym (eqb-true m.starter.0 s h) ∙ eqb-true m.starter.0 t k

pub of_none : (t : ℕ) (x : Option Mark) → x ≡ None → is_of t x ≡ false
of_none t x h = rw h refl

pub of_parked : (t : ℕ) (x : Option Mark) → is_of t (parked_mark x) ≡ is_of t x
of_parked t None = refl
of_parked t (Some m) = refl

pub of_unmarked : (t s : ℕ) (x : Option Mark) → is_of t (mark_unless_of s x) ≡ (if t == s then false else is_of t x)
of_unmarked t s None = by (t == s)
  where
    by : (b : Bool) → false ≡ (if b then false else false)
    by true = refl
    by false = refl
of_unmarked t s (Some m) = by (m.starter.0 == s) refl (t == s) refl
  where
    by : (b : Bool) → (m.starter.0 == s) ≡ b → (c : Bool) → (t == s) ≡ c → is_of t (if b then None else Some m) ≡ (if c then false else (m.starter.0 == t))
    by true e true f = refl
    by true e false f = sym (other (m.starter.0 == t) refl)
      where
        other : (d : Bool) → (m.starter.0 == t) ≡ d → d ≡ false
        other true g = absurd (both_ways (t == s) f (eq-eqb t s (sym (eqb-true m.starter.0 t g) ∙ eqb-true m.starter.0 s e)))
        other false g = refl
    by false e true f = other (m.starter.0 == t) refl
      where
        other : (d : Bool) → (m.starter.0 == t) ≡ d → d ≡ false
        other true g = absurd (both_ways (m.starter.0 == s) e (eq-eqb m.starter.0 s (eqb-true m.starter.0 t g ∙ eqb-true t s f)))
        other false g = refl
    by false e false f = refl

-- the table after a step of process p inside the transaction of s, as long as no mark of another is lost
pub record Grows (t : Table) (s : ℕ) (new : Table) (joins : ℕ → Bool) : Type 0 where
  pub members : (u q : ℕ) → is_member_of new u q ≡ true → (is_member_of t u q ≡ true) ⊎ ((u ≡ s) × (joins q ≡ true))
  pub lives : (u : ℕ) → is_live t u ≡ true → is_live new u ≡ true
  pub live : is_live new s ≡ true
  pub width : new.width ≡ t.width

-- the number q joins
abbrev pub joins_by : Progress → ℕ → ℕ → Bool
joins_by Continues p q = false
joins_by Parks p q = false
joins_by (Forks c) p q = q == c
joins_by (Begins defers) p q = q == p

-- the mark put at a number is of the transaction of s
put_members : (t : Table) (s c : ℕ) (defers : Bool) (u q : ℕ) → is_of u (put_at t.marks c (Some (new_mark s defers)) q) ≡ true → (is_member_of t u q ≡ true) ⊎ ((u ≡ s) × ((q == c) ≡ true))
put_members t s c defers u q = by (q == c)
  where
    by : (b : Bool) → is_of u (if b then Some (new_mark s defers) else t.marks q) ≡ true → (is_of u (t.marks q) ≡ true) ⊎ ((u ≡ s) × (b ≡ true))
    by true h = inr (sym (eqb-true s u h), refl)
    by false h = inl h

-- no live starter of another transaction is the number
put_lives : (t : Table) (s c : ℕ) (defers : Bool) → (is_live t c ≡ true → c ≡ s) → (u : ℕ) → is_live t u ≡ true → is_of u (put_at t.marks c (Some (new_mark s defers)) u) ≡ true
put_lives t s c defers own u h = by (u == c) (λ e. eqb-true u c e)
  where
    by : (b : Bool) → (b ≡ true → u ≡ c) → is_of u (if b then Some (new_mark s defers) else t.marks u) ≡ true
    by true e = let k : u ≡ c = e refl in eq-eqb s u (sym (k ∙ own (subst (λ (x : ℕ). is_live t x ≡ true) k h)))
    by false e = h

pub continues_grows : (t : Table) (s p : ℕ) → is_live t s ≡ true → Grows t s (table_after (Within s Continues) p t) (joins_by Continues p)
continues_grows t s p live = record { members = λ u q h. inl h; lives = λ u h. h; live = live; width = refl }

parked_at : (t : Table) (p u q : ℕ) → is_of u (put_at t.marks p (parked_mark (t.marks p)) q) ≡ is_of u (t.marks q)
parked_at t p u q = by (q == p) (λ e. eqb-true q p e)
  where
    by : (b : Bool) → (b ≡ true → q ≡ p) → is_of u (if b then parked_mark (t.marks p) else t.marks q) ≡ is_of u (t.marks q)
    by true e = of_parked u (t.marks p) ∙ ap (λ (x : ℕ). is_of u (t.marks x)) (sym (e refl))
    by false e = refl

pub parks_grows : (t : Table) (s p : ℕ) → is_live t s ≡ true → Grows t s (table_after (Within s Parks) p t) (joins_by Parks p)
parks_grows t s p live = record {
  members = λ u q h. inl (sym (parked_at t p u q) ∙ h);
  lives = λ u h. parked_at t p u u ∙ h;
  live = parked_at t p s s ∙ live;
  width = refl;
}

pub forks_grows : (t : Table) (s p c : ℕ) → is_live t s ≡ true → (is_live t c ≡ true → c ≡ s) → Grows t s (table_after (Within s (Forks c)) p t) (joins_by (Forks c) p)
forks_grows t s p c live own = record {
  members = put_members t s c (defers_in (t.marks s));
  lives = put_lives t s c (defers_in (t.marks s)) own;
  live = put_lives t s c (defers_in (t.marks s)) own s live;
  width = refl;
}

pub begins_grows : (t : Table) (p : ℕ) (defers : Bool) → Grows t p (table_after (Within p (Begins defers)) p t) (joins_by (Begins defers) p)
begins_grows t p defers = record {
  members = put_members t p p defers;
  lives = put_lives t p p defers (λ h. refl);
  live = rw (eq-eqb p p refl) (eq-eqb p p refl);
  width = refl;
}
