-- The least number that passes a test.
use Rattle.std.proofs.Common.{◌≡◌, ℕ, zero, suc, ◌≤◌, Bool, true, false, List, [], ◌∷◌, Option, Some, None, ◌⊎◌, if◌then◌else◌, ◌==◌, nat_lt, refl, sym, ap, ◌∙◌, subst, inl, inr, arith, eq-eqb, eqb-true, ltb-true}
use Rattle.std.proofs.lemmas.Bool.{both_ways, cases_Bool, cases_eq, ltb-false}
use Rattle.tx_step.specs.Faces.{is_target}
use Rattle.tx_step.specs.InWay.{least_with, passing}
use Rattle.tx_model.specs.State.{Sending}
use Rattle.tx_model.specs.View.{least}
use Rattle.tx_reserve.specs.Reservations.{lesser_of}

-- no number passes, or this one does and nothing lesser
abbrev pub IsLeastThat : (ℕ → Bool) → Option ℕ → Type 0
IsLeastThat P None = (n : ℕ) → P n ≡ false
IsLeastThat P (Some s) = (P s ≡ true) × ((n : ℕ) → P n ≡ true → s ≤ n)

pub least_same : (P Q : ℕ → Bool) (x : Option ℕ) → ((n : ℕ) → P n ≡ Q n) → IsLeastThat P x → IsLeastThat Q x
least_same P Q x same = subst (λ (R : ℕ → Bool). IsLeastThat R x) (λ j n. same n j)

-- either of two tests
abbrev pub either : (ℕ → Bool) → (ℕ → Bool) → ℕ → Bool
either P Q n = if P n then true else Q n

or_left : (x y : Bool) → x ≡ true → (if x then true else y) ≡ true
or_left x y h = rw h refl

or_right : (x y : Bool) → y ≡ true → (if x then true else y) ≡ true
or_right true y h = refl
or_right false y h = h

pub or_true : (x y : Bool) → (if x then true else y) ≡ true → (x ≡ true) ⊎ (y ≡ true)
or_true true y h = inl refl
or_true false y h = inr h

-- the lesser one is the least that passes either test
pub lesser_least : (P Q : ℕ → Bool) (a b : Option ℕ) → IsLeastThat P a → IsLeastThat Q b → IsLeastThat (either P Q) (lesser_of a b)
lesser_least P Q None None p q = λ n. rw (p n) (q n)
lesser_least P Q None (Some b) p q = (
  or_right (P b) (Q b) q.0,
  λ n h. elim (or_true (P n) (Q n) h) [
    | inl e ↦ absurd (both_ways (P n) (p n) e)
    | inr e ↦ q.1 n e
  ],
)
lesser_least P Q (Some a) None p q = (
  or_left (P a) (Q a) p.0,
  λ n h. elim (or_true (P n) (Q n) h) [
    | inl e ↦ p.1 n e
    | inr e ↦ absurd (both_ways (Q n) (q n) e)
  ],
)
lesser_least P Q (Some a) (Some b) p q = by (nat_lt b a) refl
  where
    by : (t : Bool) → nat_lt b a ≡ t → IsLeastThat (either P Q) (if t then Some b else Some a)
    by true e = (
      or_right (P b) (Q b) q.0,
      λ n h. elim (or_true (P n) (Q n) h) [
        | inl x ↦ omega (arith, p.1 n x, ltb-true b a e)
        | inr x ↦ q.1 n x
      ],
    )
    by false e = (
      or_left (P a) (Q a) p.0,
      λ n h. elim (or_true (P n) (Q n) h) [
        | inl x ↦ p.1 n x
        | inr x ↦ omega (arith, q.1 n x, ltb-false b a e)
      ],
    )

-- a test of one number alone
abbrev only : (ℕ → Bool) → ℕ → ℕ → Bool
only P k n = if k == n then P n else false

only_is : (P : ℕ → Bool) (k n : ℕ) → only P k n ≡ true → (k ≡ n) × (P n ≡ true)
only_is P k n h = by (k == n) refl h
  where
    by : (b : Bool) → (k == n) ≡ b → (if b then P n else false) ≡ true → (k ≡ n) × (P n ≡ true)
    by true e h = (eqb-true k n e, h)
    by false e h = cc

only_least : (P : ℕ → Bool) (k : ℕ) → IsLeastThat (only P k) (passing P k)
only_least P k = by (P k) refl
  where
    by : (b : Bool) → P k ≡ b → IsLeastThat (only P k) (if b then Some k else None)
    by true e = (rw (eq-eqb k k refl) e, λ n h. let z : k ≡ n = (only_is P k n h).0 in omega (arith, z))
    by false e = λ n. elim (cases_Bool (only P k n)) [
      | inl h ↦ let z = only_is P k n h in absurd (both_ways (P k) e (ap P z.0 ∙ z.1))
      | inr h ↦ h
    ]

-- among the targets of these sends
abbrev pub among : (ℕ → Bool) → List Sending → ℕ → Bool
among P ms n = if is_target n ms then P n else false

-- the least of a number and of the targets that pass
pub with_least : (P Q : ℕ → Bool) (ms : List Sending) (best : Option ℕ) → IsLeastThat Q best → IsLeastThat (either Q (among P ms)) (least_with P ms best)
unfolding is_target
with_least P Q [] best q = least_same Q (either Q (among P [])) best (λ n. by (Q n)) q
  where
    by : (b : Bool) → b ≡ (if b then true else false)
    by true = refl
    by false = refl
with_least P Q (m ∷ ms) best q =
    least_same (either (either Q (only P m.target)) (among P ms)) (either Q (among P (m ∷ ms))) (least_with P (m ∷ ms) best) (λ n. by (Q n) (m.target == n) (is_target n ms) (P n))
    (with_least P (either Q (only P m.target)) ms (lesser_of best (passing P m.target))
    (lesser_least Q (only P m.target) best (passing P m.target) q (only_least P m.target)))
  where
    by : (q b t p : Bool) → (if (if q then true else (if b then p else false)) then true else (if t then p else false)) ≡ (if q then true else (if (if b then true else t) then p else false))
    by true b t p = refl
    by false true t true = refl
    by false true true false = refl
    by false true false false = refl
    by false false t p = refl

pub targets_least : (P : ℕ → Bool) (ms : List Sending) → IsLeastThat (among P ms) (least_with P ms None)
targets_least P ms = with_least P (λ n. false) ms None (λ n. refl)

none_up_to : (P : ℕ → Bool) (w : ℕ) → ((n : ℕ) → n ≤ w → P n ≡ false) → least P w ≡ None
unfolding least
none_up_to P zero h = rw (h 0 (omega arith)) refl
none_up_to P (suc w) h = rw (none_up_to P w (λ n few. h n (omega (arith, few))), h (suc w) (omega arith)) refl

some_up_to : (P : ℕ → Bool) (w s : ℕ) → P s ≡ true → ((n : ℕ) → P n ≡ true → s ≤ n) → s ≤ w → least P w ≡ Some s
unfolding least
some_up_to P zero s passes least_one few =
    let z : s ≡ zero = omega (arith, few) in
    subst (λ (k : ℕ). P k ≡ true → (if P zero then Some zero else None) ≡ Some k) (sym z) (λ e. rw e refl) passes
some_up_to P (suc w) s passes least_one few = elim (cases_eq s (suc w)) [
  | inl z ↦
      let nothing : least P w ≡ None = none_up_to P w (λ n low. elim (cases_Bool (P n)) [
        | inl e ↦ let up : s ≤ n = least_one n e in absurd (omega (arith, up, low, z))
        | inr e ↦ e
      ]) in
      let here : P (suc w) ≡ true = subst (λ (k : ℕ). P k ≡ true) z passes in
      rw (nothing, here) (ap Some (sym z))
  | inr z ↦ let there : least P w ≡ Some s = some_up_to P w s passes least_one (omega (arith, few, z)) in rw there refl
]

-- it is what the search up to a bound finds, where nothing above passes
pub least_found : (P : ℕ → Bool) (w : ℕ) (x : Option ℕ) → IsLeastThat P x → ((n : ℕ) → P n ≡ true → n ≤ w) → x ≡ least P w
least_found P w None h bound = sym (none_up_to P w (λ n few. h n))
least_found P w (Some s) h bound = sym (some_up_to P w s h.0 h.1 (bound s h.0))
