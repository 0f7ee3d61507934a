-- A fact of counts of children. It is proved here, so nobody has to believe it.
use Rattle.std.proofs.Common.{nat_lt, ◌≡◌, ℕ, zero, suc, ◌≤◌, Bool, true, false, List, Option, Some, None, if◌then◌else◌, ◌==◌, get_or, length, arith, refl, inl, inr}
use Rattle.std.proofs.lemmas.Bool.{cases_Bool, ltb-true, ltb-false}
use Rattle.std.proofs.lemmas.List.{get_or_past}
use Rattle.std.proofs.lemmas.List.Sums.{get_or-le-sum_by}
use Rattle.tx_base.specs.Slots.{slot_at}
use Rattle.tx_model.specs.State.{has_parent}
use Rattle.tx_proc.specs.Parts.{process_in}
use Rattle.tx_proc.specs.Children.{is_child_of, child_count}
use Rattle.tx_proc.specs.declared.proc.Proc.{Proc}

-- where a number has no children, no slot has one
pub no_child : (p : ℕ) (slots : List (Option Proc)) (n : ℕ) → child_count p slots ≡ 0
    → has_parent p (process_in (slot_at slots n)) ≡ false
no_child p slots zero none = refl
no_child p slots (suc n) none = elim (cases_Bool (nat_lt n (length slots))) [
  | inl there ↦ let hits =
      get_or-le-sum_by (λ slot. if is_child_of p slot then 1 else 0) slots n None
      (ltb-true n (length slots) there) in by (get_or slots n None) (omega (arith, hits, none))
  | inr past ↦ rw (get_or_past slots n None (ltb-false n (length slots) past)) refl
]
  where
    by : (slot : Option Proc) → (if is_child_of p slot then 1 else 0) ≤ 0
        → has_parent p (process_in slot) ≡ false
    by None small = refl
    by (Some proc) small = test (proc.parent.0 == p) small
      where
        test : (b : Bool) → (if b then 1 else 0) ≤ 0 → b ≡ false
        test true small = absurd (omega (arith, small))
        test false small = refl
