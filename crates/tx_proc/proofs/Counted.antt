-- The counts of children, where a slot is replaced.
use Rattle.std.proofs.Common.{◌≡◌, ℕ, zero, suc, ◌+◌, ◌-◌, ◌≤◌, List, Option, Some, None, if◌then◌else◌, get_or, length, arith, refl}
use Rattle.std.proofs.lemmas.List.Sums.{sum_by-set, count_by-le-length}
use Rattle.tx_base.specs.SlotFacts.{length-with_slot}
use Rattle.tx_base.specs.Slots.{slot_at, with_slot}
use Rattle.tx_base.specs.declared.names.Pid.{Pid}
use Rattle.tx_proc.specs.Children.{is_child_of, child_count, parent_in, one_of, IsCounted, Recounts, HasOne}
use Rattle.tx_proc.specs.declared.proc.Proc.{Proc}

abbrev hit : ℕ → Option Proc → ℕ
hit p slot = if is_child_of p slot then 1 else 0

one_hit : (p : ℕ) (slot : Option Proc) → one_of p (parent_in slot) ≡ hit p slot
one_hit p None = refl
one_hit p (Some proc) = refl

-- the count of a parent where a slot is replaced: one less for a child that went, one more for one that came
pub count-with_slot : (p : ℕ) (slots : List (Option Proc)) (n : ℕ) (slot : Option Proc) → 1 ≤ n → n ≤ length slots →
    child_count p (with_slot slots n slot) + one_of p (parent_in (slot_at slots n)) ≡ child_count p slots + one_of p (parent_in slot)
count-with_slot p slots zero slot low high = absurd (omega arith)
count-with_slot p slots (suc n) slot low high =
    let place : suc n - 1 ≡ n = omega arith in
    let cut = sum_by-set (hit p) slots n slot None (omega arith) in
    rw (place, one_hit p (get_or slots n None), one_hit p slot) cut

-- no process is counted twice
pub count_fits : (p : ℕ) (slots : List (Option Proc)) → child_count p slots ≤ length slots
count_fits p slots = count_by-le-length (is_child_of p) slots

pub still_counted : (slots : List (Option Proc)) (n : ℕ) (slot : Option Proc) (counts recounted : List ℕ) → 1 ≤ n → n ≤ length slots →
    IsCounted slots counts → Recounts (parent_in (slot_at slots n)) (parent_in slot) counts recounted → IsCounted (with_slot slots n slot) recounted
still_counted slots n slot counts recounted low high is moves =
    let long = length-with_slot slots n slot in
    let wide = is.width in
    let same = moves.width in
    record {
      width = omega (arith, long, wide, same);
      each = λ p small.
          let before = is.each p (omega (arith, small, long)) in
          let step = moves.each p (omega (arith, small, long, wide)) in
          let cut = count-with_slot p slots n slot low high in
          omega (arith, before, step, cut);
    }

-- a table whose slot was replaced, and then recounted
pub counted_with : (slots table : List (Option Proc)) (n : ℕ) (old slot : Option Proc) (before after : Option Pid) (counts recounted : List ℕ) → 1 ≤ n → n ≤ length slots →
    IsCounted slots counts → table ≡ with_slot slots n slot → slot_at slots n ≡ old → before ≡ parent_in old → after ≡ parent_in slot →
    Recounts before after counts recounted → IsCounted table recounted
counted_with slots table n old slot before after counts recounted low high is made there was now moves =
    let step : Recounts (parent_in (slot_at slots n)) (parent_in slot) counts recounted = rw (there, ← was, ← now) moves in
    rw made (still_counted slots n slot counts recounted low high is step)

-- what stands in a slot is counted, and there is room for one more
pub has_one : (slots : List (Option Proc)) (n : ℕ) (counts : List ℕ) → 1 ≤ n → n ≤ length slots → IsCounted slots counts → HasOne (parent_in (slot_at slots n)) counts
has_one slots n counts low high is =
    let wide = is.width in
    record {
      counted = λ p small.
          let now = is.each p (omega (arith, small, wide)) in
          let cut = count-with_slot p slots n None low high in
          omega (arith, now, cut);
      few = λ p small.
          let now = is.each p (omega (arith, small, wide)) in
          let fits = count_fits p slots in
          omega (arith, now, fits, wide);
    }
