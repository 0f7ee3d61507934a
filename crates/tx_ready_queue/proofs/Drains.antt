-- The hand that has all parts takes what is left in the queue, and counts it.
use Rattle.std.proofs.Common.{◌≡◌, ℕ, ◌+◌, ◌-◌, ◌<◌, ◌≤◌, ◌^◌, List, [], ◌∷◌, ◌++◌, length, slice_index, ap, ◌∙◌, subst, arith, sum_by, ◌==◌, if◌then◌else◌}
use Rattle.std.proofs.lemmas.List.Sums.{sum_by_push, count_by-le-length}
use Rattle.tx_ready_queue.specs.declared.rule.Hand.{Hand}
use Rattle.tx_ready_queue.specs.Numbers.{times, HasCounted}
use Rattle.tx_ready_queue.specs.Hands.{Taken, IsWhole}
use Rattle.tx_ready_queue.specs.Stations.{HasDrained}
use Rattle.tx_ready_queue.proofs.Counting.{times_more, nothing_in}

-- what has been taken since the first hand, which was counted
pub record Drains (first now : Hand) (left drained : List ℕ) : Type 0 where
  pub whole : now.parts ≡ 65536
  pub put : now.put ≡ first.put
  pub counted : HasCounted left drained
  pub evens : (weight : ℕ → ℕ) → sum_by weight now.taken ≡ sum_by weight first.taken + sum_by weight drained

-- there is room in the counts for one number more
pub has_room : (first now after : Hand) (left drained : List ℕ) (number : ℕ) → Drains first now left drained → Taken now number after → length first.put < 2 ^ 64 → slice_index left (number - 1) + 1 < 2 ^ 64
has_room first now after left drained number drains taken short =
    let low = taken.1.0 in
    let high = taken.1.1 in
    let p : ℕ = number - 1 + 1 in
    let same : p ≡ number = omega arith in
    let weight : ℕ → ℕ = λ x. if x == p then 1 else 0 in
    let counted : slice_index left (number - 1) ≡ times p drained = drains.counted.counted (number - 1) (omega arith) in
    let before : times p now.taken ≡ times p first.taken + times p drained = drains.evens weight in
    let put : times p after.put ≡ times p first.put = ap (times p) (ap (λ (v : Hand). v.put) taken.0) ∙ ap (times p) drains.put in
    let more : times p after.taken ≡ times p now.taken + 1 = ap (times p) (ap (λ (v : Hand). v.taken) taken.0) ∙ subst (λ (n : ℕ). times p (now.taken ++ n ∷ []) ≡ times p now.taken + 1) same (times_more p now.taken) in
    let most : times p after.taken ≤ times p after.put = taken.2 drains.whole weight in
    omega (arith, count_by-le-length (λ x. x == p) first.put)

-- one number more is taken and counted
pub drains_more : (first now after : Hand) (left drained more : List ℕ) (number : ℕ) → Drains first now left drained → Taken now number after → HasCounted more (drained ++ number ∷ []) → Drains first after more (drained ++ number ∷ [])
drains_more first now after left drained more number drains taken counted = record {
  whole = ap (λ (v : Hand). v.parts) taken.0 ∙ drains.whole;
  put = ap (λ (v : Hand). v.put) taken.0 ∙ drains.put;
  counted = counted;
  evens = λ weight.
      let before = drains.evens weight in
      let now_taken : sum_by weight after.taken ≡ sum_by weight (now.taken ++ number ∷ []) = ap (sum_by weight) (ap (λ (v : Hand). v.taken) taken.0) in
      omega (arith, sum_by_push weight now.taken number, sum_by_push weight drained number);
}

-- nothing is left in the queue
pub drained_all : (first now : Hand) (left drained items : List ℕ) → Drains first now left drained → length items ≡ 0 → IsWhole now items → HasDrained first left
drained_all first now left drained items drains none knows = record {
  drained = drained;
  counted = drains.counted;
  evens = λ weight.
      let even = knows drains.whole weight in
      let before = drains.evens weight in
      let put : sum_by weight now.put ≡ sum_by weight first.put = ap (sum_by weight) drains.put in
      omega (arith, nothing_in weight items none);
}
