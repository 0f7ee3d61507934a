-- Teams that grow by a worker.
use Rattle.std.proofs.Common.{◌≡◌, ℕ, ◌+◌, ◌-◌, ◌<◌, ◌≤◌, List, [], ◌∷◌, ◌++◌, length, vec_len, ap, arith, length-append}
use Rattle.tx_ready_queue.specs.Hands.{both, HoldsEach}
use Rattle.tx_ready_queue.specs.declared.rule.Hand.{Hand}
use Rattle.tx_workers.specs.Services.{IsCrewOf, IsService}
use Rattle.tx_workers.specs.Teams.{AreRunners, IsTeam, IsWorkOf, made}
use Rattle.tx_workers.specs.declared.runner.Runner.{Runner}

crew_more : (from turns : ℕ) (ws : List Runner) (w : Runner) → AreRunners from turns ws → w.number ≡ from + length ws → vec_len w.made ≤ turns → AreRunners from turns (ws ++ w ∷ [])
crew_more from turns [] w crew is few = (omega (arith, is), few, tt)
crew_more from turns (x ∷ xs) w crew is few = (crew.0, crew.1, crew_more (from + 1) turns xs w crew.2 (omega (arith, is)) few)

pub made_more : (ws : List Runner) (w : Runner) → made (ws ++ w ∷ []) ≡ made ws + vec_len w.made
made_more [] w = omega arith
made_more (x ∷ xs) w = omega (arith, made_more xs w)

-- a team of which the next worker is one
pub team_more : (number turns : ℕ) (ws : List Runner) (w : Runner) (parts amount more mine : ℕ) → 0 < number → IsTeam (number - 1) turns ws parts amount → IsWorkOf number turns w more mine → IsTeam number turns (ws ++ w ∷ []) (parts + more) (amount + mine)
team_more number turns ws w parts amount more mine some others done = record {
  count_is = omega (arith, length-append ws (w ∷ []), others.count_is, some);
  crew = crew_more 1 turns ws w others.crew (omega (arith, done.number_is, others.count_is, some)) done.few;
  parts_are = omega (arith, others.parts_are, done.part, some);
  counted = omega (arith, others.counted, done.counted, made_more ws w);
}

-- a crew at the ready queue of which the next worker is one, with its station
pub crew_more_of : (number turns total processes : ℕ) (ws all : List Runner) (parts amount parts' amount' : ℕ) (w : Runner) (part mine : ℕ) (held theirs now : Hand) → 0 < number
    → IsCrewOf (number - 1) turns total processes ws parts amount held → IsService number turns w part mine theirs → IsTeam number turns all parts' amount'
    → made all ≡ made ws + vec_len w.made → now ≡ both held theirs → HoldsEach processes now → IsCrewOf number turns total processes all parts' amount' now
crew_more_of number turns total processes ws all parts amount parts' amount' w part mine held theirs now some others service team sum is each = record {
  team = team;
  parts = omega (arith, ap (λ (h : Hand). h.parts) is, others.parts, service.part, some);
  each = each;
  few_put = omega (arith, ap (λ (h : Hand). length h.put) is, length-append held.put theirs.put, others.few_put, service.few_put, some);
  few_taken = omega (arith, ap (λ (h : Hand). length h.taken) is, length-append held.taken theirs.taken, others.few_taken, service.few_taken, some);
  enough = omega (arith, ap (λ (h : Hand). length h.taken) is, length-append held.taken theirs.taken, others.enough, service.enough, sum);
}
