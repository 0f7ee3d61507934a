use Rattle.std.proofs.Common.{List, ℕ, subst}
use Rattle.tx_lines.specs.Schedule.{FaultsBy}
use Rattle.tx_lines.specs.Walks.{IsWalkFault}
use Rattle.tx_translate.specs.MeantFacts.{own_fault}
use Rattle.tx_translate.proofs.walks.read_walk.Goals as goal

pub returns-2 : goal.returns-2
returns-2 c =
    own_fault IsWalkFault c.args.text.now c.in_ok-meant.meant c.in-Err.fault c.own_fault.result c.in_ok-meant.ensures
    (subst (λ (text : List ℕ). FaultsBy (IsWalkFault text) c.in-Err.fault) c.as_bytes.ensures c.in-Err.ensures) c.own_fault.ensures
