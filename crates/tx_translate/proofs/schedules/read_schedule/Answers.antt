use Rattle.std.proofs.Common.{List, ℕ, subst}
use Rattle.tx_lines.specs.Schedule.{FaultsBy, IsFaultOf}
use Rattle.tx_translate.specs.MeantFacts.{own_fault}
use Rattle.tx_translate.proofs.schedules.read_schedule.Goals as goal

pub returns-2 : goal.returns-2
returns-2 c =
    own_fault IsFaultOf c.args.text.now c.in_ok-meant.meant c.in-Err.fault c.own_fault.result c.in_ok-meant.ensures
    (subst (λ (text : List ℕ). FaultsBy (IsFaultOf text) c.in-Err.fault) c.as_bytes.ensures c.in-Err.ensures) c.own_fault.ensures
