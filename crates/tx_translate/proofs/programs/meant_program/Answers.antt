use Rattle.std.proofs.Common.{List, ℕ, ◌∙◌, subst, sym}
use Rattle.tx_lines.specs.Programs.{IsProgramFault}
use Rattle.tx_lines.specs.Schedule.{FaultsBy}
use Rattle.tx_translate.specs.MeantFacts.{own_fault}
use Rattle.tx_translate.proofs.programs.meant_program.Goals as goal

pub returns-in-Ok : goal.returns-in-Ok
returns-in-Ok c = (c.in-Ok.ensures.0, c.in-Ok.ensures.1, sym c.in_ok-meant.ensures.bytes ∙ sym c.as_bytes.ensures ∙ c.in-Ok.ensures.2)

pub returns-2 : goal.returns-2
returns-2 c =
    own_fault IsProgramFault c.args.text.now c.in_ok-meant.meant c.in-Err.fault c.own_fault.result c.in_ok-meant.ensures
    (subst (λ (text : List ℕ). FaultsBy (IsProgramFault text) c.in-Err.fault) c.as_bytes.ensures c.in-Err.ensures) c.own_fault.ensures
