use Rattle.std.proofs.Common.{Option, Some, sym, ap, ◌∙◌}
use Rattle.std.specs.Option.{option_copied}
use Rattle.tx_step.proofs.RolesTold.{inside_marked}
use Rattle.tx_model.specs.Deliveries.{delivered_value, ends_by}
use Rattle.tx_model.specs.Effects.{Inside}
use Rattle.tx_proc.specs.Parts.{process_of}
use Rattle.tx_txn.specs.Txns.{inside_at}
use Rattle.tx_txn.specs.declared.txn.Txn.{Txn}
use Rattle.tx_step.proofs.roles.is_member_ended.Goals as goal

pub returns : goal.returns
returns c =
    let k = c.args.content.now in
    let me = process_of c.args.proc.now in
    c.is_ended_by.ensures
    ∙ ap (λ (inside : Option Inside). ends_by inside c.args.signo.0 me (delivered_value c.args.signo.0 me))
    (ap Some c.inside.ensures.transaction ∙ ap (λ (txn : Txn). Some (inside_at txn k.marks)) c.deref.ensures
    ∙ inside_marked k c.args.pid.0 c.args.mark c.unwrap-boxed.result.now c.requires.shaped c.requires.marked (sym c.get.ensures ∙ ap option_copied c.unwrap-boxed.ensures))
