use Rattle.std.proofs.Common.{sym, ap, subst, ◌∙◌, refl}
use Rattle.std.specs.Option.{option_copied}
use Rattle.tx_content.specs.ContentFacts.{is_covered}
use Rattle.tx_txn.specs.Marks.{IsCovered}
use Rattle.tx_txn.specs.declared.txn.Txn.{Txn}
use Rattle.tx_step.proofs.roles.is_last_part.Goals as goal

pub is_last_open-requires : goal.is_last_open-requires
is_last_open-requires c =
    let k = c.args.content.now in
    let s = c.args.starter.0 in
    subst (λ (txn : Txn). IsCovered s k.marks txn.objects) (sym c.deref.ensures)
    (is_covered k s c.unwrap-boxed.result.now.txn.value s refl (c.requires.shaped.each s c.unwrap-boxed.result.now (sym c.get.ensures ∙ ap option_copied c.unwrap-boxed.ensures)))
