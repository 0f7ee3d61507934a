use Rattle.std.proofs.Common.{◌++◌, ◌∙◌, codes, string_bytes}
use Rattle.std.proofs.lemmas.Result.{on_ok_weaker}
use Rattle.std.specs.Fmt.{decimal}
use Rattle.tx_shell.specs.Names.{after_number}
use Rattle.tx_shell.proofs.questions.holders.put_other.Goals as goal

pub returns : goal.returns
returns c =
    let holder = c.args.holder in
    on_ok_weaker c.write.result
    (λ put. put ∙ (λ i. string_bytes c.args.text.now ++ (codes ", " ++ (decimal holder.descriptor ++ (codes " of process " ++ (decimal holder.process ++ after_number (c.of.ensures i)))))))
    c.write.ensures.bytes
