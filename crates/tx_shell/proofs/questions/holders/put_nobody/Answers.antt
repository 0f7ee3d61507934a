use Rattle.std.proofs.Common.{List, ℕ, ◌++◌, ◌∙◌, ap, codes, string_bytes}
use Rattle.std.proofs.lemmas.Result.{on_ok_weaker}
use Rattle.tx_shell.proofs.questions.holders.put_nobody.Goals as goal

pub returns : goal.returns
returns c =
    on_ok_weaker c.write.result
    (λ put. put ∙ ap (λ (side : List ℕ). string_bytes c.args.text.now ++ (codes "nobody has its " ++ (side ++ codes " side open\n"))) c.word.ensures) c.write.ensures.bytes
