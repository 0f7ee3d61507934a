use Rattle.std.proofs.Common.{◌≡◌, ◌∷◌, [], ap, arith, ◌∙◌}
use Rattle.std.proofs.lemmas.Fmt.{decimal_digit}
use Rattle.std.specs.Fmt.{decimal}
use Rattle.tx_workers.proofs.text.put_worker.Goals as goal

pub returns-in-1 : goal.returns-in-1
returns-in-1 c = let is : decimal c.args.worker ≡ 49 ∷ [] = ap decimal c.in-1.is ∙ decimal_digit 1 (omega arith) in rw is c.put.ensures

pub returns-in-2 : goal.returns-in-2
returns-in-2 c = let is : decimal c.args.worker ≡ 50 ∷ [] = ap decimal c.in-2.is ∙ decimal_digit 2 (omega arith) in rw is c.put-in-2.ensures

pub returns-in-3 : goal.returns-in-3
returns-in-3 c = let is : decimal c.args.worker ≡ 51 ∷ [] = ap decimal c.in-3.is ∙ decimal_digit 3 (omega arith) in rw is c.put-in-3.ensures

pub returns-in-4 : goal.returns-in-4
returns-in-4 c = let is : decimal c.args.worker ≡ 52 ∷ [] = ap decimal c.in-4.is ∙ decimal_digit 4 (omega arith) in rw is c.put-in-4.ensures
