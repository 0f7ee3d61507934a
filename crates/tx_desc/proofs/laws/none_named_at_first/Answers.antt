use Rattle.std.proofs.Common.{refl, [], replicate, None}
use Rattle.tx_desc.proofs.Totals.{none_agrees, names-empty}
use Rattle.tx_desc.proofs.laws.none_named_at_first.Goals as goal

pub returns-clause-none : goal.returns-clause-none
returns-clause-none c = none_agrees 64 [] (λ d. refl)

pub returns-clause-empty : goal.returns-clause-empty
returns-clause-empty c = λ count. none_agrees 64 (replicate count (replicate 16 None)) (λ d. names-empty d count 16)
