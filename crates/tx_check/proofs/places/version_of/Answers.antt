use Rattle.std.proofs.Common.{inr, refl}
use Rattle.tx_check.proofs.NextLines.{header_right}
use Rattle.tx_translate.specs.MeantLines.{left_of}
use Rattle.tx_check.proofs.places.version_of.Goals as goal

pub returns-in-Err : goal.returns-in-Err
returns-in-Err c = inr (λ header rest spells. header_right c.args.kind (left_of c.args.text) header rest _ spells c.in-Err.ensures, refl)
