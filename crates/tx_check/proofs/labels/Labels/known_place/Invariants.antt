use Rattle.std.proofs.Common.{drop, map}
use Rattle.tx_check.proofs.KnownLabels.{SoughtTo}
use Rattle.tx_check.specs.Labels.{label_at}
use Rattle.tx_translate.specs.MeantLines.{left_of}
use Rattle.tx_check.proofs.labels.Labels.known_place.Given as goal

abbrev pub invariant-loop-at : goal.invariant-loop-at
invariant-loop-at l = SoughtTo (left_of l.self.text) l.self.passed l.name (map label_at (drop l.at l.self.known.items))
