use Rattle.std.proofs.Common.{◌≡◌, ◌++◌, map, take, drop}
use Rattle.tx_picture.specs.Passages.{settled}
use Rattle.tx_picture.proofs.passages.settle.Given as goal

abbrev pub invariant-loop-one : goal.invariant-loop-one
invariant-loop-one l = l.written ≡ map (settled l.starter l.reply) (take l.one-index l.initial.written) ++ drop l.one-index l.initial.written
