use Rattle.std.proofs.Common.{◌≡◌, length}
use Rattle.txos.specs.CommandLine.{command_named, named_among}
use Rattle.txos.proofs.words.CommandName.of.Given as goal

abbrev pub invariant-loop-name : goal.invariant-loop-name
invariant-loop-name l = command_named l.word ≡ named_among l.word l.left

abbrev pub decreases-loop-name : goal.decreases-loop-name
decreases-loop-name l = length l.left
