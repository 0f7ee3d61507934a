use Rattle.std.proofs.Common.{◌≡◌, ◌≤◌, drop, length, map}
use Rattle.tx_picture.specs.Names.{lives_from}
use Rattle.tx_translate.specs.Written.{name_at}
use Rattle.tx_picture.proofs.lives.lives_of.Given as goal

abbrev pub invariant-loop-left : goal.invariant-loop-left
invariant-loop-left l = record {
  inside : l.left ≤ length l.names;
  lives : l.lives.items ≡ lives_from l.start l.births l.left (drop l.left (map name_at l.names));
}

abbrev pub decreases-loop-left : goal.decreases-loop-left
decreases-loop-left l = l.left
