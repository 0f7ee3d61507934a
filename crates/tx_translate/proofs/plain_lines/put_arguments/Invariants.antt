use Rattle.std.proofs.Common.{◌≡◌, ◌≤◌, ◌+◌, ◌++◌, length}
use Rattle.tx_translate.specs.Lines.{plain_arguments, spaced}
use Rattle.tx_translate.specs.Words.{words_in}
use Rattle.tx_translate.proofs.plain_lines.put_arguments.Given as goal

abbrev pub invariant-loop-word : goal.invariant-loop-word
invariant-loop-word l = record {
  so_far : l.initial.room.items ++ spaced (plain_arguments l.name 0 (words_in l.arguments)) ≡ l.room.items ++ spaced (plain_arguments l.name l.place (words_in l.left));
  few : l.place + length l.left ≤ length l.arguments;
}

abbrev pub decreases-loop-word : goal.decreases-loop-word
decreases-loop-word l = length l.left
