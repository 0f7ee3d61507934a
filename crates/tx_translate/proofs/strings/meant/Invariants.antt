use Rattle.std.proofs.Common.{◌≡◌, ◌≤◌, false, length}
use Rattle.hex.specs.Hex.{IsBytes}
use Rattle.tx_translate.specs.Strings.{meant_from}
use Rattle.tx_translate.proofs.StringParts.{after_bytes}
use Rattle.tx_translate.proofs.strings.meant.Given as goal

abbrev pub invariant-loop-first : goal.invariant-loop-first
invariant-loop-first l = record {
  so_far : meant_from false l.string ≡ after_bytes l.bytes.items (meant_from false l.left);
  few : length l.bytes.items ≤ 64;
  are : IsBytes l.bytes.items;
}

abbrev pub decreases-loop-first : goal.decreases-loop-first
decreases-loop-first l = length l.left
