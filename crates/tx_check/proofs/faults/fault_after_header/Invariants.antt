use Rattle.std.proofs.Common.{◌≡◌, ◌≢◌, ◌-◌, ◌≤◌, length}
use Rattle.tx_check.proofs.SoFar.{SoFar}
use Rattle.tx_check.specs.Numbered.{after_lines}
use Rattle.tx_check.specs.Contexts.{IsPlaceAt}
use Rattle.tx_check.specs.declared.places.Part.TheVariants as parts
use Rattle.tx_translate.specs.MeantLines.{left_of}
use Rattle.tx_check.proofs.faults.fault_after_header.Given as goal

abbrev pub invariant-loop-own : goal.invariant-loop-own
invariant-loop-own l = record {
  so : SoFar l.fn.kind l.fn.header.version (left_of l.rest) l.number l.place (left_of l.left);
  version : l.place.version ≡ l.fn.header.version;
  in_context : IsPlaceAt (left_of l.text.text) l.number l.place;
  unlinked : l.place.part ≢ parts.Link;
  some : 1 ≤ l.number;
  at : left_of l.left ≡ after_lines (l.number - 1) (left_of l.text.text);
}

abbrev pub decreases-loop-own : goal.decreases-loop-own
decreases-loop-own l = length l.left.left.now
