use Rattle.std.proofs.Common.{◌≡◌, ◌≢◌, ◌+◌, ℕ, List}
use Rattle.tx_check.specs.Numbered.{after_lines}
use Rattle.tx_check.specs.Contexts.{IsPlaceAt}
use Rattle.tx_check.specs.declared.places.Part.TheVariants as parts
use Rattle.tx_translate.specs.MeantLines.{left_of, OwnsFrom}
use Rattle.tx_check.proofs.checks.place_of.Given as goal

abbrev pub invariant-loop-before : goal.invariant-loop-before
invariant-loop-before l = record {
  at : left_of l.left ≡ after_lines l._before (left_of l.text);
  place : IsPlaceAt (left_of l.text) (l._before + 1) l.place;
  unlinked : l.place.part ≢ parts.Link;
  numbered : (own : List ℕ) → OwnsFrom own 1 l.text → OwnsFrom own (l._before + 1) l.left;
}
