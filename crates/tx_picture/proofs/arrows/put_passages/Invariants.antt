use Rattle.std.proofs.Common.{◌≡◌, [], ◌++◌, take, drop, string_bytes}
use Rattle.tx_picture.proofs.Tallies.{IsTally}
use Rattle.tx_picture.specs.Arrows.{enters, leaves, passages_text}
use Rattle.tx_picture.proofs.arrows.put_passages.Given as goal

abbrev pub invariant-loop-i : goal.invariant-loop-i
invariant-loop-i l = record {
  text : string_bytes l.initial.text ++ passages_text l.columns [] l.passages ≡ string_bytes l.text ++ passages_text l.columns (take l.i l.passages) (drop l.i l.passages);
  leaving : IsTally leaves (take l.i l.passages) l.leaving;
  entering : IsTally enters (take l.i l.passages) l.entering;
}
