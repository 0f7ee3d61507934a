use Rattle.std.proofs.Common.{◌≡◌, ◌++◌, ◌&&◌, length}
use Rattle.tx_journal.specs.Noted.{is_silent_by, noted_back, parted_by}
use Rattle.tx_journal.proofs.parted.part.Given as goal

abbrev pub invariant-loop-note : goal.invariant-loop-note
invariant-loop-note l = record {
  own : l.parted.own.items ++ (parted_by l.starter.0 (noted_back l.left)).own ≡ (parted_by l.starter.0 (noted_back l.notes)).own;
  others : l.parted.others.items ++ (parted_by l.starter.0 (noted_back l.left)).others ≡ (parted_by l.starter.0 (noted_back l.notes)).others;
  silent : (l.parted.silent && is_silent_by l.starter.0 (noted_back l.left)) ≡ is_silent_by l.starter.0 (noted_back l.notes);
}

abbrev pub decreases-loop-note : goal.decreases-loop-note
decreases-loop-note l = length l.left
