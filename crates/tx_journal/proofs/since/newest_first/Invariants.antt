use Rattle.std.proofs.Common.{◌≡◌, option_map, reverse, take}
use Rattle.tx_journal.specs.Entries.{history_of}
use Rattle.tx_journal.specs.Since.{newest_first, numbered}
use Rattle.tx_reserve.specs.Objects.{object_of}
use Rattle.tx_journal.proofs.since.newest_first.Given as goal

abbrev pub invariant-loop-place : goal.invariant-loop-place
invariant-loop-place l = option_map numbered l.newest ≡ newest_first l.starter.0 (object_of l.object) (reverse (take l.place l.crossings.inverses)) (history_of (take l.place l.entries))
