use Rattle.std.proofs.Common.{◌≡◌}
use Rattle.tx_content.specs.Content.{view_of}
use Rattle.tx_picture.specs.Drawings.{holders}
use Rattle.tx_picture.specs.Spans.{begun_upto}
use Rattle.tx_picture.proofs.walk.follow.Given as goal

abbrev pub invariant-loop-done : goal.invariant-loop-done
invariant-loop-done l = l.spans.items ≡ begun_upto (holders l.stretch (view_of l.machine)) l.end.row l.done l.initial.spans.items
