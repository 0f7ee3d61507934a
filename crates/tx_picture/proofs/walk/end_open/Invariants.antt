use Rattle.std.proofs.Common.{◌≡◌, ◌++◌, map, take, drop}
use Rattle.tx_content.specs.Content.{view_of}
use Rattle.tx_picture.specs.Drawings.{holders}
use Rattle.tx_picture.specs.Spans.{ended_by}
use Rattle.tx_picture.proofs.walk.end_open.Given as goal

abbrev pub invariant-loop-span : goal.invariant-loop-span
invariant-loop-span l =
    l.spans ≡ map (ended_by (holders l.stretch (view_of l.machine)) l.end) (take l.span-index l.initial.spans) ++ drop l.span-index l.initial.spans
