use Rattle.std.proofs.Common.{◌≡◌, ◌++◌, List, drop, map}
use Rattle.tx_step.specs.Faces.{difference}
use Rattle.tx_kernel.specs.Plans.{sending_of}
use Rattle.tx_model.specs.State.{Sending}
use Rattle.tx_step.proofs.faces.Faces.post_all.Given as goal

abbrev pub invariant-loop-place : goal.invariant-loop-place
invariant-loop-place l =
    (ms : List Sending) → difference l.pid.0 (map sending_of (drop l.place l.held) ++ ms) l.self ≡ difference l.pid.0 (map sending_of l.held ++ ms) l.initial.self
