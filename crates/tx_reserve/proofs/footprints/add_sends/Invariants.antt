use Rattle.std.proofs.Common.{map, take}
use Rattle.tx_kernel.specs.Plans.{sending_of}
use Rattle.tx_model.specs.History.{targets}
use Rattle.tx_reserve.specs.Footprints.{Adds, table_at}
use Rattle.tx_reserve.proofs.footprints.add_sends.Given as goal

abbrev pub invariant-loop-sending : goal.invariant-loop-sending
invariant-loop-sending l = Adds l.fn.set l.set (targets (table_at l.actor l.marks) l.actor.pid.0 (map sending_of (take l.sending-index l.sends)))
