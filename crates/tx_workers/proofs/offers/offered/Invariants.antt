use Rattle.std.proofs.Common.{◌≡◌, drop}
use Rattle.std.specs.Option.{option_copied}
use Rattle.std.specs.List.{find}
use Rattle.tx_model.specs.Membership.{Table, inside_by}
use Rattle.tx_proc.specs.Parts.{process_of}
use Rattle.tx_workers.specs.Offers.{in_order, is_offered, offered}
use Rattle.tx_workers.proofs.offers.offered.Given as goal

abbrev pub invariant-loop-i : goal.invariant-loop-i
invariant-loop-i l = (t : Table) →
    offered (inside_by t (option_copied l.mark)) (process_of l.proc) ≡ find (is_offered (inside_by t (option_copied l.mark)) (process_of l.proc)) (drop l.i in_order)
