use Rattle.std.proofs.Common.{◌≡◌, ◌++◌, drop}
use Rattle.tx_kernel.specs.Endings.{gone_changes, plain, plain_with}
use Rattle.tx_kernel.specs.Plans.{Extends}
use Rattle.tx_model.specs.Descriptors.{open_in, pipes_of}
use Rattle.tx_kernel.proofs.actor.Actor.push_gone.Given as goal

abbrev pub invariant-loop-fd : goal.invariant-loop-fd
invariant-loop-fd l = record {
  added : l.log ++ gone_changes (pipes_of (open_in (drop l.fd l.self.proc.now.descriptors)) (plain l.self.parts.now)) (plain_with l.news l.self.parts.now)
      ≡ l.initial.log ++ gone_changes (pipes_of (open_in l.self.proc.now.descriptors) (plain l.self.parts.now)) (plain_with l.news l.self.parts.now);
  extends : Extends l.initial.log l.log;
}
