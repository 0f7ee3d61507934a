use Rattle.tx_journal.proofs.Reaching.{own_footprint, width_is}
use Rattle.tx_journal.proofs.reach.Reach.of.Goals as goal

pub returns : goal.returns
returns c = record {
  starter = c.starter_of-starter.ensures;
  aborts = c.has_place.ensures;
  names =
      own_footprint c.args.machine.now c.parts.result.now c.in_ok-own.own c.starter_of-starter.result.0 c.args.step.now c.held.result.now c.footprint-names.result c.parts.ensures.state c.parts.ensures.parts
      (width_is c.args.machine.now c.is_kept.ensures) c.starter_of-starter.ensures c.in_ok-own.ensures c.held.ensures c.footprint-names.ensures;
}
