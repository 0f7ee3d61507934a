use Rattle.std.proofs.Common.{◌≡◌, drop}
use Rattle.tx_desc.specs.Plans.{put_descs, AreNumbers}
use Rattle.tx_desc.proofs.descs.Descs.put_all.Given as goal

abbrev pub invariant-loop-new : goal.invariant-loop-new
invariant-loop-new l = record {
  same : put_descs (drop l.new-index l.news) l.self ≡ put_descs l.news l.initial.self;
  numbers : AreNumbers (drop l.new-index l.news);
}
