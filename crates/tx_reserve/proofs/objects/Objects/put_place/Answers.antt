use Rattle.std.proofs.Common.{arith}
use Rattle.tx_reserve.proofs.Places.{put_edits}
use Rattle.tx_reserve.proofs.objects.Objects.put_place.Goals as goal

pub returns : goal.returns
returns c = put_edits c.args.self.now.words c.args.place (omega arith)
