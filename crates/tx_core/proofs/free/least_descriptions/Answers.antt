use Rattle.std.proofs.Common.{Some}
use Rattle.tx_core.proofs.LeastNumbers.{two_least}
use Rattle.tx_content.specs.Content.{view_of}
use Rattle.tx_model.specs.FreeNumbers.{is_free_description}
use Rattle.tx_core.proofs.free.least_descriptions.Goals as goal

pub returns : goal.returns
returns c =
    two_least (is_free_description (view_of c.args.content.now) c.args.pid.0) 63 (Some c.in_ok-first.first.0) (Some c.in_ok-second.second.0) c.in_ok-first.ensures c.in_ok-second.ensures
