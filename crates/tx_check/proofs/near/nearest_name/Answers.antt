use Rattle.std.proofs.Common.{[], map}
use Rattle.tx_check.proofs.near.nearest_name.Goals as goal

pub returns : goal.returns
returns c = c.named.ensures c.args.word.now (map (λ form. form.0.now) c.args.forms.now) (c.in_ok-nearest.ensures [] tt)
