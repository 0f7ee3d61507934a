use Rattle.std.proofs.Common.{refl}
use Rattle.tx_explain.proofs.topics.shell.session_page.Goals as goal

pub returns : goal.returns
returns c = refl
