use Rattle.std.proofs.Common.{false}
use Rattle.tx_shell.proofs.shell.Shell.open.Goals as goal

pub returns-clause-begun : goal.returns-clause-begun
returns-clause-begun c =
    let is = c.in_ok-self.ensures in
    λ i. record { form = is.form i; origin = is.origin i; is_fresh = false; place = is.place i; kept = is.kept i }
