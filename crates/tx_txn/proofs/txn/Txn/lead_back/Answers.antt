use Rattle.std.proofs.Common.{◌≡◌, ◌≤◌, ℕ, ap, sym, subst, ◌∙◌}
use Rattle.tx_change.specs.Exchange.{sizes_of, Sizes}
use Rattle.tx_txn.proofs.txn.Txn.lead_back.Goals as goal

pub swap_pending-requires-clause-high : goal.swap_pending-requires-clause-high
swap_pending-requires-clause-high c =
    let sized : sizes_of c.lead_back.new.parts ≡ sizes_of c.args.parts.now
    = ap sizes_of c.lead_back.ensures.parts ∙ c.appended.ensures.sizes_back c.args.parts.now c.args.self.now.log in
    subst (λ (n : ℕ). c.args.self.now.starter.0 ≤ n) (sym (ap (λ (s : Sizes). s.procs) sized)) c.requires.high
