use Rattle.std.proofs.Common.{◌+◌, arith}
use Rattle.tx_model.specs.State.{Proc}
use Rattle.tx_reserve.proofs.Members.{if_none, no_proc_in, small_proc, takes_out}
use Rattle.tx_reserve.proofs.objects.Objects.pop_proc.Goals as goal

pub returns-in_err-place-clause-none : goal.returns-in_err-place-clause-none
returns-in_err-place-clause-none c = if_none c.from_residual.result _ (λ n. no_proc_in c.args.self.now n c.in_err-place.ensures.none)

pub returns-clause-some : goal.returns-clause-some
returns-clause-some c =
    takes_out c.args.self.now c.take_place.new.self (Proc (c.in_ok-place.place + 1)) c.in_ok-place.place (small_proc c.in_ok-place.place c.in_ok-place.ensures.within) (omega arith)
    c.in_ok-place.ensures.set c.in_ok-place.ensures.cleared c.in_ok-place.ensures.falls
