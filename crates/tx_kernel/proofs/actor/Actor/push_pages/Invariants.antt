use Rattle.std.proofs.Common.{◌≡◌, ◌++◌, map}
use Rattle.tx_kernel.specs.Own.{page_change}
use Rattle.tx_kernel.specs.Plans.{Extends}
use Rattle.tx_kernel.proofs.actor.Actor.push_pages.Given as goal

abbrev pub invariant-loop-page : goal.invariant-loop-page
invariant-loop-page l =
    (l.log ++ map (page_change l.self.pid) l.page-iterator ≡ l.initial.log ++ map (page_change l.self.pid) l.fn.new.pages.items)
    × Extends l.initial.log l.log
