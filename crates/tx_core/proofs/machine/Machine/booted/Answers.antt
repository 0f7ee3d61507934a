use Rattle.std.proofs.Common.{arith, inl, inr, subst, sym}
use Rattle.tx_core.specs.Machines.{IsWidth}
use Rattle.tx_core.proofs.machine.Machine.booted.Goals as goal

pub boot-requires-clause-width : goal.boot-requires-clause-width
boot-requires-clause-width c = elim c.requires.width [ inl narrow ↦ omega (arith, narrow) | inr wide ↦ omega (arith, wide) ]

pub invariant_of-result : goal.invariant_of-result
invariant_of-result c = record {
  content = c.laws.ensures.content c.in_ok-content.content c.args.width c.args.count c.requires.low c.requires.high c.in_ok-content.ensures.shaped c.in_ok-content.ensures.kept c.in_ok-content.ensures.view;
  width = subst IsWidth (sym c.in_ok-content.ensures.processes) c.requires.width;
}
