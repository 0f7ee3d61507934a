use Rattle.std.proofs.Common.{arith, sym}
use Rattle.tx_lines.proofs.FirstWord.{parts_at-found, parts_at-none}
use Rattle.tx_lines.proofs.read.search.find_from.Goals as goal

pub returns-clause-place : goal.returns-clause-place
returns-clause-place c = sym (parts_at-none c.args.mark c.args.text.now (λ k below. c.loop-i.invariant k (omega arith)))

pub returns-then-text-i-clause-place : goal.returns-then-text-i-clause-place
returns-then-text-i-clause-place c = parts_at-found c.args.mark c.args.text.now c.loop-i.i c.loop-i.invariant c.loop-i-test.true c.if-text-i.true
