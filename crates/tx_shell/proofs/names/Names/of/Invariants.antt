use Rattle.std.proofs.Common.{option_map}
use Rattle.tx_shell.proofs.NamesThere.{FoundSoFar}
use Rattle.tx_shell.proofs.names.Names.of.Given as goal

abbrev pub invariant-loop-i : goal.invariant-loop-i
invariant-loop-i l = FoundSoFar l.self.session.now l.process l.self.given.now (option_map (λ name. name.now) l.found) l.i
