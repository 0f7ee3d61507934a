use Rattle.std.proofs.Common.{◌≡◌, ◌++◌, drop, map, string_bytes}
use Rattle.tx_explain.specs.Topics.{listed, rows_of_group}
use Rattle.tx_explain.proofs.list.put_groups.Given as goal

abbrev pub invariant-loop-group : goal.invariant-loop-group
invariant-loop-group l = string_bytes l.text ++ listed (map rows_of_group (drop l.group-index l.groups)) ≡ string_bytes l.initial.text ++ listed (map rows_of_group l.groups)
