use Rattle.std.proofs.Common.{map, rules, string_bytes, subst}
use Rattle.txos.proofs.CommandNamed.{fault_kind, no_fault, no_fault_names, parse_names, parse_rows}
use Rattle.txos.specs.CommandLine.{command_names, SomeOneOf}
use Rattle.txos.proofs.words.matches_of.Goals as goal

pub returns-clause-reads : goal.returns-clause-reads
returns-clause-reads c = no_fault _ _ c.in_ok-command.ensures c.in_ok-matches.ensures.kinds

pub returns-clause-name : goal.returns-clause-name
returns-clause-name c = parse_names _ _ _ c.in_ok-command.ensures c.in_ok-matches.ensures.matches

pub returns-clause-known : goal.returns-clause-known
returns-clause-known c =
    let found = no_fault_names (map string_bytes c.args.words.now) (no_fault _ _ c.in_ok-command.ensures c.in_ok-matches.ensures.kinds) in
    subst (SomeOneOf command_names) (parse_names _ _ _ c.in_ok-command.ensures c.in_ok-matches.ensures.matches) found

pub returns-clause-rows : goal.returns-clause-rows
returns-clause-rows c = parse_rows _ _ _ c.in_ok-command.ensures c.in_ok-matches.ensures.matches

pub returns-in_err-matches-clause-reads : goal.returns-in_err-matches-clause-reads
returns-in_err-matches-clause-reads c =
    let kind = fault_kind _ _ c.in_err-matches.field-0.0 c.in_ok-command.ensures c.in_err-matches.ensures.kinds in
    search (rules, kind)
