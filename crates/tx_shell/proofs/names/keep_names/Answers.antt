use Rattle.std.proofs.Common.{rules, ◌∙◌, ap, map, nat_le}
use Rattle.std.proofs.lemmas.Fn.{filter_same}
use Rattle.tx_shell.proofs.NamesThere.{kept_names}
use Rattle.tx_shell.specs.Names.{given_as}
use Rattle.tx_shell.specs.declared.names.Given.{Given}
use Rattle.tx_shell.proofs.names.keep_names.Goals as goal

pub returns-in-Cut-clause-kept : goal.returns-in-Cut-clause-kept
returns-in-Cut-clause-kept c =
    rw c.in-Cut.is
    (ap (map given_as) (filter_same _ (λ (one : Given). nat_le one.position c.args.position) _ (λ x b f' k. search rules) _ _ c.retain.ensures.filtered) ∙ kept_names c.args.position c.args.names.now.items)
