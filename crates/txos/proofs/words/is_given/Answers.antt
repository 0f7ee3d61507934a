use Rattle.std.proofs.Common.{◌∙◌}
use Rattle.clap.specs.Matches.{found_of}
use Rattle.clap.specs.Simple.{subcommand_rows_of}
use Rattle.txos.proofs.FormSaid.{given_in}
use Rattle.txos.proofs.words.is_given.Goals as goal

pub returns : goal.returns
returns c =
    c.is_some.ensures
    ∙ given_in c.args.option.now (subcommand_rows_of c.args.matches.now) (found_of c.in-Some.given.now) c.get_str.result c.in-Some.ensures.rows c.get_str.ensures
