use Rattle.clap.specs.Matches.{found_of}
use Rattle.clap.specs.Simple.{subcommand_rows_of}
use Rattle.txos.proofs.FormSaid.{asks_json, asks_text}
use Rattle.txos.proofs.words.form_of.Goals as goal

pub returns-then-get_flag : goal.returns-then-get_flag
returns-then-get_flag c =
    asks_json (subcommand_rows_of c.args.matches.now) (found_of c.in-Some.shell.now) c.get_flag.result c.in-Some.ensures.rows c.get_flag.ensures.none c.get_flag.ensures.other c.if-get_flag.true

pub returns-else-get_flag : goal.returns-else-get_flag
returns-else-get_flag c =
    asks_text (subcommand_rows_of c.args.matches.now) (found_of c.in-Some.shell.now) c.get_flag.result c.in-Some.ensures.rows c.get_flag.ensures.value c.if-get_flag.false
