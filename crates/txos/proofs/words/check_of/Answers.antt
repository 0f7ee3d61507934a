use Rattle.std.proofs.Common.{◌∙◌, ℕ, Bool, List, Option, Bor, ap, codes, is_some, not, sym}
use Rattle.clap.specs.Matches.{found_of}
use Rattle.clap.specs.Simple.{subcommand_rows_of}
use Rattle.txos.proofs.FormSaid.{given_in}
use Rattle.txos.proofs.words.check_of.Goals as goal

pub returns-in-None-clause-asked : goal.returns-in-None-clause-asked
returns-in-None-clause-asked c =
    let given = given_in (codes "command") (subcommand_rows_of c.args.matches.now) (found_of c.in-Some.check.now) c.get_str.result c.in-Some.ensures.rows c.get_str.ensures in
    sym given ∙ ap (λ (word : Option (Bor (List ℕ))). is_some word) c.in-None.is

pub returns-in-Some-reader_named-clause-asked : goal.returns-in-Some-reader_named-clause-asked
returns-in-Some-reader_named-clause-asked c =
    let given = given_in (codes "command") (subcommand_rows_of c.args.matches.now) (found_of c.in-Some.check.now) c.get_str.result c.in-Some.ensures.rows c.get_str.ensures in
    sym given ∙ ap (λ (word : Option (Bor (List ℕ))). is_some word) c.in-Some-get_str.is ∙ sym (ap (λ (any : Bool). not any) c.in-Some-reader_named.ensures.one)

pub returns-in-None-reader_named-clause-asked : goal.returns-in-None-reader_named-clause-asked
returns-in-None-reader_named-clause-asked c =
    let given = given_in (codes "command") (subcommand_rows_of c.args.matches.now) (found_of c.in-Some.check.now) c.get_str.result c.in-Some.ensures.rows c.get_str.ensures in
    sym given ∙ ap (λ (word : Option (Bor (List ℕ))). is_some word) c.in-Some-get_str.is
