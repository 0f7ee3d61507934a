use Rattle.std.proofs.Common.{◌≡◌, true, refl, rules, string_bytes}
use Rattle.std.specs.Fmt.{digits}
use Rattle.tx_explain.specs.Table.{all_rows}
use Rattle.tx_explain.specs.Topics.{is_page, listed}
use Rattle.tx_explain.proofs.list.listing.Goals as goal

list_is_page : is_page (listed all_rows) ≡ true
unfolding digits all_rows
list_is_page = refl

pub returns-clause-lines : goal.returns-clause-lines
returns-clause-lines c =
    let is : string_bytes c.put_groups.new.text ≡ listed all_rows = search rules in
    rw is list_is_page
