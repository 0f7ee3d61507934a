use Rattle.std.proofs.Common.{rules, ◌≡◌, ◌<◌, ◌≤◌, get_or, length, refl, string_bytes}
use Rattle.tx_script.proofs.RunLines.{all_entries, one_entry_more}
use Rattle.tx_script.proofs.as_json.runs.put_entries.Goals as goal

pub loop-i-init : goal.loop-i-init
loop-i-init c = refl

pub loop-i-preserved : goal.loop-i-preserved
loop-i-preserved c =
    let inside : c.loop-i.i < length c.args.entries.now = search rules in
    let is : c.index-entries-i.result ≡ get_or c.args.entries.now c.loop-i.i c.index-entries-i.result = search rules in
    one_entry_more c.args.entries.now c.loop-i.i c.index-entries-i.result (string_bytes c.args.text.now) (string_bytes c.loop-i.text) (string_bytes c.put_entry.new.text) inside is
    c.loop-i.invariant c.in_ok-put_entry.ensures.text

pub returns-clause-text : goal.returns-clause-text
returns-clause-text c =
    let done : length c.args.entries.now ≤ c.loop-i.i = search rules in
    all_entries c.args.entries.now c.loop-i.i (string_bytes c.args.text.now) (string_bytes c.loop-i.text) done c.loop-i.invariant
