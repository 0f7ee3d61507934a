use Rattle.std.proofs.Common.{◌≡◌, ◌≤◌, ◌<◌, ℕ, zero, suc, List, [], ◌∷◌, None, length, add-one, refl, sym, ap, ◌∙◌, string_bytes, arith}
use Rattle.std.proofs.lemmas.Option.{none-some}
use Rattle.std.specs.Option.{option_copied}
use Rattle.std.specs.Prelude.{slice_get}
use Rattle.tx_journal.specs.Entries.{entry_at}
use Rattle.tx_journal.specs.declared.entry.Entry.{Entry}
use Rattle.tx_workers.proofs.NumberedLines.{all_numbered, one_numbered_more}
use Rattle.tx_workers.specs.RunText.{entry_line}
use Rattle.tx_workers.proofs.text.put_entries.Goals.{in-Some+in_ok-put_run_line, in_default}
use Rattle.tx_workers.proofs.text.put_entries.Goals as goal

-- a place within a list has something
some_is_there : (entries : List Entry) (i : ℕ) → i < length entries → slice_get entries i ≡ None → ⊥
some_is_there [] i within none = absurd (omega (arith, within))
some_is_there (entry ∷ entries) zero within none = none-some entry (sym none)
some_is_there (entry ∷ entries) (suc i) within none = some_is_there entries i (omega (arith, within)) none

pub loop-i-init : goal.loop-i-init
loop-i-init c = refl

pub loop-i-preserved : goal.loop-i-preserved
loop-i-preserved c =
    let entries : List Entry = c.args.session.now.entries in
    let before : List ℕ = string_bytes c.args.text.now in
    let i : ℕ = c.loop-i.i in
    let within : i < length entries = omega (arith, c.loop-i-test.true, c.len-i-end.ensures) in
    let here : slice_get entries i ≡ option_copied c.entry.result = sym (ap (entry_at entries) (add-one i)) ∙ sym c.entry.ensures in
    elim c.match-entry.branch [
      | in-Some+in_ok-put_run_line w ↦
          one_numbered_more entry_line entries before (string_bytes c.loop-i.text) (string_bytes c.match-entry.text) i w.in-Some.entry.now c.loop-i.invariant
          (here ∙ ap option_copied w.in-Some.is) (ap string_bytes w.text-is ∙ w.in_ok-put_run_line.ensures)
      | in_default w ↦ absurd (some_is_there entries i within (here ∙ ap option_copied w.in_default.is))
    ]

pub returns : goal.returns
returns c =
    let past : length c.args.session.now.entries ≤ c.loop-i.i = omega (arith, c.loop-i-test.false, c.len-i-end.ensures) in
    all_numbered entry_line c.args.session.now.entries (string_bytes c.args.text.now) (string_bytes c.loop-i.text) c.loop-i.i c.loop-i.invariant past
