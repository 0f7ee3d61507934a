-- The step of a number, among the entries of a session.
use Rattle.std.proofs.Common.{◌≡◌, ℕ, zero, suc, ◌-◌, List, Some, arith, reverse, option_map, sym, ap, ◌∙◌}
use Rattle.std.proofs.lemmas.Option.{none-some, slice_get-map}
use Rattle.std.specs.List.{slice_get}
use Rattle.tx_journal.specs.Entries.{accepted_of, entry_at, history_of}
use Rattle.tx_journal.specs.declared.entry.Entry.{Entry}
use Rattle.tx_shell.proofs.Listed.{oldest_first}

pub step_made : (entries : List Entry) (number : ℕ) (entry : Entry) → Some entry ≡ entry_at entries number → slice_get (reverse (history_of entries)) (number - 1) ≡ Some (accepted_of entry)
step_made entries zero entry there = absurd (none-some entry (sym there))
step_made entries (suc n) entry there =
    let before_it : suc n - 1 ≡ n = omega arith in
    (λ i. slice_get (oldest_first entries i) (before_it i)) ∙ slice_get-map accepted_of entries n ∙ ap (option_map accepted_of) (sym there)
