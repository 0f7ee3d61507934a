use Rattle.std.proofs.Common.{◌≡◌, ◌∙◌, ℕ, Bool, true, false, ap, arith, count_by, if◌then◌else◌, max, nat_le, sym}
use Rattle.std.proofs.lemmas.Bool.Decides.{nat_tests}
use Rattle.tx_journal.specs.Entries.{history_of}
use Rattle.tx_shell.proofs.NamesThere.{forks_among}
use Rattle.tx_shell.specs.Names.{forked, forks, is_it}
use Rattle.tx_shell.proofs.names.Names.process_there.Goals as goal

pub returns-then-process-count : goal.returns-then-process-count
returns-then-process-count c =
    let k = c.args.self.session.now in
    let n = forks (history_of k.entries) c.args.process c.args.position in
    let counted : c.count_forks-forks.result ≡ n = c.count_forks-forks.ensures ∙ ap (count_by (λ entry. is_it c.args.process (forked entry.step))) c.first_entries.ensures ∙ sym (forks_among c.args.process c.args.position k.entries) in
    let first : nat_le c.args.process k.count ≡ true = grind (arith, nat_tests, c.if-process-count.true, c.count.ensures) in
    counted ∙ ap (λ (b : Bool). if b then n else max n 1) (sym first)

pub returns-else-process-count : goal.returns-else-process-count
returns-else-process-count c =
    let k = c.args.self.session.now in
    let n = forks (history_of k.entries) c.args.process c.args.position in
    let counted : c.count_forks-forks.result ≡ n = c.count_forks-forks.ensures ∙ ap (count_by (λ entry. is_it c.args.process (forked entry.step))) c.first_entries.ensures ∙ sym (forks_among c.args.process c.args.position k.entries) in
    let later : nat_le c.args.process k.count ≡ false = grind (arith, nat_tests, c.if-process-count.false, c.count.ensures) in
    c.max.ensures ∙ ap (λ (m : ℕ). max m 1) counted ∙ ap (λ (b : Bool). if b then n else max n 1) (sym later)
