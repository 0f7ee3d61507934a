use Rattle.std.proofs.Common.{◌≡◌, ◌+◌, suc, ℕ, ◌∷◌, drop, refl, sym, ap, ◌∙◌, add-one, drop-cons}
use Rattle.tx_journal.specs.declared.entry.Entry.{Entry}
use Rattle.tx_shell.proofs.Listed.{all_listed, one_listed_more}
use Rattle.tx_shell.specs.Members.{tokens_between}
use Rattle.tx_shell.proofs.answers.as_json.steps.put_entries.Goals as goal

pub loop-i-init : goal.loop-i-init
loop-i-init c = refl

pub loop-i-preserved : goal.loop-i-preserved
loop-i-preserved c =
    let i = c.loop-i.i in
    let entries = c.args.entries.now in
    let entry = c.index-entries-i.result in
    let cut : drop i entries ≡ entry ∷ drop (i + 1) entries =
    drop-cons entries i entry c.loop-i-test.true
    ∙ ap (λ (x : Entry). x ∷ drop (suc i) entries) (sym c.index-entries-i.is)
    ∙ ap (λ (n : ℕ). entry ∷ drop n entries) (sym (add-one i)) in
    one_listed_more (tokens_between c.args.first c.args.last) entries c.args.writer.now c.loop-i.writer c.put_listed.new.writer i entry c.loop-i.invariant cut
    c.in_ok-put_listed.ensures

pub returns : goal.returns
returns c = all_listed (tokens_between c.args.first c.args.last) c.args.entries.now c.args.writer.now c.loop-i.writer c.loop-i.i c.loop-i.invariant c.loop-i-test.false
