use Rattle.std.proofs.Common.{◌≡◌, ◌≤◌, Bool, not, ◌&&◌, List, length, take, sym, ap, subst, ◌∙◌, arith, inl, inr}
use Rattle.tx_journal.proofs.Noting.{lawful_first}
use Rattle.tx_journal.proofs.MovedFound.{front, moving_commit, moving_empty, moving_other}
use Rattle.tx_journal.specs.Sessions.{SessionState}
use Rattle.tx_journal.specs.declared.entry.Entry.{Entry}
use Rattle.std.proofs.lemmas.Grind.{common_steps}
use Rattle.tx_journal.proofs.session.Session.find_moved.Goals as goal
use Rattle.tx_journal.proofs.session.Session.find_moved.Goals.{then-not-last, else-not-last}

pub notes_of-requires-clause-wide : goal.notes_of-requires-clause-wide
notes_of-requires-clause-wide c = elim c.processes.ensures.width [ inl narrow ↦ omega (arith, narrow) | inr wide ↦ omega (arith, wide) ]

pub notes_of-requires-clause-lawful : goal.notes_of-requires-clause-lawful
notes_of-requires-clause-lawful c = grind (arith, common_steps, front, lawful_first)

pub returns-in_default-split_last : goal.returns-in_default-split_last
returns-in_default-split_last c = grind (arith, common_steps, front, moving_empty)

pub returns-in_default-commit_of : goal.returns-in_default-commit_of
returns-in_default-commit_of c = grind (arith, common_steps, front, moving_other)

pub returns : goal.returns
returns c =
    let here : c.as_slice.result.now ≡ c.args.self.now.entries = c.as_slice.ensures.value ∙ ap (λ (k : SessionState). k.entries) c.self.view_is in
    let one : c.if-not-last.result ≡ (not c.in-Some-split_last.last.now.reveals && c.in_ok-parted.parted.silent) = elim c.if-not-last.branch [ then-not-last w ↦ w.result-is ∙ ap (λ (b : Bool). not b && c.in_ok-parted.parted.silent) (sym w.if-not-last.true) | else-not-last w ↦ w.result-is ∙ ap not w.if-not-last.false ∙ ap (λ (b : Bool). not b && c.in_ok-parted.parted.silent) (sym w.if-not-last.false) ] in
    moving_commit c.args.self.now c.args.number (subst (λ (es : List Entry). c.args.number ≤ length es) here c.in-Some.ensures.lookup.0.1) c.processes.result c.count.result c.processes.ensures.same c.count.ensures c.in-Some.entries.now
    (c.in-Some.ensures.lookup.0.2 ∙ front c.args.number c.as_slice.result.now ∙ ap (take c.args.number) here) c.in_ok-notes.notes.items c.in_ok-notes.ensures
    c.in-Some-split_last.earlier.now c.in-Some-split_last.last.now (sym c.deref.ensures.value ∙ c.in-Some-split_last.ensures.cases.0)
    c.in-Some-commit_of.starter.0 c.len.result c.in_ok-parted.parted.own.items c.in_ok-parted.parted.others.items c.in_ok-parted.parted.silent (record { entries = c.in_ok-entries.entries; one_moment = c.if-not-last.result })
    c.in-Some-commit_of.ensures c.len.ensures c.in_ok-parted.ensures.own c.in_ok-parted.ensures.others c.in_ok-parted.ensures.silent c.in_ok-entries.ensures one
