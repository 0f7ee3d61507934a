use Rattle.std.proofs.Common.{◌≡◌, ◌∙◌, Bool, None, Some, ap, false, if◌then◌else◌, map, refl, string_bytes, sym, true}
use Rattle.tx_journal.specs.Entries.{history_of}
use Rattle.tx_journal.specs.Rows.{lines_of, state_pieces}
use Rattle.tx_journal.specs.Sessions.{position_of, start_of}
use Rattle.tx_model.specs.View.{View}
use Rattle.tx_script.specs.Debug.{view_at}
use Rattle.tx_shell.proofs.Compared.{among_missing, same_journals, shown_there, states_said}
use Rattle.tx_shell.specs.Comparisons.{are_there}
use Rattle.tx_shell.specs.Differences.{views_differing}
use Rattle.tx_shell.proofs.questions.comparing.compare.Goals as goal

pub returns-then-not-are_there-clause-lines : goal.returns-then-not-are_there-clause-lines
returns-then-not-are_there-clause-lines c =
    let k = c.args.session.now in
    let h = history_of k.entries in
    let lines = views_differing (view_at (start_of k) h c.args.from) (view_at (start_of k) h c.args.to) in
    let missing : are_there h c.args.from c.args.to ≡ false = sym c.are_there.ensures ∙ c.if-not-are_there.true in
    ap (λ (there : Bool). if there then Some lines else None) (sym missing)

pub returns-then-not-are_there-clause-among : goal.returns-then-not-are_there-clause-among
returns-then-not-are_there-clause-among c =
    let k = c.args.session.now in
    among_missing (history_of k.entries) c.args.from c.args.to (position_of k) (position_of k) (sym c.are_there.ensures ∙ c.if-not-are_there.true) refl

pub returns-clause-lines : goal.returns-clause-lines
returns-clause-lines c =
    let k = c.args.session.now in
    let h = history_of k.entries in
    let V = view_at (start_of k) h c.args.from in
    let W = view_at (start_of k) h c.args.to in
    let there : are_there h c.args.from c.args.to ≡ true = sym c.are_there.ensures ∙ c.if-not-are_there.false in
    let first = shown_there k c.go.new.session c.args.from c.go.ensures.journal c.in_ok-go.ensures.moved in
    let second = shown_there k c.go-2.new.session c.args.to (same_journals k c.go.new.session c.go-2.new.session c.go.ensures.journal c.go-2.ensures.journal) c.in_ok-go-2.ensures.moved in
    let pieces = c.in_ok-pieces.pieces.items in
    let report : string_bytes c.put_all_differing.new.text ≡ views_differing V W =
    states_said V W pieces c.as_slice.result.now c.as_slice-2.result.now (map string_bytes c.as_slice-3.result.now) (map string_bytes c.as_slice-4.result.now) (string_bytes c.new-lines.result)
    (string_bytes c.put_all_differing.new.text) (c.in_ok-pieces.ensures ∙ ap (λ (X : View). state_pieces X.table.width) (c.machine.ensures.view ∙ first)) c.as_slice.ensures.value c.as_slice-2.ensures.value
    (ap (map string_bytes) c.as_slice-3.ensures.value ∙ c.in_ok-before.ensures ∙ ap (lines_of c.as_slice.result.now) (c.machine-2.ensures.view ∙ first))
    (ap (map string_bytes) c.as_slice-4.ensures.value ∙ c.in_ok-after.ensures ∙ ap (lines_of c.as_slice-2.result.now) (c.machine-3.ensures.view ∙ second)) c.new-lines.ensures.bytes
    c.in_ok-put_all_differing.ensures in
    ap Some report ∙ ap (λ (b : Bool). if b then Some (views_differing V W) else None) (sym there)
