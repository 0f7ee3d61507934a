use Rattle.std.proofs.Common.{◌≡◌, ◌∙◌, Bool, ap, length, sym}
use Rattle.tx_journal.specs.Entries.{history_of}
use Rattle.tx_journal.specs.Sessions.{position_of}
use Rattle.tx_script.specs.Debug.{first_steps}
use Rattle.tx_shell.proofs.Listed.{history_to}
use Rattle.tx_shell.specs.Answers.{left_by}
use Rattle.tx_shell.specs.Places.{place_of}
use Rattle.tx_shell.proofs.answers.leave.Goals as goal

pub returns-clause-place : goal.returns-clause-place
returns-clause-place c =
    let k = c.args.session.now in
    let history : history_of c.cut.new.self.entries ≡ first_steps (position_of k) (history_of k.entries) = ap history_of c.cut.ensures.entries ∙ history_to (position_of k) k.entries in
    let at : position_of c.cut.new.self ≡ position_of k = ap length c.cut.ensures.inverses in
    let cut : place_of c.cut.new.self ≡ record { history = first_steps (position_of k) (history_of k.entries); at = position_of k } = λ i. record { history = history i; at = at i } in
    cut ∙ ap (λ (goes : Bool). left_by goes (place_of k)) (sym c.if-not-lets_go.false)
