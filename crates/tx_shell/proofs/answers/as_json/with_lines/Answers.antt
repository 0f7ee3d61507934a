use Rattle.std.proofs.Common.{◌++◌, ◌∙◌, List, [], ℕ, ap, append_assoc, if◌then◌else◌, string_bytes, subst, sym}
use Rattle.std.proofs.lemmas.Result.{IfOk-weaker}
use Rattle.json.specs.Token.{Token}
use Rattle.tx_journal.specs.Entries.{history_of}
use Rattle.tx_journal.specs.Sessions.{made_of, start_of}
use Rattle.tx_json.specs.Answers.{lines_front, lines_with}
use Rattle.tx_json.specs.Line.{IsLineOf}
use Rattle.tx_json.specs.Members.{end_object}
use Rattle.tx_shell.proofs.Jsons.{said_with}
use Rattle.tx_shell.specs.Names.{named, names_member}
use Rattle.tx_shell.specs.Places.{origin_of, place_of}
use Rattle.tx_shell.specs.Forms.{answer_members, members_and_names, shows_names, SaysLines, ReportsAnswer}
use Rattle.tx_shell.proofs.answers.as_json.with_lines.Goals as goal

pub returns : goal.returns
returns c =
    let k = c.args.session.now in
    let h = history_of (made_of k) in
    let answer = c.args.answer.now in
    let report = c.as_str.result.now in
    let names = named c.args.names in
    let own = answer_members (start_of k) h (place_of k) answer in
    let shown = if shows_names answer then names_member names else [] in
    let members = members_and_names (start_of k) names h (place_of k) answer in
    let written = c.put_names_of.new.writer in
    IfOk-weaker c.end_answer.result (λ text. IsLineOf (written ++ end_object) (string_bytes text)) (λ text. SaysLines (origin_of c.args.version k) names h (place_of k) answer (string_bytes text))
    (λ text line. record {
      report = report;
      reports = subst (λ (lines : List ℕ). ReportsAnswer (origin_of c.args.version k) names h (place_of k) answer lines) (sym c.as_str.ensures.value) c.in_ok-report.ensures;
      says = subst (λ (n : ℕ). IsLineOf (lines_with n report members) (string_bytes text)) c.position.ensures.count
          (said_with c.position.result report (string_bytes text) written members
          (c.in_ok-put_names_of.ensures ∙ ap (λ (t : List Token). t ++ shown) (c.in_ok-put_members.ensures ∙ ap (λ (t : List Token). t ++ own) c.in_ok-writer.ensures) ∙ append_assoc (lines_front c.position.result report) own shown) line);
    }) c.end_answer.ensures
