use Rattle.std.proofs.Common.{◌≡◌, ◌∙◌, ℕ, Bool, List, ap, map, string_bytes, subst}
use Rattle.tx_base.specs.declared.steps.Accepted.{Accepted}
use Rattle.tx_journal.specs.Entries.{history_of}
use Rattle.tx_journal.specs.Sessions.{position_of, start_of, SameBoot, SessionState}
use Rattle.tx_script.specs.Debug.{first_steps}
use Rattle.tx_shell.proofs.Listed.{history_to}
use Rattle.tx_shell.specs.Answers.{left_by, IsAnswer}
use Rattle.tx_shell.specs.Forms.{SaysAnswer}
use Rattle.tx_shell.specs.Names.{given_as, names_at, names_by}
use Rattle.tx_shell.specs.Origins.{Origin}
use Rattle.tx_shell.specs.Places.{origin_of, place_of}
use Rattle.tx_shell.specs.Standings.{kept_of}
use Rattle.tx_shell.specs.declared.lines.versions.TextVersion.{TextVersion}
use Rattle.tx_shell.proofs.answers.Interpreter.answer_ask.Goals as goal

-- the session keeps how it was booted
origin_stays : (version : TextVersion) (old new : SessionState) → SameBoot new old → origin_of version new ≡ origin_of version old
origin_stays version old new boot = λ i. record { version = version; width = boot.width i; count = boot.count i }

pub returns-clause-answer : goal.returns-clause-answer
returns-clause-answer c =
    let i = c.args.self.now in
    let k = i.session in
    let there = c.find_answer.new.session in
    let found = c.in_ok-answer.answer in
    let named : map given_as c.keep_names.new.names.items ≡ names_by c.args.ask (position_of there) (map given_as i.given.items) = c.in_ok-keep_names.ensures.kept ∙ ap (λ (at : ℕ). names_by c.args.ask at (map given_as i.given.items)) c.position.ensures.count in
    let report = string_bytes c.in_ok-text.text in
    record {
      found = found;
      there = place_of there;
      is = subst (λ (h : List Accepted). IsAnswer (start_of k) h i.refused.own (place_of k) i.refused.last c.args.ask found (place_of there)) (history_to (position_of k) k.entries) c.in_ok-answer.ensures.answer;
      kept = ap history_of c.find_answer.ensures.journal.entries;
      says = subst (λ (o : Origin). SaysAnswer i.form o (names_at o.count (place_of there) (kept_of i).names) (first_steps (position_of there) (history_of there.entries)) (place_of there) found report)
          (origin_stays i.version k there c.find_answer.ensures.journal.boot)
          (subst (λ (h : List Accepted). SaysAnswer i.form (origin_of i.version there) (names_at there.count (place_of there) (kept_of i).names) h (place_of there) found report) (history_to (position_of there) there.entries) c.in_ok-text.ensures);
      after = c.leave.ensures.place ∙ ap (λ (goes : Bool). left_by goes (place_of there)) c.lets_go.ensures;
      names = λ j. record (kept_of i) { names = named j };
    }
