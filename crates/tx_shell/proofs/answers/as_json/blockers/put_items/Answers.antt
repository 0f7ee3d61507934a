use Rattle.std.proofs.Common.{rules, ◌<◌, ◌≤◌, ◌++◌, ◌∙◌, List, ap, length}
use Rattle.std.proofs.lemmas.List.{take_all}
use Rattle.json.specs.Token.{Token}
use Rattle.tx_json.specs.Each.{each_tokens}
use Rattle.tx_json.specs.EachLaws.{each_more}
use Rattle.tx_shell.proofs.Gathered.{tokens_map}
use Rattle.tx_shell.specs.Blockers.{blocked_of}
use Rattle.tx_shell.specs.Members.{blocked_tokens}
use Rattle.tx_shell.specs.declared.questions.blockers.Blocker.{Blocker}
use Rattle.tx_shell.proofs.answers.as_json.blockers.put_items.Goals as goal

pub loop-i-preserved : goal.loop-i-preserved
loop-i-preserved c =
    let inside : c.loop-i.i < length c.args.blockers.now = search rules in
    let tokens : Blocker → List Token = λ b. blocked_tokens (blocked_of b) in
    each_more tokens c.args.blockers.now c.loop-i.i c.index-blockers-i.result c.args.writer.now c.loop-i.writer c.put_blocker.new.writer inside c.loop-i.invariant
    (c.in_ok-put_blocker.ensures ∙ ap (λ (b : Blocker). c.loop-i.writer ++ tokens b) c.index-blockers-i.is)

pub returns : goal.returns
returns c =
    let done : length c.args.blockers.now ≤ c.loop-i.i = search rules in
    c.loop-i.invariant
    ∙ ap (λ (bs : List Blocker). c.args.writer.now ++ each_tokens (λ b. blocked_tokens (blocked_of b)) bs) (take_all c.loop-i.i c.args.blockers.now done)
    ∙ ap (λ (t : List Token). c.args.writer.now ++ t) (tokens_map blocked_tokens blocked_of c.args.blockers.now)
