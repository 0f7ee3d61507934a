use Rattle.std.proofs.Common.{◌++◌, ◌∙◌, ap, map, option_map}
use Rattle.std.proofs.lemmas.Result.{on_ok_weaker}
use Rattle.tx_json.specs.Holders.{holders_members}
use Rattle.tx_json.specs.Replies.{reply_members}
use Rattle.tx_shell.proofs.Jsons.{three_members}
use Rattle.tx_shell.specs.Blockers.{blocked_of}
use Rattle.tx_shell.specs.Members.{blockers_members}
use Rattle.tx_shell.proofs.answers.as_json.put_why.Goals as goal

pub returns : goal.returns
returns c =
    let reason = c.in_ok-reason.reason in
    let is = c.in_ok-reason.ensures in
    let replied = reply_members c.args.reply.now in
    let front = c.args.writer.now in
    on_ok_weaker c.put_awaited.result
    (λ put.
    three_members front replied (blockers_members (map blocked_of reason.blockers.items)) (holders_members (option_map (λ held. held.items) reason.holders))
    c.put_reply.new.writer c.put_blockers.new.writer c.put_awaited.new.writer c.in_ok-put_reply.ensures
    (c.in_ok-put_blockers.ensures ∙ ap (λ bs. c.put_reply.new.writer ++ blockers_members (map blocked_of bs)) c.as_slice.ensures.value) put
    ∙ (λ i. front ++ (replied ++ (blockers_members (is.blockers i) ++ holders_members (is.holders i))))) c.put_awaited.ensures
