use Rattle.std.proofs.Common.{rules, ◌<◌, ◌≤◌, ◌++◌, ◌∙◌, List, ap, length}
use Rattle.std.proofs.lemmas.List.{take_all}
use Rattle.json.specs.Token.{Token}
use Rattle.tx_base.specs.declared.names.Sending.{Sending}
use Rattle.tx_json.specs.Each.{each_tokens}
use Rattle.tx_json.specs.EachLaws.{each_more}
use Rattle.tx_json.specs.Txns.{held_item}
use Rattle.tx_kernel.specs.Plans.{sending_of}
use Rattle.tx_json.proofs.OneMore.{each_map}
use Rattle.tx_json.proofs.txns.put_sends.Goals as goal

pub loop-i-preserved : goal.loop-i-preserved
loop-i-preserved c =
    let inside : c.loop-i.i < length c.args.sendings.now = search rules in
    each_more (λ m. held_item (sending_of m)) c.args.sendings.now c.loop-i.i _ c.args.writer.now c.loop-i.writer c.put_send.new.writer inside c.loop-i.invariant c.in_ok-put_send.ensures

pub returns : goal.returns
returns c =
    let done : length c.args.sendings.now ≤ c.loop-i.i = search rules in
    c.loop-i.invariant
    ∙ ap (λ (ms : List Sending). c.args.writer.now ++ each_tokens (λ m. held_item (sending_of m)) ms) (take_all c.loop-i.i c.args.sendings.now done)
    ∙ ap (λ (t : List Token). c.args.writer.now ++ t) (each_map held_item sending_of c.args.sendings.now)
