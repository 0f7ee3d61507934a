use Rattle.std.proofs.Common.{rules, ◌<◌, ◌≤◌, ◌++◌, ◌∙◌, List, ap, length, string_bytes}
use Rattle.std.proofs.lemmas.List.{take_all}
use Rattle.tx_base.specs.declared.names.Missed.{Missed}
use Rattle.tx_state_text.specs.Each.{each_text}
use Rattle.tx_state_text.specs.Replies.{missed_text}
use Rattle.tx_state_text.proofs.OneMore.{each_more}
use Rattle.tx_state_text.proofs.replies.put_undelivered.Goals as goal

pub loop-i-preserved : goal.loop-i-preserved
loop-i-preserved c =
    let inside : c.loop-i.i < length c.args.undelivered.now = search rules in
    each_more missed_text c.args.undelivered.now c.loop-i.i _ (string_bytes c.args.text.now) (string_bytes c.loop-i.text) (string_bytes c.put_missed.new.text) inside c.loop-i.invariant c.in_ok-put_missed.ensures

pub returns : goal.returns
returns c =
    let done : length c.args.undelivered.now ≤ c.loop-i.i = search rules in
    c.loop-i.invariant
    ∙ ap (λ (missed : List Missed). string_bytes c.args.text.now ++ each_text missed_text missed) (take_all c.loop-i.i c.args.undelivered.now done)
