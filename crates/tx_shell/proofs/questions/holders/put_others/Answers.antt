use Rattle.std.proofs.Common.{rules, ◌<◌, ◌≤◌, ◌++◌, ◌∙◌, List, ap, length, string_bytes}
use Rattle.std.proofs.lemmas.List.{take_all}
use Rattle.tx_json.specs.declared.holders.Holder.{Holder}
use Rattle.tx_state_text.specs.Each.{each_text}
use Rattle.tx_shell.specs.Holders.{next_text}
use Rattle.tx_shell.specs.Names.{named}
use Rattle.tx_shell.proofs.Gathered.{each_more}
use Rattle.tx_shell.proofs.questions.holders.put_others.Goals as goal

pub loop-i-preserved : goal.loop-i-preserved
loop-i-preserved c =
    let inside : c.loop-i.i < length c.args.others.now = search rules in
    each_more (next_text (named c.args.names)) c.args.others.now c.loop-i.i _ (string_bytes c.args.text.now) (string_bytes c.loop-i.text) (string_bytes c.put_other.new.text) inside c.loop-i.invariant c.in_ok-put_other.ensures

pub returns : goal.returns
returns c =
    let done : length c.args.others.now ≤ c.loop-i.i = search rules in
    c.loop-i.invariant
    ∙ ap (λ (holders : List Holder). string_bytes c.args.text.now ++ each_text (next_text (named c.args.names)) holders) (take_all c.loop-i.i c.args.others.now done)
