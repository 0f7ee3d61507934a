use Rattle.std.proofs.Common.{rules, ◌<◌, ◌≤◌, ◌++◌, ◌∙◌, ℕ, List, ap, length, string_bytes}
use Rattle.std.proofs.lemmas.List.{take_all}
use Rattle.tx_base.specs.declared.names.Sending.{Sending}
use Rattle.tx_kernel.specs.Plans.{sending_of}
use Rattle.tx_state_text.specs.Each.{each_text}
use Rattle.tx_state_text.specs.Txns.{held_text}
use Rattle.tx_state_text.proofs.OneMore.{each_map, each_more}
use Rattle.tx_state_text.proofs.txns.put_helds.Goals as goal

pub loop-i-preserved : goal.loop-i-preserved
loop-i-preserved c =
    let inside : c.loop-i.i < length c.args.sendings.now = search rules in
    each_more (λ m. held_text (sending_of m)) c.args.sendings.now c.loop-i.i _ (string_bytes c.args.text.now) (string_bytes c.loop-i.text) (string_bytes c.put_held.new.text) inside c.loop-i.invariant c.in_ok-put_held.ensures

pub returns : goal.returns
returns c =
    let done : length c.args.sendings.now ≤ c.loop-i.i = search rules in
    c.loop-i.invariant
    ∙ ap (λ (ms : List Sending). string_bytes c.args.text.now ++ each_text (λ m. held_text (sending_of m)) ms) (take_all c.loop-i.i c.args.sendings.now done)
    ∙ ap (λ (t : List ℕ). string_bytes c.args.text.now ++ t) (each_map held_text sending_of c.args.sendings.now)
