use Rattle.std.proofs.Common.{rules, ◌<◌, ◌≤◌, ◌++◌, ◌∙◌, ℕ, List, Bor, ap, length}
use Rattle.std.proofs.lemmas.List.{take_all}
use Rattle.json.specs.Token.{Token}
use Rattle.tx_json.specs.Answers.{line_item}
use Rattle.tx_json.specs.Each.{each_tokens}
use Rattle.tx_json.specs.EachLaws.{each_more}
use Rattle.tx_json.proofs.OneMore.{each_map}
use Rattle.tx_json.proofs.answers.put_items.Goals as goal

pub loop-i-preserved : goal.loop-i-preserved
loop-i-preserved c =
    let inside : c.loop-i.i < length c.args.lines.now = search rules in
    each_more (λ (line : Bor (List ℕ)). line_item line.now) c.args.lines.now c.loop-i.i _ c.args.writer.now c.loop-i.writer c.put_item.new.writer inside c.loop-i.invariant c.in_ok-put_item.ensures

pub returns : goal.returns
returns c =
    let done : length c.args.lines.now ≤ c.loop-i.i = search rules in
    c.loop-i.invariant
    ∙ ap (λ (ls : List (Bor (List ℕ))). c.args.writer.now ++ each_tokens (λ line. line_item line.now) ls) (take_all c.loop-i.i c.args.lines.now done)
    ∙ ap (λ (t : List Token). c.args.writer.now ++ t) (each_map line_item (λ (line : Bor (List ℕ)). line.now) c.args.lines.now)
