use Rattle.std.proofs.Common.{◌≡◌, ◌∙◌, ◌+◌, ℕ, Option, get_or, sym, ap, refl, subst, string_bytes, arith}
use Rattle.std.proofs.lemmas.List.{get_or_read}
use Rattle.tx_base.specs.Slots.{slot_at}
use Rattle.tx_base.specs.declared.marks.Mark.{Mark}
use Rattle.tx_state_text.specs.Links.{LeadsOn}
use Rattle.tx_state_text.specs.Txns.{is_listed_in}
use Rattle.tx_state_text.proofs.Listed.{listed_none, lists_more, lists_on}
use Rattle.tx_state_text.proofs.txns.put_members.Goals as goal

pub loop-number-init : goal.loop-number-init
loop-number-init c =
    let marks = slot_at c.args.marks.now in
    let starter = c.args.starter.0 in
    let at : c.index-number.result.now ≡ get_or c.args.links.now.firsts.items starter 0 = get_or_read c.args.links.now.firsts.items starter _ (omega (arith, c.requires.links.starters)) c.index-number.ensures 0 in
    lists_on c.args.width marks starter c.args.ended (string_bytes c.args.text.now) (string_bytes c.args.text.now) _ 0 c.index-number.result.now
    (subst (LeadsOn c.args.width marks starter 0) (sym at) (c.requires.links.first starter c.requires.inside))
    (listed_none (λ (done : ℕ). is_listed_in (marks (done + 1)) starter c.args.ended) (string_bytes c.args.text.now)) refl

pub loop-number-preserved : goal.loop-number-preserved
loop-number-preserved c =
    let marks = slot_at c.args.marks.now in
    let starter = c.args.starter.0 in
    let so = c.loop-number.invariant in
    let number = c.loop-number.number in
    let at : c.index-number-in-loop-number.result.now ≡ get_or c.args.links.now.nexts.items number 0 =
    get_or_read c.args.links.now.nexts.items number _ (omega (arith, c.requires.links.numbers)) c.index-number-in-loop-number.ensures 0 in
    lists_more c.args.width marks starter c.args.ended (string_bytes c.args.text.now) (string_bytes c.loop-number.text) (string_bytes c.put_member.new.text) c.loop-number.some c.is_listed-listed.result c.in_ok-some.some number
    c.index-number-in-loop-number.result.now so
    (subst (LeadsOn c.args.width marks starter number) (sym at) (c.requires.links.next number starter so.above c.loop-number-test.true c.requires.inside (so.member c.loop-number-test.true)))
    (c.is_listed-listed.ensures ∙ ap (λ (mark : Option Mark). is_listed_in mark starter c.args.ended) c.get.ensures)
    c.in_ok-some.ensures.text c.in_ok-some.ensures.some
