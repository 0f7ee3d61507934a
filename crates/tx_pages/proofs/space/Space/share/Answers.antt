use Rattle.std.proofs.Common.{◌≡◌, length, arith, sym, ◌∙◌, ap, None}
use Rattle.std.proofs.lemmas.List.{ext_get_or}
use Rattle.tx_pages.proofs.space.Space.share.Goals as goal

pub returns : goal.returns
returns c =
    let sized : length c.args.from.now ≡ 16 = ap length (sym c.from.view_is) ∙ c.from.invariant in
    ext_get_or None c.loop-i.self-inside.pages c.args.from.now (c.loop-i.invariant.sized ∙ sym sized)
    (λ k below. c.loop-i.invariant.there k (omega (arith, c.loop-i.invariant.sized)))
