use Rattle.std.proofs.Common.{◌≡◌, ◌∙◌, ℕ, Option, Some, None, get_or, sym, ap, subst, rules}
use Rattle.std.proofs.Math.ListN.{set}
use Rattle.std.specs.Prelude.{option_map}
use Rattle.tx_desc.specs.Descriptions.{IsGone, changed_at, with_more, with_fewer}
use Rattle.tx_desc.specs.Plans.{given_fewer, listed_desc, put_descs}
use Rattle.tx_desc.specs.declared.given.Given.{Given}
use Rattle.tx_desc.specs.declared.plans.NewDesc.{NewDesc}
use Rattle.tx_desc.proofs.Moves.{rename_same, rename_gone}
use Rattle.tx_desc.proofs.table.FdTable.plan_rename.Goals as goal

pub returns-then-eq-clause-after : goal.returns-then-eq-clause-after
returns-then-eq-clause-after c =
    let is : get_or c.args.self.now c.args.target None ≡ Some c.args.d.0 = search rules in
    rename_same c.args.d.0 c.args.descs.now c.requires.named
    ∙ ap (λ (y : Option ℕ). changed_at (with_fewer 1) y (changed_at (with_more 1) (Some c.args.d.0) c.args.descs.now)) (sym is)

pub returns-clause-gone : goal.returns-clause-gone
returns-clause-gone c =
    let mid = set c.args.descs.now c.args.d.0 c.raised.result in
    let old = c.get-old.result in
    subst (λ (g : Option Given). IsGone g c.args.descs.now (put_descs (listed_desc c.given_up-left.result.0) mid)) (sym c.given_up-left.ensures.given)
    (subst (λ (l : Option NewDesc). IsGone (option_map (given_fewer c.args.descs.now) old) c.args.descs.now (put_descs (listed_desc l) mid)) (sym c.given_up-left.ensures.desc)
    (rename_gone c.args.d.0 old c.raised.result c.args.descs.now c.get-old.ensures c.requires.left))
