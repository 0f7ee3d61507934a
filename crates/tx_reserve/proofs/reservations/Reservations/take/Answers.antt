use Rattle.std.proofs.Common.{sym, ap, not, subst, ◌∙◌}
use Rattle.tx_reserve.specs.Objects.{object_of}
use Rattle.tx_reserve.specs.declared.objects.Objects.{Objects}
use Rattle.tx_reserve.proofs.Owned.{AreFresh, fresh_more, fresh_same, gave_one, owned_before}
use Rattle.tx_reserve.proofs.reservations.Reservations.take.Goals as goal
use Rattle.tx_reserve.proofs.reservations.Reservations.take.Goals.{then-is_none, else-is_none}

pub loop-object-preserved : goal.loop-object-preserved
loop-object-preserved c =
    let x = object_of c.in-Some.object in
    let gave = c.loop-object.invariant.0 in
    let fresh = c.loop-object.invariant.1 in
    let out = c.in-Some.ensures.some in
    let P : Objects → Type 0 = λ more. AreFresh c.args.objects.now c.pop.new.self more c.args.self.now in (
      gave_one x gave out c.set_owner.ensures,
      elim c.if-is_none.branch [
        | then-is_none w ↦ subst P (sym w.fresh-is) (fresh_more x fresh out (gave.within x out.was_in)
            (owned_before x gave out c.owner.result c.owner.ensures (c.is_none.ensures ∙ ap not w.if-is_none.true)) w.insert.ensures)
        | else-is_none w ↦ subst P (sym w.fresh-is) (fresh_same x fresh out
            (owned_before x gave out c.owner.result c.owner.ensures (c.is_none.ensures ∙ ap not w.if-is_none.false)))
      ],
    )
