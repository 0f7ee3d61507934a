use Rattle.std.proofs.Common.{refl, ◌-◌, Bool, Some, sym, subst, ◌∙◌}
use Rattle.std.proofs.lemmas.Result.{err_from_is_err_and}
use Rattle.tx_base.specs.Slots.{with_slot}
use Rattle.tx_content.proofs.Insides.{answers_inside, made_inside, put_back, StepsIn}
use Rattle.tx_content.proofs.MadeAgain.{after_err}
use Rattle.tx_content.proofs.Others.{has_own}
use Rattle.tx_content.proofs.Planned.{refuses_inside}
use Rattle.tx_content.specs.Inverses.{with_txn}
use Rattle.tx_content.specs.Insides.{event_inside, RefusesIn}
use Rattle.tx_content.specs.Made.{IsMade, RefusesStep}
use Rattle.tx_content.specs.Progresses.{role_of}
use Rattle.tx_content.specs.declared.content.Content.{Content}
use Rattle.tx_content.specs.declared.inverse.Inverse.TheVariants.{Inside}
use Rattle.tx_txn.specs.Txns.{Owns}
use Rattle.tx_txn.specs.declared.txn.Txn.{Txn}
use Rattle.tx_content.proofs.content.Content.make_inside.Goals as goal

pub returns-in_err-planned-clause-refused : goal.returns-in_err-planned-clause-refused
returns-in_err-planned-clause-refused c =
    let up = err_from_is_err_and c.from_residual.result c.from_residual.ensures.1 in
    rw up.1 (subst (RefusesStep c.args.self.now (event_inside c.args.self.now c.args.member c.args.act.now)) (sym up.2)
    (refuses_inside c.args.self.now c.args.member.pid c.args.member.starter c.args.act.now c.value_mut-boxed.result.now c.in_err-planned.field-0.0 c.requires.shaped c.value_mut-boxed.ensures.value
    (subst (λ (t : Txn). RefusesIn c.args.self.now.parts c.args.self.now.marks c.args.member.pid c.args.act.now t c.in_err-planned.field-0.0) c.deref_mut-txn.ensures.value c.in_err-planned.ensures.refused)))

pub returns-in_err-planned-clause-err : goal.returns-in_err-planned-clause-err
returns-in_err-planned-clause-err c =
    let old : Content = c.args.self.now in
    let s = c.args.member.starter.0 in
    after_err c.from_residual.result (λ j. record {
      parts = c.in_err-planned.ensures.parts j;
      marks = old.marks;
      owners = old.owners;
      txns = put_back old.txns (with_slot old.txns s (Some (with_txn c.value_mut-boxed.result.now c.make_in.new.txn))) s c.value_mut-boxed.result.now c.make_in.new.txn c.value_mut-boxed.ensures.value
          (c.in_err-planned.ensures.txn ∙ c.deref_mut-txn.ensures.value)
          refl j;
    })

pub reserve-objects-requires : goal.reserve-objects-requires
reserve-objects-requires c =
    subst (λ (t : Txn). Owns t.starter.0 c.args.self.now.owners t.objects) (sym c.in_ok-planned.ensures.made.rest)
    (subst (λ (t : Txn). Owns t.starter.0 c.args.self.now.owners t.objects) (sym c.deref_mut-txn.ensures.value)
    (has_own c.args.self.now c.args.member.starter.0 c.value_mut-boxed.result.now.txn.value
    (c.requires.shaped.each c.args.member.starter.0 c.value_mut-boxed.result.now c.value_mut-boxed.ensures.value)))

abbrev after_it : (c : goal.After-put_inverse) → Content
after_it c = record {
  parts = c.make_in.new.parts;
  marks = c.mark_progress-marked.new.marks;
  owners = c.reserve-objects.new.owners;
  txns = with_slot c.args.self.now.txns c.args.member.starter.0 (Some (with_txn c.value_mut-boxed.result.now c.reserve-objects.new.self));
}

steps_in : (c : goal.After-put_inverse) → StepsIn c.args.self.now.parts c.make_in.new.parts c.args.self.now.marks c.args.self.now.owners c.reserve-objects.new.owners c.args.member.pid c.args.act.now c.args.footprint.now
    c.value_mut-boxed.result.now.txn.value c.reserve-objects.new.self c.in_ok-planned.planned (c.len.result - c.len-from.result) c.reserve-objects.result
steps_in c =
    subst (λ (t : Txn). StepsIn c.args.self.now.parts c.make_in.new.parts c.args.self.now.marks c.args.self.now.owners c.reserve-objects.new.owners c.args.member.pid c.args.act.now c.args.footprint.now
    t c.reserve-objects.new.self c.in_ok-planned.planned (c.len.result - c.len-from.result) c.reserve-objects.result) c.deref_mut-txn.ensures.value (record {
      middle = c.make_in.new.txn;
      makes = c.in_ok-planned.ensures.made;
      counted = λ j. c.len.ensures j - c.len-from.ensures j;
      had = c.reserve-objects.ensures.before;
      owns = c.reserve-objects.ensures.owners;
      sized = c.sized.ensures;
      objects = c.reserve-objects.ensures.objects;
      rest = c.reserve-objects.ensures.rest;
    })

pub returns-clause-made : goal.returns-clause-made
returns-clause-made c = λ fits.
    let old : Content = c.args.self.now in
    let m = c.args.member in
    rw (c.put_inverse.ensures.content, c.put_inverse.ensures.place) (subst (λ (held : Bool). IsMade old (role_of m) (event_inside old m c.args.act.now) m.pid.0 (after_it c)
    (Inside (record { starter = m.starter; count = c.len.result - c.len-from.result; objects = c.reserve-objects.result; marked = c.mark_progress-marked.result }) held)) (sym c.hands_out-held.ensures)
    (made_inside c.laws.ensures old (after_it c) m.pid m.starter c.args.act.now m.progress c.args.footprint.now c.value_mut-boxed.result.now c.reserve-objects.new.self c.in_ok-planned.planned
    (c.len.result - c.len-from.result) c.reserve-objects.result c.mark_progress-marked.result c.requires.shaped c.requires.kept c.value_mut-boxed.ensures.value (steps_in c)
    c.mark_progress-marked.ensures.marks c.mark_progress-marked.ensures.length c.mark_progress-marked.ensures.back c.mark_progress-marked.ensures.mark
    refl c.requires.footprint c.requires.free fits))

pub returns-clause-answer : goal.returns-clause-answer
returns-clause-answer c =
    let old : Content = c.args.self.now in
    let m = c.args.member in
    rw c.put_inverse.ensures.content (answers_inside c.laws.ensures old (after_it c) m.pid m.starter c.args.act.now m.progress c.args.footprint.now c.value_mut-boxed.result.now c.reserve-objects.new.self c.in_ok-planned.planned
    (c.len.result - c.len-from.result) c.reserve-objects.result c.mark_progress-marked.result c.requires.shaped c.requires.kept c.value_mut-boxed.ensures.value (steps_in c)
    c.mark_progress-marked.ensures.marks c.mark_progress-marked.ensures.length c.mark_progress-marked.ensures.back c.mark_progress-marked.ensures.mark
    refl c.requires.footprint c.requires.free)
