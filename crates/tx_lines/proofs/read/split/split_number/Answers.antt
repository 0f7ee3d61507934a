use Rattle.std.proofs.Common.{◌≡◌, ◌∙◌, sym, ap, arith, Some, false, true}
use Rattle.std.specs.Prelude.{FitsSigned, pos}
use Rattle.std.specs.Int.{w64}
use Rattle.std.specs.Result.{is_ok, result_ok}
use Rattle.std.proofs.lemmas.Int.{to_z-of_z}
use Rattle.std.proofs.lemmas.Result.{Ok-from_Ok_iff}
use Rattle.tx_lines.proofs.Leading.{number_front}
use Rattle.tx_lines.specs.NumberFacts.{pos_fits}
use Rattle.tx_lines.proofs.read.split.split_number.Goals as goal

pub returns-in_err-ok-in-Some-clause-only : goal.returns-in_err-ok-in-Some-clause-only
returns-in_err-ok-in-Some-clause-only c z rest fits e =
    let front = number_front c.args.line.now c.in-Some.number c.in-Some.rest.now z rest c.in-Some.ensures.fits c.in-Some.ensures.found fits e in
    let same = (c.in-Some.ensures.only front.0 rest (omega (arith, front.1)) front.3).0 in
    let read = Ok-from_Ok_iff c.try_from.result (FitsSigned w64 (pos c.in-Some.number)) (pos c.in-Some.number) c.try_from.ensures (pos_fits c.in-Some.number (omega (arith, front.1, same))) in
    let bad : false ≡ true = c.in_err-ok-in-Some.ensures.variant ∙ ap is_ok read in
    cc

pub returns-in_ok-ok-in-Some-clause-only : goal.returns-in_ok-ok-in-Some-clause-only
returns-in_ok-ok-in-Some-clause-only c z rest fits e =
    let front = number_front c.args.line.now c.in-Some.number c.in-Some.rest.now z rest c.in-Some.ensures.fits c.in-Some.ensures.found fits e in
    let same = c.in-Some.ensures.only front.0 rest (omega (arith, front.1)) front.3 in
    let here = pos_fits c.in-Some.number (omega (arith, front.1, same.0)) in
    let read = Ok-from_Ok_iff c.try_from.result (FitsSigned w64 (pos c.in-Some.number)) (pos c.in-Some.number) c.try_from.ensures here in
    let some : Some c.in_ok-ok-in-Some.field-0 ≡ Some (pos c.in-Some.number) = c.in_ok-ok-in-Some.ensures.value ∙ ap result_ok read in
    let is : c.in_ok-ok-in-Some.field-0 ≡ pos c.in-Some.number = cc in
    let fits' : FitsSigned w64 c.in_ok-ok-in-Some.field-0 = rw is here in
    (to_z-of_z w64 c.in_ok-ok-in-Some.field-0 fits' ∙ is ∙ ap pos same.0 ∙ sym front.2, same.1)
