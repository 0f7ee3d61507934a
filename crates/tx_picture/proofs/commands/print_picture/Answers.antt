use Rattle.std.proofs.Common.{[], List, ap, arith, length, length-drop, subst, sym}
use Rattle.std.proofs.lemmas.List.{length-take}
use Rattle.tx_base.specs.declared.steps.Step.{Step}
use Rattle.tx_picture.proofs.DrawnSteps.{rows_counted}
use Rattle.tx_picture.proofs.PictureFormed.{picture_formed}
use Rattle.tx_picture.specs.Captions.{captioned_as}
use Rattle.tx_picture.specs.Drawings.{first_drawn}
use Rattle.tx_picture.specs.Drawn.{drawn_as, Drawn}
use Rattle.tx_picture.specs.WellFormed.{IsWellFormed}
use Rattle.tx_script.specs.Report.{start_of, start_state}
use Rattle.tx_picture.proofs.commands.print_picture.Goals as goal

pub leave_out-requires : goal.leave_out-requires
leave_out-requires c =
    let header = c.args.schedule.now.header in
    let counted = rows_counted (start_state header) [] c.made-made.result.now 1 (first_drawn (start_of header)) in
    omega (arith, c.before-2.ensures, ap (λ (drawn : Drawn). length drawn.rows) c.in_ok-drawing.ensures.drawn, counted)

pub picture_of-requires : goal.picture_of-requires
picture_of-requires c =
    let header = c.args.schedule.now.header in
    let counted = rows_counted (start_state header) [] c.made-made.result.now 1 (first_drawn (start_of header)) in
    let left = length-drop c.before-2.result c.in_ok-drawing.drawing.rows.items in
    let made = length-take c.args.excerpt.to c.as_slice.result.now in
    omega (
      arith,
      ap (λ (drawn : Drawn). length drawn.rows) c.in_ok-leave_out.ensures,
      left,
      ap (λ (drawn : Drawn). length drawn.rows) c.in_ok-drawing.ensures.drawn,
      counted,
      ap (λ (steps : List Step). length steps) c.made-made.ensures,
      made,
      ap (λ (steps : List Step). length steps) c.as_slice.ensures.value,
      c.requires.few,
    )

pub returns-clause-formed : goal.returns-clause-formed
returns-clause-formed c = subst IsWellFormed (sym c.in_ok-text.ensures) (picture_formed (captioned_as c.in_ok-captions.captions) (drawn_as c.leave_out.new.drawing))
