use Rattle.std.proofs.Common.{◌≡◌, IfOk, string_bytes, subst}
use Rattle.tx_picture.proofs.Answered.{answered}
use Rattle.tx_picture.specs.Captions.{captioned_in}
use Rattle.tx_picture.specs.Excerpts.{drawing_in}
use Rattle.tx_picture.specs.Grammars.{pictures}
use Rattle.tx_picture.specs.Pictures.{picture_of}
use Rattle.tx_translate.specs.Written.{notes_of, Notes}
use Rattle.tx_picture.proofs.commands.picture_text.Goals as goal

pub returns-clause-answers : goal.returns-clause-answers
unfolding pictures
returns-clause-answers c =
    let header = c.in_ok-schedule.schedule.header in
    let steps = c.in_ok-schedule.schedule.steps.items in
    let drawn = drawing_in c.args.excerpt header steps in
    answered (pictures c.args.excerpt (notes_of c.args.text.now)) c.args.text.now (header, steps) c.print_picture.result c.in_ok-schedule.ensures.0 c.in_ok-schedule.ensures.1
    (subst (λ (notes : Notes). IfOk c.print_picture.result (λ text. string_bytes text ≡ picture_of (captioned_in notes header steps) drawn)) c.in_ok-written.ensures c.print_picture.ensures.text)
    c.print_picture.ensures.fault
