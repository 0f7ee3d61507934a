use Rattle.std.proofs.Common.{[], ap, ◌∙◌}
use Rattle.tx_script.proofs.Reported.{after_nothing}
use Rattle.tx_picture.specs.Drawings.{drawn_from, first_drawn}
use Rattle.tx_picture.specs.Drawn.{Drawn}
use Rattle.tx_script.specs.Report.{start_state}
use Rattle.tx_picture.proofs.walk.draw.Goals as goal

pub returns-clause-drawn : goal.returns-clause-drawn
returns-clause-drawn c =
    let start = start_state c.args.header in
    let booted = after_nothing start c.in_ok-machine.machine c.in_ok-machine.ensures.view in
    c.in_ok-draw_steps.ensures.drawn start [] booted
    ∙ ap (λ (first : Drawn). drawn_from start [] c.args.steps.now 1 first) (c.in_ok-drawing.ensures ∙ ap first_drawn c.in_ok-machine.ensures.view)
