use Rattle.tx_picture.proofs.Boxes.{ended_have_no_members, joiners_are_members, members_change}
use Rattle.tx_picture.proofs.ExcerptBoxes.{excerpts_begin_with_members, excerpts_end_with_members}
use Rattle.tx_picture.proofs.OpenBoxes.{open_boxes_are_of_members}
use Rattle.tx_picture.proofs.laws.boxes_begin_and_end.Goals as goal

pub returns-clause-changes : goal.returns-clause-changes
returns-clause-changes c = members_change c.step_by_step.ensures.fits c.footprints.ensures.members

pub returns-clause-joined : goal.returns-clause-joined
returns-clause-joined c = joiners_are_members

pub returns-clause-ended : goal.returns-clause-ended
returns-clause-ended c = ended_have_no_members

pub returns-clause-boxes : goal.returns-clause-boxes
returns-clause-boxes c =
    open_boxes_are_of_members c.next_view.ensures.history c.next_view.ensures.sound (members_change c.step_by_step.ensures.fits c.footprints.ensures.members)

pub returns-clause-begun : goal.returns-clause-begun
returns-clause-begun c = excerpts_begin_with_members (returns-clause-boxes c)

pub returns-clause-left : goal.returns-clause-left
returns-clause-left c = excerpts_end_with_members (returns-clause-boxes c)
