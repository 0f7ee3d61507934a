use Rattle.tx_shell.proofs.CutLines.{last_part, more_part, no_more, none_yet}
use Rattle.tx_shell.proofs.sessions.taking.take_line_from.Goals as goal

pub loop-turn-init : goal.loop-turn-init
loop-turn-init g c = (c.requires, none_yet _ _ c.requires)

pub returns-in-Ended-clause-takes : goal.returns-in-Ended-clause-takes
returns-in-Ended-clause-takes g c =
    let takes = rw c.in-Ended.is at c.in_ok-take_part.ensures.takes in
    last_part _ _ _ _ _ _ c.loop-turn.invariant.1 takes

pub returns-in-Nothing-clause-takes : goal.returns-in-Nothing-clause-takes
returns-in-Nothing-clause-takes g c =
    let takes = rw c.in-Nothing.is at c.in_ok-take_part.ensures.takes in
    no_more _ _ _ _ _ _ c.loop-turn.invariant.1 takes

pub loop-turn-preserved : goal.loop-turn-preserved
loop-turn-preserved g c =
    let takes = rw c.in-Open.is at c.in_ok-take_part.ensures.takes in
    (c.in_ok-take_part.ensures.most, more_part _ _ _ _ _ _ c.loop-turn.invariant.1 takes)
