use Rattle.std.proofs.Common.{rules, ◌≡◌, ◌+◌, ◌-◌, vec_len}
use Rattle.tx_workers.specs.Services.{IsCrewOf}
use Rattle.tx_workers.specs.Teams.{made, IsTeam}
use Rattle.tx_workers.proofs.Crews.{crew_more_of}
use Rattle.tx_workers.proofs.crew.together.Goals as goal

pub returns-clause-crew : goal.returns-clause-crew
returns-clause-crew g c =
    let post = c.args.post in
    let floor = c.args.floor.now in
    let old = c.in_ok-team.field-0 in
    let team = c.in_ok-team-2.team in
    let crew : IsCrewOf (post.number - 1) post.turns floor.total floor.processes old.team.runners.items old.team.share.parts old.team.share.amount old.station.hand = search rules in
    let more : IsTeam post.number post.turns team.runners.items team.share.parts team.share.amount = search rules in
    let sum : made team.runners.items ≡ made old.team.runners.items + vec_len c.args.served.done.runner.made = search rules in
    crew_more_of post.number post.turns floor.total floor.processes old.team.runners.items team.runners.items _ _ _ _ c.args.served.done.runner _ _ old.station.hand c.args.served.station.hand c.merge.new.station.hand
    c.requires.one crew c.requires.service more sum c.merge.ensures.both (c.merge.ensures.each floor.processes crew.each c.requires.service.back)
