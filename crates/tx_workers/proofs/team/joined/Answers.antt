use Rattle.std.proofs.Common.{rules, ◌≡◌, ◌+◌, ◌-◌, [], ◌∷◌, ◌++◌, vec_len}
use Rattle.tx_workers.proofs.Crews.{made_more, team_more}
use Rattle.tx_workers.specs.Teams.{made, IsTeam}
use Rattle.tx_workers.proofs.team.joined.Goals as goal

pub returns-clause-team : goal.returns-clause-team
returns-clause-team g c =
    let team = c.in_ok-team.team in
    let post = c.args.post in
    let done = c.args.done in
    let others : IsTeam (post.number - 1) post.turns team.runners.items team.share.parts team.share.amount = search rules in
    let pushed : c.push.new.self.items ≡ team.runners.items ++ done.runner ∷ [] = search rules in
    rw (pushed, c.merge.ensures.parts, c.merge.ensures.amount) (team_more post.number post.turns team.runners.items done.runner team.share.parts team.share.amount done.share.parts done.share.amount c.requires.one others c.requires.done)

pub returns-clause-made : goal.returns-clause-made
returns-clause-made g c =
    let team = c.in_ok-team.team in
    let done = c.args.done in
    let sum : made (team.runners.items ++ done.runner ∷ []) ≡ made team.runners.items + vec_len done.runner.made = made_more team.runners.items done.runner in
    search rules
