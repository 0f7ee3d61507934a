use Rattle.std.proofs.Common.{Some}
use Rattle.tx_check.proofs.NearNames.{without_edits}
use Rattle.tx_check.specs.Near.{near}
use Rattle.tx_check.proofs.near.named.Goals as goal

pub returns-in-Some : goal.returns-in-Some
returns-in-Some c = λ word names is. without_edits word names 5 (Some (near (c.in-Some.name, c.in-Some._edits))) (rw c.in-Some.is at is)

pub returns-in-None : goal.returns-in-None
returns-in-None c = λ word names is. rw c.in-None.is at is
