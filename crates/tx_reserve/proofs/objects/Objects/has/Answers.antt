use Rattle.std.proofs.Common.{◌∙◌}
use Rattle.tx_reserve.specs.Objects.{object_of}
use Rattle.tx_reserve.proofs.Members.{in_by_place, not_in}
use Rattle.tx_reserve.proofs.objects.Objects.has.Goals as goal

pub returns-in-Some : goal.returns-in-Some
returns-in-Some c = c.has_place.ensures ∙ in_by_place c.args.self.now (object_of c.args.object) c.in-Some.place c.in-Some.ensures.small c.in-Some.ensures.place

pub returns-in-None : goal.returns-in-None
returns-in-None c = not_in c.args.self.now (object_of c.args.object) c.in-None.ensures.none
