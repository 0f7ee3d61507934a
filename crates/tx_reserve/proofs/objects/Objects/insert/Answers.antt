use Rattle.tx_reserve.specs.Objects.{object_of}
use Rattle.tx_reserve.proofs.Members.{put_in, none_put}
use Rattle.tx_reserve.proofs.objects.Objects.insert.Goals as goal

pub returns-in-Some : goal.returns-in-Some
returns-in-Some c = λ o. put_in c.args.self.now c.put_place.new.self (object_of c.args.object) o c.in-Some.place c.in-Some.ensures.small c.in-Some.ensures.place c.put_place.ensures

pub returns-in_default : goal.returns-in_default
returns-in_default c = λ o. none_put c.args.self.now (object_of c.args.object) o c.in_default.ensures.none
