-- The laws of processes, of pipes and of names that exchanges need.
use Rattle.tx_desc.specs.Laws.{RoomForName, RoomForNames}
use Rattle.tx_pipe.specs.Laws.{BackTwice, FrontTwice}
use Rattle.tx_proc.specs.Laws.{Commute, ExchangesBack, NothingElse, TwiceIsNothing}

pub record PartLaws : Type 0 where
  pub back : ExchangesBack
  pub twice : TwiceIsNothing
  pub others : NothingElse
  pub either : Commute
  pub front : FrontTwice
  pub behind : BackTwice
  pub rooms : RoomForNames
  pub room : RoomForName
