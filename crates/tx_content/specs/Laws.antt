-- The laws that the proofs of contents use.
use Rattle.tx_change.specs.CountsBack.{BackElsewhere, CountsLedBack, CountsOfNames}
use Rattle.tx_change.specs.Laws.{ApplyThenRevert, ChangesComeBack, ChangesState, ExchangedStayNamed, ExchangesBack, NamedAppended, PlacesStayBack, RevertedStayNamed, RevertThenApply, SizesStay, SizesStayBack, UndoneAppended}
use Rattle.tx_change.specs.Stacks.{LoggedBackAndForward, MovedAreThere, MovedBackAndForward, MovedIsOnTop, RestIsBelow}
use Rattle.tx_laws.specs.LawsOfEvents.{MembersSendToMembers}
use Rattle.tx_laws.specs.LawsOfTwoStates.{PresentIsNow}
use Rattle.tx_reserve.specs.Laws.{OwnersAreExtensional}
use Rattle.tx_txn.specs.Laws.{EventIsLogged, EventIsMade, EventLeavesRest, LogGoesForward, LogLeadsBack, StepLeadsBack}

pub record LiveLaws : Type 0 where
  pub sizes : SizesStay
  pub sizes_back : SizesStayBack
  pub undone : UndoneAppended
  pub places_back : PlacesStayBack
  pub change : ChangesState
  pub come_back : ChangesComeBack
  pub apply_again : RevertThenApply
  pub reverted : RevertedStayNamed
  pub names : CountsOfNames
  pub led_back : CountsLedBack
  pub elsewhere : BackElsewhere
  pub to_members : MembersSendToMembers
  pub present : PresentIsNow
  pub named : NamedAppended
  pub made : EventIsMade
  pub logged : EventIsLogged
  pub rest : EventLeavesRest
  pub step : StepLeadsBack
  pub abort : LogLeadsBack
  pub forward : LogGoesForward
  pub told : OwnersAreExtensional
  pub revert_again : ApplyThenRevert
  pub exchange_again : ExchangesBack
  pub on_top : MovedIsOnTop
  pub below : RestIsBelow
  pub moved : MovedAreThere
  pub moved_parts : MovedBackAndForward
  pub moved_log : LoggedBackAndForward
  pub exchanged : ExchangedStayNamed
