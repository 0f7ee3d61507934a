-- The laws that the proof of a moment uses.
use Rattle.std.specs.Prelude.{List}
use Rattle.tx_base.specs.declared.steps.Accepted.{Accepted}
use Rattle.tx_model.specs.State.{State}
use Rattle.tx_model.specs.Answer.{Lawful}
use Rattle.tx_model.specs.History.{nobody, table_of, without}
use Rattle.tx_laws.specs.LawsOfEvents.{EffectIsLocal, ObjectsAreLocal, ReplyIsLocal, ElsewhereIsSame, WritesStayInObjects, OthersGetSendsAlone}
use Rattle.tx_laws.specs.Laws.{LawfulViewIsSound}
use Rattle.tx_laws.specs.LawsOfOthers.{HistoriesAgree, EntriesFit, ObjectsOfOthersApart, AnswersWithoutOthers, SameEventKeeps}
use Rattle.tx_laws.specs.WellFormed.{IsWellFormed}
use Rattle.tx_laws.specs.WellFormedTable.{HoldsNothing, IsWellFormedWith}
use Rattle.tx_moment.specs.Unseen.{UnseenSignalsStay, UnseenObjectsStay, UnseenRepliesStay}

-- the laws of single events that it uses
pub record EventLaws : Type 0 where
  pub effects : EffectIsLocal
  pub objects : ObjectsAreLocal
  pub replies : ReplyIsLocal
  pub elsewhere : ElsewhereIsSame
  pub writes : WritesStayInObjects
  pub sends : OthersGetSendsAlone
  pub keeps : SameEventKeeps
  pub unseen_signals : UnseenSignalsStay
  pub unseen_objects : UnseenObjectsStay
  pub unseen_replies : UnseenRepliesStay

-- and those of histories and their views
pub record MomentLaws : Type 0 where
  pub events : EventLaws
  pub fit : EntriesFit
  pub objects : ObjectsOfOthersApart
  pub answers : AnswersWithoutOthers
  pub agree : HistoriesAgree
  pub sound : LawfulViewIsSound
  pub table : (start : State) (history : List Accepted) → IsWellFormed start → HoldsNothing start
      → Lawful start history
      → IsWellFormedWith (table_of start history) (without start nobody history)
