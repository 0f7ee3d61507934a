-- The laws that the proofs of sessions use.
use Rattle.tx_moment.specs.Moments.{BootedHistoriesHaveMoments}
use Rattle.tx_laws.specs.Laws.{AcceptedStepsFit, LawfulViewIsSound, NextIsSound, PrefixesAgree}

-- the view of a lawful history is sound, and so is the next one by an accepted step, which fits its
-- role; the surviving steps of a lawful history agree with the plain kernel; and what it commits
-- may be made at one moment
pub record SessionLaws : Type 0 where
  pub sound : LawfulViewIsSound
  pub next : NextIsSound
  pub fits : AcceptedStepsFit
  pub agree : PrefixesAgree
  pub moments : BootedHistoriesHaveMoments
