-- What a text of any version means, by its kind.
use Rattle.std.specs.Prelude.{ℕ, List}
use Rattle.tx_translate.specs.MeantPrograms.{IsMeantProgram}
use Rattle.tx_translate.specs.MeantSchedules.{MeansSchedule}
use Rattle.tx_translate.specs.MeantWalks.{MeansWalk}
use Rattle.tx_translate.specs.declared.texts.Text.{Text}
use Rattle.tx_translate.specs.declared.texts.Text.TheVariants.{Schedule, Walk, Program}

-- the text means that
abbrev pub MeansText : List ℕ → Text → Type 0
MeansText text (Schedule schedule) = MeansSchedule text schedule
MeansText text (Walk walk) = MeansWalk text walk
MeansText text (Program program) = IsMeantProgram text program
