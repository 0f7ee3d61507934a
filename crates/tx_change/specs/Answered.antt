-- An answer apart from the other changes.
use Rattle.std.specs.Prelude.{List, [], ◌∷◌, Option, Some, None}
use Rattle.tx_change.specs.declared.answered.Answered.{Answered}
use Rattle.tx_change.specs.declared.change.Change.{Change}
use Rattle.tx_change.specs.declared.change.Change.TheVariants.{Part}
use Rattle.tx_proc.specs.declared.proc.Part.TheVariants.{Answer}

abbrev pub change_of : Answered → Change
change_of answered = Part answered.pid (Answer answered.answer)

-- the change, if there is one
abbrev pub answered : Option Answered → List Change
answered None = []
answered (Some newest) = change_of newest ∷ []
