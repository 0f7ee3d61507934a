-- A text that is too long is answered by that.
use Rattle.std.proofs.Common.{◌<◌, ℕ, List, length, inl, refl}
use Rattle.tx_lines.specs.declared.faults.Fault.TheVariants.{TooLong}
use Rattle.tx_script.specs.Grammars.{Grammar}
use Rattle.tx_answers.specs.Faults.{ReportsFault}
use Rattle.tx_answers.specs.Texts.{IsAnswered}
use Rattle.tx_answers.specs.declared.answers.Answer.{Answer}
use Rattle.tx_answers.specs.declared.answers.Answer.TheVariants.{NoMemory, Read, Unread}

pub too_long : {A : Type 0} (G : Grammar A) (text : List ℕ) (answer : Answer) → 1048576 < length text → ReportsFault (TooLong 0) answer → IsAnswered G text answer
too_long G text (Read report) long reports = absurd reports
too_long G text (Unread words) long reports = (TooLong 0, inl (long, refl), reports)
too_long G text NoMemory long reports = tt
