-- The texts that a picture is drawn of.
use Rattle.std.specs.Prelude.{List}
use Rattle.tx_base.specs.declared.steps.Step.{Step}
use Rattle.tx_lines.specs.Schedule.{schedule_text, IsFaultOf, IsSchedule}
use Rattle.tx_lines.specs.declared.read.header.Header.{Header}
use Rattle.tx_picture.specs.Captions.{captioned_in}
use Rattle.tx_picture.specs.Excerpts.{drawing_in}
use Rattle.tx_picture.specs.Pictures.{picture_of}
use Rattle.tx_picture.specs.declared.excerpts.Excerpt.{Excerpt}
use Rattle.tx_translate.specs.Written.{Notes}
use Rattle.tx_script.specs.Grammars.{Grammar}

-- a header and steps, as those that are replayed, answered by the picture of an excerpt of them,
-- with what their author wrote
unfoldable pub pictures : Excerpt → Notes → Grammar (Header × List Step)
pictures excerpt notes = record {
  IsGood = λ spelled. IsSchedule spelled.0 spelled.1;
  text = λ spelled. schedule_text spelled.0 spelled.1;
  IsFault = IsFaultOf;
  answer =
      λ spelled.
      picture_of (captioned_in notes spelled.0 spelled.1)
      (drawing_in excerpt spelled.0 spelled.1);
}
