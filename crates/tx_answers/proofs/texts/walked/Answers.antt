use Rattle.tx_script.specs.Grammars.{walks}
use Rattle.tx_answers.proofs.TooLong.{too_long}
use Rattle.tx_answers.proofs.texts.walked.Goals as goal

pub returns-then-text-gt-TEXT_BYTES : goal.returns-then-text-gt-TEXT_BYTES
returns-then-text-gt-TEXT_BYTES c = too_long walks c.args.text.now c.unread.result c.if-text-gt-TEXT_BYTES.true c.unread.ensures
