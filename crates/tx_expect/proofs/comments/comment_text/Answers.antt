use Rattle.std.proofs.Common.{◌∙◌, ap, refl}
use Rattle.std.proofs.lemmas.Str.Ascii.{trim_ascii_is}
use Rattle.tx_expect.specs.Comments.{trimmed, without_start}
use Rattle.tx_expect.proofs.comments.comment_text.Goals as goal

pub returns : goal.returns
returns c =
    trim_ascii_is c.before_mark.result.now c.trim_ascii.result.now (without_start c.before_mark.result.now) refl c.trim_ascii.ensures.value ∙ ap trimmed c.before_mark.ensures
