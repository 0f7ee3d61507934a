use Rattle.std.proofs.Common.{◌∙◌, ap, sym, Some, option_map}
use Rattle.tx_shell.specs.Meanings.{bytes_of}
use Rattle.tx_shell.proofs.shell.Shell.answer_meaning.Goals as goal

pub returns-in-Some-clause-answer : goal.returns-in-Some-clause-answer
returns-in-Some-clause-answer c =
    let same = ap Some c.as_bytes.ensures ∙ ap (option_map bytes_of) (sym c.in-Some.is) ∙ c.in_ok-words.ensures in
    rw (sym same) c.answer_meant.ensures.answer
