use Rattle.tx_check.proofs.SaidWords.{first_byte}
use Rattle.tx_check.proofs.placed.of_first_word.Goals as goal

pub of_first_byte-requires : goal.of_first_byte-requires
of_first_byte-requires c = first_byte c.args.line.now c.in-len1-up.len_at_least
