use Rattle.tx_check.proofs.ReadOrFaulty.{none_has_two, none_is_both}
use Rattle.tx_check.proofs.laws.a_text_is_read_or_has_one_fault.Goals as goal

pub returns-clause-never_both : goal.returns-clause-never_both
returns-clause-never_both c = none_is_both

pub returns-clause-one_fault : goal.returns-clause-one_fault
returns-clause-one_fault c = none_has_two
