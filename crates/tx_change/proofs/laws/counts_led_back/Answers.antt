use Rattle.tx_change.proofs.CountsBack.{counts_of_names, counts_led_back, back_elsewhere}
use Rattle.tx_change.proofs.laws.counts_led_back.Goals as goal

pub returns-clause-names : goal.returns-clause-names
returns-clause-names c = counts_of_names

pub returns-clause-back : goal.returns-clause-back
returns-clause-back c = counts_led_back

pub returns-clause-elsewhere : goal.returns-clause-elsewhere
returns-clause-elsewhere c = back_elsewhere
