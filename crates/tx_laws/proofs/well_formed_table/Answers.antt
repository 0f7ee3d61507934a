use Rattle.tx_laws.proofs.TableHistory.{start_kept, next_kept, table_kept}
use Rattle.tx_laws.proofs.Undelivered.{answer_listed, history_listed}
use Rattle.tx_laws.proofs.well_formed_table.Goals as goal

pub returns-clause-start : goal.returns-clause-start
returns-clause-start c = start_kept

pub returns-clause-step : goal.returns-clause-step
returns-clause-step c = λ view step sound form kept. next_kept view sound kept form step

pub returns-clause-listed : goal.returns-clause-listed
returns-clause-listed c = λ view step items sound form kept. answer_listed view sound kept form step items

pub returns-clause-history : goal.returns-clause-history
returns-clause-history c = table_kept

pub returns-clause-undelivered : goal.returns-clause-undelivered
returns-clause-undelivered c = history_listed
