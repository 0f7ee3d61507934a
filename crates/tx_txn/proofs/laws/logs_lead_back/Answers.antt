use Rattle.tx_txn.proofs.OfLogs.{step_leads_back, log_leads_back, log_goes_forward}
use Rattle.tx_txn.proofs.laws.logs_lead_back.Goals as goal

pub returns-clause-step : goal.returns-clause-step
returns-clause-step c = step_leads_back c.log_laws.ensures

pub returns-clause-abort : goal.returns-clause-abort
returns-clause-abort c = log_leads_back c.log_laws.ensures

pub returns-clause-forward : goal.returns-clause-forward
returns-clause-forward c = log_goes_forward c.log_laws.ensures
