-- The ids of a process, as the definitions have them.
use Rattle.tx_model.specs.State.{Ids}
use Rattle.tx_cred.specs.declared.cred.Cred.{Cred}

abbrev pub ids_of : Cred → Ids
ids_of cred = record {
  real_user = cred.real_user;
  effective_user = cred.effective_user;
  saved_user = cred.saved_user;
  real_group = cred.real_group;
  effective_group = cred.effective_group;
  saved_group = cred.saved_group;
}
