-- A step that nothing refuses before its plan.
use Rattle.std.specs.Prelude.{◌≡◌, None}
use Rattle.tx_base.specs.declared.names.Pid.{Pid}
use Rattle.tx_step.specs.Early.{early_refusal}
use Rattle.tx_step.specs.Roles.{role_as}
use Rattle.tx_step.specs.declared.roles.StepRole.{StepRole}
use Rattle.tx_content.specs.Content.{view_of}
use Rattle.tx_content.specs.declared.content.Content.{Content}
use Rattle.tx_model.specs.View.{event_on, starter_in_way, role_on}
use Rattle.tx_step.specs.Requests.{step_of}
use Rattle.tx_step.specs.declared.request.Request.{Request}

-- what is requested of the process is refused for no early reason, nobody is in its way, and this
-- is its role
pub record IsLetThrough (k : Content) (pid : Pid) (request : Request) (role : StepRole)
    : Type 0 where
  pub early : early_refusal (view_of k) pid.0 (step_of pid request) ≡ None
  pub clear : starter_in_way (view_of k) (event_on (view_of k) (step_of pid request)) ≡ None
  pub is : role_as pid.0 role ≡ role_on (view_of k) (step_of pid request)
