-- A step whose role was found, and in whose way nobody is.
use Rattle.std.proofs.Common.{◌≡◌, Option, None, option_map, sym, ap, ◌∙◌}
use Rattle.tx_base.specs.declared.names.Pid.{Pid}
use Rattle.tx_content.specs.Content.{view_of}
use Rattle.tx_content.specs.declared.content.Content.{Content}
use Rattle.tx_model.specs.View.{event_on, starter_in_way, role_on}
use Rattle.tx_reserve.specs.Reservations.{number_of}
use Rattle.tx_step.specs.Early.{early_refusal}
use Rattle.tx_step.specs.Requests.{step_of}
use Rattle.tx_step.specs.Roles.{role_as}
use Rattle.tx_step.specs.Through.{IsLetThrough}
use Rattle.tx_step.specs.declared.request.Request.{Request}
use Rattle.tx_step.specs.declared.roles.StepRole.{StepRole}

pub let_through : (k : Content) (pid : Pid) (request : Request) (found role : StepRole) (way : Option Pid) → early_refusal (view_of k) pid.0 (step_of pid request) ≡ None → way ≡ None →
    option_map number_of way ≡ starter_in_way (view_of k) (event_on (view_of k) (step_of pid request)) → role_as pid.0 found ≡ role_on (view_of k) (step_of pid request) → found ≡ role → IsLetThrough k pid request role
let_through k pid request found role way early none clear is same = record {
  early = early;
  clear = sym clear ∙ ap (option_map number_of) none;
  is = ap (role_as pid.0) (sym same) ∙ is;
}
