-- The parts of a step's line.
use Rattle.std.proofs.Common.{◌≡◌, ℕ, ◌<◌, ◌^◌, List, ◌∷◌, ◌++◌, Option, Some, codes, get_or, ap, refl, ◌∙◌, arith}
use Rattle.std.specs.Fmt.{decimal}
use Rattle.tx_base.specs.declared.names.Pid.{Pid}
use Rattle.tx_base.specs.declared.names.Signo.{Signo}
use Rattle.tx_base.specs.declared.steps.Call.{Call}
use Rattle.tx_base.specs.declared.steps.Step.{Step}
use Rattle.tx_base.specs.declared.steps.Step.TheVariants as steps
use Rattle.tx_lines.specs.Calls.{call_text, FitsCall}
use Rattle.tx_lines.specs.Lines.{step_text, FitsStep, IsCallOf, IsOf}
use Rattle.tx_lines.specs.declared.read.header.Version.{Version}
use Rattle.tx_lines.proofs.Digits.{spelled_length}
use Rattle.tx_lines.proofs.Leading.{digit_before}

-- after a process number it is the step of that process
pub steps_of : (version : Version) (s : Step) → FitsStep s → IsOf version s → (line rest : List ℕ) (pid : Pid) (read : Option Step) → pid.0 < 2 ^ 16 → line ≡ decimal pid.0 ++ 32 ∷ rest → line ≡ step_text s
    → ((p : Pid) (left : List ℕ) → p.0 < 2 ^ 16 → line ≡ decimal p.0 ++ 32 ∷ left → (pid ≡ p) × (rest ≡ left))
    → ((c : Call) → FitsCall c → IsCallOf version c → rest ≡ call_text c → read ≡ Some (steps.Call pid c))
    → ((signo : Signo) → signo.0 < 2 ^ 8 → rest ≡ codes "deliver " ++ decimal signo.0 → read ≡ Some (steps.Deliver pid signo)) → read ≡ Some s
steps_of version (steps.Call p call) fits within line rest pid read small found e same calls deliveries =
    let parts = same p (call_text call) fits.0 e in
    calls call fits.1 within parts.1 ∙ ap (λ (q : Pid). Some (steps.Call q call)) parts.0
steps_of version (steps.Deliver p signo) fits within line rest pid read small found e same calls deliveries =
    let parts = same p (codes "deliver " ++ decimal signo.0) fits.0 e in
    deliveries signo fits.1 parts.1 ∙ ap (λ (q : Pid). Some (steps.Deliver q signo)) parts.0
steps_of version (steps.KernelAbort starter) fits within line rest pid read small found e same calls deliveries =
    let large : pid.0 < 10 ^ 19 = omega arith in
    let digit = digit_before line pid.0 rest large found 0 (spelled_length (decimal pid.0) pid.0 large refl).0 in
    let front : get_or line 0 0 ≡ 107 = ap (λ (bytes : List ℕ). get_or bytes 0 0) e in
    absurd (omega (arith, front, digit.1))
