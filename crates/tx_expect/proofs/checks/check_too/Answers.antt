use Rattle.std.proofs.Common.{subst, sym}
use Rattle.tx_check.specs.Heard.{hears, written_part}
use Rattle.tx_expect.specs.Checks.{SaysToo}
use Rattle.tx_expect.proofs.checks.check_too.Goals as goal

pub returns-in_err-write_whole : goal.returns-in_err-write_whole
returns-in_err-write_whole g c =
    let report = subst (λ text. SaysToo text c.as_bytes-bytes.result.now) c.as_slice.ensures.value
    (subst (SaysToo c.as_slice.result.now) (sym c.as_bytes-bytes.ensures.value) c.in_ok-report.ensures) in
    let heard = hears SaysToo _ _ c.in_ok-text.text.items c.as_bytes-bytes.result.now c.in_ok-text.ensures.0 c.in_ok-text.ensures.1 c.in_ok-text.ensures.2 report in
    written_part SaysToo _ _ _ _ _ _ _ _ _ _ c.from_residual-in_err-write_whole.ensures.1 heard (c.in_err-write_whole.ensures)

pub returns : goal.returns
returns g c =
    let report = subst (λ text. SaysToo text c.as_bytes-bytes.result.now) c.as_slice.ensures.value
    (subst (SaysToo c.as_slice.result.now) (sym c.as_bytes-bytes.ensures.value) c.in_ok-report.ensures) in
    let heard = hears SaysToo _ _ c.in_ok-text.text.items c.as_bytes-bytes.result.now c.in_ok-text.ensures.0 c.in_ok-text.ensures.1 c.in_ok-text.ensures.2 report in
    let writes = c.in_ok-write_whole.ensures in (
      record { report = c.as_bytes-bytes.result.now; hears = heard; answer = c.is_empty.ensures; bytes = writes.0 },
      c.in_ok-text.ensures.3,
      writes.1,
    )
