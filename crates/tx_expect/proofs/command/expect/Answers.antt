use Rattle.std.proofs.Common.{ap, subst, ◌∙◌, sym, Ok}
use Rattle.tx_expect.proofs.ReadAndJudged.{judged, unread, unwritten, whole_of}
use Rattle.tx_expect.specs.Outcomes.{ExpectsText}
use Rattle.tx_expect.proofs.command.expect.Goals as goal

pub returns-in_err-text : goal.returns-in_err-text
returns-in_err-text g c = unread _ _ _ _ _ _ _ _ c.from_residual.ensures.1 c.in_err-text.ensures

pub returns-in_err-write_whole : goal.returns-in_err-write_whole
returns-in_err-write_whole g c =
    let text = c.in_ok-text.text.items in
    let whole = whole_of _ _ text c.in_ok-text.ensures.0 c.in_ok-text.ensures.1 in
    let found = subst (λ read. ExpectsText read (Ok c.in_ok-outcome.outcome)) c.as_slice.ensures.value c.in_ok-outcome.ensures in
    unwritten text _ _ _ _ _ _ _ _ c.in_ok-outcome.outcome _ _ whole c.in_ok-text.ensures.2 found c.as_bytes.ensures.value c.from_residual-in_err-write_whole.ensures.1 c.in_err-write_whole.ensures

pub returns : goal.returns
returns g c =
    let text = c.in_ok-text.text.items in
    let whole = whole_of _ _ text c.in_ok-text.ensures.0 c.in_ok-text.ensures.1 in
    let found = subst (λ read. ExpectsText read (Ok c.in_ok-outcome.outcome)) c.as_slice.ensures.value c.in_ok-outcome.ensures in
    let writes = c.in_ok-write_whole.ensures in
    judged text _ _ _ _ _ _ _ _ c.in_ok-outcome.outcome whole c.in_ok-text.ensures.2 found c.as_bytes.ensures.value writes.0 c.in_ok-text.ensures.3 writes.1
