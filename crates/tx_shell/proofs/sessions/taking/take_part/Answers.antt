use Rattle.std.proofs.Common.{◌∙◌, ap, arith, length, refl, rules, subst}
use Rattle.std.proofs.BufReadLemmas.{Consumes_shown}
use Rattle.std.specs.Io.BufRead.{FillKeeps}
use Rattle.tx_shell.proofs.CutLines.{ended_part, no_part, none_after, nothing, open_part, open_whole, some_after, within}
use Rattle.tx_shell.proofs.sessions.taking.take_part.Goals as goal

pub returns-then-is_interrupted-clause-takes : goal.returns-then-is_interrupted-clause-takes
returns-then-is_interrupted-clause-takes g c = no_part _ _ _ _ c.requires c.fill_buf.follows.holds-at-none.0 refl

pub returns-then-is_empty-clause-takes : goal.returns-then-is_empty-clause-takes
returns-then-is_empty-clause-takes g c = nothing _ _ _ _ c.requires c.in-Ok.bytes.now c.if-is_empty.ensures c.in-Ok.ensures.end c.fill_buf.follows.holds-at-none.0 refl

pub returns-then-is_some-clause-takes : goal.returns-then-is_some-clause-takes
returns-then-is_some-clause-takes g c =
    let rested = c.fill_buf.follows.lender-at-none in
    let shown = c.in-Ok.bytes.now in
    let filled = subst (FillKeeps _ (g.R.Read.remaining rested) (g.R.BufRead.consumable_len rested)) c.in-Ok.is c.fill_buf.follows.holds-at-none in
    let after = some_after _ _ _ c.take_line.ensures.rest c.if-is_some.ensures in
    let moved = Consumes_shown _ _ _ _ shown _ (search (rules, within shown after)) c.in-Ok.ensures.front c.in-Ok.ensures.end filled.0 filled.1 c.consume.ensures.bytes in
    ended_part _ _ _ _ shown _ _ _ after c.take_line.ensures.line refl moved.0 c.in_ok-append_front.ensures.front

pub returns-clause-takes : goal.returns-clause-takes
returns-clause-takes g c =
    let rested = c.fill_buf.follows.lender-at-none in
    let shown = c.in-Ok.bytes.now in
    let filled = subst (FillKeeps _ (g.R.Read.remaining rested) (g.R.BufRead.consumable_len rested)) c.in-Ok.is c.fill_buf.follows.holds-at-none in
    let after = none_after _ _ _ c.take_line.ensures.rest c.if-is_some.ensures in
    let all = c.take_line.ensures.line ∙ open_whole shown after in
    let moved = Consumes_shown _ _ _ _ shown _ (omega (arith, ap length all)) c.in-Ok.ensures.front c.in-Ok.ensures.end filled.0 filled.1 c.consume-2.ensures.bytes in
    open_part _ _ _ _ shown _ _ after c.take_line.ensures.line refl moved.0 c.in_ok-append_front.ensures.front
