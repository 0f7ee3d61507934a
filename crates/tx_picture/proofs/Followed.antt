-- Processes that are followed over a step, one after another.
use Rattle.std.proofs.Common.{◌≡◌, ℕ, ◌+◌, List, Option, refl, ap, ◌∙◌, sym, add-one}
use Rattle.tx_base.specs.declared.names.Pid.{Pid}
use Rattle.tx_picture.specs.Spans.{begun, begun_upto}
use Rattle.tx_picture.specs.declared.spans.Span.{Span}

pub begun_none : (holders : ℕ → Option Pid) (row : ℕ) (spans : List Span) → spans ≡ begun_upto holders row 0 spans
unfolding begun_upto
begun_none holders row spans = refl

pub begun_more : (holders : ℕ → Option Pid) (row i : ℕ) (holder : Option Pid) (before now after : List Span) → now ≡ begun_upto holders row i before
    → after ≡ begun (i + 1) holder row now → holder ≡ holders (i + 1) → after ≡ begun_upto holders row (i + 1) before
unfolding begun_upto
begun_more holders row i holder before now after so_far more is =
    let one : begun_upto holders row (i + 1) before ≡ begun (i + 1) (holders (i + 1)) row (begun_upto holders row i before) = rw add-one refl in
    more ∙ ap (λ (h : Option Pid). begun (i + 1) h row now) is ∙ ap (begun (i + 1) (holders (i + 1)) row) so_far ∙ sym one
