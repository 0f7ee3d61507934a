use Rattle.std.proofs.Common.{◌≡◌, ◌∙◌, Bool, ◌||◌, false, List, ℕ, ap, sym}
use Rattle.std.proofs.lemmas.Bool.{both_ways}
use Rattle.std.specs.Str.{bytes_eq}
use Rattle.tx_check.specs.Kinds.{begins_with_debug, debug_ahead, has_debug}
use Rattle.tx_check.proofs.SoFar.{debug_after, not_debug}
use Rattle.tx_lines.specs.Schedule.{first_line}
use Rattle.tx_lines.specs.Walks.{debug_line}
use Rattle.tx_translate.specs.MeantLines.{left_of}
use Rattle.tx_check.proofs.kinds.has_debug.Goals as goal

pub returns-then-is_debug : goal.returns-then-is_debug
returns-then-is_debug c =
    let left = left_of c.loop-line.left in
    let line : first_line left ≡ debug_line = sym c.in-Some.ensures.line.bytes ∙ c.is_debug.ensures.0 c.if-is_debug.true in
    sym (c.loop-line.invariant ∙ ap (λ (t : List ℕ). bytes_eq t debug_line || has_debug left) line)

pub loop-line-preserved : goal.loop-line-preserved
loop-line-preserved c =
    let left = left_of c.loop-line.left in
    let next = c.in-Some.ensures.line in
    let other : begins_with_debug left ≡ false =
    not_debug (first_line left) (λ same. both_ways c.is_debug.result c.if-is_debug.false (c.is_debug.ensures.1 (next.bytes ∙ same))) in
    c.loop-line.invariant ∙ ap (λ (b : Bool). b || has_debug left) other ∙ debug_after left ∙ ap debug_ahead (sym next.behind)
