use Rattle.std.proofs.Common.{rules, ◌≡◌, ◌<◌, length, arith}
use Rattle.std.specs.Bool.{then_some}
use Rattle.std.proofs.lemmas.Option.{IfSome_then}
use Rattle.tx_lines.proofs.Hexed.{count_of}
use Rattle.tx_lines.proofs.read.byte_words.read_bytes.Goals as goal

pub returns-then-is_empty-clause-only : goal.returns-then-is_empty-clause-only
returns-then-is_empty-clause-only c bytes are some few e =
    let none : length c.args.word.now ≡ 0 = search rules in
    absurd (omega (arith, count_of c.args.word.now bytes e))

pub returns-then-word-clause-only : goal.returns-then-word-clause-only
returns-then-word-clause-only c bytes are some few e = absurd (omega (arith, count_of c.args.word.now bytes e))

pub returns-then-word-eq1-clause-only : goal.returns-then-word-eq1-clause-only
returns-then-word-eq1-clause-only c bytes are some few e = absurd (omega (arith, count_of c.args.word.now bytes e))

pub returns-clause-some : goal.returns-clause-some
returns-clause-some c =
    let some : 0 < length c.args.word.now = search rules in
    IfSome_then (then_some c.pairs.result c.pairs.new.bytes) c.pairs.ensures.found (λ bytes e. omega (arith, count_of c.args.word.now bytes.items e))

pub returns-clause-few : goal.returns-clause-few
returns-clause-few c =
    IfSome_then (then_some c.pairs.result c.pairs.new.bytes) c.pairs.ensures.found (λ bytes e. omega (arith, count_of c.args.word.now bytes.items e, c.if-word.false))
