use Rattle.std.proofs.Common.{arith, inl}
use Rattle.tx_check.specs.Wrong.{NoEnd, Other, TooLong, TooMany}
use Rattle.tx_check.proofs.Wronged.{between, none_there, on_some, too_many}
use Rattle.tx_check.proofs.FaultKinds.{same_trouble}
use Rattle.tx_check.specs.declared.trouble.LineTrouble.TheVariants as troubles
use Rattle.tx_translate.specs.MeantLines.{left_of}
use Rattle.tx_check.proofs.diagnose.trouble_of.Goals as goal

pub returns-then-line-gt-LINE_BYTES-clause-wrong : goal.returns-then-line-gt-LINE_BYTES-clause-wrong
returns-then-line-gt-LINE_BYTES-clause-wrong c = λ context is. inl (TooLong (omega (arith, c.if-line-gt-LINE_BYTES.true)))

pub returns-in-Some-clause-wrong : goal.returns-in-Some-clause-wrong
returns-in-Some-clause-wrong c = λ context is. inl (TooMany (too_many context c.args.place.now c.args.line.bytes.now is c.in-Some.ensures.over))

pub returns-then-not-is_right-clause-wrong : goal.returns-then-not-is_right-clause-wrong
returns-then-not-is_right-clause-wrong c = λ context is.
    inl (Other (none_there c.args.place.now.version context c.args.place.now c.args.line.bytes.now is (c.is_right.ensures.wrong c.if-not-is_right.true)))

pub returns-in-Some-trouble_between-clause-wrong : goal.returns-in-Some-trouble_between-clause-wrong
returns-in-Some-trouble_between-clause-wrong c = λ context is.
    let found = c.in-Some-trouble_between.ensures in
    between c.args.place.now.version (left_of c.args.text.now.text) c.args.line.number context c.args.place.now c.args.line.bytes.now c.args.line.is_ended is found.program found.wrong

pub returns-in-None-clause-wrong : goal.returns-in-None-clause-wrong
returns-in-None-clause-wrong c = on_some c.no_end.result (λ unended context is. inl (NoEnd unended)) c.no_end.ensures.unended

pub returns-in-Some-clause-long : goal.returns-in-Some-clause-long
returns-in-Some-clause-long c = λ same.
    absurd (c.in-Some.ensures.other (same_trouble c.of_line-in-Some.result.what c.in-Some.trouble troubles.TooLong c.of_line-in-Some.ensures.line same))
