use Rattle.std.proofs.Common.{rules, ◌/◌, ◌%◌, get_or, arith}
use Rattle.tx_lines.proofs.Hexed.{no_pair, pair_more, all_pairs, digits_at, same_bytes}
use Rattle.tx_lines.proofs.read.byte_words.pairs.Goals as goal

pub loop-at-init : goal.loop-at-init
loop-at-init c = rw c.requires.none (no_pair c.args.word.now)

pub returns-in_default-clause-only : goal.returns-in_default-clause-only
returns-in_default-clause-only c bytes are e =
    let at = digits_at c.args.word.now bytes c.loop-at.at e are c.loop-at-test.true in
    let none = c.in_default.ensures.only (get_or bytes c.loop-at.at 0 / 16) at.2 at.0 in
    cc none

pub returns-in_default-digit-clause-only : goal.returns-in_default-digit-clause-only
returns-in_default-digit-clause-only c bytes are e =
    let at = digits_at c.args.word.now bytes c.loop-at.at e are c.loop-at-test.true in
    let none = c.in_default-digit.ensures.only (get_or bytes c.loop-at.at 0 % 16) (omega arith) at.1 in
    cc none

pub push-requires : goal.push-requires
push-requires c = search (rules, c.loop-at.invariant.count)

pub loop-at-preserved : goal.loop-at-preserved
loop-at-preserved c =
    pair_more c.args.word.now c.loop-at.at c.loop-at.bytes.items c.push.new.self.items c.in-Some.high c.in-Some-digit.low c.loop-at.invariant c.loop-at-test.true
    c.in-Some.ensures.found c.in-Some.ensures.small c.in-Some-digit.ensures.found c.in-Some-digit.ensures.small c.push.ensures.items

pub returns-clause-found : goal.returns-clause-found
returns-clause-found c = all_pairs c.args.word.now c.loop-at.at c.loop-at.bytes.items c.loop-at.invariant c.requires.even c.loop-at-test.false

pub returns-clause-fits : goal.returns-clause-fits
returns-clause-fits c = c.loop-at.invariant.are

pub returns-clause-only : goal.returns-clause-only
returns-clause-only c bytes are e =
    same_bytes c.args.word.now c.loop-at.bytes.items bytes c.loop-at.invariant.are are
    (all_pairs c.args.word.now c.loop-at.at c.loop-at.bytes.items c.loop-at.invariant c.requires.even c.loop-at-test.false) e
