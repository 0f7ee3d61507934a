use Rattle.std.proofs.Common.{◌≡◌, ◌+◌, ◌<◌, length, take, sym, ap, ◌∙◌, subst, arith}
use Rattle.std.proofs.lemmas.List.{take_all}
use Rattle.tx_desc.specs.Counts.{count_in}
use Rattle.tx_desc.specs.Places.{Descriptors}
use Rattle.tx_desc.proofs.Whole.{Counted, counted_none, counted_hit, counted_miss, named_inside}
use Rattle.tx_desc.proofs.descs.Descs.counted.Goals as goal
use Rattle.tx_desc.proofs.descs.Descs.counted.Goals.{in-Some, in_default}

pub loop-fd-init : goal.loop-fd-init
loop-fd-init c = counted_none c.args.table.now

pub bounds-counts-d : goal.bounds-counts-d
bounds-counts-d c =
    let there = named_inside c.loop-fd.fd c.in-Some.d.0 c.args.table.now c.args.self.now c.requires (sym c.in-Some.ensures) in omega arith

pub bounds-counts-d-in-Some : goal.bounds-counts-d-in-Some
bounds-counts-d-in-Some c =
    let there = named_inside c.loop-fd.fd c.in-Some.d.0 c.args.table.now c.args.self.now c.requires (sym c.in-Some.ensures) in omega arith

pub loop-fd-preserved : goal.loop-fd-preserved
loop-fd-preserved c =
    let table = c.args.table.now in
    let i = c.loop-fd.fd in
    let inside : i < length table = omega arith in
    elim c.match-get.branch [
      | in-Some w ↦
          let there = named_inside i w.in-Some.d.0 table c.args.self.now c.requires (sym w.in-Some.ensures) in
          let below : w.in-Some.d.0 < 64 = omega arith in
          subst (Counted table (i + 1)) (sym w.counts-is) (counted_hit i w.in-Some.d.0 table c.loop-fd.counts inside below (sym w.in-Some.ensures) c.loop-fd.invariant)
      | in_default w ↦
          subst (Counted table (i + 1)) (sym w.counts-is) (counted_miss i table c.loop-fd.counts inside (sym w.in_default.ensures) c.loop-fd.invariant)
    ]

pub returns : goal.returns
returns c = λ d.
    let all : take c.loop-fd.fd c.args.table.now ≡ c.args.table.now = take_all c.loop-fd.fd c.args.table.now (omega arith) in
    c.loop-fd.invariant.each d ∙ ap (λ (t : Descriptors). count_in d t) all
