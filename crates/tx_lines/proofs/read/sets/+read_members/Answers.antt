use Rattle.std.proofs.Common.{◌≡◌, ◌<◌, ℕ, List, [], ◌∷◌, ap, refl, sym, ◌∙◌, length, length-append, arith}
use Rattle.tx_base.specs.Signals.{bits_of}
use Rattle.tx_model.specs.SignalSets.{set_of}
use Rattle.tx_lines.proofs.FirstWord.{split_parts}
use Rattle.tx_lines.proofs.SignalLists.{listed_alone, listed_more, listed_split, one_more, set_more, same_set}
use Rattle.tx_lines.proofs.read.sets.+read_members.Goals as goal

pub returns-in_err-signo-in-Some-clause-only : goal.returns-in_err-signo-in-Some-clause-only
returns-in_err-signo-in-Some-clause-only t c n ns listed =
    let parts = listed_split c.args.above c.args.list.now c.in-Some.word.now c.in-Some.rest.now n ns listed c.in-Some.ensures in
    let none = c.in_err-signo-in-Some.ensures.only (record { 0 = n }) listed.rising.1 listed.rising.2 listed.rising.0 parts.3 in
    cc none

pub read_members-requires : goal.read_members-requires
read_members-requires t c =
    omega (arith, ap length (split_parts 44 c.args.list.now c.in-Some.word.now c.in-Some.rest.now (sym c.in-Some.ensures)), length-append c.in-Some.word.now (44 ∷ c.in-Some.rest.now))

pub returns-in_err-others-in-Some-clause-only : goal.returns-in_err-others-in-Some-clause-only
returns-in_err-others-in-Some-clause-only t c n ns listed =
    let parts = listed_split c.args.above c.args.list.now c.in-Some.word.now c.in-Some.rest.now n ns listed c.in-Some.ensures in
    let some = c.in_ok-signo-in-Some.ensures.only (record { 0 = n }) listed.rising.1 listed.rising.2 listed.rising.0 parts.3 in
    let same : c.in_ok-signo-in-Some.signo.0 ≡ n = cc in
    let none = c.in_err-others-in-Some.ensures.only parts.0 parts.1 (rw same parts.4) in
    cc none

pub returns-in_err-last-in-None-clause-only : goal.returns-in_err-last-in-None-clause-only
returns-in_err-last-in-None-clause-only t c n ns listed =
    let alone = listed_alone c.args.above c.args.list.now n ns listed c.in-None.ensures in
    let none = c.in_err-last-in-None.ensures.only (record { 0 = n }) listed.rising.1 listed.rising.2 listed.rising.0 alone.1 in
    cc none

pub returns-in_ok-others-in-Some-clause-found : goal.returns-in_ok-others-in-Some-clause-found
returns-in_ok-others-in-Some-clause-found t c =
    let signo = c.in_ok-signo-in-Some.signo.0 in
    let read = c.in_ok-signo-in-Some.ensures in
    let more = c.in_ok-others-in-Some.ensures.found in
    let below : signo < 64 = read.small in (
      signo,
      more.0 ∷ more.1,
      listed_more c.args.above c.args.list.now c.in-Some.word.now c.in-Some.rest.now signo more.0 more.1 c.in-Some.ensures read.found read.above (omega arith) read.known more.2,
      one_more c.with.result c.in_ok-others-in-Some.others signo signo (more.0 ∷ more.1) c.with.ensures refl more.3,
    )

pub returns-in_ok-others-in-Some-clause-only : goal.returns-in_ok-others-in-Some-clause-only
returns-in_ok-others-in-Some-clause-only t c n ns listed =
    let parts = listed_split c.args.above c.args.list.now c.in-Some.word.now c.in-Some.rest.now n ns listed c.in-Some.ensures in
    let some = c.in_ok-signo-in-Some.ensures.only (record { 0 = n }) listed.rising.1 listed.rising.2 listed.rising.0 parts.3 in
    let same : c.in_ok-signo-in-Some.signo.0 ≡ n = cc in
    let more = c.in_ok-others-in-Some.ensures.only parts.0 parts.1 (rw same parts.4) in
    set_more c.with.result c.in_ok-others-in-Some.others c.in_ok-signo-in-Some.signo.0 n parts.0 ns parts.1 c.with.ensures same parts.2 more

pub returns-in_ok-last-in-None-clause-only : goal.returns-in_ok-last-in-None-clause-only
returns-in_ok-last-in-None-clause-only t c n ns listed =
    let alone = listed_alone c.args.above c.args.list.now n ns listed c.in-None.ensures in
    let some = c.in_ok-last-in-None.ensures.only (record { 0 = n }) listed.rising.1 listed.rising.2 listed.rising.0 alone.1 in
    let same : c.in_ok-last-in-None.last.0 ≡ n = cc in
    let none : bits_of c.from_bits_retain.result ≡ set_of [] = c.from_bits_retain.ensures tt in
    same_set c.with-in-None.result (set_of (n ∷ ns))
    (one_more c.with-in-None.result c.from_bits_retain.result c.in_ok-last-in-None.last.0 n [] c.with-in-None.ensures same none ∙ ap (λ (more : List ℕ). set_of (n ∷ more)) (sym alone.0))
