use Rattle.std.proofs.Common.{◌≡◌, ◌∙◌, ◌+◌, List, ℕ, ap, arith, is_some, refl, subst, sym, true}
use Rattle.tx_lines.specs.Schedule.{after_line, first_line}
use Rattle.tx_translate.specs.MeantLines.{behind_by, MeanFrom}
use Rattle.tx_translate.specs.Lines.{plain_line}
use Rattle.tx_translate.specs.OwnLines.{own_lines}
use Rattle.tx_translate.specs.Plain.{is_third, plain_from}
use Rattle.tx_translate.specs.declared.stage.Stage.{Stage}
use Rattle.tx_translate.proofs.NextMeant.{own_end, own_next, third_next}
use Rattle.tx_translate.proofs.meant_lines.MeantLines.cut_third.Goals as goal

pub returns-then-means_one-clause-line : goal.returns-then-means_one-clause-line
returns-then-means_one-clause-line c =
    let stage = c.args.stage in
    let left = c.loop-bytes.left.now in
    let line = c.in-Some.bytes.now in
    let lines = own_lines c.in-Some.rest.now in
    let some : is_some (plain_line stage line) ≡ true = sym c.means_one.ensures ∙ c.if-means_one.true in
    let next = third_next stage left line lines c.in-Some.ensures.lines some in
    let same = c.loop-bytes.invariant.left in
    record {
      bytes = next.first ∙ ap first_line (sym same);
      ended = sym (ap (λ (t : List ℕ). is_some (after_line t)) same ∙ ap is_some next.after);
      behind = ap (λ (s : Stage). plain_from s lines) c.stage_after.ensures ∙ sym (ap (λ (t : List ℕ). behind_by (after_line t)) same ∙ ap behind_by next.after);
    }

pub returns-then-means_one-clause-own : goal.returns-then-means_one-clause-own
returns-then-means_one-clause-own c = λ text number owns.
    let stage = c.args.stage in
    let own = c.loop-bytes.number in
    let line = c.in-Some.bytes.now in
    let lines = own_lines c.in-Some.rest.now in
    let some : is_some (plain_line stage line) ≡ true = sym c.means_one.ensures ∙ c.if-means_one.true in
    let so_far = c.loop-bytes.invariant.own text number owns in
    let mean = subst (λ (ls : List (List ℕ)). MeanFrom text number stage own ls) c.in-Some.ensures.lines so_far.0 in
    let next = own_next text number stage own line lines mean some in
    let third : is_third text ≡ true = owns.third ∙ rw c.requires refl in
    let more : c.saturating_add.result ≡ own + 1 = omega (arith, c.saturating_add.ensures, so_far.1, c.in-Some.ensures.shorter) in
    record {
      own = λ small. rw third (sym next.0);
      behind = record { third = third; own = (rw (c.stage_after.ensures, more) next.1, omega (arith, more, so_far.1, c.in-Some.ensures.shorter)) };
    }

pub returns-clause-own : goal.returns-clause-own
returns-clause-own c = λ text number owns.
    let stage = c.args.stage in
    let own = c.loop-bytes.number in
    let so_far = c.loop-bytes.invariant.own text number owns in
    let mean = subst (λ (ls : List (List ℕ)). MeanFrom text number stage own ls) c.in_default.ensures.lines so_far.0 in
    let next = own_end text number stage own mean in
    let third : is_third text ≡ true = owns.third ∙ rw c.requires refl in
    record {
      own = λ small. rw third (sym next.0);
      behind = record { third = third; own = (next.1, omega (arith, so_far.1)) };
    }
