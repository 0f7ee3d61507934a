use Rattle.std.proofs.Common.{◌≡◌, ◌+◌, ◌-◌, ℕ, List, ap, arith, refl, subst, sym, ◌∙◌}
use Rattle.tx_check.proofs.FaultsIn.{after_is, fault_there, in_context_second}
use Rattle.tx_check.proofs.Numbered.{lines_more}
use Rattle.tx_check.proofs.SoFar.{SoFar}
use Rattle.tx_check.proofs.SoFarMore.{so_far_all, so_far_fault, so_far_few, so_far_first, so_far_more}
use Rattle.tx_check.proofs.InContext.{in_context_later}
use Rattle.tx_check.specs.Kinds.{head_of}
use Rattle.tx_check.specs.Numbered.{after_lines, behind}
use Rattle.tx_check.specs.Contexts.{next_context, AtHeader, IsPlaceOf}
use Rattle.tx_lines.specs.Schedule.{first_line}
use Rattle.tx_lines.specs.declared.read.header.TextKind.{TextKind}
use Rattle.tx_translate.specs.MeantLines.{left_of}
use Rattle.tx_check.proofs.faults.fault_after_header.Goals as goal

pub loop-own-init : goal.loop-own-init
loop-own-init c =
    let place = c.after_header-place in
    record {
      so = so_far_first c.args.kind (left_of c.args.text.now.text) (left_of c.args.rest) c.args.header place.result c.requires.kind c.requires.header place.ensures.link
          (subst (λ (kind : TextKind). (line : List ℕ) → IsPlaceOf (next_context (AtHeader kind) line) place.result) c.kind_of_head.ensures place.ensures.in_context);
      version = place.ensures.version;
      in_context = in_context_second c.args.kind (left_of c.args.text.now.text) c.args.header (left_of c.args.rest) place.result c.requires.kind c.requires.header place.ensures.version
          (subst (λ (kind : TextKind). (line : List ℕ) → IsPlaceOf (next_context (AtHeader kind) line) place.result) c.kind_of_head.ensures place.ensures.in_context);
      unlinked = λ link. place.ensures.link link;
      some = omega arith;
      at = after_is (head_of c.args.kind) (left_of c.args.text.now.text) c.args.header (left_of c.args.rest) c.requires.header;
    }

pub returns-in-Some-fault_at-clause-finds : goal.returns-in-Some-fault_at-clause-finds
returns-in-Some-fault_at-clause-finds c =
    let next = c.in-Some.ensures in
    so_far_fault c.args.kind (left_of c.args.text.now.text) (left_of c.args.rest) c.args.header c.loop-own.number c.loop-own.place (left_of c.loop-own.left)
    (record { number = c.loop-own.number; bytes = c.meaning.result; is_ended = c.in-Some.own.is_ended }) c.in-Some-fault_at.fault c.requires.header c.loop-own.invariant.so
    (record {
      of = c.loop-own.invariant.version;
      at = refl;
      bytes = c.meaning.ensures ∙ next.line.bytes;
      ended = next.line.ended;
      some = next.some;
    }) c.in-Some-fault_at.ensures.fault

pub returns-in-Some-fault_at-clause-there : goal.returns-in-Some-fault_at-clause-there
returns-in-Some-fault_at-clause-there c =
    let so = c.loop-own.invariant in
    let next = c.in-Some.ensures in
    fault_there (left_of c.args.text.now.text) (left_of c.loop-own.left) c.loop-own.place
    (record { number = c.loop-own.number; bytes = c.meaning.result; is_ended = c.in-Some.own.is_ended }) c.in-Some-fault_at.fault so.in_context so.unlinked so.at
    (c.meaning.ensures ∙ next.line.bytes) next.line.ended c.in-Some-fault_at.ensures.fault

pub overflow_add-number : goal.overflow_add-number
overflow_add-number c =
    omega (arith, so_far_few c.args.kind c.args.header.version (left_of c.args.rest) c.loop-own.number c.loop-own.place (left_of c.loop-own.left) c.loop-own.invariant.so)

pub loop-own-preserved : goal.loop-own-preserved
loop-own-preserved c =
    let next = c.in-Some.ensures in
    let text = left_of c.args.text.now.text in
    let number = c.loop-own.number in
    let later : number - 1 + 1 ≡ number + 1 - 1 = omega (arith, c.loop-own.invariant.some) in
    let more = so_far_more c.args.kind c.args.header.version (left_of c.args.text.now.text) (left_of c.args.rest) c.args.header c.loop-own.number c.loop-own.place c.after-place.result (left_of c.loop-own.left) _ c.requires.header c.loop-own.invariant.so
    (record {
      of = c.loop-own.invariant.version;
      at = refl;
      bytes = c.meaning.ensures ∙ next.line.bytes;
      ended = next.line.ended;
      some = next.some;
    }) c.in_default-fault_at.ensures.may (record { link = c.after-place.ensures.link; in_context = c.after-place.ensures.in_context }) in
    record {
      so = subst (λ (left : List ℕ). SoFar c.args.kind c.args.header.version (left_of c.args.rest) (c.loop-own.number + 1) c.after-place.result left) (sym next.line.behind) more;
      version = c.after-place.ensures.version ∙ c.loop-own.invariant.version;
      in_context = in_context_later text (number - 1) number (number + 1) c.meaning.result.now c.loop-own.place c.after-place.result (omega (arith, c.loop-own.invariant.some))
          (omega (arith, c.loop-own.invariant.some)) (c.meaning.ensures ∙ next.line.bytes ∙ ap first_line c.loop-own.invariant.at) c.loop-own.invariant.in_context
          c.after-place.ensures.version c.after-place.ensures.in_context;
      unlinked = λ link. c.loop-own.invariant.unlinked (c.after-place.ensures.link link);
      some = omega (arith, c.loop-own.invariant.some);
      at = next.line.behind ∙ ap behind c.loop-own.invariant.at ∙ lines_more (number - 1) text ∙ ap (λ (n : ℕ). after_lines n text) later;
    }

pub returns-clause-finds : goal.returns-clause-finds
returns-clause-finds c = so_far_all c.args.kind (left_of c.args.text.now.text) c.args.header (left_of c.args.rest) c.loop-own.number c.loop-own.place (left_of c.loop-own.left)
    c.requires.header c.in_default.ensures.none c.loop-own.invariant.so
