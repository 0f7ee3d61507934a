use Rattle.std.proofs.Common.{◌≡◌, false, List, length, slice_get, refl, ap, ◌∙◌}
use Rattle.std.proofs.lemmas.Bool.{both_ways, le-leb}
use Rattle.tx_lines.specs.Instructions.{words_of}
use Rattle.tx_lines.specs.declared.instructions.Spelling.{Spelling}
use Rattle.tx_lines.proofs.ProgramLines.{line_found, line_reads, may_be_read, same_instruction, LineSpells}
use Rattle.tx_lines.proofs.read.instructions.read_instruction.Goals as goal

spelled : (c : goal.Else-not-may_all_be) → LineSpells c.args.line.now c.read_plain.new.call c.put_plain.new.spellings.items
spelled c =
    line_found
    c.args.line.now
    c.as_slice.result.now
    c.read_plain.new.call
    c.put_plain.new.spellings.items
    c.if-not-read_plain.ensures.fits
    (c.as_slice.ensures.value ∙ c.if-not-put_plain.ensures.plain refl)
    c.if-not-read_plain.ensures.found
    (c.if-not-put_plain.ensures.spellings refl)
    (λ place spelling argument at. c.if-not-may_all_be.ensures.sound refl place spelling argument (ap (λ (ss : List Spelling). slice_get ss place) c.as_slice-2.ensures.value ∙ at))

pub returns-then-not-put_plain-clause-only : goal.returns-then-not-put_plain-clause-only
returns-then-not-put_plain-clause-only c i is e =
    let reads = line_reads c.args.version c.args.line.now i is e in
    absurd (both_ways false refl (c.if-not-put_plain.ensures.few ∙ le-leb (length (words_of c.args.line.now).1) 4 reads.few))

pub returns-then-not-read_plain-clause-only : goal.returns-then-not-read_plain-clause-only
returns-then-not-read_plain-clause-only c i is e =
    let reads = line_reads c.args.version c.args.line.now i is e in
    let text = c.as_slice.ensures.value ∙ c.if-not-put_plain.ensures.plain refl ∙ reads.text in
    let none = c.if-not-read_plain.ensures.only i.call is.fits is.of is.chooses text in
    cc none

pub returns-then-not-may_all_be-clause-only : goal.returns-then-not-may_all_be-clause-only
returns-then-not-may_all_be-clause-only c i is e =
    let reads = line_reads c.args.version c.args.line.now i is e in
    let text = c.as_slice.ensures.value ∙ c.if-not-put_plain.ensures.plain refl ∙ reads.text in
    let same = c.if-not-read_plain.ensures.only i.call is.fits is.of is.chooses text in
    let call : c.read_plain.new.call ≡ i.call = cc in
    let may = may_be_read c.args.version c.args.line.now i c.as_slice-2.result.now c.read_plain.new.call reads (c.as_slice-2.ensures.value ∙ c.if-not-put_plain.ensures.spellings refl) call in
    absurd (both_ways false refl (c.if-not-may_all_be.ensures.complete may.count may.may))

pub returns-clause-found : goal.returns-clause-found
returns-clause-found c = (spelled c).text

pub returns-clause-good : goal.returns-clause-good
returns-clause-good c = record {
  fits = c.if-not-read_plain.ensures.fits;
  of = c.if-not-read_plain.ensures.within;
  chooses = c.if-not-read_plain.ensures.later;
  spelled = (spelled c).spelled;
}

pub returns-clause-only : goal.returns-clause-only
returns-clause-only c i is e =
    let reads = line_reads c.args.version c.args.line.now i is e in
    let text = c.as_slice.ensures.value ∙ c.if-not-put_plain.ensures.plain refl ∙ reads.text in
    let same = c.if-not-read_plain.ensures.only i.call is.fits is.of is.chooses text in
    let call : c.read_plain.new.call ≡ i.call = cc in
    same_instruction i c.put_plain.new.spellings c.read_plain.new.call (c.if-not-put_plain.ensures.spellings refl ∙ reads.spellings) call
