use Rattle.std.proofs.Common.{rules, ◌≡◌, ◌++◌, [], ℕ, List, Some, codes, length, true}
use Rattle.tx_base.specs.declared.steps.Step.{Step}
use Rattle.tx_lines.specs.Lines.{step_text}
use Rattle.tx_lines.specs.Schedule.{FitsStepOf}
use Rattle.tx_lines.specs.declared.read.header.TextKind.TheVariants.{Schedule}
use Rattle.tx_translate.proofs.WordParts.{none_left}
use Rattle.tx_translate.proofs.RespelledLines.{ends_with_word, holds_of, respelled_fits, respelled_means, EndsWithWord}
use Rattle.tx_translate.specs.Lines.{plain_line}
use Rattle.tx_translate.specs.Respelled.{IsRespelled}
use Rattle.tx_translate.specs.declared.stage.Stage.TheVariants.{Within}
use Rattle.tx_translate.proofs.respelled.read_last_word.Goals as goal

pub returns-then-read_step_into-clause-found : goal.returns-then-read_step_into-clause-found
returns-then-read_step_into-clause-found c =
    let before : Step = c.read_step_into.new.step in
    let front : List ℕ = c.split_at.result.0.now in
    let size : length c.in-Some.rest.now ≡ 0 = search rules in
    let none : c.in-Some.rest.now ≡ [] = none_left c.in-Some.rest.now size in
    let may : c.may_be_front.result ≡ true = search rules in
    let read : front ++ codes "10" ≡ step_text before = search rules in
    let ends : EndsWithWord c.args.line.now front c.in-Some.word.now =
    ends_with_word c.args.line.now front c.split_at.result.1.now c.in-Some.word.now c.in-Some.rest.now c.args.at c.split_at.ensures.front c.split_at.ensures.back
    (c.may_be_front.ensures.space may) c.in-Some.ensures.words none c.requires.short (c.may_be_front.ensures.short may) in
    holds_of c.put_last.result c.put_last.new.step (IsRespelled c.in-Some.word.now before) (IsRespelled c.in-Some.word.now before)
    (λ (s : Step). plain_line (Within Schedule) c.args.line.now ≡ Some (step_text s)) c.put_last.ensures c.put_last.ensures
    (λ is again. respelled_means c.args.line.now front c.in-Some.word.now before c.put_last.new.step ends read c.if-read_step_into.ensures.fits is)

pub returns-then-read_step_into-clause-fits : goal.returns-then-read_step_into-clause-fits
returns-then-read_step_into-clause-fits c =
    holds_of c.put_last.result c.put_last.new.step (IsRespelled c.in-Some.word.now c.read_step_into.new.step) (IsRespelled c.in-Some.word.now c.read_step_into.new.step)
    (FitsStepOf c.args.version) c.put_last.ensures c.put_last.ensures
    (λ is again. respelled_fits c.args.version c.in-Some.word.now c.read_step_into.new.step c.put_last.new.step c.if-read_step_into.ensures.fits is)
