use Rattle.std.proofs.Common.{◌≤◌, ℕ, List, [], ◌∷◌, string_bytes, length, take, subst}
use Rattle.tx_shell.proofs.Served.{at_end, at_quit, cut_off, no_line, no_memory, no_exchange, one_more}
use Rattle.tx_shell.specs.Events.{Continues, Failure, Text}
use Rattle.tx_shell.specs.Standings.{standing_of, Answers, IsQuit, Stops}
use Rattle.tx_shell.proofs.sessions.serve.Goals as goal

pub loop-number-init : goal.loop-number-init
loop-number-init g c = no_exchange (standing_of c.args.shell.now) (g.T.Terminal.traffic c.args.terminal.now)

pub returns-in-End : goal.returns-in-End
returns-in-End g c =
    at_end (standing_of c.args.shell.now) (standing_of c.loop-number.shell) (g.T.Terminal.traffic c.args.terminal.now) (g.T.Terminal.traffic c.loop-number.terminal) c.loop-number.number c.loop-number.invariant
    (g.T.Terminal.traffic c.line.new.self) tt (c.line.ensures.end c.in-End.is)

pub returns-in-Failed : goal.returns-in-Failed
returns-in-Failed g c =
    no_line (standing_of c.args.shell.now) (standing_of c.loop-number.shell) (g.T.Terminal.traffic c.args.terminal.now) (g.T.Terminal.traffic c.loop-number.terminal) c.loop-number.number c.loop-number.invariant
    (g.T.Terminal.traffic c.line.new.self) (c.line.ensures.failed c.in-Failed.is)

pub returns-in-Err : goal.returns-in-Err
returns-in-Err g c =
    no_memory (standing_of c.args.shell.now) (standing_of c.loop-number.shell) (g.T.Terminal.traffic c.args.terminal.now) (g.T.Terminal.traffic c.loop-number.terminal) c.loop-number.number c.loop-number.invariant
    (g.T.Terminal.traffic c.line.new.self) c.line.new.line.items (standing_of c.answer.new.self) (c.line.ensures.came c.in-Line.is)
    (subst (λ (bytes : List ℕ). Stops (standing_of c.loop-number.shell) bytes (standing_of c.answer.new.self)) c.as_slice.ensures.value c.in-Err.ensures.stops)

pub returns-in-Ok-false : goal.returns-in-Ok-false
returns-in-Ok-false g c =
    let quits = rw c.in-Ok-false.field-0-test at c.in-Ok-false.ensures.answer in
    at_quit (standing_of c.args.shell.now) (standing_of c.loop-number.shell) (g.T.Terminal.traffic c.args.terminal.now) (g.T.Terminal.traffic c.loop-number.terminal) c.loop-number.number c.loop-number.invariant
    (g.T.Terminal.traffic c.line.new.self) tt c.line.new.line.items (standing_of c.answer.new.self) (c.line.ensures.came c.in-Line.is)
    (subst (λ (bytes : List ℕ). IsQuit (standing_of c.loop-number.shell) bytes) c.as_slice.ensures.value quits.0) quits.1

pub returns-then-not-show : goal.returns-then-not-show
returns-then-not-show g c =
    let answers = rw c.in-Ok-true.field-0-test at c.in-Ok-true.ensures.answer in
    let shown = c.show.ensures.failed c.if-not-show.true in
    cut_off (standing_of c.args.shell.now) (standing_of c.loop-number.shell) (g.T.Terminal.traffic c.args.terminal.now) (g.T.Terminal.traffic c.loop-number.terminal) c.loop-number.number c.loop-number.invariant
    (g.T.Terminal.traffic c.line.new.self) (g.T.Terminal.traffic c.show.new.self) c.line.new.line.items (string_bytes c.answer.new.text) shown.0 (standing_of c.answer.new.self) (c.line.ensures.came c.in-Line.is)
    (subst (λ (bytes : List ℕ). shown.0 ≤ length bytes) c.as_bytes.ensures.value shown.1)
    (subst (λ (bytes : List ℕ). Continues (g.T.Terminal.traffic c.line.new.self) (Text (take shown.0 bytes) ∷ Failure ∷ []) (g.T.Terminal.traffic c.show.new.self)) c.as_bytes.ensures.value shown.2)
    (subst (λ (bytes : List ℕ). Answers (standing_of c.loop-number.shell) bytes (string_bytes c.answer.new.text) (standing_of c.answer.new.self)) c.as_slice.ensures.value answers)

pub loop-number-preserved : goal.loop-number-preserved
loop-number-preserved g c =
    let answers = rw c.in-Ok-true.field-0-test at c.in-Ok-true.ensures.answer in
    one_more (standing_of c.args.shell.now) (standing_of c.loop-number.shell) (g.T.Terminal.traffic c.args.terminal.now) (g.T.Terminal.traffic c.loop-number.terminal) c.loop-number.number c.loop-number.invariant
    (g.T.Terminal.traffic c.line.new.self) (g.T.Terminal.traffic c.show.new.self) c.line.new.line.items (string_bytes c.answer.new.text) (standing_of c.answer.new.self) (c.line.ensures.came c.in-Line.is)
    (subst (λ (bytes : List ℕ). Continues (g.T.Terminal.traffic c.line.new.self) (Text bytes ∷ []) (g.T.Terminal.traffic c.show.new.self)) c.as_bytes.ensures.value (c.show.ensures.shown c.if-not-show.false))
    (subst (λ (bytes : List ℕ). Answers (standing_of c.loop-number.shell) bytes (string_bytes c.answer.new.text) (standing_of c.answer.new.self)) c.as_slice.ensures.value answers)
