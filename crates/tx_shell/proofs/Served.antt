-- A session, exchange by exchange, and how it ends.
use Rattle.std.proofs.Common.{◌≡◌, ◌≤◌, ℕ, ◌+◌, List, [], ◌∷◌, ◌++◌, length, take, Option, Some, None, Ok, Err, inl, inr, refl, sym, ap, subst, ◌∙◌, append_assoc}
use Rattle.std.proofs.lemmas.List.{append-nil}
use Rattle.tx_translate.specs.MeantLines.{behind}
use Rattle.tx_shell.specs.Events.{ComeFrom, Comes, Continues, End, Event, Failure, GoTo, Goes, IsServed, Line, Logs, Exchanges, Text, Traffic, lines_among}
use Rattle.tx_shell.specs.Standings.{Answers, IsQuit, Standing, Stops}
use Rattle.tx_shell.specs.declared.sessions.ServeFault.TheVariants.{NoMemory, Reader, TooMany, Writer}
use Rattle.tx_shell.specs.declared.sessions.TheConstants.{LINES}

-- what came and went after what came and went
logs_more : (before log after : Option (List Event)) (a b : List Event) → Logs before a log → Logs log b after → Logs before (a ++ b) after
logs_more None log after a b all more = subst (λ (l : Option (List Event)). Logs l b after) all more
logs_more (Some events) log after a b all more =
    let known : after ≡ Some ((events ++ a) ++ b) = subst (λ (l : Option (List Event)). Logs l b after) all more in
    known ∙ ap (λ (es : List Event). Some es) (append_assoc events a b)

come_more : (a b : List Event) (bytes : List ℕ) (mid after : Option (List ℕ)) → ComeFrom bytes a mid → Comes mid b after → ComeFrom bytes (a ++ b) after
come_more [] b bytes mid after all more = subst (λ (c : Option (List ℕ)). Comes c b after) all more
come_more (Line line ∷ a) b bytes mid after all more = (all.0, all.1, come_more a b (behind bytes) mid after all.2 more)
come_more (End ∷ a) b bytes mid after all more = (all.0, come_more a b bytes mid after all.1 more)
come_more (Text text ∷ a) b bytes mid after all more = come_more a b bytes mid after all more
come_more (Failure ∷ a) b bytes mid after all more = tt

comes_more : (before mid after : Option (List ℕ)) (a b : List Event) → Comes before a mid → Comes mid b after → Comes before (a ++ b) after
comes_more None mid after a b all more = tt
comes_more (Some bytes) mid after a b all more = come_more a b bytes mid after all more

go_more : (a b : List Event) (bytes : List ℕ) (mid after : Option (List ℕ)) → GoTo bytes a mid → Goes mid b after → GoTo bytes (a ++ b) after
go_more [] b bytes mid after all more = subst (λ (c : Option (List ℕ)). Goes c b after) all more
go_more (Line line ∷ a) b bytes mid after all more = go_more a b bytes mid after all more
go_more (End ∷ a) b bytes mid after all more = go_more a b bytes mid after all more
go_more (Text text ∷ a) b bytes mid after all more = go_more a b (bytes ++ text) mid after all more
go_more (Failure ∷ a) b bytes mid after all more = tt

goes_more : (before mid after : Option (List ℕ)) (a b : List Event) → Goes before a mid → Goes mid b after → Goes before (a ++ b) after
goes_more None mid after a b all more = tt
goes_more (Some bytes) mid after a b all more = go_more a b bytes mid after all more

continues_more : (before log after : Traffic) (a b : List Event) → Continues before a log → Continues log b after → Continues before (a ++ b) after
continues_more before log after a b all more = record {
  logged = logs_more before.log log.log after.log a b all.logged more.logged;
  came = comes_more before.coming log.coming after.coming a b all.came more.came;
  went = goes_more before.shown log.shown after.shown a b all.went more.went;
}

logs_same : (log : Option (List Event)) → Logs log [] log
logs_same None = refl
logs_same (Some events) = ap Some (sym (append-nil events))

comes_same : (coming : Option (List ℕ)) → Comes coming [] coming
comes_same None = tt
comes_same (Some bytes) = refl

goes_same : (shown : Option (List ℕ)) → Goes shown [] shown
goes_same None = tt
goes_same (Some bytes) = refl

continues_same : (log : Traffic) → Continues log [] log
continues_same log = record { logged = logs_same log.log; came = comes_same log.coming; went = goes_same log.shown }

-- one exchange more at the end
longer : (s : Standing) (events : List Event) (t : Standing) (line text : List ℕ) (u : Standing) → Exchanges s events t → Answers t line text u → Exchanges s (events ++ Line line ∷ Text text ∷ []) u
unfolding Exchanges
longer s [] t line text u exchanges answers = (u, subst (λ (r : Standing). Answers r line text u) exchanges answers, refl)
longer s (Line one ∷ Text shown ∷ events) t line text u exchanges answers = (exchanges.0, exchanges.1, longer exchanges.0 events t line text u exchanges.2 answers)
longer s (Line one ∷ []) t line text u exchanges answers = absurd exchanges
longer s (Line one ∷ Line two ∷ events) t line text u exchanges answers = absurd exchanges
longer s (Line one ∷ End ∷ events) t line text u exchanges answers = absurd exchanges
longer s (Line one ∷ Failure ∷ events) t line text u exchanges answers = absurd exchanges
longer s (End ∷ events) t line text u exchanges answers = absurd exchanges
longer s (Text shown ∷ events) t line text u exchanges answers = absurd exchanges
longer s (Failure ∷ events) t line text u exchanges answers = absurd exchanges

-- one line more
one_line_more : (events : List Event) (line text : List ℕ) → lines_among (events ++ Line line ∷ Text text ∷ []) ≡ lines_among events + 1
one_line_more [] line text = refl
one_line_more (Line one ∷ events) line text = ap (λ (n : ℕ). n + 1) (one_line_more events line text)
one_line_more (End ∷ events) line text = one_line_more events line text
one_line_more (Text shown ∷ events) line text = one_line_more events line text
one_line_more (Failure ∷ events) line text = one_line_more events line text

-- so far each line was answered, of so many
pub record ServedSoFar (s t : Standing) (before log : Traffic) (lines : ℕ) : Type 0 where
  pub events : List Event
  pub all : Continues before events log
  pub exchanges : Exchanges s events t
  pub count : lines_among events ≡ lines

pub no_exchange : (s : Standing) (log : Traffic) → ServedSoFar s s log log 0
unfolding Exchanges
no_exchange s log = record { events = []; all = continues_same log; exchanges = refl; count = refl }

module _ (s t : Standing) (before log : Traffic) (lines : ℕ) (so : ServedSoFar s t before log lines) where
  pub one_more : (asked shown : Traffic) (line text : List ℕ) (u : Standing) → Continues log (Line line ∷ []) asked → Continues asked (Text text ∷ []) shown → Answers t line text u → ServedSoFar s u before shown (lines + 1)
  one_more asked shown line text u ask show answers = record {
    events = so.events ++ Line line ∷ Text text ∷ [];
    all = continues_more before log shown so.events (Line line ∷ Text text ∷ []) so.all (continues_more log asked shown (Line line ∷ []) (Text text ∷ []) ask show);
    exchanges = longer s so.events t line text u so.exchanges answers;
    count = one_line_more so.events line text ∙ ap (λ (n : ℕ). n + 1) so.count;
  }

  -- there is no more
  pub at_end : (after : Traffic) (x : Unit {0}) → Continues log (End ∷ []) after → IsServed s t before after (Ok x)
  at_end after x end = record { answered = so.events; last = End ∷ []; at = t; events = continues_more before log after so.events (End ∷ []) so.all end; exchanges = so.exchanges; ends = (refl, inl refl) }

  -- no line came
  pub no_line : (after : Traffic) → Continues log (Failure ∷ []) after → IsServed s t before after (Err Reader)
  no_line after failure =
      record { answered = so.events; last = Failure ∷ []; at = t; events = continues_more before log after so.events (Failure ∷ []) so.all failure; exchanges = so.exchanges; ends = (refl, refl) }

  -- the line asks for the end
  pub at_quit : (after : Traffic) (x : Unit {0}) (line : List ℕ) (u : Standing) → Continues log (Line line ∷ []) after → IsQuit t line → u ≡ t → IsServed s u before after (Ok x)
  at_quit after x line u asked quit same =
      record { answered = so.events; last = Line line ∷ []; at = t; events = continues_more before log after so.events (Line line ∷ []) so.all asked; exchanges = so.exchanges; ends = (same, inr (line, refl, quit)) }

  -- memory was refused
  pub no_memory : (after : Traffic) (line : List ℕ) (u : Standing) → Continues log (Line line ∷ []) after → Stops t line u → IsServed s u before after (Err NoMemory)
  no_memory after line u asked stops =
      record { answered = so.events; last = Line line ∷ []; at = t; events = continues_more before log after so.events (Line line ∷ []) so.all asked; exchanges = so.exchanges; ends = (line, refl, stops) }

  -- the answer was not shown whole
  pub cut_off : (asked after : Traffic) (line text : List ℕ) (count : ℕ) (u : Standing) → Continues log (Line line ∷ []) asked → count ≤ length text → Continues asked (Text (take count text) ∷ Failure ∷ []) after →
      Answers t line text u → IsServed s u before after (Err Writer)
  cut_off asked after line text count u ask inside show answers = record {
    answered = so.events;
    last = Line line ∷ Text (take count text) ∷ Failure ∷ [];
    at = t;
    events = continues_more before log after so.events (Line line ∷ Text (take count text) ∷ Failure ∷ []) so.all
        (continues_more log asked after (Line line ∷ []) (Text (take count text) ∷ Failure ∷ []) ask show);
    exchanges = so.exchanges;
    ends = record { line = line; text = text; count = count; answers = answers; inside = inside; events = refl };
  }

  -- there were too many
  pub too_many : lines ≡ LINES → IsServed s t before log (Err TooMany)
  too_many most = record { answered = so.events; last = []; at = t; events = subst (λ (es : List Event). Continues before es log) (sym (append-nil so.events)) so.all; exchanges = so.exchanges; ends = (refl, refl, so.count ∙ most) }
