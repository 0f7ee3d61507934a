-- A session over a text, as far as it has come.
use Rattle.std.proofs.Common.{◌≡◌, ◌≢◌, ℕ, List, [], ◌∷◌, ◌++◌, Option, Some, inl, inr, refl, sym, subst, append_assoc}
use Rattle.std.proofs.lemmas.List.{append-nil}
use Rattle.tx_translate.specs.MeantLines.{behind}
use Rattle.tx_shell.specs.Cuts.{front_line}
use Rattle.tx_shell.specs.Events.{ComeFrom, End, Event, GoTo, Line, Exchanges, Text}
use Rattle.tx_shell.specs.Standings.{first_standing, Answers, IsQuit, Standing}
use Rattle.tx_script.specs.declared.forms.Form.{Form}
use Rattle.tx_answers.specs.Sessions.{IsServedText}

-- some lines of a text are answered; whatever comes and goes after that is of a session over the whole text
pub record ServedSoFar (form : Form) (text : List ℕ) (s : Standing) (left written : List ℕ) : Type 0 where
  pub events : List Event
  pub exchanges : (more : List Event) (t : Standing) → Exchanges s more t → Exchanges (first_standing form) (events ++ more) t
  pub lines : (more : List Event) (coming : Option (List ℕ)) → ComeFrom left more coming → ComeFrom text (events ++ more) coming
  pub texts : (more : List Event) (shown : Option (List ℕ)) → GoTo written more shown → GoTo [] (events ++ more) shown

pub at_start : (form : Form) (text : List ℕ) → ServedSoFar form text (first_standing form) text []
at_start form text = record { events = []; exchanges = λ more t exchanges. exchanges; lines = λ more coming lines. lines; texts = λ more shown texts. texts }

module _ (form : Form) (text : List ℕ) (s : Standing) (left written : List ℕ) (so : ServedSoFar form text s left written) where
  -- one line more is answered
  pub one_more : (line answer : List ℕ) (t : Standing) → left ≢ [] → line ≡ front_line left → Answers s line answer t → ServedSoFar form text t (behind left) (written ++ answer)
  unfolding Exchanges
  one_more line answer t some front answers =
      let along : (more : List Event) → (so.events ++ (Line line ∷ Text answer ∷ [])) ++ more ≡ so.events ++ (Line line ∷ Text answer ∷ more) = λ more. append_assoc so.events (Line line ∷ Text answer ∷ []) more in
      record {
        events = so.events ++ (Line line ∷ Text answer ∷ []);
        exchanges = λ more u exchanges. subst (λ (events : List Event). Exchanges (first_standing form) events u) (sym (along more)) (so.exchanges (Line line ∷ Text answer ∷ more) u (t, answers, exchanges));
        lines = λ more coming lines. subst (λ (events : List Event). ComeFrom text events coming) (sym (along more)) (so.lines (Line line ∷ Text answer ∷ more) coming (some, front, lines));
        texts = λ more shown texts. subst (λ (events : List Event). GoTo [] events shown) (sym (along more)) (so.texts (Line line ∷ Text answer ∷ more) shown texts);
      }

  -- each line so far has its answer after it
  so_far : Exchanges (first_standing form) so.events s
  unfolding Exchanges
  so_far = subst (λ (events : List Event). Exchanges (first_standing form) events s) (append-nil so.events) (so.exchanges [] s refl)

  -- no line is left
  pub at_end : left ≡ [] → IsServedText form text written
  at_end none = record {
    events = so.events ++ (End ∷ []);
    left = left;
    last = s;
    served = record {
      answered = so.events;
      last = End ∷ [];
      at = s;
      events = record { logged = refl; came = so.lines (End ∷ []) (Some left) (none, refl); went = so.texts (End ∷ []) (Some written) refl };
      exchanges = so_far;
      ends = (refl, inl refl);
    };
  }

  -- the line asks for the end
  pub at_quit : (line : List ℕ) (t : Standing) → left ≢ [] → line ≡ front_line left → IsQuit s line → t ≡ s → IsServedText form text written
  at_quit line t some front quit same = record {
    events = so.events ++ (Line line ∷ []);
    left = behind left;
    last = t;
    served = record {
      answered = so.events;
      last = Line line ∷ [];
      at = s;
      events = record { logged = refl; came = so.lines (Line line ∷ []) (Some (behind left)) (some, front, refl); went = so.texts (Line line ∷ []) (Some written) refl };
      exchanges = so_far;
      ends = (same, inr (line, refl, quit));
    };
  }
