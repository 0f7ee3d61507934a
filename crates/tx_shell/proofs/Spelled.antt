-- A text can hold what a session has.
use Rattle.std.proofs.Common.{◌≡◌, ◌<◌, ◌≤◌, ℕ, Bool, List, [], ◌∷◌, ◌++◌, reverse, take, Option, None, Some, inl, inr, sym, subst, true, false, arith}
use Rattle.std.proofs.lemmas.List.{reverse-append}
use Rattle.std.proofs.lemmas.List.Elements.{All-cons, All-head, All-map, All-nil, All-push, All-same, All-tail, All-take}
use Rattle.std.specs.List.{All}
use Rattle.tx_base.specs.declared.steps.Accepted.{Accepted}
use Rattle.tx_base.specs.declared.steps.Reply.{Reply}
use Rattle.tx_base.specs.declared.steps.Reply.TheVariants.{Aborted, Committed, Done, Ended, No, Out}
use Rattle.tx_base.specs.declared.steps.Step.{Step}
use Rattle.tx_lines.specs.Lines.{most_of}
use Rattle.tx_lines.specs.Schedule.{FitsStepOf}
use Rattle.tx_lines.specs.declared.read.header.Version.{Version}
use Rattle.tx_lines.specs.declared.read.header.Version.TheVariants as versions
use Rattle.tx_model.specs.Schedules.{history_with}
use Rattle.tx_model.specs.State.{State}
use Rattle.tx_script.specs.Debug.{first_steps}
use Rattle.tx_shell.specs.Answers.{left_by, lets_go, AnswersAskIn, AnswersStep, AnswersWords, Kept}
use Rattle.tx_shell.specs.Events.{End, Failure, Line, Exchanges, Text}
use Rattle.tx_shell.specs.Origins.{version_of, grammar_of, Origin}
use Rattle.tx_shell.specs.Places.{Place}
use Rattle.tx_shell.specs.Spelled.{AllFit, IsSpelled, SpellsSchedule, StaysSpelled}
use Rattle.tx_shell.specs.Standings.{Answers, AnswersMeant, first_standing, Opens, Standing}
use Rattle.tx_shell.specs.declared.lines.asks.Ask.{Ask}
use Rattle.tx_script.specs.declared.forms.Form.{Form}
use Rattle.tx_shell.specs.declared.lines.versions.TextVersion.{TextVersion}

-- what holds of each of a list holds of each of the list turned round
all_reversed : {X : Type 0} (P : X → Type 0) (xs : List X) → All P xs → All P (reverse xs)
all_reversed P [] h = h
all_reversed P (x ∷ xs) h =
    All-same P (reverse (x ∷ xs)) (reverse xs ++ x ∷ []) (reverse-append (x ∷ []) xs)
    (All-push P (reverse xs) x (all_reversed P xs (All-tail P x xs h)) (All-head P x xs h))

-- a step more, where it was accepted
with_step : (version : TextVersion) (h : List Accepted) (step : Step) (reply : Reply) → FitsStepOf (grammar_of version) step → AllFit version h → AllFit version (history_with h step reply)
with_step version h step (No why) fits all = all
with_step version h step (Done ret) fits all = All-cons (λ (e : Accepted). FitsStepOf (grammar_of version) e.step) (record { step = step; reply = Done ret }) h fits all
with_step version h step Ended fits all = All-cons (λ (e : Accepted). FitsStepOf (grammar_of version) e.step) (record { step = step; reply = Ended }) h fits all
with_step version h step (Committed undelivered) fits all =
    All-cons (λ (e : Accepted). FitsStepOf (grammar_of version) e.step) (record { step = step; reply = Committed undelivered }) h fits all
with_step version h step (Aborted status) fits all = All-cons (λ (e : Accepted). FitsStepOf (grammar_of version) e.step) (record { step = step; reply = Aborted status }) h fits all
with_step version h step (Out bytes) fits all = All-cons (λ (e : Accepted). FitsStepOf (grammar_of version) e.step) (record { step = step; reply = Out bytes }) h fits all

-- the steps up to a position
first_fit : (version : TextVersion) (at : ℕ) (h : List Accepted) → AllFit version h → AllFit version (first_steps at h)
first_fit version at h all =
    let P : Accepted → Type 0 = λ (e : Accepted). FitsStepOf (grammar_of version) e.step in
    all_reversed P (take at (reverse h)) (All-take P at (reverse h) (all_reversed P h all))

module _ (o : Origin) (p q : Place) (text : List ℕ) (all : AllFit o.version p.history) where
  same_place : q ≡ p → AllFit o.version q.history
  same_place same = subst (λ (r : Place). AllFit o.version r.history) (sym same) all

  stepped : (form : Form) (step : Step) → FitsStepOf (grammar_of o.version) step → (start : State) → AnswersStep form start p step text q → AllFit o.version q.history
  stepped form step fits start (inl makes) = subst (AllFit o.version) (sym makes.recorded) (with_step o.version p.history step _ fits all)
  stepped form step fits start (inr leaves) = same_place leaves.stays

  left : (goes : Bool) (r : Place) → AllFit o.version r.history → AllFit o.version (left_by goes r).history
  left true r fit = first_fit o.version r.at r.history fit
  left false r fit = fit

  asked : (form : Form) (before after : Kept) (ask : Ask) → AnswersAskIn form o p before ask text q after → AllFit o.version q.history
  asked form before after ask answers =
      subst (λ (r : Place). AllFit o.version r.history) (sym answers.after) (left (lets_go ask) answers.there (subst (AllFit o.version) (sym answers.kept) all))

  worded : (form : Form) (before after : Kept) (line words : List ℕ) → AnswersWords form o p before line words text q after → AllFit o.version q.history
  worded form before after line words (inl (step, is, answers, kept)) = stepped form step (record { fits = is.fits; of = is.of }) _ answers
  worded form before after line words (inr (inl (ask, is, answers))) = asked form before after ask answers
  worded form before after line words (inr (inr (neither, kept))) = same_place neither.stays

-- a header of the first two versions fits the version that its lines are read by
header_fits : (third : Bool) (version : Version) (count : ℕ) → (0 < count) × (count ≤ most_of version) → (0 < count) × (count ≤ most_of (grammar_of (version_of third version)))
header_fits false versions.One count fits = fits
header_fits false versions.Two count fits = fits
header_fits true versions.One count fits = (fits.0, omega (arith, fits.1))
header_fits true versions.Two count fits = fits

opened : (s t : Standing) (line text : List ℕ) → Opens s line text t → IsSpelled t
opened s t line text opens = record {
  begins = subst (λ (v : TextVersion). (0 < t.origin.count) × (t.origin.count ≤ most_of (grammar_of v))) (sym opens.says.version)
      (header_fits _ opens.says.header.version t.origin.count (subst (λ (n : ℕ). (0 < n) × (n ≤ most_of opens.says.header.version)) (sym opens.says.count) opens.says.spelled.fits));
  steps = subst (λ (r : Place). AllFit t.origin.version r.history) (sym opens.place) (All-nil (λ (e : Accepted). FitsStepOf (grammar_of t.origin.version) e.step));
}

meant : (s t : Standing) (line : List ℕ) (words : Option (List ℕ)) (text : List ℕ) → AnswersMeant s line words text t → IsSpelled s → IsSpelled t
meant s t line None text (none, same) spelled = subst IsSpelled (sym same) spelled
meant s t line (Some words) text (other, (q, (kept, answers, goes))) spelled =
    subst IsSpelled (sym goes) (record { begins = spelled.begins; steps = worded s.origin s.place q text spelled.steps s.form s.kept kept line words answers })

answered : (s t : Standing) (line text : List ℕ) → Answers s line text t → IsSpelled s → IsSpelled t
answered s t line text (inl opens) spelled = opened s t line text opens
answered s t line text (inr (none, answers)) spelled = meant s t line _ text answers spelled

pub stays_spelled : StaysSpelled
unfolding Exchanges
stays_spelled s t [] exchanges spelled = subst IsSpelled (sym exchanges) spelled
stays_spelled s t (Line one ∷ Text shown ∷ events) exchanges spelled = stays_spelled exchanges.0 t events exchanges.2 (answered s exchanges.0 one shown exchanges.1 spelled)
stays_spelled s t (Line one ∷ []) exchanges spelled = absurd exchanges
stays_spelled s t (Line one ∷ Line two ∷ events) exchanges spelled = absurd exchanges
stays_spelled s t (Line one ∷ End ∷ events) exchanges spelled = absurd exchanges
stays_spelled s t (Line one ∷ Failure ∷ events) exchanges spelled = absurd exchanges
stays_spelled s t (End ∷ events) exchanges spelled = absurd exchanges
stays_spelled s t (Text shown ∷ events) exchanges spelled = absurd exchanges
stays_spelled s t (Failure ∷ events) exchanges spelled = absurd exchanges

pub first_spelled : (form : Form) → IsSpelled (first_standing form)
first_spelled form = record { begins = (omega arith, omega arith); steps = All-nil (λ (e : Accepted). FitsStepOf versions.Two e.step) }

pub spells_schedule : SpellsSchedule
spells_schedule s spelled few =
    let P : Step → Type 0 = FitsStepOf (grammar_of s.origin.version) in
    let h : List Accepted = s.place.history in
    record {
      header_fits = spelled.begins;
      steps_fit = record {
        fit = All-map P (λ (e : Accepted). e.step) (take s.place.at (reverse h))
            (All-take (λ (e : Accepted). P e.step) s.place.at (reverse h) (all_reversed (λ (e : Accepted). P e.step) h spelled.steps));
        few = few;
      };
    }
