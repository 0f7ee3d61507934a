-- The kinds of sentences, and of diagnostics.
use Rattle.std.proofs.Common.{◌≡◌, ◌≢◌, ◌∙◌, ◌≤◌, ℕ, List, true, Result, Ok, Err, IfOk, IfSome, inl, inr, ap, arith, length, refl, subst, sym}
use Rattle.tx_check.specs.Speaking.{is_front, kind_of_line, kind_of_names, kind_of_what, line_sentence, no_label, word_of, FaultKind, IsFitting, IsOfKind, OfGrammar, OfLabel, OfLength, SpeaksAfter}
use Rattle.tx_check.specs.declared.trouble.LineTrouble.{LineTrouble}
use Rattle.tx_check.specs.declared.trouble.LineTrouble.TheVariants.{TooLong, NoneOfTheGrammar}
use Rattle.tx_check.specs.declared.trouble.Names.{Names}
use Rattle.tx_check.specs.declared.trouble.Names.TheVariants as names
use Rattle.tx_check.specs.declared.trouble.What.{What}
use Rattle.tx_check.specs.declared.trouble.What.TheVariants as whats
use Rattle.tx_check.specs.declared.trouble.WordTrouble.TheVariants as words

-- what is so of an answer, where something else is
pub ok_map : {A E : Type 0} (result : Result A E) (P Q : A → Type 0) → ((x : A) → P x → Q x) → IfOk result P → IfOk result Q
ok_map (Ok value) P Q more is = more value is
ok_map (Err error) P Q more is = tt

-- no trouble with a line as a whole is of a label
never_label : (trouble : LineTrouble) → kind_of_line trouble ≢ OfLabel
never_label TooLong is = absurd (cc)
never_label _ is = absurd (cc)

-- the sentence of a trouble with a line
pub line_kind : (trouble : LineTrouble) (sentence : List ℕ) → sentence ≡ line_sentence trouble → IsOfKind (kind_of_line trouble) sentence
line_kind trouble sentence says = by (kind_of_line trouble) refl
  where
    by : (kind : FaultKind) → kind_of_line trouble ≡ kind → IsOfKind kind sentence
    by OfGrammar is = inl (record { trouble = trouble; of = is; says = says })
    by OfLabel is = absurd (never_label trouble is)
    by OfLength is = record { trouble = trouble; of = is; says = says }

-- that of a name that is none of some
of_other : (front word sentence : List ℕ) → is_front front ≡ true → front ≢ no_label → SpeaksAfter front word sentence → IsOfKind OfGrammar sentence
of_other front word sentence known other speaks = inr (inr (record { front = front; word = word; known = known; other = other; speaks = speaks }))

names_kind : (those : Names) (front word sentence : List ℕ) → is_front front ≡ true → (kind_of_names those ≡ OfLabel → front ≡ no_label) → (kind_of_names those ≡ OfGrammar → front ≢ no_label) → SpeaksAfter front word sentence
    → IsOfKind (kind_of_names those) sentence
names_kind (names.Labels text) front word sentence known label other speaks = (word, subst (λ (f : List ℕ). SpeaksAfter f word sentence) (label refl) speaks)
names_kind _ front word sentence known label other speaks = of_other front word sentence known (other refl) speaks

-- that of a trouble with a word
pub word_kind : (what : What) (front word sentence : List ℕ) → is_front front ≡ true → (kind_of_what what ≡ OfLabel → front ≡ no_label) → (kind_of_what what ≡ OfGrammar → front ≢ no_label) → SpeaksAfter front word sentence
    → IfSome (word_of what) (λ said. IsOfKind (kind_of_what what) sentence)
word_kind (whats.Line trouble) front word sentence known label other speaks = tt
word_kind (whats.OddByte byte) front word sentence known label other speaks = tt
word_kind (whats.Word said (words.NoSuch those)) front word sentence known label other speaks = names_kind those front word sentence known label other speaks
word_kind (whats.Word said _) front word sentence known label other speaks = of_other front word sentence known (other refl) speaks

-- what is neither of a label nor of a length
pub of_grammar : (what : What) (line : List ℕ) → kind_of_what what ≢ OfLabel → (kind_of_what what ≡ OfLength → what ≡ whats.Line TooLong) → (kind_of_what what ≡ OfLength → length line ≤ 512) → IsFitting line what → kind_of_what what ≡ OfGrammar
of_grammar what line no_label long short fits = by (kind_of_what what) refl
  where
    by : (kind : FaultKind) → kind_of_what what ≡ kind → kind ≡ OfGrammar
    by OfGrammar is = refl
    by OfLabel is = absurd (no_label is)
    by OfLength is = absurd (omega (arith, short is, fits.short (long is)))

abbrev trouble_of : What → LineTrouble
trouble_of (whats.Line trouble) = trouble
trouble_of what = NoneOfTheGrammar

-- the same is reported only of the same trouble
pub same_trouble : (what : What) (one other : LineTrouble) → what ≡ whats.Line one → what ≡ whats.Line other → one ≡ other
same_trouble what one other is also = sym (ap trouble_of is) ∙ ap trouble_of also
