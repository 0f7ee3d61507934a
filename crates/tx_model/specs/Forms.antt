-- The form of the rules. A page is read from the top: the first line that gives an outcome decides.
use Rattle.std.specs.Prelude.{ℕ, Bool, List, [], ◌∷◌, ℤ, Option, Some, None, if◌then◌else◌}
use Rattle.tx_base.specs.declared.errors.Errno.{Errno}
use Rattle.tx_base.specs.declared.steps.Refusal.{Refusal}
use Rattle.tx_base.specs.declared.steps.Reply.{Reply}
use Rattle.tx_base.specs.declared.steps.Reply.TheVariants.{Done}
use Rattle.tx_model.specs.Numbers.{error_answer}
use Rattle.tx_model.specs.State.{Process, State, Sending, Object, Write}
use Rattle.tx_model.specs.Effects.{Inside, Effect, AnswersPost, idle, with_answer, process_effect}

-- who makes a call, and what it finds
pub record Caller : Type 0 where
  pub number : ℕ
  pub process : Process
  pub inside : Option Inside
  pub state : State

abbrev pub caller : Option Inside → ℕ → Process → State → Caller
caller inside p me S = record { number = p; process = me; inside = inside; state = S }

pub data Outcome : Type 0 where
  -- the answer is an error
  fails : Errno → Outcome
  -- the answer is a number
  answers : ℤ → Outcome
  -- and the process becomes so, and so much else is written
  changes : ℤ → Process → List Write → Outcome
  -- the process becomes so, with its point and its answer, and this is the reply
  stands : Process → Reply → Outcome
  -- the answer is that of a post
  posts : Sending → Outcome
  -- the step is refused
  refuses : Refusal → Outcome
  -- all else
  does : Effect → Outcome

abbrev pub Rule : Type 0
Rule = Caller → Outcome

-- every answer but that of `stands` moves the process to its next point
abbrev pub effect_of : ℕ → Process → Outcome → Effect
effect_of p me (fails errno) =
    process_effect p (with_answer (error_answer errno) me) [] (Done (error_answer errno))
effect_of p me (answers r) = process_effect p (with_answer r me) [] (Done r)
effect_of p me (changes r q writes) = process_effect p (with_answer r q) writes (Done r)
effect_of p me (stands q reply) = process_effect p q [] reply
effect_of p me (posts m) = record { writes = []; sends = m ∷ []; conclusion = AnswersPost p }
effect_of p me (refuses why) = idle why
effect_of p me (does f) = f

-- `x ← o or r`: where o is nothing the outcome is r; else x is what it is
infixr 20 ◌or◌
abbrev pub ◌or◌ : {A R : Type 0} → Option A → R → (A → R) → R
◌or◌ o r rest = elim o [ None ↦ r | Some x ↦ rest x ]

abbrev pub ◌>>=◌ : {A R : Type 0} → ((A → R) → R) → (A → R) → R
◌>>=◌ line rest = line rest

-- `r when b`: where b holds the outcome is r
infixr 20 ◌when◌
abbrev pub ◌when◌ : {R : Type 0} → R → Bool → R → R
◌when◌ r b rest = if b then r else rest

abbrev pub ◌>>◌ : {R : Type 0} → (R → R) → R → R
◌>>◌ line rest = line rest

pub data Choice : Type 0 where
  ChoosesNothing : Choice
  ChoosesProcess : ℕ → Choice
  -- a pipe, and its two descriptions
  ChoosesPipe : ℕ → ℕ → ℕ → Choice

-- what a call is to transactions
pub data Kind : Type 0 where
  Ordinary : Kind
  -- the caller has a child of this number, if the call is accepted
  Forking : ℕ → Kind
  Beginning : Bool → Kind
  Leaving : Kind
  Aborting : Kind

pub record Page : Type 0 where
  pub outcome : Rule
  -- what it names beside its process, its posts apart
  pub names : Caller → List Object
  pub chooses : Choice
  pub kind : Kind

abbrev pub page : Rule → Page
page outcome =
    record { outcome = outcome; names = λ c. []; chooses = ChoosesNothing; kind = Ordinary }

abbrev pub page_naming : Rule → (Caller → List Object) → Page
page_naming outcome names = record (page outcome) { names = names }
