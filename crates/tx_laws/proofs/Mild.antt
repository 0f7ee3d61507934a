-- Effects that end no process, and send to nobody but their own.
use Rattle.std.proofs.Common.{◌≡◌, ℕ, Bool, true, false, List, length, ℤ, nat_lt, ◌+◌, refl}
use Rattle.tx_base.specs.declared.limits.TheConstants.{CONSOLE_BYTES}
use Rattle.tx_base.specs.declared.steps.Refusal.{Refusal}
use Rattle.tx_base.specs.declared.steps.Reply.{Reply}
use Rattle.tx_base.specs.declared.steps.Reply.TheVariants.{Done, Ended, Committed, Aborted, Out, No}
use Rattle.tx_model.specs.State.{Process, Sending, Write}
use Rattle.tx_model.specs.Effects.{Conclusion, Replies, AnswersPost, ListsFailed, Effect, idle}
use Rattle.tx_model.specs.Words.{Own, own_effect, answer_effect, answer_effect_with}
use Rattle.tx_model.specs.Membership.{says_ended}
use Rattle.tx_laws.specs.Fits.{IsIn}

-- whether the reply says of no end, and what it shows fits it
abbrev pub goes : Reply → Bool
goes (Done r) = true
goes Ended = false
goes (Committed undelivered) = false
goes (Aborted status) = true
goes (Out bytes) = nat_lt (length bytes.items) (CONSOLE_BYTES + 1)
goes (No why) = true

pub goes_unended : (r : Reply) → goes r ≡ true → says_ended r ≡ false
goes_unended (Done r) h = refl
goes_unended Ended h = cc
goes_unended (Committed undelivered) h = cc
goes_unended (Aborted status) h = refl
goes_unended (Out bytes) h = refl
goes_unended (No why) h = refl

-- the conclusion says of no end, and what it shows fits its reply
abbrev pub GoesOn : Conclusion → Type 0
GoesOn (Replies r) = goes r ≡ true
GoesOn (AnswersPost p) = Unit {0}
GoesOn ListsFailed = ⊥

pub record IsMild (p : ℕ) (f : Effect) : Type 0 where
  pub goes_on : GoesOn f.conclusion
  pub sends : (m : Sending) → IsIn m f.sends → m.target ≡ p

module _ (p : ℕ) where
  pub idle_mild : (why : Refusal) → IsMild p (idle why)
  idle_mild why = record { goes_on = refl; sends = λ m h. absurd h }

  pub own_mild : (own : Own) → goes own.reply ≡ true → IsMild p (own_effect p own)
  own_mild own h = record { goes_on = h; sends = λ m k. absurd k }

  pub done_mild : (r : ℤ) (me : Process) → IsMild p (answer_effect p r me)
  done_mild r me = own_mild _ refl

  pub with_mild : (ws : List Write) (r : ℤ) (me : Process) → IsMild p (answer_effect_with ws p r me)
  with_mild ws r me = record { goes_on = refl; sends = λ m h. absurd h }
