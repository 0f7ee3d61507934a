-- Which calls change nothing but what their own process has, and descriptions and pipes.
use Rattle.std.proofs.Common.{◌⊎◌, ℕ, Option, refl, sym, subst, inl, inr}
use Rattle.tx_base.specs.declared.steps.Call.{Call}
use Rattle.tx_base.specs.declared.steps.Call.TheVariants as call
use Rattle.tx_model.specs.State.{Process, State}
use Rattle.tx_model.specs.Effects.{Inside}
use Rattle.tx_model.specs.Forms.{Caller, Outcome, effect_of, caller}
use Rattle.tx_model.specs.Book.{page_of_call}
use Rattle.tx_model.specs.Words.{call_effect}
use Rattle.tx_laws.proofs.OwnPages.{StaysOwn, own_page, own_of}
use Rattle.tx_laws.proofs.Mild.{goes_unended}
use Rattle.tx_laws.proofs.PlainWrites.{IsPlain, own_plain, pipe_plain, dup_plain, dup2_plain, close_plain, set_nonblock_plain, read_plain, write_plain}

-- the other calls: fork, exit, waitpid, kill and sigqueue
abbrev pub IsSpecial : Call → Type 0
IsSpecial (call.Fork child) = Unit {0}
IsSpecial (call.Exit status) = Unit {0}
IsSpecial (call.Waitpid t nohang) = Unit {0}
IsSpecial (call.Kill t signo) = Unit {0}
IsSpecial (call.Sigqueue t signo value) = Unit {0}
IsSpecial c = ⊥

module _ (S : State) (p : ℕ) (me : Process) (inside : Option Inside) where
  abbrev c : Caller
  c = caller inside p me S

  -- a call that concerns its process alone
  alone_plain : (outcome : Outcome) → StaysOwn me outcome → IsPlain p me (effect_of p me outcome)
  alone_plain outcome h =
      let own = own_of p me outcome h in
      subst (IsPlain p me) (sym own.1) (own_plain p me own.0 (record { parent = own.2.place.parent; status = own.2.place.status; limits = own.2.limits }) (goes_unended own.0.reply own.3))

  -- a call is one of the others, or is plain
  pub call_plain : (asked : Call) → IsSpecial asked ⊎ IsPlain p me (call_effect inside p asked me S)
  call_plain (call.Fork child) = inl tt
  call_plain (call.Exit status) = inl tt
  call_plain (call.Waitpid t nohang) = inl tt
  call_plain (call.Pipe q r w) = inr (pipe_plain c q.0 r.0 w.0)
  call_plain (call.Dup f) = inr (dup_plain c f)
  call_plain (call.Dup2 f g) = inr (dup2_plain c f g)
  call_plain (call.Close f) = inr (close_plain c f)
  call_plain (call.SetNonblock f on) = inr (set_nonblock_plain c f on)
  call_plain (call.Read f address n) = inr (read_plain c f address n)
  call_plain (call.Write f address n) = inr (write_plain c f address n)
  call_plain (call.Kill t signo) = inl tt
  call_plain (call.Sigqueue t signo value) = inl tt
  call_plain asked = inr (alone_plain ((page_of_call asked).outcome c) (own_page c asked refl))
