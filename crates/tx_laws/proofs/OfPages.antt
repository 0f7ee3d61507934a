-- What the pages of the book owe to the laws.
use Rattle.std.proofs.Common.{◌≡◌, ℕ, Bool, true, false, List, [], ◌∷◌, ℤ, Option, Some, None, is_some, refl, ap, ◌∙◌, subst}
use Rattle.std.proofs.lemmas.Bool.{both_ways}
use Rattle.tx_base.specs.declared.errors.Errno.{Errno}
use Rattle.tx_base.specs.declared.steps.Refusal.{Refusal}
use Rattle.tx_base.specs.declared.steps.Reply.{Reply}
use Rattle.tx_model.specs.Numbers.{error_answer}
use Rattle.tx_model.specs.State.{Process, State, Object, Proc, Held, Write, SetProc, has_object}
use Rattle.tx_model.specs.StateLaws.{AgreeOn}
use Rattle.tx_model.specs.Effects.{Inside, with_answer}
use Rattle.tx_model.specs.Forms.{caller, Outcome, Rule, fails, answers, changes, stands, refuses, effect_of, ◌or◌, ◌when◌}
use Rattle.tx_laws.proofs.Objects.{WriteFits, WritesFit, Covers}
use Rattle.tx_laws.proofs.Owed.{IsLocal}
use Rattle.tx_laws.proofs.InPlace.{StaysIn, KeepsPlace, in_place, kept_fits, done_fits}
use Rattle.tx_laws.proofs.Mild.{IsMild, goes, idle_mild, own_mild, done_mild, with_mild}
use Rattle.tx_laws.proofs.Released.{covers_head, covers_rest}

pub none_there : {A : Type 0} (x : Option A) → is_some x ≡ false → x ≡ None
none_there None h = refl
none_there (Some y) h = cc

-- what holds of both ways of two lines that ask the same holds of the lines
module _ {O : Type 0} (R : O → O → Type 0) where
  pub both_or : {A : Type 0} (o u : Option A) (q r : O) (one other : A → O) → o ≡ u → R q r → ((x : A) → o ≡ Some x → R (one x) (other x)) → R ((o or q) one) ((u or r) other)
  both_or {A} o u q r one other e none some = subst (λ (x : Option A). R ((o or q) one) ((x or r) other)) e (by o some)
    where
      by : (x : Option A) → ((y : A) → x ≡ Some y → R (one y) (other y)) → R ((x or q) one) ((x or r) other)
      by None k = none
      by (Some y) k = k y refl

  pub both_when : (b d : Bool) (q r one other : O) → b ≡ d → R q r → (b ≡ false → R one other) → R ((q when b) one) ((r when d) other)
  both_when b d q r one other e gives goes = subst (λ (x : Bool). R ((q when b) one) ((r when x) other)) e (by b goes)
    where
      by : (x : Bool) → (x ≡ false → R one other) → R ((q when x) one) ((r when x) other)
      by true k = gives
      by false k = k refl

-- so they are the same where they go on the same
pub or_same : {A O : Type 0} (o u : Option A) (r : O) (one other : A → O) → o ≡ u → ((x : A) → o ≡ Some x → one x ≡ other x) → (o or r) one ≡ (u or r) other
or_same o u r one other e h = both_or (λ x y. x ≡ y) o u r r one other e refl h

pub when_same : {O : Type 0} (b d : Bool) (r one other : O) → b ≡ d → (b ≡ false → one ≡ other) → (r when b) one ≡ (r when d) other
when_same b d r one other e h = both_when (λ x y. x ≡ y) b d r r one other e refl h

-- an outcome that ends nothing stays in what its call names, and posts to its own process alone
pub record Owes (p : ℕ) (me : Process) (S : State) (os : List Object) (o : Outcome) : Type 0 where
  pub fits : (all : List Object) → S.procs p ≡ Some me → Covers all (Proc p ∷ os) → StaysIn S all (effect_of p me o)
  pub mild : IsMild p (effect_of p me o)

module _ (p : ℕ) (me : Process) (S : State) (os : List Object) where
  pub answers_owes : (r : ℤ) → Owes p me S os (answers r)
  answers_owes r = record { fits = λ all e c. done_fits p me S all e (covers_head all (Proc p) os c) r; mild = done_mild p r me }

  pub fails_owes : (e : Errno) → Owes p me S os (fails e)
  fails_owes e = let a = answers_owes (error_answer e) in record { fits = a.fits; mild = a.mild }

  pub refuses_owes : (why : Refusal) → Owes p me S os (refuses why)
  refuses_owes why = record { fits = λ all e c. (tt, tt); mild = idle_mild p why }

  pub changes_owes : (r : ℤ) (q : Process) (ws : List Write)
      → ((all : List Object) → S.procs p ≡ Some me → has_object (Proc p) all ≡ true → Covers all os → WriteFits S all (SetProc p (Some (with_answer r q))) × WritesFit S all ws)
      → Owes p me S os (changes r q ws)
  changes_owes r q ws h = record {
    fits = λ all e c. (h all e (covers_head all (Proc p) os c) (covers_rest all (Proc p) os c), tt);
    mild = with_mild p ws r q;
  }

  -- the process keeps its place
  pub writes_owe : (r : ℤ) (q : Process) (ws : List Write) → KeepsPlace me q → ((all : List Object) → Covers all os → WritesFit S all ws) → Owes p me S os (changes r q ws)
  writes_owe r q ws k h = changes_owes r q ws λ all e g c. (kept_fits p me S all e g (with_answer r q) (in_place me (with_answer r q) k.parent k.descriptors k.status), h all c)

  pub own_owes : (r : ℤ) (q : Process) → KeepsPlace me q → Owes p me S os (changes r q [])
  own_owes r q k = writes_owe r q [] k (λ all c. tt)

  pub stands_owe : (q : Process) (reply : Reply) → KeepsPlace me q → goes reply ≡ true → Owes p me S os (stands q reply)
  stands_owe q reply k h = record {
    fits = λ all e c. ((kept_fits p me S all e (covers_head all (Proc p) os c) q k, tt), tt);
    mild = own_mild p (record { process = q; reply = reply }) h;
  }

-- a page that ends nothing, and names nothing that is held
pub page_local : (inside : Option Inside) (p : ℕ) (me : Process) (rule : Rule) (os : State → List Object)
    → ((S R : State) → AgreeOn (Proc p ∷ os S) S R → rule (caller inside p me S) ≡ rule (caller inside p me R))
    → ((S R : State) → AgreeOn (Proc p ∷ os S) S R → os S ≡ os R)
    → ((S : State) (u : ℕ) → has_object (Held u) (os S) ≡ false)
    → ((S : State) → Owes p me S (os S) (rule (caller inside p me S)))
    → IsLocal inside p me (λ S. effect_of p me (rule (caller inside p me S))) os
page_local inside p me rule os same foot lacks owes = record {
  same = λ S R a. ap (effect_of p me) (same S R a);
  foot = foot;
  fits = λ S all e c. (owes S).fits all e c;
  sends = λ S i k l m n. ap i.members ((owes S).mild.sends m n) ∙ l;
  holds = λ S i k u h. absurd (both_ways (has_object (Held u) (os S)) (lacks S u) h);
}
