-- What sends owe.
use Rattle.std.proofs.Common.{◌≡◌, ℕ, Bool, true, false, List, [], ◌∷◌, ℤ, pos, Option, Some, None, if◌then◌else◌, refl, sym, ap, subst, inl, inr}
use Rattle.tx_base.specs.declared.errors.Errno.TheVariants.{NoSuchProcess, InvalidArgument}
use Rattle.tx_model.specs.Numbers.{error_answer}
use Rattle.tx_model.specs.ObjectFacts.{has_head, has_tail}
use Rattle.tx_model.specs.State.{Process, State, Sending, Object, Proc, Held, has_object}
use Rattle.tx_model.specs.StateLaws.{AgreeOn}
use Rattle.tx_model.specs.Effects.{Inside, with_answer}
use Rattle.tx_model.specs.Book.{closed_inside, sendable, sending_from, sigqueue}
use Rattle.tx_model.specs.Processes.{holder_of, pid_of, held_objects}
use Rattle.tx_model.specs.Forms.{fails, posts, effect_of, caller}
use Rattle.tx_laws.specs.Fits.{IsIn}
use Rattle.tx_model.specs.BookLaws.{sigqueue_lines}
use Rattle.tx_laws.proofs.Objects.{Covers}
use Rattle.tx_laws.proofs.Owed.{IsLocal}
use Rattle.tx_laws.proofs.OfPages.{or_same}
use Rattle.tx_laws.proofs.OfProcesses.{held_own}
use Rattle.tx_laws.proofs.InPlace.{StaysIn, in_place, kept_fits, done_fits}

-- a transaction that holds a send is the one that its sender is inside of
pub holder_is : (target : ℕ) (inside : Option Inside) (i : Inside) → holder_of target inside ≡ Some i → inside ≡ Some i
holder_is target None i e = cc
holder_is target (Some j) i e = by (j.members target) e
  where
    by : (b : Bool) → (if b then None else Some j) ≡ Some i → Some j ≡ Some i
    by true h = cc
    by false h = h

-- a member's send that is not held goes to a member
goes_inside : (target : ℕ) (i : Inside) → holder_of target (Some i) ≡ None → i.members target ≡ true
goes_inside target i e = by (i.members target) e
  where
    by : (b : Bool) → (if b then None else Some i) ≡ None → b ≡ true
    by true h = refl
    by false h = cc

module _ (inside : Option Inside) (p : ℕ) (me : Process) (t s value : ℤ) where
  send_fits : (S : State) (all : List Object) → S.procs p ≡ Some me → has_object (Proc p) all ≡ true → Covers all (held_objects inside)
      → StaysIn S all (effect_of p me (sigqueue t s value (caller inside p me S)))
  send_fits S all e h c =
      sigqueue_lines (λ o. StaysIn S all (effect_of p me o)) (caller inside p me S) (λ errno. done_fits p me S all e h (error_answer errno)) t s value (done_fits p me S all e h closed_inside)
      (λ signo target a b out. (tt, h))
      λ signo target i a b is some room. (
        (
          kept_fits p me S all e h (with_answer (pos 0) me) (in_place me _ refl refl refl),
          (c (Held i.starter) (rw (holder_is target inside i is) (has_head (Held i.starter) [])), tt),
        ),
        tt,
      )

  send_sends : (S : State) (i : Inside) → inside ≡ Some i → (m : Sending) → IsIn m (effect_of p me (sigqueue t s value (caller inside p me S))).sends → i.members m.target ≡ true
  send_sends S i e m =
      sigqueue_lines (λ o. IsIn m (effect_of p me o).sends → i.members m.target ≡ true) (caller inside p me S) (λ errno h. absurd h) t s value (λ h. absurd h)
      (λ signo target a b out h. elim h [
        | inl k ↦ subst (λ (x : Sending). i.members x.target ≡ true) (sym k) (goes_inside target i (subst (λ (x : Option Inside). holder_of target x ≡ None) e out))
        | inr k ↦ absurd k
      ]) (λ signo target j a b is some room h. absurd h)

  -- states that agree at what is held do the same
  send_same : (S R : State) → AgreeOn (Proc p ∷ held_objects inside) S R → sigqueue t s value (caller inside p me S) ≡ sigqueue t s value (caller inside p me R)
  send_same S R a =
      or_same (sendable s) (sendable s) (fails InvalidArgument) _ _ refl
      λ signo e. or_same (pid_of S.width t) (pid_of R.width t) (fails NoSuchProcess) _ _ (ap (λ (w : ℕ). pid_of w t) (a (Proc p) (has_head (Proc p) (held_objects inside))).width)
      λ target there. or_same (holder_of target inside) (holder_of target inside) (posts (sending_from me target signo value)) _ _ refl
      λ i is. let k = a (Held i.starter) (has_tail (Held i.starter) (Proc p) (held_objects inside) (rw (holder_is target inside i is) (has_head (Held i.starter) []))) in rw k.equal refl

  pub send_local : IsLocal inside p me (λ S. effect_of p me (sigqueue t s value (caller inside p me S))) (λ S. held_objects inside)
  send_local = record {
    same = λ S R a. ap (effect_of p me) (send_same S R a);
    foot = λ S R a. refl;
    fits = λ S all e c. send_fits S all e (c (Proc p) (has_head (Proc p) (held_objects inside))) (λ o h. c o (has_tail o (Proc p) (held_objects inside) h));
    sends = λ S i e k m h. send_sends S i e m h;
    holds = λ S i e u h. held_own inside i e u h;
  }
