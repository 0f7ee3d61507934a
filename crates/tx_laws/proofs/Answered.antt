-- The answers of posts are the same in two states, where each target agrees or was compared.
use Rattle.std.proofs.Common.{◌≡◌, Bool, true, false, List, [], ◌∷◌, ℤ, ◌==◌, if◌then◌else◌, refl, ap, ap₂, ◌∙◌, inl, inr, ◌⊎◌, eq-eqb}
use Rattle.std.specs.Ordering.{int_eq}
use Rattle.std.proofs.lemmas.Bool.Decides.{Decides-int_eq}
use Rattle.tx_model.specs.State.{State, Sending, Proc}
use Rattle.tx_model.specs.StateLaws.{EqualAt}
use Rattle.tx_model.specs.Posts.{post_answer, after_post, post_answers}
use Rattle.tx_model.specs.View.{differs_at}
use Rattle.tx_laws.specs.Fits.{IsIn}
use Rattle.tx_laws.proofs.Agree.{post_part}

pub or_false_left : (x y : Bool) → (if x then true else y) ≡ false → x ≡ false
or_false_left true y h = h
or_false_left false y h = refl

pub or_false_right : (x y : Bool) → (if x then true else y) ≡ false → y ≡ false
or_false_right true y h = cc
or_false_right false y h = h

-- the target is the same in both states; or the answers to it are the same in a third that is the same there
abbrev pub Known : List Sending → State → State → Sending → Type 0
Known ms S R m = EqualAt S R (Proc m.target) ⊎ ((Q : State) × EqualAt Q R (Proc m.target) × (differs_at m.target ms (post_answers ms S) (post_answers ms Q) ≡ false))

same_int : (x y : ℤ) (rest : Bool) → (if int_eq x y then rest else true) ≡ false → x ≡ y
same_int x y rest h = by (int_eq x y) refl
  where
    by : (b : Bool) → int_eq x y ≡ b → x ≡ y
    by true e = (Decides-int_eq x y).0 e
    by false e = let z : true ≡ false = rw e at h in cc

head_same : (m : Sending) (ms : List Sending) (S R : State) → Known (m ∷ ms) S R m → post_answer m (S.procs m.target) ≡ post_answer m (R.procs m.target)
unfolding differs_at post_answers
head_same m ms S R (inl a) = ap (post_answer m) a
head_same m ms S R (inr (Q, a, d)) =
    same_int (post_answer m (S.procs m.target)) (post_answer m (Q.procs m.target)) (differs_at m.target ms (post_answers ms (after_post m S)) (post_answers ms (after_post m Q))) (rw (eq-eqb m.target m.target refl) at d)
    ∙ ap (post_answer m) a

tail_differs : (b c : Bool) (rest : Bool) → (if b then (if c then rest else true) else rest) ≡ false → rest ≡ false
tail_differs true true rest h = h
tail_differs true false rest h = cc
tail_differs false c rest h = h

tail_known : (m : Sending) (ms : List Sending) (S R : State) (n : Sending) → Known (m ∷ ms) S R n → Known ms (after_post m S) (after_post m R) n
unfolding differs_at post_answers
tail_known m ms S R n (inl a) = inl (post_part m S R (Proc n.target) a)
tail_known m ms S R n (inr (Q, a, d)) =
    inr (
      after_post m Q,
      post_part m Q R (Proc n.target) a,
      tail_differs (m.target == n.target) (int_eq (post_answer m (S.procs m.target)) (post_answer m (Q.procs m.target))) (differs_at n.target ms (post_answers ms (after_post m S)) (post_answers ms (after_post m Q))) d,
    )

pub answers_known : (ms : List Sending) (S R : State) → ((m : Sending) → IsIn m ms → Known ms S R m) → post_answers ms S ≡ post_answers ms R
unfolding post_answers
answers_known [] S R a = refl
answers_known (m ∷ ms) S R a =
    ap₂ (λ (x : ℤ) (y : List ℤ). x ∷ y) (head_same m ms S R (a m (inl refl)))
    (answers_known ms (after_post m S) (after_post m R) (λ n h. tail_known m ms S R n (a n (inr h))))
