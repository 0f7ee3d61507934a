-- What the calls on descriptors owe to the laws.
use Rattle.std.proofs.Common.{◌≡◌, ℕ, zero, suc, ◌+◌, Bool, true, false, List, [], ◌∷◌, ◌++◌, ℤ, pos, Option, Some, None, is_some, if◌then◌else◌, ◌==◌, slice_index_or, slice_set, refl, sym, ap, ap₂, ◌∙◌, subst, eqb-true, arith}
use Rattle.std.proofs.lemmas.Bool.{both_ways}
use Rattle.tx_base.specs.declared.errors.Errno.TheVariants.{BadDescriptor}
use Rattle.tx_base.specs.declared.steps.Refusal.TheVariants.{NumberTaken}
use Rattle.tx_model.specs.ObjectFacts.{same_is, has_head, has_tail}
use Rattle.tx_model.specs.State.{Process, ReadSide, WriteSide, Side, Description, State, Object, Proc, Desc, Pipe, Held, SetDesc, is_number, side_in, same_object, has_object}
use Rattle.tx_model.specs.StateLaws.{AgreeOn}
use Rattle.tx_model.specs.Effects.{Inside, with_answer}
use Rattle.tx_model.specs.Descriptors.{descriptor, description_named, with_descriptor, first_free, option_list, is_pipe_in_use, other_than, desc_objects, desc_pipe_objects}
use Rattle.tx_model.specs.Words.{pipe_objects, dup2_objects, with_two_slots}
use Rattle.tx_model.specs.Forms.{fails, answers, changes, refuses, effect_of, caller}
use Rattle.tx_model.specs.Book.{release, pipe, dup, dup2, close, set_nonblock}
use Rattle.tx_model.specs.BookLaws.{pipe_lines, dup_lines, dup2_lines, close_lines, set_nonblock_lines}
use Rattle.tx_laws.proofs.Objects.{WriteFits, Covers}
use Rattle.tx_laws.proofs.Owed.{IsLocal}
use Rattle.tx_laws.proofs.InPlace.{in_place, self_fits}
use Rattle.tx_laws.proofs.OfPages.{or_same, when_same, Owes, answers_owes, fails_owes, refuses_owes, changes_owes, writes_owe, page_local}
use Rattle.tx_laws.proofs.Released.{agree_right, agree_rest, covers_left, covers_right, covers_head, lacks_both, descs_held, ends_held, ends_same, released_after, released_fits}

-- the number of a description that is none of the objects
abbrev IsElsewhere : List Object → ℕ → Type 0
IsElsewhere all d = has_object (Desc d) all ≡ false

-- a place among the descriptors names no description that is elsewhere
not_named : (all : List Object) (v : Option ℕ) → Covers all (desc_objects (option_list v)) → (d : ℕ) → IsElsewhere all d → is_number d v ≡ false
not_named all None c d h = refl
not_named all (Some r) c d h = by (r == d) (λ e. eqb-true r d e)
  where
    by : (b : Bool) → (b ≡ true → r ≡ d) → b ≡ false
    by true e =
        let k : has_object (Desc d) all ≡ true = subst (λ (n : ℕ). has_object (Desc n) all ≡ true) (e refl) (covers_head all (Desc r) [] c) in
        absurd (both_ways (has_object (Desc d) all) h k)
    by false e = refl

one_covered : (all : List Object) (r : ℕ) → has_object (Desc r) all ≡ true → Covers all (Desc r ∷ [])
unfolding has_object
one_covered all r h o k = by (same_object o (Desc r)) (λ z. same_is o (Desc r) z) k
  where
    by : (b : Bool) → (b ≡ true → o ≡ Desc r) → (if b then true else false) ≡ true → has_object o all ≡ true
    by true z l = subst (λ (x : Object). has_object x all ≡ true) (sym (z refl)) h
    by false z l = cc

-- a place that gets a name which is told from the old one by no test for d
slot_same : (d : ℕ) (xs : List (Option ℕ)) (f : ℕ) (v : Option ℕ) (i : ℕ) → is_number d v ≡ is_number d (slice_index_or xs f None)
    → is_number d (slice_index_or (slice_set xs f v) i None) ≡ is_number d (slice_index_or xs i None)
slot_same d [] f v i h = refl
slot_same d (x ∷ xs) zero v zero h = h
slot_same d (x ∷ xs) zero v (suc i) h = refl
slot_same d (x ∷ xs) (suc f) v zero h = refl
slot_same d (x ∷ xs) (suc f) v (suc i) h = slot_same d xs f v i h

-- the first free place names nothing
free_from : (n : ℕ) (xs : List (Option ℕ)) (f : ℕ) → first_free n xs ≡ Some f → (i : ℕ) × (f ≡ n + i) × (slice_index_or xs i None ≡ None)
unfolding first_free
free_from n [] f h = cc
free_from n (None ∷ xs) f h = let k : n ≡ f = cc in (0, omega arith, refl)
free_from n (Some d ∷ xs) f h = let r = free_from (n + 1) xs f h in let k : f ≡ n + 1 + r.0 = r.1 in (suc r.0, omega arith, r.2)

free_at : (xs : List (Option ℕ)) (f : ℕ) → first_free 0 xs ≡ Some f → slice_index_or xs f None ≡ None
free_at xs f h =
    let r = free_from 0 xs f h in
    let k : f ≡ 0 + r.0 = r.1 in
    let e : r.0 ≡ f = omega arith in
    subst (λ (i : ℕ). slice_index_or xs i None ≡ None) e r.2

-- a free place gets the name of one of the objects
free_same : (all : List Object) (xs : List (Option ℕ)) (f r : ℕ) → first_free 0 xs ≡ Some f → has_object (Desc r) all ≡ true
    → (d i : ℕ) → IsElsewhere all d → is_number d (slice_index_or (slice_set xs f (Some r)) i None) ≡ is_number d (slice_index_or xs i None)
free_same all xs f r e h d i k =
    slot_same d xs f (Some r) i (not_named all (Some r) (one_covered all r h) d k ∙ ap (is_number d) (sym (free_at xs f e)))

desc_covered : (all : List Object) (v : Option ℕ) (d : ℕ) → v ≡ Some d → Covers all (desc_objects (option_list v)) → has_object (Desc d) all ≡ true
desc_covered all v d e c = covers_head all (Desc d) [] (subst (λ (x : Option ℕ). Covers all (desc_objects (option_list x))) e c)

module _ (inside : Option Inside) (p : ℕ) (me : Process) where
  gives_up_same : (ds : List ℕ) (r : ℤ) (q : Process) (S R : State) → AgreeOn (desc_pipe_objects ds S) S R → release ds r q (caller inside p me S) ≡ release ds r q (caller inside p me R)
  gives_up_same ds r q S R a = ap (changes r q) (released_after ds p (Some (with_answer r q)) S R a)

  -- a descriptor is free, or named one of the objects, and gets the name of one of them or none
  gives_up_owes : (os : List Object) (ds : List ℕ) (r : ℤ) (f : ℕ) (v : Option ℕ) (S : State)
      → ((all : List Object) → Covers all os → Covers all (desc_pipe_objects ds S) × ((n : ℕ) → has_object (Desc n) all ≡ false → is_number n v ≡ is_number n (description_named me (Some f))))
      → Owes p me S os (release ds r (with_descriptor f v me) (caller inside p me S))
  gives_up_owes os ds r f v S h = changes_owes p me S os r (with_descriptor f v me) _ λ all e g c. (
    self_fits p me S all e g (with_answer r (with_descriptor f v me)) refl refl (λ n i l. slot_same n me.descriptors f v i ((h all c).1 n l)),
    released_fits ds S _ all refl (h all c).0,
  )

  -- dup
  pub dup_owes : (f : ℤ) (S : State) → Owes p me S (desc_objects (option_list (description_named me (descriptor f)))) (dup f (caller inside p me S))
  dup_owes f S =
      let os : List Object = desc_objects (option_list (description_named me (descriptor f))) in
      dup_lines (λ o. Owes p me S os o) (caller inside p me S) (fails_owes p me S os) f
      λ d g e free. changes_owes p me S os (pos g) (with_descriptor g (Some d) me) [] λ all z h c. (
        self_fits p me S all z h (with_answer (pos g) (with_descriptor g (Some d) me)) refl refl (free_same all me.descriptors g d free (desc_covered all (description_named me (descriptor f)) d e c)),
        tt,
      )

  pub dup_local : (f : ℤ) → IsLocal inside p me (λ S. effect_of p me (dup f (caller inside p me S))) (λ S. desc_objects (option_list (description_named me (descriptor f))))
  dup_local f = page_local inside p me (dup f) _ (λ S R a. refl) (λ S R a. refl) (λ S u. descs_held u (option_list (description_named me (descriptor f)))) (dup_owes f)

  -- close
  pub close_owes : (a : ℤ) (S : State) → Owes p me S (desc_pipe_objects (option_list (description_named me (descriptor a))) S) (close a (caller inside p me S))
  close_owes a S =
      let v : Option ℕ = description_named me (descriptor a) in
      close_lines (λ o. Owes p me S (desc_pipe_objects (option_list v) S) o) (caller inside p me S) (fails_owes p me S (desc_pipe_objects (option_list v) S)) a
      λ f d first e. gives_up_owes (desc_pipe_objects (option_list v) S) (d ∷ []) (pos 0) f None S λ all c.
      let k : Covers all (desc_pipe_objects (d ∷ []) S) = subst (λ (x : Option ℕ). Covers all (desc_pipe_objects (option_list x) S)) (ap (description_named me) first ∙ e) c in
      (k, λ n l. sym (ap (is_number n) e ∙ not_named all (Some d) (one_covered all d (covers_head all (Desc d) _ k)) n l))

  pub close_local : (a : ℤ) → IsLocal inside p me (λ S. effect_of p me (close a (caller inside p me S))) (λ S. desc_pipe_objects (option_list (description_named me (descriptor a))) S)
  close_local a = page_local inside p me (close a) names same (λ S R k. ends_same (option_list v) S R (agree_rest (Proc p) (names S) S R k)) (λ S u. ends_held u (option_list v) S) (close_owes a)
    where
      v : Option ℕ
      v = description_named me (descriptor a)

      names : State → List Object
      names S = desc_pipe_objects (option_list v) S

      same : (S R : State) → AgreeOn (Proc p ∷ names S) S R → close a (caller inside p me S) ≡ close a (caller inside p me R)
      same S R k =
          or_same (descriptor a) (descriptor a) (fails BadDescriptor) _ _ refl λ f first. or_same (description_named me (Some f)) (description_named me (Some f)) (fails BadDescriptor) _ _ refl
          λ d e. gives_up_same (d ∷ []) (pos 0) (with_descriptor f None me) S R
          (subst (λ (x : Option ℕ). AgreeOn (desc_pipe_objects (option_list x) S) S R) (ap (description_named me) first ∙ e) (agree_rest (Proc p) (names S) S R k))

  -- set_nonblock
  pub nonblock_owes : (f : ℤ) (on : Bool) (S : State) → Owes p me S (desc_objects (option_list (description_named me (descriptor f)))) (set_nonblock f on (caller inside p me S))
  nonblock_owes f on S =
      let os : List Object = desc_objects (option_list (description_named me (descriptor f))) in
      set_nonblock_lines (λ o. Owes p me S os o) (caller inside p me S) (fails_owes p me S os) f on
      λ d x e there. writes_owe p me S os (pos 0) me _ (in_place me _ refl refl refl) λ all c. ((desc_covered all (description_named me (descriptor f)) d e c, λ n l. rw there refl), tt)

  pub nonblock_local : (f : ℤ) (on : Bool) → IsLocal inside p me (λ S. effect_of p me (set_nonblock f on (caller inside p me S))) (λ S. desc_objects (option_list (description_named me (descriptor f))))
  nonblock_local f on =
      page_local inside p me (set_nonblock f on) (λ S. desc_objects (option_list (description_named me (descriptor f)))) same (λ S R a. refl) (λ S u. descs_held u (option_list v)) (nonblock_owes f on)
    where
      v : Option ℕ
      v = description_named me (descriptor f)

      same : (S R : State) → AgreeOn (Proc p ∷ desc_objects (option_list v)) S R → set_nonblock f on (caller inside p me S) ≡ set_nonblock f on (caller inside p me R)
      same S R a =
          or_same v v (fails BadDescriptor) _ _ refl λ d e. or_same (S.descs d) (R.descs d) (fails BadDescriptor) _ _
          (subst (λ (x : Option ℕ). AgreeOn (desc_objects (option_list x)) S R) e (agree_rest (Proc p) (desc_objects (option_list v)) S R a) (Desc d) (has_head (Desc d) [])).equal
          λ x z. refl

-- dup2
module _ (inside : Option Inside) (p : ℕ) (me : Process) (a b : ℤ) where
  abbrev kept : List Object
  kept = desc_objects (option_list (description_named me (descriptor a)))

  abbrev lost : List ℕ
  lost = other_than (descriptor a) (descriptor b) me

  abbrev names : State → List Object
  names S = dup2_objects (descriptor a) (descriptor b) me S

  lost_is : (f g : ℕ) → descriptor a ≡ Some f → descriptor b ≡ Some g → (f == g) ≡ false → lost ≡ option_list (description_named me (Some g))
  lost_is f g first second other = ap₂ (λ (x y : Option ℕ). other_than x y me) first second ∙ ap (λ (z : Bool). if z then [] else option_list (description_named me (Some g))) other

  pub dup2_owes : (S : State) → Owes p me S (names S) (dup2 a b (caller inside p me S))
  dup2_owes S =
      dup2_lines (λ o. Owes p me S (names S) o) (caller inside p me S) (fails_owes p me S (names S)) a b (λ g. answers_owes p me S (names S) (pos g))
      λ f d g first e second other. gives_up_owes inside p me (names S) (option_list (description_named me (Some g))) (pos g) g (Some d) S λ all c.
      let d_in : has_object (Desc d) all ≡ true = desc_covered all (description_named me (descriptor a)) d (ap (description_named me) first ∙ e) (covers_left all kept (desc_pipe_objects lost S) c) in
      let k : Covers all (desc_pipe_objects (option_list (description_named me (Some g))) S) =
      subst (λ (ds : List ℕ). Covers all (desc_pipe_objects ds S)) (lost_is f g first second other) (covers_right all kept (desc_pipe_objects lost S) c) in
      (k, λ n l. not_named all (Some d) (one_covered all d d_in) n l ∙ sym (not_named all (description_named me (Some g)) (covers_left all _ _ k) n l))

  agree_lost : (S R : State) → AgreeOn (Proc p ∷ names S) S R → AgreeOn (desc_pipe_objects lost S) S R
  agree_lost S R k = agree_right kept (desc_pipe_objects lost S) S R (agree_rest (Proc p) (names S) S R k)

  dup2_same : (S R : State) → AgreeOn (Proc p ∷ names S) S R → dup2 a b (caller inside p me S) ≡ dup2 a b (caller inside p me R)
  dup2_same S R k =
      or_same (descriptor a) (descriptor a) (fails BadDescriptor) _ _ refl λ f first. or_same (description_named me (Some f)) (description_named me (Some f)) (fails BadDescriptor) _ _ refl
      λ d e. or_same (descriptor b) (descriptor b) (fails BadDescriptor) _ _ refl λ g second. when_same (f == g) (f == g) (answers (pos g)) _ _ refl
      λ other. gives_up_same inside p me (option_list (description_named me (Some g))) (pos g) (with_descriptor g (Some d) me) S R
      (subst (λ (ds : List ℕ). AgreeOn (desc_pipe_objects ds S) S R) (lost_is f g first second other) (agree_lost S R k))

  pub dup2_local : IsLocal inside p me (λ S. effect_of p me (dup2 a b (caller inside p me S))) names
  dup2_local =
      page_local inside p me (dup2 a b) names dup2_same (λ S R k. ap (λ (os : List Object). kept ++ os) (ends_same lost S R (agree_lost S R k)))
      (λ S u. lacks_both (Held u) kept (desc_pipe_objects lost S) (descs_held u (option_list (description_named me (descriptor a)))) (ends_held u lost S)) dup2_owes

-- pipe: an end of the new pipe at a number that was free
side_fits : (S : State) (all : List Object) (q r : ℕ) (side : Side) → S.descs r ≡ None → has_object (Desc r) all ≡ true → has_object (Pipe q) all ≡ true
    → WriteFits S all (SetDesc r (Some (record { pipe = q; side = side; nonblock = false })))
side_fits S all q r side e h k = (h, λ n l. by n l (q == n) (λ z. eqb-true q n z) ∙ ap (side_in n) (sym e))
  where
    by : (n : ℕ) → has_object (Pipe n) all ≡ false → (b : Bool) → (b ≡ true → q ≡ n) → (if b then Some side else None) ≡ None
    by n l true z =
        let m : has_object (Pipe n) all ≡ true = subst (λ (i : ℕ). has_object (Pipe i) all ≡ true) (z refl) k in
        absurd (both_ways (has_object (Pipe n) all) l m)
    by n l false z = refl

-- the numbers of the descriptions are free
free_two : (x : Option (List ℕ)) (y z : Option Description) → (if is_some x then true else (if is_some y then true else is_some z)) ≡ false → (y ≡ None) × (z ≡ None)
free_two (Some x) y z h = cc
free_two None (Some y) z h = cc
free_two None None (Some z) h = cc
free_two None None None h = (refl, refl)

module _ (inside : Option Inside) (p q r w : ℕ) (me : Process) where
  pub pipe_owes : (S : State) → Owes p me S (pipe_objects q r w) (pipe q r w (caller inside p me S))
  pipe_owes S =
      pipe_lines (λ o. Owes p me S (pipe_objects q r w) o) (caller inside p me S) (fails_owes p me S (pipe_objects q r w)) q r w (refuses_owes p me S (pipe_objects q r w) NumberTaken)
      λ f g free k l. changes_owes p me S (pipe_objects q r w) (pos 0) _ _ λ all e h c.
      let one : has_object (Pipe q) all ≡ true = c (Pipe q) (has_head (Pipe q) (Desc r ∷ Desc w ∷ [])) in
      let two : has_object (Desc r) all ≡ true = c (Desc r) (has_tail (Desc r) (Pipe q) (Desc r ∷ Desc w ∷ []) (has_head (Desc r) (Desc w ∷ []))) in
      let three : has_object (Desc w) all ≡ true = c (Desc w) (has_tail (Desc w) (Pipe q) (Desc r ∷ Desc w ∷ []) (has_tail (Desc w) (Desc r) (Desc w ∷ []) (has_head (Desc w) []))) in
      let none = free_two (S.pipes q) (S.descs r) (S.descs w) free in
      let both : Process = with_two_slots f g (with_descriptor g (Some w) (with_descriptor f (Some r) me)) in
      let names : (d n : ℕ) → has_object (Desc d) all ≡ false → is_number d (slice_index_or both.descriptors n None) ≡ is_number d (slice_index_or me.descriptors n None) =
      λ d n m. free_same all (slice_set me.descriptors f (Some r)) g w l three d n m ∙ free_same all me.descriptors f r k two d n m in
      (self_fits p me S all e h (with_answer (pos 0) both) refl refl names, (one, (side_fits S all q r ReadSide none.0 two one, (side_fits S all q w WriteSide none.1 three one, tt))))

  taken_same : (S R : State) → AgreeOn (pipe_objects q r w) S R → is_pipe_in_use q r w S ≡ is_pipe_in_use q r w R
  taken_same S R a =
      let one = agree_rest (Pipe q) (Desc r ∷ Desc w ∷ []) S R a in
      let two = agree_rest (Desc r) (Desc w ∷ []) S R one in
      ap (λ (x : Option (List ℕ)). if is_some x then true else (if is_some (S.descs r) then true else is_some (S.descs w))) (a (Pipe q) (has_head (Pipe q) (Desc r ∷ Desc w ∷ []))).equal
      ∙ ap₂ (λ (y z : Option Description). if is_some (R.pipes q) then true else (if is_some y then true else is_some z))
      (one (Desc r) (has_head (Desc r) (Desc w ∷ []))).equal (two (Desc w) (has_head (Desc w) [])).equal

pipe_held : (u q r w : ℕ) → has_object (Held u) (pipe_objects q r w) ≡ false
unfolding has_object
pipe_held u q r w = refl

pub pipe_local : (inside : Option Inside) (p q r w : ℕ) (me : Process) → IsLocal inside p me (λ S. effect_of p me (pipe q r w (caller inside p me S))) (λ S. pipe_objects q r w)
pipe_local inside p q r w me =
    page_local inside p me (pipe q r w) (λ S. pipe_objects q r w)
    (λ S R a. when_same (is_pipe_in_use q r w S) (is_pipe_in_use q r w R) (refuses NumberTaken) _ _
    (taken_same inside p q r w me S R (agree_rest (Proc p) (pipe_objects q r w) S R a)) (λ z. refl))
    (λ S R a. refl) (λ S u. pipe_held u q r w) (pipe_owes inside p q r w me)
