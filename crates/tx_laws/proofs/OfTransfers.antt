-- What reads from pipes and writes to them owe to the laws.
use Rattle.std.proofs.Common.{◌≡◌, ℕ, Bool, true, false, List, [], ◌∷◌, ℤ, pos, Option, Some, None, if◌then◌else◌, refl, ap, inl, inr}
use Rattle.tx_base.specs.declared.errors.Errno.TheVariants.{BadDescriptor, BrokenPipe}
use Rattle.tx_base.specs.declared.steps.Refusal.TheVariants.{Wait}
use Rattle.tx_model.specs.Numbers.{error_answer}
use Rattle.tx_model.specs.ObjectFacts.{has_head, has_tail}
use Rattle.tx_model.specs.State.{Process, Side, Description, State, Sending, Object, Proc, Desc, Pipe, has_object}
use Rattle.tx_model.specs.StateLaws.{AgreeOn}
use Rattle.tx_model.specs.Effects.{Inside}
use Rattle.tx_model.specs.Descriptors.{descriptor, description_named, option_list, pipes_of, desc_pipe_objects}
use Rattle.tx_model.specs.Words.{pipe_list}
use Rattle.tx_model.specs.Book.{is_read_side, is_write_side, broken_pipe, of_side, description_in, read, write}
use Rattle.tx_model.specs.Forms.{Outcome, fails, does, effect_of, caller}
use Rattle.tx_model.specs.BookLaws.{read_lines, write_lines}
use Rattle.tx_laws.proofs.Owed.{IsLocal}
use Rattle.tx_laws.proofs.OfPages.{or_same, Owes, answers_owes, fails_owes, refuses_owes, writes_owe, page_local}
use Rattle.tx_laws.proofs.Released.{has_end_below_same, agree_rest, covers_head, ends_held, ends_same}
use Rattle.tx_laws.proofs.InPlace.{in_place, noted_fits}

-- the pipe of an open descriptor is one of the objects
pipe_in : (d : ℕ) (x : Description) (S : State) → S.descs d ≡ Some x → has_object (Pipe x.pipe) (desc_pipe_objects (d ∷ []) S) ≡ true
unfolding pipes_of
pipe_in d x S e = has_tail (Pipe x.pipe) (Desc d) (pipe_list (pipes_of (d ∷ []) S)) (rw e (has_head (Pipe x.pipe) []))

desc_in : (d : ℕ) (S : State) → has_object (Desc d) (desc_pipe_objects (d ∷ []) S) ≡ true
desc_in d S = has_head (Desc d) (pipe_list (pipes_of (d ∷ []) S))

side_of : (test : Side → Bool) (o : Option Description) (x : Description) → of_side test o ≡ Some x → o ≡ Some x
side_of test None x e = cc
side_of test (Some y) x e = by (test y.side) e
  where
    by : (b : Bool) → (if b then Some y else None) ≡ Some x → Some y ≡ Some x
    by true h = h
    by false h = cc

end_in : (test : Side → Bool) (d : Option ℕ) (x : Description) (S : State) → of_side test (description_in d S) ≡ Some x → has_object (Pipe x.pipe) (desc_pipe_objects (option_list d) S) ≡ true
end_in test None x S e = cc
end_in test (Some d) x S e = pipe_in d x S (side_of test (S.descs d) x e)

end_same : (test : Side → Bool) (d : Option ℕ) (S R : State) → AgreeOn (desc_pipe_objects (option_list d) S) S R → of_side test (description_in d S) ≡ of_side test (description_in d R)
end_same test None S R a = refl
end_same test (Some d) S R a = ap (of_side test) (a (Desc d) (desc_in d S)).equal

module _ (inside : Option Inside) (p : ℕ) (me : Process) (f address v : ℤ) where
  abbrev d : Option ℕ
  d = description_named me (descriptor f)

  abbrev names : State → List Object
  names S = desc_pipe_objects (option_list d) S

  abbrev Fine : State → Outcome → Type 0
  Fine S o = Owes p me S (names S) o

  foot : (S R : State) → AgreeOn (Proc p ∷ names S) S R → names S ≡ names R
  foot S R a = ends_same (option_list d) S R (agree_rest (Proc p) (names S) S R a)

  pub read_owes : (S : State) → Fine S (read f address v (caller inside p me S))
  read_owes S =
      read_lines (Fine S) (caller inside p me S) (fails_owes p me S (names S)) f address v (answers_owes p me S (names S) (pos 0)) (refuses_owes p me S (names S) Wait)
      λ end n e small good. writes_owe p me S (names S) _ _ _ (in_place me _ refl refl refl) λ all c. (c (Pipe end.pipe) (end_in is_read_side d end S e), tt)

  read_same : (S R : State) → AgreeOn (names S) S R → read f address v (caller inside p me S) ≡ read f address v (caller inside p me R)
  read_same S R a =
      or_same (of_side is_read_side (description_in d S)) (of_side is_read_side (description_in d R)) (fails BadDescriptor) _ _ (end_same is_read_side d S R a)
      λ x e. let k = a (Pipe x.pipe) (end_in is_read_side d x S e) in rw (k.equal, has_end_below_same is_write_side x.pipe 64 S R k.family) refl

  pub read_local : IsLocal inside p me (λ S. effect_of p me (read f address v (caller inside p me S))) names
  read_local = page_local inside p me (read f address v) names (λ S R a. read_same S R (agree_rest (Proc p) (names S) S R a)) foot (λ S u. ends_held u (option_list d) S) read_owes

  breaks_owes : (S : State) (os : List Object) → Owes p me S os (does (broken_pipe p me))
  breaks_owes S os = record {
    fits = λ all e c. ((noted_fits p me S all e (covers_head all (Proc p) os c) (error_answer BrokenPipe), tt), tt);
    mild = record { goes_on = refl; sends = λ m i. elim i [ inl e ↦ ap (λ (z : Sending). z.target) e | inr j ↦ absurd j ] };
  }

  pub write_owes : (S : State) → Fine S (write f address v (caller inside p me S))
  write_owes S =
      write_lines (Fine S) (caller inside p me S) (fails_owes p me S (names S)) f address v (answers_owes p me S (names S) (pos 0)) (refuses_owes p me S (names S) Wait) (breaks_owes S (names S))
      λ end n e small good room. writes_owe p me S (names S) _ _ _ (in_place me _ refl refl refl) λ all c. (c (Pipe end.pipe) (end_in is_write_side d end S e), tt)

  write_same : (S R : State) → AgreeOn (names S) S R → write f address v (caller inside p me S) ≡ write f address v (caller inside p me R)
  write_same S R a =
      or_same (of_side is_write_side (description_in d S)) (of_side is_write_side (description_in d R)) (fails BadDescriptor) _ _ (end_same is_write_side d S R a)
      λ x e. let k = a (Pipe x.pipe) (end_in is_write_side d x S e) in rw (k.equal, has_end_below_same is_read_side x.pipe 64 S R k.family) refl

  pub write_local : IsLocal inside p me (λ S. effect_of p me (write f address v (caller inside p me S))) names
  write_local = page_local inside p me (write f address v) names (λ S R a. write_same S R (agree_rest (Proc p) (names S) S R a)) foot (λ S u. ends_held u (option_list d) S) write_owes
