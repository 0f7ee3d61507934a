-- What calls write that change nothing but what their own process has, and descriptions and pipes.
use Rattle.std.proofs.Common.{◌≡◌, ℕ, Bool, true, false, List, [], ◌∷◌, ◌++◌, ℤ, pos, Option, Some, None, if◌then◌else◌, slice_set, refl, inr}
use Rattle.std.specs.Prelude.{All}
use Rattle.std.proofs.lemmas.List.Elements.{All-nil, All-cons}
use Rattle.tx_base.specs.declared.errors.Errno.{Errno}
use Rattle.tx_base.specs.declared.errors.Errno.TheVariants.{BrokenPipe}
use Rattle.tx_base.specs.declared.steps.Refusal.{Refusal}
use Rattle.tx_base.specs.declared.steps.Refusal.TheVariants.{NumberTaken, Wait}
use Rattle.tx_model.specs.Numbers.{error_answer}
use Rattle.tx_model.specs.Memory.{address_of}
use Rattle.tx_model.specs.State.{Process, Description, State, Write, SetProc, SetDesc, SetPipe, SetHeld, write_one, with_writes}
use Rattle.tx_model.specs.Effects.{Effect, Conclusion, Replies, AnswersPost, ListsFailed, idle, with_answer}
use Rattle.tx_model.specs.Words.{Own, own_effect, answer_effect, answer_effect_with, with_two_slots}
use Rattle.tx_model.specs.Descriptors.{with_descriptor, is_named, has_description, pipes_of, description_removals, pipe_removals, removals}
use Rattle.tx_model.specs.Book.{broken_pipe, release, pipe, dup, dup2, close, set_nonblock, read, write}
use Rattle.tx_model.specs.Membership.{says_ended}
use Rattle.tx_laws.specs.WellFormed.{IsSendable}
use Rattle.tx_model.specs.Forms.{Caller, Outcome, fails, effect_of}
use Rattle.tx_model.specs.BookLaws.{pipe_lines, dup_lines, dup2_lines, close_lines, set_nonblock_lines, read_lines, write_lines}
use Rattle.tx_laws.proofs.WithinOwn.{KeepsLimits, noted_limits, slotted, paged_limits, stored_whole}

-- the same process later on: it has the same parent and runs or has ended as before, and is within its limits if it was
pub record IsLater (me q : Process) : Type 0 where
  pub parent : q.parent ≡ me.parent
  pub status : q.status ≡ me.status
  pub limits : KeepsLimits me q

-- the process p, which was so, is put in its place
pub record IsInPlace (p : ℕ) (me : Process) (n : ℕ) (q : Process) : Type 0 where
  pub number : n ≡ p
  pub later : IsLater me q

abbrev pub IsPlainWrite : ℕ → Process → Write → Type 0
IsPlainWrite p me (SetProc n None) = ⊥
IsPlainWrite p me (SetProc n (Some q)) = IsInPlace p me n q
IsPlainWrite p me (SetDesc n x) = Unit {0}
IsPlainWrite p me (SetPipe n x) = Unit {0}
IsPlainWrite p me (SetHeld n ms) = ⊥

unfoldable pub ArePlain : ℕ → Process → List Write → Type 0
ArePlain p me [] = Unit {0}
ArePlain p me (w ∷ ws) = IsPlainWrite p me w × ArePlain p me ws

-- whether the reply says that the process ended
abbrev pub concludes_ended : Conclusion → Bool
concludes_ended (Replies r) = says_ended r
concludes_ended (AnswersPost p) = false
concludes_ended ListsFailed = true

pub record IsPlain (p : ℕ) (me : Process) (f : Effect) : Type 0 where
  pub writes : ArePlain p me f.writes
  pub sends : All IsSendable f.sends
  pub goes_on : concludes_ended f.conclusion ≡ false

pub later_same : (me : Process) → IsLater me me
later_same me = record { parent = refl; status = refl; limits = λ h. h }

pub noted_later : (r : ℤ) (me q : Process) → IsLater me q → IsLater me (with_answer r q)
noted_later r me q k = record { parent = k.parent; status = k.status; limits = λ h. noted_limits r q (k.limits h) }

module _ (p : ℕ) (me : Process) where
  pub idle_plain : (why : Refusal) → IsPlain p me (idle why)
  unfolding ArePlain
  idle_plain why = record { writes = tt; sends = All-nil IsSendable; goes_on = refl }

  pub own_plain : (own : Own) → IsLater me own.process → says_ended own.reply ≡ false → IsPlain p me (own_effect p own)
  unfolding ArePlain
  own_plain own k r = record { writes = (record { number = refl; later = k }, tt); sends = All-nil IsSendable; goes_on = r }

  pub done_with_plain : (ws : List Write) (r : ℤ) (q : Process) → ArePlain p me ws → IsLater me q → IsPlain p me (answer_effect_with ws p r q)
  unfolding ArePlain
  done_with_plain ws r q h k = record { writes = (record { number = refl; later = noted_later r me q k }, h); sends = All-nil IsSendable; goes_on = refl }

  pub done_plain : (r : ℤ) (q : Process) → IsLater me q → IsPlain p me (answer_effect p r q)
  unfolding ArePlain
  done_plain r q k = record { writes = (record { number = refl; later = noted_later r me q k }, tt); sends = All-nil IsSendable; goes_on = refl }

  pub same_plain : (r : ℤ) → IsPlain p me (answer_effect p r me)
  same_plain r = done_plain r me (later_same me)

  pub if_plain : (b : Bool) (f g : Effect) → IsPlain p me f → IsPlain p me g → IsPlain p me (if b then f else g)
  if_plain true f g h k = h
  if_plain false f g h k = k

  pub plain_append : (ws vs : List Write) → ArePlain p me ws → ArePlain p me vs → ArePlain p me (ws ++ vs)
  unfolding ArePlain
  plain_append [] vs h k = k
  plain_append (w ∷ ws) vs h k = (h.0, plain_append ws vs h.1 k)

  unnamed_plain : (ds : List ℕ) (S : State) → ArePlain p me (description_removals ds S)
  unfolding description_removals ArePlain
  unnamed_plain [] S = tt
  unnamed_plain (d ∷ ds) S = by (is_named d S) (unnamed_plain ds S)
    where
      by : (b : Bool) → ArePlain p me (description_removals ds S) → ArePlain p me (if b then description_removals ds S else SetDesc d None ∷ description_removals ds S)
      by true h = h
      by false h = (tt, h)

  endless_plain : (ks : List ℕ) (S : State) → ArePlain p me (pipe_removals ks S)
  unfolding pipe_removals ArePlain
  endless_plain [] S = tt
  endless_plain (k ∷ ks) S = by (has_description k S) (endless_plain ks S)
    where
      by : (b : Bool) → ArePlain p me (pipe_removals ks S) → ArePlain p me (if b then pipe_removals ks S else SetPipe k None ∷ pipe_removals ks S)
      by true h = h
      by false h = (tt, h)

  pub released_plain : (ds : List ℕ) (S : State) → ArePlain p me (removals ds S)
  released_plain ds S =
      plain_append (description_removals ds S) (pipe_removals (pipes_of ds S) (with_writes (description_removals ds S) S)) (unnamed_plain ds S)
      (endless_plain (pipes_of ds S) (with_writes (description_removals ds S) S))

  -- descriptors
  described : (descriptors : List (Option ℕ)) → IsLater me (record me { descriptors = descriptors })
  described descriptors = record {
    parent = refl;
    status = refl;
    limits = λ h. record {
      point = h.point;
      pages = h.pages;
      ids = h.ids;
      mask = h.mask;
      actions = h.actions;
      kill = h.kill;
      pending = h.pending;
      queued = h.queued;
      frames = h.frames;
    };
  }

  opened : (f g r w : ℕ) → IsLater me (with_two_slots f g (with_descriptor g (Some w) (with_descriptor f (Some r) me)))
  opened f g r w =
      let q : Process = with_descriptor g (Some w) (with_descriptor f (Some r) me) in
      let k : IsLater me q = described q.descriptors in
      record { parent = refl; status = refl; limits = λ h. slotted q (slice_set (slice_set q.registers.slots 0 (pos f)) 1 (pos g)) (k.limits h) }

  three_plain : (q r w : ℕ) (x : Option (List ℕ)) (y z : Option Description) → ArePlain p me (SetPipe q x ∷ SetDesc r y ∷ SetDesc w z ∷ [])
  unfolding ArePlain
  three_plain q r w x y z = (tt, (tt, (tt, tt)))

  one_desc : (d : ℕ) (x : Option Description) → ArePlain p me (SetDesc d x ∷ [])
  unfolding ArePlain
  one_desc d x = (tt, tt)

  one_pipe : (k : ℕ) (x : Option (List ℕ)) → ArePlain p me (SetPipe k x ∷ [])
  unfolding ArePlain
  one_pipe k x = (tt, tt)

  breaks_plain : IsPlain p me (broken_pipe p me)
  unfolding ArePlain
  breaks_plain = record {
    writes = (record { number = refl; later = noted_later (error_answer BrokenPipe) me me (later_same me) }, tt);
    sends = All-cons IsSendable _ [] (inr refl) (All-nil IsSendable);
    goes_on = refl;
  }

-- the calls on descriptors and pipes
module _ (c : Caller) where
  abbrev p : ℕ
  p = c.number

  abbrev me : Process
  me = c.process

  abbrev Plain : Outcome → Type 0
  Plain outcome = IsPlain p me (effect_of p me outcome)

  error_plain : (errno : Errno) → Plain (fails errno)
  error_plain errno = same_plain p me (error_answer errno)

  gives_up_plain : (ds : List ℕ) (r : ℤ) (q : Process) → IsLater me q → Plain (release ds r q c)
  gives_up_plain ds r q k = done_with_plain p me (removals ds (write_one (SetProc p (Some (with_answer r q))) c.state)) r q (released_plain p me ds _) k

  pub pipe_plain : (q r w : ℕ) → Plain (pipe q r w c)
  pipe_plain q r w =
      pipe_lines Plain c error_plain q r w (idle_plain p me NumberTaken)
      λ f g unused one two. done_with_plain p me _ (pos 0) _ (three_plain p me q r w _ _ _) (opened p me f g r w)

  pub dup_plain : (f : ℤ) → Plain (dup f c)
  dup_plain f = dup_lines Plain c error_plain f λ d g h free. done_plain p me (pos g) (with_descriptor g (Some d) me) (described p me _)

  pub dup2_plain : (a b : ℤ) → Plain (dup2 a b c)
  dup2_plain a b = dup2_lines Plain c error_plain a b (λ g. same_plain p me (pos g)) λ f d g first h second other. gives_up_plain _ (pos g) _ (described p me _)

  pub close_plain : (a : ℤ) → Plain (close a c)
  close_plain a = close_lines Plain c error_plain a λ f d first h. gives_up_plain _ (pos 0) _ (described p me _)

  pub set_nonblock_plain : (f : ℤ) (on : Bool) → Plain (set_nonblock f on c)
  set_nonblock_plain f on = set_nonblock_lines Plain c error_plain f on λ d x named there. done_with_plain p me _ (pos 0) me (one_desc p me d _) (later_same me)

  pub read_plain : (f address v : ℤ) → Plain (read f address v c)
  read_plain f address v =
      read_lines Plain c error_plain f address v (same_plain p me (pos 0)) (idle_plain p me Wait)
      λ end n h small good.
      done_with_plain p me _ _ _ (one_pipe p me end.pipe _) (record { parent = refl; status = refl; limits = paged_limits me _ (stored_whole me.memory (address_of address) _) })

  pub write_plain : (f address v : ℤ) → Plain (write f address v c)
  write_plain f address v =
      write_lines Plain c error_plain f address v (same_plain p me (pos 0)) (idle_plain p me Wait) (breaks_plain p me)
      λ end n h small good room. done_with_plain p me _ (pos n) me (one_pipe p me end.pipe _) (later_same me)
