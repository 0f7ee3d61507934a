-- pipe leaves a state well formed.
use Rattle.std.proofs.Common.{◌≡◌, ◌≢◌, ℕ, ◌<◌, ◌≤◌, true, false, List, [], length, pos, Option, Some, None, is_some, if◌then◌else◌, slice_index_or, slice_set, refl, sym, ap, ◌∙◌, subst, inl, inr, eq-eqb, eqb-true, arith}
use Rattle.std.proofs.lemmas.List.{length-set, get_or-set_same, get_or-set_other}
use Rattle.tx_base.specs.declared.steps.Refusal.TheVariants.{NumberTaken}
use Rattle.tx_base.specs.declared.limits.TheConstants.{PIPE_BYTES}
use Rattle.tx_model.specs.Numbers.{error_answer}
use Rattle.tx_model.specs.State.{Process, Side, ReadSide, WriteSide, Description, State, SetProc, SetDesc, SetPipe, put_at, write_one, with_writes, is_number, names_at}
use Rattle.tx_model.specs.Effects.{Inside, with_answer}
use Rattle.tx_model.specs.Forms.{effect_of, caller}
use Rattle.tx_model.specs.Book.{pipe}
use Rattle.tx_model.specs.Descriptors.{with_descriptor}
use Rattle.tx_model.specs.Words.{with_two_slots}
use Rattle.tx_model.specs.StateLaws.{put_here, put_cases, put_there}
use Rattle.tx_laws.proofs.KeepsFormParts.{IsArranged, IsTabled, IsNamed, IsEnd, IsLinked, names_at_of, form_from, tabled_of, linked_of, tabled_edit}
use Rattle.tx_laws.proofs.KeepsFormOwn.{KeepsSizes, stays_from, plain}
use Rattle.tx_laws.proofs.KeepsFormReleased.{tabled_same}
use Rattle.tx_laws.proofs.KeepsFormNames.{KeepsForm, idle_form, done_form, new_slot, old_slot, free_place, number_of, own_name}
use Rattle.tx_laws.proofs.KeepsFormTransfers.{still_some}
use Rattle.tx_model.specs.BookLaws.{pipe_lines}

-- the numbers that a pipe chooses are in range, and the two of the descriptions are different
pub record AreGood (q r w : ℕ) : Type 0 where
  pub pipe : q < 32
  pub reads : r < 64
  pub writes : w < 64
  pub other : r ≢ w

-- a free number stays free where something is put in at another, and what is there stays
still_there : {A : Type 0} (f : ℕ → Option A) (k : ℕ) (v x : A) (n : ℕ) → f k ≡ None → f n ≡ Some x → put_at f k (Some v) n ≡ Some x
still_there {A} f k v x n free h = elim (put_cases f k (Some v) n) [
  | inl z ↦ let no : None ≡ Some x = sym (ap f z.0 ∙ free) ∙ h in cc
  | inr z ↦ z.1 ∙ h
]

module _ (S : State) (p q r w : ℕ) (me : Process) (inside : Option Inside) (e : S.procs p ≡ Some me) (runs : me.status ≡ None) (form : IsArranged S) (good : AreGood q r w) where
  -- the process has the two ends at the descriptors f and g
  module _ (read_free : S.descs r ≡ None) (write_free : S.descs w ≡ None) (f g : ℕ)
      (f_free : slice_index_or me.descriptors f None ≡ None) (f_in : f < length me.descriptors)
      (g_free : slice_index_or (slice_set me.descriptors f (Some r)) g None ≡ None) (g_in : g < length (slice_set me.descriptors f (Some r))) where
    abbrev new : Process
    new = with_answer (pos 0) (with_two_slots f g (with_descriptor g (Some w) (with_descriptor f (Some r) me)))

    abbrev side_at : Side → Description
    side_at side = record { pipe = q; side = side; nonblock = false }

    abbrev now : State
    now = write_one (SetDesc w (Some (side_at WriteSide))) (write_one (SetDesc r (Some (side_at ReadSide))) (write_one (SetPipe q (Some [])) (write_one (SetProc p (Some new)) S)))

    l : IsLinked S
    l = linked_of S form

    first_size : length (slice_set me.descriptors f (Some r)) ≡ length me.descriptors
    first_size = length-set me.descriptors f (Some r)

    sized : KeepsSizes me new
    sized =
        plain me new refl refl refl (length-set (slice_set me.registers.slots 0 (pos f)) 1 (pos g) ∙ length-set me.registers.slots 0 (pos f)) refl
        (length-set (slice_set me.descriptors f (Some r)) g (Some w) ∙ first_size) refl

    tabled : IsTabled now
    tabled = tabled_same (write_one (SetProc p (Some new)) S) now refl refl (tabled_edit S p me new e (stays_from p me new refl refl sized) (tabled_of S form))

    -- the two new descriptors
    at_g : slice_index_or new.descriptors g None ≡ Some w
    at_g = get_or-set_same (slice_set me.descriptors f (Some r)) g (Some w) None g_in

    first_at_f : slice_index_or (slice_set me.descriptors f (Some r)) f None ≡ Some r
    first_at_f = get_or-set_same me.descriptors f (Some r) None f_in

    apart : f ≢ g
    apart z =
        let no : None ≡ Some r = sym g_free ∙ ap (λ (i : ℕ). slice_index_or (slice_set me.descriptors f (Some r)) i None) (sym z) ∙ first_at_f in
        cc

    at_f : slice_index_or new.descriptors f None ≡ Some r
    at_f = get_or-set_other (slice_set me.descriptors f (Some r)) g f (Some w) None apart ∙ first_at_f

    own_named : (d i : ℕ) → slice_index_or new.descriptors i None ≡ Some d → IsNamed d now
    own_named d i h = record {
      process = p;
      place = i;
      names = ap (names_at d i) (put_here S.procs p (Some new)) ∙ names_at_of d i new runs (ap (is_number d) h ∙ eq-eqb d d refl);
    }

    -- a description that was named still is
    still_named : (d : ℕ) → IsNamed d S → IsNamed d now
    still_named d h = elim (put_cases S.procs p (Some new) h.process) [
      | inl z ↦
          let was : is_number d (slice_index_or me.descriptors h.place None) ≡ true =
          number_of d h.place me (ap (names_at d h.place) (sym (ap S.procs z.0 ∙ e)) ∙ h.names) in
          at_me h.process h.place z.1 was
      | inr z ↦ record { process = h.process; place = h.place; names = ap (names_at d h.place) z.1 ∙ h.names }
    ]
      where
        at_me : (n i : ℕ) → now.procs n ≡ Some new → is_number d (slice_index_or me.descriptors i None) ≡ true → IsNamed d now
        at_me n i z was = elim (old_slot me.descriptors f (Some r) i d was) [
          | inl a ↦ elim (old_slot (slice_set me.descriptors f (Some r)) g (Some w) i d a) [
            | inl b ↦ record { process = n; place = i; names = ap (names_at d i) z ∙ names_at_of d i new runs b }
            | inr b ↦ let no : false ≡ true = sym (ap (is_number d) g_free) ∙ b in cc
          ]
          | inr a ↦ let no : false ≡ true = sym (ap (is_number d) f_free) ∙ a in cc
        ]

    -- what was there still is
    there : (d : ℕ) → is_some (S.descs d) ≡ true → is_some (now.descs d) ≡ true
    there d h = still_some (put_at S.descs r (Some (side_at ReadSide))) w (side_at WriteSide) d (still_some S.descs r (side_at ReadSide) d h)

    at_w : now.descs w ≡ Some (side_at WriteSide)
    at_w = put_here (put_at S.descs r (Some (side_at ReadSide))) w (Some (side_at WriteSide))

    at_r : now.descs r ≡ Some (side_at ReadSide)
    at_r = put_there (put_at S.descs r (Some (side_at ReadSide))) w (Some (side_at WriteSide)) r good.other ∙ put_here S.descs r (Some (side_at ReadSide))

    some_at : (d x : ℕ) (y : Description) → now.descs x ≡ Some y → is_number d (Some x) ≡ true → is_some (now.descs d) ≡ true
    some_at d x y h k = ap (λ (i : ℕ). is_some (now.descs i)) (sym (eqb-true x d k)) ∙ ap (λ (z : Option Description). is_some z) h

    own_names : (d i : ℕ) → is_number d (slice_index_or new.descriptors i None) ≡ true → is_some (now.descs d) ≡ true
    own_names d i h = elim (new_slot (slice_set me.descriptors f (Some r)) g (Some w) i d h) [
      | inl a ↦ some_at d w (side_at WriteSide) at_w a
      | inr a ↦ elim (new_slot me.descriptors f (Some r) i d a) [
        | inl b ↦ some_at d r (side_at ReadSide) at_r b
        | inr b ↦ there d (own_name S p me me e runs l i d b)
      ]
    ]

    now_names : (n i d : ℕ) → names_at d i (now.procs n) ≡ true → is_some (now.descs d) ≡ true
    now_names n i d h = elim (put_cases S.procs p (Some new) n) [
      | inl z ↦ own_names d i (number_of d i new (sym (ap (names_at d i) z.1) ∙ h))
      | inr z ↦ there d (l.names n i d (sym (ap (names_at d i) z.1) ∙ h))
    ]

    at_q : is_some (now.pipes q) ≡ true
    at_q = ap (λ (x : Option (List ℕ)). is_some x) (put_here S.pipes q (Some []))

    -- one of the two is named, and is an end of the pipe
    new_named : (d x : ℕ) (side : Side) (y : Description) → d ≡ x → x < 64 → IsNamed x now → Some (side_at side) ≡ Some y
        → IsNamed d now × (d < 64) × (is_some (now.pipes y.pipe) ≡ true)
    new_named d x side y z less h k =
        let same : side_at side ≡ y = cc in (
          subst (λ (i : ℕ). IsNamed i now) (sym z) h,
          subst (λ (i : ℕ). i < 64) (sym z) less,
          subst (λ (u : Description). is_some (now.pipes u.pipe) ≡ true) same at_q,
        )

    now_named : (d : ℕ) (y : Description) → now.descs d ≡ Some y → IsNamed d now × (d < 64) × (is_some (now.pipes y.pipe) ≡ true)
    now_named d y h = elim (put_cases (put_at S.descs r (Some (side_at ReadSide))) w (Some (side_at WriteSide)) d) [
      | inl z ↦ new_named d w WriteSide y z.0 good.writes (own_named w g at_g) (sym z.1 ∙ h)
      | inr z ↦ elim (put_cases S.descs r (Some (side_at ReadSide)) d) [
        | inl a ↦ new_named d r ReadSide y a.0 good.reads (own_named r f at_f) (sym (z.1 ∙ a.1) ∙ h)
        | inr a ↦
            let b = l.named d y (sym (z.1 ∙ a.1) ∙ h) in
            (still_named d b.0, b.1, still_some S.pipes q [] y.pipe b.2)
      ]
    ]

    still_end : (k : ℕ) → IsEnd k S → IsEnd k now
    still_end k h = record {
      number = h.number;
      description = h.description;
      there = still_there (put_at S.descs r (Some (side_at ReadSide))) w (side_at WriteSide) h.description h.number
          (put_there S.descs r (Some (side_at ReadSide)) w (λ z. good.other (sym z)) ∙ write_free)
          (still_there S.descs r (side_at ReadSide) h.description h.number read_free h.there);
      pipe = h.pipe;
    }

    now_pipes : (k : ℕ) (bytes : List ℕ) → now.pipes k ≡ Some bytes → IsEnd k now × (k < 32) × (length bytes ≤ PIPE_BYTES)
    now_pipes k bytes h = elim (put_cases S.pipes q (Some []) k) [
      | inl z ↦
          let both : Some [] ≡ Some bytes = sym z.1 ∙ h in
          let same : [] ≡ bytes = cc in
          let none : 0 ≤ 512 = omega arith in (
            record { number = r; description = side_at ReadSide; there = at_r; pipe = sym z.0 },
            subst (λ (i : ℕ). i < 32) (sym z.0) good.pipe,
            subst (λ (bs : List ℕ). length bs ≤ 512) same none,
          )
      | inr z ↦ let b = l.pipes k bytes (sym z.1 ∙ h) in (still_end k b.0, b.1, b.2)
    ]

    opened_form : IsArranged now
    opened_form = form_from now tabled (record { names = now_names; named = now_named; pipes = now_pipes })

  both_free : (x : Option (List ℕ)) (y z : Option Description) → (if is_some x then true else (if is_some y then true else is_some z)) ≡ false → (y ≡ None) × (z ≡ None)
  both_free (Some x) y z h = cc
  both_free None (Some y) z h = cc
  both_free None None (Some z) h = cc
  both_free None None None h = (refl, refl)

  pub pipe_form : KeepsForm S (effect_of p me (pipe q r w (caller inside p me S)))
  unfolding with_writes
  pipe_form =
      pipe_lines (λ outcome. KeepsForm S (effect_of p me outcome)) (caller inside p me S) (λ errno. done_form S p me e form (error_answer errno)) q r w (idle_form S NumberTaken form)
      λ f g unused one two.
      let free = both_free (S.pipes q) (S.descs r) (S.descs w) unused in
      let first = free_place me.descriptors f one in
      let second = free_place (slice_set me.descriptors f (Some r)) g two in
      opened_form free.0 free.1 f g first.0 first.1 second.0 second.1
