-- Two exchanges of bytes are nothing.
use Rattle.std.proofs.Common.{◌≡◌, ℕ, ◌+◌, ◌-◌, ◌≤◌, Bool, true, false, List, ◌++◌, length, take, drop, if◌then◌else◌, nat_lt, refl, ap, ◌∙◌, arith, length-append, length-drop}
use Rattle.std.proofs.lemmas.Bool.{le-ltb, lt-ltb, ltb-true, ltb-false}
use Rattle.std.proofs.lemmas.List.{drop_at, take_at, take-append-drop, length-take-le}
use Rattle.tx_pipe.specs.Exchanges.{can_exchange, front_exchanged, back_exchanged, front_given, back_given, count_given}
use Rattle.tx_pipe.specs.Laws.{BackComesBack, FrontComesBack}
use Rattle.tx_base.specs.declared.limits.TheConstants.{PIPE_BYTES}

-- what a test of an exchange says
record Room (count : ℕ) (bytes held : List ℕ) : Type 0 where
  there : count ≤ length held
  fits : length held ≤ PIPE_BYTES
  comes : length bytes + (length held - count) ≤ PIPE_BYTES

room : (count : ℕ) (bytes held : List ℕ) → can_exchange count bytes held ≡ true → Room count bytes held
room count bytes held = by (nat_lt (length held) count) refl (nat_lt PIPE_BYTES (length held)) refl
  where
    by : (b : Bool) → nat_lt (length held) count ≡ b → (c : Bool) → nat_lt PIPE_BYTES (length held) ≡ c
        → (if b then false else (if c then false else nat_lt (length bytes + (length held - count)) (PIPE_BYTES + 1))) ≡ true → Room count bytes held
    by true e c f h = cc
    by false e true f h = cc
    by false e false f h =
        let last = ltb-true (length bytes + (length held - count)) (PIPE_BYTES + 1) h in
        record { there = ltb-false (length held) count e; fits = ltb-false PIPE_BYTES (length held) f; comes = omega (arith, last) }

can : (count : ℕ) (bytes held : List ℕ) → Room count bytes held → can_exchange count bytes held ≡ true
can count bytes held r =
    rw (le-ltb (length held) count r.there, le-ltb PIPE_BYTES (length held) r.fits)
    (lt-ltb (length bytes + (length held - count)) (PIPE_BYTES + 1) (let last = r.comes in omega (arith, last)))

module _ (count : ℕ) (bytes held : List ℕ) where
  length-behind : length (drop count held) ≡ length held - count
  length-behind = length-drop count held

  kept : ℕ
  kept = length held - count

  module _ (r : Room count bytes held) where
    length-front : length (take count held) ≡ count
    length-front = length-take-le count held r.there

    front_room : Room (length bytes) (take count held) (bytes ++ drop count held)
    front_room =
        let whole = length-append bytes (drop count held) in let there = r.there in let fits = r.fits in let comes = r.comes in
        let front = length-front in let behind = length-behind in
        record { there = omega (arith, whole); fits = omega (arith, whole, behind); comes = omega (arith, whole, behind, front) }

    front_back : (front_exchanged (length bytes) (take count held) (bytes ++ drop count held) ≡ held)
        × (front_given (length bytes) (take count held) (bytes ++ drop count held) ≡ bytes)
        × (count_given (length bytes) (take count held) (bytes ++ drop count held) ≡ count)
    front_back =
        rw (can (length bytes) (take count held) (bytes ++ drop count held) front_room) (
          ap (λ (xs : List ℕ). take count held ++ xs) (drop_at bytes (drop count held) (length bytes) refl) ∙ take-append-drop count held,
          take_at bytes (drop count held) (length bytes) refl,
          length-front,
        )

    length-kept : length (take (length held - count) held) ≡ length held - count
    length-kept = length-take-le (length held - count) held (omega arith)

    length-back : length (drop (length held - count) held) ≡ count
    length-back = let back = length-drop (length held - count) held in let there = r.there in omega (arith, back, there)

    length-new : length (take (length held - count) held ++ bytes) - length bytes ≡ length held - count
    length-new = let whole = length-append (take (length held - count) held) bytes in let first = length-kept in omega (arith, whole, first)

    back_room : Room (length bytes) (drop (length held - count) held) (take (length held - count) held ++ bytes)
    back_room =
        let whole = length-append (take (length held - count) held) bytes in let there = r.there in let fits = r.fits in let comes = r.comes in
        let first = length-kept in let back = length-back in
        record { there = omega (arith, whole); fits = omega (arith, whole, first, comes); comes = omega (arith, whole, first, back, there, fits) }

    back_back : (back_exchanged (length bytes) (drop (length held - count) held) (take (length held - count) held ++ bytes) ≡ held)
        × (back_given (length bytes) (drop (length held - count) held) (take (length held - count) held ++ bytes) ≡ bytes)
        × (count_given (length bytes) (drop (length held - count) held) (take (length held - count) held ++ bytes) ≡ count)
    back_back =
        let front : List ℕ = take (length held - count) held in
        let behind : List ℕ = drop (length held - count) held in
        rw (can (length bytes) behind (front ++ bytes) back_room, length-new) (
          ap (λ (xs : List ℕ). xs ++ behind) (take_at front bytes (length held - count) length-kept) ∙ take-append-drop (length held - count) held,
          drop_at front bytes (length held - count) length-kept,
          length-back,
        )

  pub front_twice : FrontComesBack count bytes held
  front_twice = by (can_exchange count bytes held) refl
    where
      by : (b : Bool) → can_exchange count bytes held ≡ b → FrontComesBack count bytes held
      by true e = rw e (front_back (room count bytes held e))
      by false e = rw e (rw e (refl, refl, refl))

  pub back_twice : BackComesBack count bytes held
  back_twice = by (can_exchange count bytes held) refl
    where
      by : (b : Bool) → can_exchange count bytes held ≡ b → BackComesBack count bytes held
      by true e = rw e (back_back (room count bytes held e))
      by false e = rw e (rw e (refl, refl, refl))
