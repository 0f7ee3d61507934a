-- What of the held signals could not be delivered.
use Rattle.std.proofs.Common.{◌≡◌, ◌<◌, ℕ, zero, suc, ◌+◌, List, [], ◌∷◌, ◌++◌, append_assoc, length, length-append, drop, slice_index_or, Result, Ok, Err, OnOk, OnErr, ◌⊎◌, inl, inr, arith, refl, sym, ap, ◌∙◌}
use Rattle.tx_base.specs.declared.errors.Errno.{Errno}
use Rattle.tx_base.specs.declared.names.Missed.{Missed}
use Rattle.tx_base.specs.declared.names.Sending.{Sending as TheSending}
use Rattle.tx_txn.specs.Outboxes.{missed_in, with_missed}
use Rattle.tx_txn.specs.declared.outbox.HeldPost.{HeldPost}

missed_suc : (ms : List TheSending) (posts : List HeldPost) (i : ℕ) (m : TheSending) (p : HeldPost) → i < length ms → length posts ≡ length ms →
    missed_in (drop i ms) (drop i posts) ≡ with_missed (slice_index_or ms i m) (slice_index_or posts i p).answer (missed_in (drop (suc i) ms) (drop (suc i) posts))
missed_suc [] posts i m p few long = let never : ⊥ = omega (arith, few) in absurd never
missed_suc (x ∷ ms) [] i m p few long = let never : ⊥ = omega (arith, long) in absurd never
missed_suc (x ∷ ms) (post ∷ posts) zero m p few long = refl
missed_suc (x ∷ ms) (post ∷ posts) (suc i) m p few long = missed_suc ms posts i m p (omega (arith, few)) (omega (arith, long))

-- from a place on: the signal at the place, if it was not delivered, and those behind it
pub missed_next : (ms : List TheSending) (posts : List HeldPost) (i : ℕ) (m : TheSending) (p : HeldPost) → i < length ms → length posts ≡ length ms →
    missed_in (drop i ms) (drop i posts) ≡ with_missed (slice_index_or ms i m) (slice_index_or posts i p).answer (missed_in (drop (i + 1) ms) (drop (i + 1) posts))
missed_next ms posts i m p few long =
    let next : suc i ≡ i + 1 = omega arith in
    missed_suc ms posts i m p few long ∙ ap (λ (n : ℕ). with_missed (slice_index_or ms i m) (slice_index_or posts i p).answer (missed_in (drop n ms) (drop n posts))) next

-- one more is listed where the signal at the place was not delivered
pub missed_added : (front new all : List Missed) (ms : List TheSending) (posts : List HeldPost) (i : ℕ) (m : TheSending) (p : HeldPost) (errno : Errno) →
    i < length ms → length posts ≡ length ms → (slice_index_or posts i p).answer ≡ Err errno →
    new ≡ front ++ record { target = (slice_index_or ms i m).target; signo = (slice_index_or ms i m).signo; errno = errno } ∷ [] →
    front ++ missed_in (drop i ms) (drop i posts) ≡ all → new ++ missed_in (drop (i + 1) ms) (drop (i + 1) posts) ≡ all
missed_added front new all ms posts i m p errno few long failed added before =
    let more : List Missed = missed_in (drop (i + 1) ms) (drop (i + 1) posts) in
    let one : Missed = record { target = (slice_index_or ms i m).target; signo = (slice_index_or ms i m).signo; errno = errno } in
    ap (λ (xs : List Missed). xs ++ more) added
    ∙ append_assoc front (one ∷ []) more
    ∙ ap (λ (xs : List Missed). front ++ xs) (sym (missed_next ms posts i m p few long ∙ ap (λ (answer : Result (Unit {0}) Errno). with_missed (slice_index_or ms i m) answer more) failed))
    ∙ before

-- none is listed where it was delivered
pub missed_skipped : (front all : List Missed) (ms : List TheSending) (posts : List HeldPost) (i : ℕ) (m : TheSending) (p : HeldPost) (done : Unit {0}) →
    i < length ms → length posts ≡ length ms → (slice_index_or posts i p).answer ≡ Ok done →
    front ++ missed_in (drop i ms) (drop i posts) ≡ all → front ++ missed_in (drop (i + 1) ms) (drop (i + 1) posts) ≡ all
missed_skipped front all ms posts i m p done few long delivered before =
    let more : List Missed = missed_in (drop (i + 1) ms) (drop (i + 1) posts) in
    ap (λ (xs : List Missed). front ++ xs) (sym (missed_next ms posts i m p few long ∙ ap (λ (answer : Result (Unit {0}) Errno). with_missed (slice_index_or ms i m) answer more) delivered))
    ∙ before

-- a call gave a value or an error
pub ok_or_err : {A E P Q : Type 0} (r : Result A E) → OnOk r P → OnErr r Q → P ⊎ Q
ok_or_err (Ok x) ok err = inl ok
ok_or_err (Err e) ok err = inr err

-- before one more is added there is room for it
pub missed_room : (front all : List Missed) (ms : List TheSending) (posts : List HeldPost) (i : ℕ) (m : TheSending) (p : HeldPost) (errno : Errno) → i < length ms → length posts ≡ length ms →
    (slice_index_or posts i p).answer ≡ Err errno → front ++ missed_in (drop i ms) (drop i posts) ≡ all → length front < length all
missed_room front all ms posts i m p errno few long failed before =
    let more : List Missed = missed_in (drop (i + 1) ms) (drop (i + 1) posts) in
    let last : List Missed → ℕ = λ xs. length (front ++ xs) in
    let count : length front + suc (length more) ≡ length all =
    sym (length-append front (with_missed (slice_index_or ms i m) (Err errno) more))
    ∙ ap last (sym (missed_next ms posts i m p few long ∙ ap (λ (answer : Result (Unit {0}) Errno). with_missed (slice_index_or ms i m) answer more) failed))
    ∙ ap length before in
    omega (arith, count)
