-- A line is cut off the bytes that a reader has left, part by part.
use Rattle.std.proofs.Common.{◌≡◌, ℕ, zero, suc, ◌+◌, ◌≤◌, true, false, List, [], ◌∷◌, ◌++◌, Option, Some, None, IfSome, is_some, length, take, refl, sym, ap, ◌∙◌, arith, inl, inr, append_assoc, append-nil, take_all, length-take, length-append, eqb-true, ◌==◌, min, ◌-◌, option_map}
use Rattle.std.proofs.lemmas.Bool.Decides.{eqb_tells}
use Rattle.std.proofs.lemmas.List.{take_min}
use Rattle.std.proofs.Math.Seq.{take-append-add}
use Rattle.std.proofs.KnownBytes.{Keeps-refl}
use Rattle.std.specs.Io.KnownBytes.{Consumes, Keeps}
use Rattle.tx_shell.specs.Cuts.{TakesLine, TakesPart}
use Rattle.tx_translate.specs.MeantLines.{behind, behind_by}
use Rattle.tx_shell.specs.declared.sessions.taking.Next.TheVariants.{Ended, Nothing, Open}
use Rattle.tx_lines.specs.Schedule.{after_line, first_line}

-- the first line of a text and its end are at its front, and end a line whatever follows
ended_front : (shown rest : List ℕ) → after_line shown ≡ Some rest → take (length (first_line shown) + 1) shown ≡ first_line shown ++ 10 ∷ []
ended_front [] rest e = absurd (cc)
ended_front (byte ∷ bytes) rest e =
    elim (eqb_tells byte 10) [
      | inl h ↦ let none : first_line (byte ∷ bytes) ≡ [] = rw h.0 refl in
          ap (λ (t : List ℕ). take (length t + 1) (byte ∷ bytes)) none ∙ ap (λ (b : ℕ). b ∷ []) h.1 ∙ sym (ap (λ (t : List ℕ). t ++ 10 ∷ []) none)
      | inr h ↦ let on : after_line bytes ≡ Some rest = rw h.0 at e in
          let some : first_line (byte ∷ bytes) ≡ byte ∷ first_line bytes = rw h.0 refl in
          let longer : length (byte ∷ first_line bytes) + 1 ≡ suc (length (first_line bytes) + 1) = omega arith in
          ap (λ (t : List ℕ). take (length t + 1) (byte ∷ bytes)) some ∙ ap (λ (n : ℕ). take n (byte ∷ bytes)) longer ∙ ap (λ (t : List ℕ). byte ∷ t) (ended_front bytes rest on) ∙ sym (ap (λ (t : List ℕ). t ++ 10 ∷ []) some)
    ]

first_again : (text more : List ℕ) → first_line (first_line text ++ 10 ∷ more) ≡ first_line text
first_again [] more = refl
first_again (byte ∷ bytes) more =
    elim (eqb_tells byte 10) [ inl h ↦ rw h.0 refl | inr h ↦ rw (h.0, h.0) (ap (λ (t : List ℕ). byte ∷ t) (first_again bytes more)) ]

after_again : (text more : List ℕ) → after_line (first_line text ++ 10 ∷ more) ≡ Some more
after_again [] more = refl
after_again (byte ∷ bytes) more =
    elim (eqb_tells byte 10) [ inl h ↦ rw h.0 refl | inr h ↦ rw (h.0, h.0) (after_again bytes more) ]

-- bytes without a line's end are of one line, whatever follows
pub open_front : (part more : List ℕ) → after_line part ≡ None → (first_line (part ++ more) ≡ part ++ first_line more) × (after_line (part ++ more) ≡ after_line more)
open_front [] more e = (refl, refl)
open_front (byte ∷ bytes) more e =
    elim (eqb_tells byte 10) [
      | inl h ↦ let here : Some bytes ≡ None = rw h.0 at e in absurd (cc)
      | inr h ↦ let on : after_line bytes ≡ None = rw h.0 at e in
          let found = open_front bytes more on in
          (rw h.0 (ap (λ (t : List ℕ). byte ∷ t) found.0), rw h.0 found.1)
    ]

pub open_whole : (part : List ℕ) → after_line part ≡ None → first_line part ≡ part
open_whole part e = ap first_line (sym (append-nil part)) ∙ (open_front part [] e).0 ∙ append-nil part

-- what is kept of a part is kept of the whole
take_twice : (n : ℕ) (front more : List ℕ) → take n (take n front ++ more) ≡ take n (front ++ more)
take_twice zero front more = refl
take_twice (suc n) [] more = refl
take_twice (suc n) (byte ∷ front) more = ap (λ (t : List ℕ). byte ∷ t) (take_twice n front more)

module _ (left left' : Option (List ℕ)) (line line' : List ℕ) where
  -- the line's end is among the bytes that were shown
  pub ended_part : (shown rest part : List ℕ) (count : ℕ) → after_line shown ≡ Some rest → part ≡ first_line shown → count ≡ length part + 1 → Consumes left left' (take count shown) → line' ≡ take 514 (line ++ part)
      → IfSome left (λ bytes. TakesPart Ended bytes left' line line')
  ended_part shown rest part count after is long consumes kept = by left left' consumes
    where
      by : (left left' : Option (List ℕ)) → Consumes left left' (take count shown) → IfSome left (λ bytes. TakesPart Ended bytes left' line line')
      by None left' consumes = tt
      by (Some bytes) None consumes = absurd consumes
      by (Some bytes) (Some more) consumes =
          let all : bytes ≡ first_line shown ++ 10 ∷ more =
          consumes ∙ ap (λ (n : ℕ). take n shown ++ more) (long ∙ ap (λ (t : List ℕ). length t + 1) is)
          ∙ ap (λ (t : List ℕ). t ++ more) (ended_front shown rest after) ∙ append_assoc (first_line shown) (10 ∷ []) more in
          record { part = part; rest = more; is = (ap first_line all ∙ first_again shown more ∙ sym is, ap after_line all ∙ after_again shown more); goes = refl; kept = kept }

  -- it is not
  pub open_part : (shown part : List ℕ) (count : ℕ) → after_line shown ≡ None → part ≡ first_line shown → count ≡ length part → Consumes left left' (take count shown) → line' ≡ take 514 (line ++ part)
      → IfSome left (λ bytes. TakesPart Open bytes left' line line')
  open_part shown part count after is long consumes kept = by left left' consumes
    where
      whole : part ≡ shown
      whole = is ∙ open_whole shown after

      by : (left left' : Option (List ℕ)) → Consumes left left' (take count shown) → IfSome left (λ bytes. TakesPart Open bytes left' line line')
      by None left' consumes = tt
      by (Some bytes) None consumes = absurd consumes
      by (Some bytes) (Some more) consumes =
          let all : bytes ≡ part ++ more = consumes ∙ ap (λ (t : List ℕ). t ++ more) (take_all count shown (omega (arith, long, ap length whole)) ∙ sym whole) in
          record { part = part; rest = more; is = (all, ap after_line whole ∙ after); goes = refl; kept = kept }

  -- nothing was taken
  pub no_part : length line ≤ 514 → Keeps left left' → line' ≡ line → IfSome left (λ bytes. TakesPart Open bytes left' line line')
  no_part short kept same = by left left' kept
    where
      by : (left left' : Option (List ℕ)) → Keeps left left' → IfSome left (λ bytes. TakesPart Open bytes left' line line')
      by None left' kept = tt
      by (Some bytes) None kept = absurd kept
      by (Some bytes) (Some more) kept = record {
        part = [];
        rest = more;
        is = (sym kept, refl);
        goes = refl;
        kept = same ∙ sym (ap (take 514) (append-nil line) ∙ take_all 514 line short);
      }

  -- there is no byte
  pub nothing : length line ≤ 514 → (shown : List ℕ) → true ≡ (length shown == 0) → IfSome left (λ bytes. length shown ≡ 0 → bytes ≡ []) → Keeps left left' → line' ≡ line → IfSome left (λ bytes. TakesPart Nothing bytes left' line line')
  nothing short shown empty none kept same = by left left' none kept
    where
      zero : length shown ≡ 0
      zero = eqb-true (length shown) 0 (sym empty)

      by : (left left' : Option (List ℕ)) → IfSome left (λ bytes. length shown ≡ 0 → bytes ≡ []) → Keeps left left' → IfSome left (λ bytes. TakesPart Nothing bytes left' line line')
      by None left' none kept = tt
      by (Some bytes) None none kept = absurd kept
      by (Some bytes) (Some more) none kept = record {
        part = [];
        rest = [];
        is = (none zero, refl, refl);
        goes = ap Some (kept ∙ none zero);
        kept = same ∙ sym (ap (take 514) (append-nil line) ∙ take_all 514 line short);
      }

-- parts of a line so far
abbrev pub SoFar : (left left' : Option (List ℕ)) (line line' : List ℕ) → Type 0
SoFar left left' line line' = IfSome left (λ bytes. TakesPart Open bytes left' line line')

module _ (left mid left' : Option (List ℕ)) (line line' line'' : List ℕ) (so : SoFar left mid line line') where
  kept_both : (part more : List ℕ) → line' ≡ take 514 (line ++ part) → line'' ≡ take 514 (line' ++ more) → line'' ≡ take 514 (line ++ (part ++ more))
  kept_both part more one other = other ∙ ap (λ (t : List ℕ). take 514 (t ++ more)) one ∙ take_twice 514 (line ++ part) more ∙ ap (take 514) (append_assoc line part more)

  -- one part more
  pub more_part : IfSome mid (λ bytes. TakesPart Open bytes left' line' line'') → SoFar left left' line line''
  more_part next = by left so
    where
      at : (bytes : List ℕ) (m : Option (List ℕ)) → IfSome m (λ b. TakesPart Open b left' line' line'') → TakesPart Open bytes m line line' → TakesPart Open bytes left' line line''
      at bytes None next one = absurd (none_goes one.goes)
        where
          none_goes : None ≡ Some one.rest → ⊥
          none_goes e = cc
      at bytes (Some b) next one =
          let same : b ≡ one.rest = cc_of one.goes in
          record {
            part = one.part ++ next.part;
            rest = next.rest;
            is = (one.is.0 ∙ ap (λ (t : List ℕ). one.part ++ t) (sym same ∙ next.is.0) ∙ sym (append_assoc one.part next.part next.rest), (open_front one.part next.part one.is.1).1 ∙ next.is.1);
            goes = next.goes;
            kept = kept_both one.part next.part one.kept next.kept;
          }
        where
          cc_of : Some b ≡ Some one.rest → b ≡ one.rest
          cc_of e = cc

      by : (left : Option (List ℕ)) → SoFar left mid line line' → SoFar left left' line line''
      by None so = tt
      by (Some bytes) one = at bytes mid next one

  -- the last part, with the line's end
  pub last_part : IfSome mid (λ bytes. TakesPart Ended bytes left' line' line'') → IfSome left (λ bytes. TakesLine true bytes left' line line'')
  last_part next = by left so
    where
      at : (bytes : List ℕ) (m : Option (List ℕ)) → IfSome m (λ b. TakesPart Ended b left' line' line'') → TakesPart Open bytes m line line' → TakesLine true bytes left' line line''
      at bytes None next one = absurd (none_goes one.goes)
        where
          none_goes : None ≡ Some one.rest → ⊥
          none_goes e = cc
      at bytes (Some b) next one =
          let same : b ≡ one.rest = cc_of one.goes in
          let all : bytes ≡ one.part ++ b = one.is.0 ∙ ap (λ (t : List ℕ). one.part ++ t) (sym same) in
          let cut = open_front one.part b one.is.1 in
          let after : after_line bytes ≡ Some next.rest = ap after_line all ∙ cut.1 ∙ next.is.1 in
          record {
            ended = sym (ap is_some after);
            goes = next.goes ∙ ap (λ (o : Option (List ℕ)). Some (behind_by o)) (sym after);
            kept = kept_both one.part next.part one.kept next.kept ∙ ap (λ (t : List ℕ). take 514 (line ++ t)) (sym (ap first_line all ∙ cut.0 ∙ ap (λ (t : List ℕ). one.part ++ t) next.is.0));
          }
        where
          cc_of : Some b ≡ Some one.rest → b ≡ one.rest
          cc_of e = cc

      by : (left : Option (List ℕ)) → SoFar left mid line line' → IfSome left (λ bytes. TakesLine true bytes left' line line'')
      by None so = tt
      by (Some bytes) one = at bytes mid next one

  -- there is no more
  pub no_more : IfSome mid (λ bytes. TakesPart Nothing bytes left' line' line'') → IfSome left (λ bytes. TakesLine false bytes left' line line'')
  no_more next = by left so
    where
      at : (bytes : List ℕ) (m : Option (List ℕ)) → IfSome m (λ b. TakesPart Nothing b left' line' line'') → TakesPart Open bytes m line line' → TakesLine false bytes left' line line''
      at bytes None next one = absurd (none_goes one.goes)
        where
          none_goes : None ≡ Some one.rest → ⊥
          none_goes e = cc
      at bytes (Some b) next one =
          let same : b ≡ one.rest = cc_of one.goes in
          let all : bytes ≡ one.part = one.is.0 ∙ ap (λ (t : List ℕ). one.part ++ t) (sym same ∙ next.is.0) ∙ append-nil one.part in
          let after : after_line bytes ≡ None = ap after_line all ∙ one.is.1 in
          record {
            ended = sym (ap is_some after);
            goes = next.goes ∙ ap Some next.is.2 ∙ ap (λ (o : Option (List ℕ)). Some (behind_by o)) (sym after);
            kept = kept_both one.part next.part one.kept next.kept
                ∙ ap (λ (t : List ℕ). take 514 (line ++ t)) (ap (λ (t : List ℕ). one.part ++ t) next.is.1 ∙ append-nil one.part ∙ sym (ap first_line all ∙ open_whole one.part one.is.1));
          }
        where
          cc_of : Some b ≡ Some one.rest → b ≡ one.rest
          cc_of e = cc

      by : (left : Option (List ℕ)) → SoFar left mid line line' → IfSome left (λ bytes. TakesLine false bytes left' line line'')
      by None so = tt
      by (Some bytes) one = at bytes mid next one

-- no part was taken yet
pub none_yet : (left : Option (List ℕ)) (line : List ℕ) → length line ≤ 514 → SoFar left left line line
none_yet left line short = no_part left left line line short (Keeps-refl left) refl

-- as much as there is room for
pub front_kept : (line part : List ℕ) (count : ℕ) → length line ≤ 514 → count ≡ min (length part) (514 - length line) → line ++ take count part ≡ take 514 (line ++ part)
front_kept line part count short is =
    let room : count ≡ min (514 - length line) (length part) = omega (arith, is) in
    let all : length line + (514 - length line) ≡ 514 = omega (arith, short) in
    ap (λ (n : ℕ). line ++ take n part) room ∙ ap (λ (t : List ℕ). line ++ t) (take_min (514 - length line) part) ∙ sym (take-append-add line part (514 - length line))
    ∙ ap (λ (n : ℕ). take n (line ++ part)) all

-- what is left after a line's end, and where there is none
pub some_after : {A : Type 0} (f : A → List ℕ) (found : Option A) (after : Option (List ℕ)) → option_map f found ≡ after → true ≡ is_some found → after ≡ Some (behind_by after)
some_after f None after e is = absurd (cc)
some_after f (Some a) after e is = sym e ∙ ap (λ (o : Option (List ℕ)). Some (behind_by o)) e

pub none_after : {A : Type 0} (f : A → List ℕ) (found : Option A) (after : Option (List ℕ)) → option_map f found ≡ after → false ≡ is_some found → after ≡ None
none_after f None after e is = sym e
none_after f (Some a) after e is = absurd (cc)

-- a line and its end are among the bytes
pub within : (shown : List ℕ) → after_line shown ≡ Some (behind shown) → length (first_line shown) + 1 ≤ length shown
within shown after =
    omega (arith, length-take (length (first_line shown) + 1) shown, ap length (ended_front shown (behind shown) after), length-append (first_line shown) (10 ∷ []))
