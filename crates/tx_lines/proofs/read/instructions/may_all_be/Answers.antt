use Rattle.std.proofs.Common.{◌≡◌, ℕ, Some, length, slice_get, inl, inr, refl, ap, sym, ◌∙◌, subst, arith}
use Rattle.std.proofs.lemmas.Bool.Decides.{eqb_tells}
use Rattle.std.proofs.lemmas.Option.{slice_get_cases, slice_get_read, slice_get_within}
use Rattle.tx_lines.specs.Calls.{program_arguments}
use Rattle.tx_lines.specs.Instructions as spec
use Rattle.tx_lines.specs.declared.instructions.Spelling.{Spelling}
use Rattle.tx_lines.proofs.read.instructions.may_all_be.Goals as goal

pub returns-then-not-may_be-clause-complete : goal.returns-then-not-may_be-clause-complete
returns-then-not-may_be-clause-complete c few all =
    let place = c.loop-place.place in
    let spelled = slice_get_read c.args.spellings.now (length c.args.spellings.now) place c.index-spellings-place.result refl c.loop-place-test.true c.index-spellings-place.is in
    elim (slice_get_cases (program_arguments c.args.call.now) place).1 [
      | inl h ↦ let kind = c.kind_of.ensures h.0 h.2 in
          let good = all place c.index-spellings-place.result h.0 spelled h.2 in
          c.if-not-may_be.ensures ∙ ap (spec.may_be c.index-spellings-place.result) kind ∙ good
      | inr h ↦ absurd (omega (arith, h.0, few, c.loop-place-test.true))
    ]

pub loop-place-preserved : goal.loop-place-preserved
loop-place-preserved c place spelling argument below spelled at =
    elim (eqb_tells place c.loop-place.place) [
      | inl h ↦ let spelled' : slice_get c.args.spellings.now c.loop-place.place ≡ Some spelling = subst (λ (k : ℕ). slice_get c.args.spellings.now k ≡ Some spelling) h.1 spelled in
          let at' : slice_get (program_arguments c.args.call.now) c.loop-place.place ≡ Some argument = subst (λ (k : ℕ). slice_get (program_arguments c.args.call.now) k ≡ Some argument) h.1 at in
          let here = slice_get_read c.args.spellings.now (length c.args.spellings.now) c.loop-place.place c.index-spellings-place.result refl c.loop-place-test.true c.index-spellings-place.is in
          let kind = c.kind_of.ensures argument at' in
          let same : c.index-spellings-place.result ≡ spelling = (let pair = sym here ∙ spelled' in cc) in
          ap (λ (s : Spelling). spec.may_be s (spec.kind_of argument)) (sym same) ∙ ap (spec.may_be c.index-spellings-place.result) (sym kind) ∙ sym c.if-not-may_be.ensures
      | inr h ↦ c.loop-place.invariant place spelling argument (omega (arith, below, h.1)) spelled at
    ]

pub returns-clause-sound : goal.returns-clause-sound
returns-clause-sound c holds place spelling argument spelled at =
    let inside = slice_get_within c.args.spellings.now place spelling spelled in
    c.loop-place.invariant place spelling argument (omega (arith, inside, c.loop-place-test.false)) spelled at
