use Rattle.std.proofs.Common.{◌≡◌, ℕ, ◌+◌, ◌-◌, ◌*◌, ◌/◌, ◌%◌, ◌<◌, ◌≤◌, Bool, true, false, ◌&&◌, List, length, get_or, Some, refl, sym, ap, ◌∙◌, arith}
use Rattle.std.proofs.Math.Nat.{mod-add-div'}
use Rattle.std.proofs.lemmas.Nat.{mod-mul-add}
use Rattle.std.proofs.lemmas.List.FromFn.{get_or-map-range_with_len, length-map-range_with_len}
use Rattle.tx_content.specs.Content.{view_of}
use Rattle.tx_model.specs.Answer.{is_running}
use Rattle.tx_model.specs.View.{View, present}
use Rattle.tx_workers.proofs.Finding.{found_here, found_later, found_nowhere, found_over}
use Rattle.tx_workers.specs.Turns.{all_after, belongs_to, is_next_of, next_process, places_after}
use Rattle.tx_workers.proofs.next.next_process.Goals as goal

-- the number that is looked at, of all numbers in their order
looked_at : (width last i from to : ℕ) → from ≡ last → to ≡ width → i < to → get_or (all_after width last) i 0 ≡ (from + i) % to + 1
looked_at width last i from to same wide within =
    get_or-map-range_with_len (places_after width last) 0 width i i 0 (omega (arith, wide, within)) (omega arith) ∙ sym (λ j. (same j + i) % wide j + 1)

-- some places later the number is greater by as many, while the numbers do not go round
later_number : (last i j width : ℕ) → (last + i) % width + j < width → (last + (i + j)) % width ≡ (last + i) % width + j
later_number last i j width within =
    let n : ℕ = last + i in
    let split : last + (i + j) ≡ n / width * width + (n % width + j) = omega (arith, mod-add-div' n width) in
    ap (λ (m : ℕ). m % width) split ∙ mod-mul-add (n / width) width (n % width + j) within

neither : (one other : Bool) → other ≡ false → (one && other) ≡ false
neither true other is = is
neither false other is = refl

pub loop-places-init : goal.loop-places-init
loop-places-init c = refl

pub loop-places-preserved-then-before-from : goal.loop-places-preserved-then-before-from
loop-places-preserved-then-before-from c =
    let V : View = view_of c.args.machine.now in
    let last : ℕ = c.args.last in
    let i : ℕ = c.loop-places.places in
    let to : ℕ = c.from-width.result in
    let before : ℕ = (c.from.result + i) % to in
    let wide : to ≡ V.table.width = c.from-width.ensures ∙ c.processes.ensures.table in
    let size : length (all_after V.table.width last) ≡ V.table.width = length-map-range_with_len (places_after V.table.width last) 0 V.table.width in
    found_over (is_next_of V c.args.number c.args.total) (all_after V.table.width last) i (to - before) 0 (next_process V c.args.number c.args.total last) c.loop-places.invariant
    λ j less inside.
    let small : i + j < to = omega (arith, size, wide, inside) in
    let within : before + j < to = omega (arith, less) in
    let here = looked_at V.table.width last (i + j) c.from.result to c.from.ensures wide small ∙ ap (λ (n : ℕ). n + 1) (later_number c.from.result i j to within) in
    let over : c.args.top < before + j + 1 = omega (arith, c.if-before-from.true, c.from-in-loop-places.ensures) in
    let there : before + j + 1 ≤ V.table.width = omega (arith, within, wide) in
    ap (is_next_of V c.args.number c.args.total) here
    ∙ neither (belongs_to c.args.number c.args.total (before + j + 1)) (is_running ((present V).procs (before + j + 1))) (c.requires.top (before + j + 1) over there)

pub returns-then-is_next : goal.returns-then-is_next
returns-then-is_next c =
    let V : View = view_of c.args.machine.now in
    let last : ℕ = c.args.last in
    let i : ℕ = c.loop-places.places in
    let test : ℕ → Bool = is_next_of V c.args.number c.args.total in
    let xs : List ℕ = all_after V.table.width last in
    let wide : c.from-width.result ≡ V.table.width = c.from-width.ensures ∙ c.processes.ensures.table in
    let here = looked_at V.table.width last i c.from.result c.from-width.result c.from.ensures wide c.loop-places-test.true in
    let size : length xs ≡ V.table.width = length-map-range_with_len (places_after V.table.width last) 0 V.table.width in
    ap Some (sym here)
    ∙ found_here test xs i 0 (next_process V c.args.number c.args.total last) c.loop-places.invariant (omega (arith, size, wide, c.loop-places-test.true))
    (ap test here ∙ sym c.is_next.ensures ∙ c.if-is_next.true)

pub loop-places-preserved : goal.loop-places-preserved
loop-places-preserved c =
    let V : View = view_of c.args.machine.now in
    let last : ℕ = c.args.last in
    let i : ℕ = c.loop-places.places in
    let test : ℕ → Bool = is_next_of V c.args.number c.args.total in
    let xs : List ℕ = all_after V.table.width last in
    let wide : c.from-width.result ≡ V.table.width = c.from-width.ensures ∙ c.processes.ensures.table in
    let here = looked_at V.table.width last i c.from.result c.from-width.result c.from.ensures wide c.loop-places-test.true in
    let size : length xs ≡ V.table.width = length-map-range_with_len (places_after V.table.width last) 0 V.table.width in
    found_later test xs i 0 (next_process V c.args.number c.args.total last) c.loop-places.invariant (omega (arith, size, wide, c.loop-places-test.true))
    (ap test here ∙ sym c.is_next.ensures ∙ c.if-is_next.false)

pub returns : goal.returns
returns c =
    let V : View = view_of c.args.machine.now in
    let last : ℕ = c.args.last in
    let wide : c.from-width.result ≡ V.table.width = c.from-width.ensures ∙ c.processes.ensures.table in
    let size : length (all_after V.table.width last) ≡ V.table.width = length-map-range_with_len (places_after V.table.width last) 0 V.table.width in
    found_nowhere (is_next_of V c.args.number c.args.total) (all_after V.table.width last) c.loop-places.places
    (next_process V c.args.number c.args.total last) c.loop-places.invariant (omega (arith, size, wide, c.loop-places-test.false))
