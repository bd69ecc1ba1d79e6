-- One level down, over the digits of the program.
use Rattle.std.proofs.Common.{◌≡◌, ℕ, ◌+◌, ◌*◌, ◌<◌, ◌/◌, ◌%◌, List, length, map, get_or, set, Some, refl, sym, ap, ◌∙◌, arith}
use Rattle.std.specs.List.{slice_get}
use Rattle.std.proofs.lemmas.Option.{slice_get_within}
use Rattle.std.proofs.lemmas.List.{length-map, map-set}
use Rattle.tile_shape.specs.declared.step.Step as program
use Rattle.tile_shape.specs.Views.{step_of}
use Rattle.theory_addresses.specs.Address.{Step}
use Rattle.theory_addresses.specs.Coherent.{IsCoherent}
use Rattle.theory_addresses.specs.Tables.{Tables}
use Rattle.theory_addresses.proofs.Chains.{IsChain-at}
use Rattle.theory_addresses.proofs.TableBounds.{child_bounds}
use Rattle.transducer_core.specs.declared.climb.Meeting.{Meeting}
use Rattle.transducer_core.specs.declared.descent.Side.{Side}
use Rattle.transducer_core.specs.Descending.{StartsDown, GoesDown}
use Rattle.transducer_core.specs.FlatTables.{part_rows, kind_rows}
use Rattle.transducer_core.specs.Merged.{AllBegin, AreSpread}
use Rattle.transducer_core.proofs.Rising.{digit_read}
use Rattle.transducer_core.proofs.Falls.{chain_at, Down, first_there, first, down}

-- ---- over the program's digits
module _ (t : Tables) (digits : List program.Step) (m : Meeting) (parts starts words kinds : List ℕ)
    (coherent : IsCoherent t) (begin : AllBegin (part_rows t) starts words)
    (spread : AreSpread (kind_rows t) kinds)
    (some : (k : ℕ) × (e : ℕ) × StartsDown t (record { kind = k; digits = map step_of digits }) e m parts) where
  pub inside : m.level < length digits
  inside = omega (arith, slice_get_within (map step_of digits) m.level some.2.meets.step some.2.meets.digit, length-map digits step_of)

  abbrev met_digit : program.Step
  met_digit = get_or digits m.level (record { child = 0; parent = 0 })

  met_digit_is : slice_get (map step_of digits) m.level ≡ Some (step_of met_digit)
  met_digit_is = digit_read digits digits m.level (record { child = 0; parent = 0 }) refl inside

  -- its parent, by the cell of the meeting
  pub met_parent : m.at / 256 ≡ met_digit.parent
  met_parent =
      let two : Some some.2.meets.step ≡ Some (step_of met_digit) = sym some.2.meets.digit ∙ met_digit_is in
      let one : some.2.meets.step ≡ step_of met_digit = cc in
      let child = IsChain-at t some.0 (map step_of digits) m.level some.2.meets.step
      (chain_at t some.0 (map step_of digits) some.1 m parts some.2) some.2.meets.digit in
      let b = child_bounds t some.2.meets.step.parent some.2.meets.step.child (rw child.0 refl) in
      omega (arith, some.2.meets.at_is, ap (λ (s : Step). s.parent) one, b.1, coherent.at_most_16_children some.2.meets.step.parent b.0)

  pub parent_small : m.at / 256 < 256
  parent_small =
      let child = IsChain-at t some.0 (map step_of digits) m.level some.2.meets.step
      (chain_at t some.0 (map step_of digits) some.1 m parts some.2) some.2.meets.digit in
      let b = child_bounds t some.2.meets.step.parent some.2.meets.step.child (rw child.0 refl) in
      omega (arith, some.2.meets.at_is, b.0, coherent.at_most_16_kinds, b.1, coherent.at_most_16_children some.2.meets.step.parent b.0)

  pub cell_there : (child cell : ℕ) → child ≡ m.word % 256 → cell ≡ 256 * (m.at / 256) + child → (row : ℕ) × (slice_get kinds cell ≡ Some (row + 255))
  cell_there child cell is at =
      let there = first_there t (map step_of digits) m parts starts words kinds coherent begin spread some (step_of met_digit) met_digit_is in
      let same : cell ≡ 256 * met_digit.parent + m.word % 256 = omega (arith, is, at, met_parent) in
      (there.0, ap (slice_get kinds) same ∙ there.1)

  pub begun : (child own cell row : ℕ) → child ≡ m.word % 256 → own ≡ m.word / 256 % 256
      → cell ≡ 256 * (m.at / 256) + child → slice_get kinds cell ≡ Some (row + 255)
      → Down t (map step_of digits) m parts m.level
      (map step_of (set digits m.level (record { child = child; parent = m.at / 256 })))
      (record { row = row; edge = own })
  begun child own cell row child_is edge_is at row_is =
      let same : cell ≡ 256 * met_digit.parent + m.word % 256 = omega (arith, child_is, at, met_parent) in
      let kind : slice_get kinds (256 * met_digit.parent + m.word % 256) ≡ Some (row + 255) = ap (slice_get kinds)
      (sym same) ∙ row_is in
      let written : map step_of (set digits m.level (record { child = child; parent = m.at / 256 })) ≡ set
      (map step_of digits) m.level (record { child = m.word % 256; parent = met_digit.parent }) =
      map-set step_of digits m.level (record { child = child; parent = m.at / 256 })
      ∙ (λ j. set (map step_of digits) m.level (record { child = child_is j; parent = met_parent j })) in
      first t (map step_of digits) m parts starts words kinds coherent begin spread some (step_of met_digit)
      (map step_of (set digits m.level (record { child = child; parent = m.at / 256 })))
      (record { row = row; edge = own })
      met_digit_is kind edge_is written (omega (arith, inside, length-map digits step_of))

  pub written_down : (i n : ℕ) (before : List program.Step) (side : Side) (digit : program.Step)
      (below : Side) → i < m.level → n ≡ i + 1 → length before ≡ length digits
      → Down t (map step_of digits) m parts n (map step_of before) side → GoesDown starts words kinds side (get_or parts i 0) digit below
      → Down t (map step_of digits) m parts i (map step_of (set before i digit)) below
  written_down i n before side digit below lower more count d g =
      down t (map step_of digits) m parts starts words kinds coherent begin spread some i n
      (map step_of before) (map step_of (set before i digit)) side digit below lower more
      (omega (arith, lower, inside, count, length-map before step_of)) d g (map-set step_of before i digit)
