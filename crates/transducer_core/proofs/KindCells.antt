-- The kinds of children, looked up in one list from the coarsest digit down.
use Rattle.std.proofs.Common.{◌≡◌, ℕ, zero, suc, ◌+◌, ◌*◌, ◌%◌, ◌<◌, ◌≤◌, ◌⊎◌, inl, inr, List, [], ◌∷◌, length, drop, get_or, map, Option, Some, None, option_map, refl, sym, ap, subst, ◌∙◌, arith}
use Rattle.std.specs.List.{slice_get}
use Rattle.std.specs.Option.{option_and_then}
use Rattle.std.proofs.lemmas.Bool.{cases_eq}
use Rattle.std.proofs.lemmas.List.{drop_more, drop_all, length-map}
use Rattle.std.proofs.lemmas.Option.{slice_get-map, slice_get_within}
use Rattle.tile_shape.specs.declared.step.Step as program
use Rattle.tile_shape.specs.Views.{step_of}
use Rattle.theory_addresses.specs.Address.{Climbs, child_kind}
use Rattle.theory_addresses.specs.Coherent.{IsCoherent}
use Rattle.theory_addresses.specs.Tables.{Tables, KindTables, child_kinds}
use Rattle.theory_addresses.proofs.TableBounds.{child_kind-tables}
use Rattle.transducer_core.specs.FlatTables.{kind_rows}
use Rattle.transducer_core.specs.Merged.{AreSpread, AreFilled, last_cell, no_row}
use Rattle.transducer_core.proofs.FlatEntries.{has_kind}

-- what stands in a mapped list is the image of what stands in the list
mapped : {A B : Type 0} (f : A → B) (xs : List A) (i : ℕ) (y : B) → slice_get (map f xs) i ≡ Some y
    → (x : A) × (slice_get xs i ≡ Some x) × (y ≡ f x)
mapped {A} {B} f xs i y is = by (slice_get xs i) refl (sym (slice_get-map f xs i) ∙ is)
  where
    by : (o : Option A) → slice_get xs i ≡ o → option_map f o ≡ Some y → (x : A) × (slice_get xs i ≡ Some x) × (y ≡ f x)
    by None at e = absurd (cc e)
    by (Some x) at e = (x, at, cc e)

-- a digit of a list
abbrev pub digit : List program.Step → ℕ → program.Step
digit xs i = get_or xs i (record { child = 0; parent = 0 })

-- the digits from one on climb from a kind exactly if its row has this last cell
pub record Below (t : Tables) (kinds : List ℕ) (xs : List program.Step) (i last : ℕ) : Type 0 where
  pub is : (kind : ℕ) → Climbs (child_kinds t) kind (map step_of (drop i xs)) → last ≡ last_cell kind
  pub only : (kind : ℕ) → last ≡ last_cell kind → Climbs (child_kinds t) kind (map step_of (drop i xs))
  pub row : ((last < length kinds) × (last % 256 ≡ 255)) ⊎ (last ≡ no_row)

-- digits that climb from a kind climb from some kind at each level
climbs_from : (children : List (List ℕ)) (xs : List program.Step) (i kind : ℕ) → Climbs children kind (map step_of xs)
    → (k : ℕ) × Climbs children k (map step_of (drop i xs))
climbs_from children xs zero kind climbs = (kind, climbs)
climbs_from children [] (suc i) kind climbs = (kind, climbs)
climbs_from children (x ∷ xs) (suc i) kind climbs = climbs_from children xs i x.parent climbs.1

module _ (t : Tables) (coherent : IsCoherent t) where
  child_exists : (p c kind : ℕ) → child_kind (child_kinds t) p c ≡ Some kind → kind < length (child_kinds t)
  child_exists p c kind is = omega (
    arith,
    coherent.child_exists p c kind (sym (child_kind-tables t p c) ∙ is),
    length-map t.kinds (λ (k : KindTables). k.children),
  )

  -- the first of the digits from one on, and the digits after it
  parts_of : (xs : List program.Step) (i kind : ℕ) → i < length xs → Climbs (child_kinds t) kind (map step_of (drop i xs))
      → (child_kind (child_kinds t) (digit xs i).parent (digit xs i).child ≡ Some kind)
      × Climbs (child_kinds t) (digit xs i).parent (map step_of (drop (i + 1) xs))
  parts_of xs i kind inside climbs = subst (λ (ys : List program.Step). Climbs (child_kinds t) kind (map step_of ys))
      (drop_more xs i (record { child = 0; parent = 0 }) inside) climbs

  -- digits that climb from a kind climb from one that exists
  pub kind_exists : (xs : List program.Step) (kind : ℕ) → 0 < length xs → Climbs (child_kinds t) kind (map step_of xs)
      → kind < length (child_kinds t)
  kind_exists xs kind some climbs =
      let first = (parts_of xs 0 kind some climbs).0 in
      child_exists (digit xs 0).parent (digit xs 0).child kind first

module _ (t : Tables) (kinds : List ℕ) (coherent : IsCoherent t) (spread : AreSpread (kind_rows t) kinds)
    (filled : AreFilled (kind_rows t) kinds) where
  -- the number at a child's cell is a kind's last cell exactly if the child has this kind
  pub cell_kind : (p c kind : ℕ) → c < 256 → slice_get kinds (256 * p + c) ≡ Some (last_cell kind)
      → child_kind (child_kinds t) p c ≡ Some kind
  cell_kind p c kind small at =
      let other : last_cell kind ≡ no_row → ⊥ = λ e. absurd (omega (arith, e)) in
      let found = filled.no_other p c (last_cell kind) small at other in
      let row = mapped (map last_cell) (child_kinds t) p found.0 found.1 in
      let its : slice_get (map last_cell row.0) c ≡ Some (last_cell kind) = rw row.2 at found.2 in
      let child = mapped last_cell row.0 c (last_cell kind) its in
      let same : child.0 ≡ kind = omega (arith, child.2) in
      ap (option_and_then (λ (r : List ℕ). slice_get r c)) row.1 ∙ child.1 ∙ ap Some same

  pub kind_cell : (p c kind : ℕ) → child_kind (child_kinds t) p c ≡ Some kind → slice_get kinds (256 * p + c) ≡ Some (last_cell kind)
  kind_cell p c kind is = has_kind t p c kind kinds spread (sym (child_kind-tables t p c) ∙ is)

  -- what is at a cell is the last cell of a row, or of none
  row_at : (p c last : ℕ) → c < 256 → slice_get kinds (256 * p + c) ≡ Some last
      → ((last < length kinds) × (last % 256 ≡ 255)) ⊎ (last ≡ no_row)
  row_at p c last small at = elim (cases_eq last no_row) [
    | inl same ↦ inr same
    | inr other ↦
        let found = filled.no_other p c last small at other in
        let row = mapped (map last_cell) (child_kinds t) p found.0 found.1 in
        let its : slice_get (map last_cell row.0) c ≡ Some last = rw row.2 at found.2 in
        let child = mapped last_cell row.0 c last its in
        let kind : child_kind (child_kinds t) p c ≡ Some child.0 = ap (option_and_then (λ (r : List ℕ). slice_get r c)) row.1 ∙ child.1 in
        inl (
          omega (
            arith,
            child.2,
            child_exists t coherent p c child.0 kind,
            filled.size,
            length-map (child_kinds t) (map last_cell),
          ),
          omega (arith, child.2),
        )
  ]

  both : (xs : List program.Step) (i kind : ℕ) → i < length xs
      → child_kind (child_kinds t) (digit xs i).parent (digit xs i).child ≡ Some kind
      → Climbs (child_kinds t) (digit xs i).parent (map step_of (drop (i + 1) xs))
      → Climbs (child_kinds t) kind (map step_of (drop i xs))
  both xs i kind inside child above = subst (λ (ys : List program.Step). Climbs (child_kinds t) kind (map step_of ys))
      (sym (drop_more xs i (record { child = 0; parent = 0 }) inside)) (child, above)

  read : (xs : List program.Step) (i kind last : ℕ) → slice_get kinds (256 * (digit xs i).parent + (digit xs i).child) ≡ Some last
      → child_kind (child_kinds t) (digit xs i).parent (digit xs i).child ≡ Some kind → last ≡ last_cell kind
  read xs i kind last at child =
      let two : Some last ≡ Some (last_cell kind) = sym at ∙ kind_cell (digit xs i).parent (digit xs i).child kind child in
      cc

  -- ---- the coarsest digit
  pub top_down : (xs : List program.Step) (i last : ℕ) → i < length xs → length xs ≤ i + 1 → (digit xs i).child < 256
      → slice_get kinds (256 * (digit xs i).parent + (digit xs i).child) ≡ Some last → Below t kinds xs i last
  top_down xs i last inside top small at = record {
    is = λ kind climbs. read xs i kind last at (parts_of t coherent xs i kind inside climbs).0;
    only = λ kind same. both xs i kind inside
        (cell_kind (digit xs i).parent (digit xs i).child kind small (at ∙ ap Some same))
        (subst (λ (ys : List program.Step). Climbs (child_kinds t) (digit xs i).parent (map step_of ys))
        (sym (drop_all (i + 1) xs top)) tt);
    row = row_at (digit xs i).parent (digit xs i).child last small at;
  }

  pub stops_at_the_top : (xs : List program.Step) (i : ℕ) → i < length xs
      → length kinds ≤ 256 * (digit xs i).parent + (digit xs i).child → (kind : ℕ) → ¬ Climbs (child_kinds t) kind (map step_of xs)
  stops_at_the_top xs i inside none kind climbs =
      let from = climbs_from (child_kinds t) xs i kind climbs in
      let child = (parts_of t coherent xs i from.0 inside from.1).0 in
      absurd (omega (
        arith,
        none,
        slice_get_within kinds (256 * (digit xs i).parent + (digit xs i).child) (last_cell from.0)
            (kind_cell (digit xs i).parent (digit xs i).child from.0 child),
      ))

  -- ---- one digit down
  pub down : (xs : List program.Step) (i n last next : ℕ) → n ≡ i + 1 → i < length xs → (digit xs i).child < 256
      → Below t kinds xs n last → last ≡ last_cell (digit xs i).parent
      → slice_get kinds (256 * (digit xs i).parent + (digit xs i).child) ≡ Some next → Below t kinds xs i next
  down xs i n last next more inside small above parent at = record {
    is = λ kind climbs. read xs i kind next at (parts_of t coherent xs i kind inside climbs).0;
    only = λ kind same. both xs i kind inside
        (cell_kind (digit xs i).parent (digit xs i).child kind small (at ∙ ap Some same))
        (subst (λ m. Climbs (child_kinds t) (digit xs i).parent (map step_of (drop m xs))) more (above.only (digit xs i).parent parent));
    row = row_at (digit xs i).parent (digit xs i).child next small at;
  }

  pub stops : (xs : List program.Step) (i n last : ℕ) → n ≡ i + 1 → i < length xs → Below t kinds xs n last
      → ¬ last ≡ last_cell (digit xs i).parent → (kind : ℕ) → ¬ Climbs (child_kinds t) kind (map step_of xs)
  stops xs i n last more inside above other kind climbs =
      let from = climbs_from (child_kinds t) xs i kind climbs in
      let rest = (parts_of t coherent xs i from.0 inside from.1).1 in
      other (above.is (digit xs i).parent
      (subst (λ m. Climbs (child_kinds t) (digit xs i).parent (map step_of (drop m xs))) (sym more) rest))
