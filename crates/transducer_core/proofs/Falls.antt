-- One level down by the words of a flat table.
use Rattle.std.proofs.Common.{◌≡◌, ℕ, ◌+◌, ◌*◌, ◌-◌, ◌<◌, ◌/◌, ◌%◌, ◌^◌, List, length, drop, get_or, set, Some, IsSome, sym, ap, ◌∙◌, arith, subst}
use Rattle.std.specs.List.{slice_get}
use Rattle.tile_shape.specs.declared.step.Step as program
use Rattle.tile_shape.specs.Views.{step_of}
use Rattle.theory_addresses.specs.Address.{Address, Step, Fits}
use Rattle.theory_addresses.specs.Coherent.{IsCoherent}
use Rattle.theory_addresses.specs.Tables.{Tables, child_kinds, child_kind_of, part_count, type_of}
use Rattle.theory_addresses.specs.Touch.{Touches}
use Rattle.theory_addresses.proofs.Chains.{IsChain, chain_of, fits_of}
use Rattle.theory_addresses.proofs.TableBounds.{child_bounds}
use Rattle.theory_addresses.proofs.Touching.{Touches-of}
use Rattle.transducer_core.specs.declared.climb.Meeting.{Meeting}
use Rattle.transducer_core.specs.declared.descent.Side.{Side}
use Rattle.transducer_core.specs.Descending.{StartsDown, GoesDown}
use Rattle.transducer_core.specs.FlatTables.{part_rows, kind_rows}
use Rattle.transducer_core.specs.Merged.{AllBegin, AreSpread, HasEntry}
use Rattle.transducer_core.proofs.FlatLooks
use Rattle.transducer_core.proofs.Halfway
use Rattle.transducer_core.proofs.Onward
use Rattle.transducer_core.proofs.Rising.{MetAt, met_of}

abbrev at_address : ℕ → List Step → Address
at_address k xs = record { kind = k; digits = xs }

met_at : (t : Tables) (k : ℕ) (xs : List Step) (e : ℕ) (m : Meeting) (parts : List ℕ)
    → StartsDown t (record { kind = k; digits = xs }) e m parts
    → MetAt t xs e m.level (m.word % 256) (m.word / 256 % 256) parts
met_at t k xs e m parts s = met_of (at_address k xs) s.meets

pub chain_at : (t : Tables) (k : ℕ) (xs : List Step) (e : ℕ) (m : Meeting) (parts : List ℕ)
    → StartsDown t (record { kind = k; digits = xs }) e m parts → IsChain t k xs
chain_at t k xs e m parts s = chain_of t (at_address k xs) s.fits

-- the descent has come down to a level, at a side whose row is 256 times its kind
pub record Down (t : Tables) (xs : List Step) (m : Meeting) (parts : List ℕ) (i : ℕ) (ys : List Step) (side : Side) : Type 0 where
  pub row : side.row ≡ 256 * (side.row / 256)
  pub chain : IsChain t (side.row / 256) (drop i ys)
  pub halfway : (k e : ℕ) → StartsDown t (record { kind = k; digits = xs }) e m parts → Halfway.Halfway t k xs e parts i ys (side.row / 256) side.edge

module _ (t : Tables) (xs : List Step) (m : Meeting) (parts starts words kinds : List ℕ)
    (coherent : IsCoherent t) (begin : AllBegin (part_rows t) starts words)
    (spread : AreSpread (kind_rows t) kinds)
    (some : (k : ℕ) × (e : ℕ) × StartsDown t (record { kind = k; digits = xs }) e m parts) where
  -- ---- the meeting
  first_child : (s : Step) → slice_get xs m.level ≡ Some s → IsSome (child_kind_of t s.parent (m.word % 256))
  first_child s is =
      Halfway.start_child t some.0 xs some.1 m.level (m.word % 256) (m.word / 256 % 256) parts s coherent
      (chain_at t some.0 xs some.1 m parts some.2) some.2.edge_exists
      (met_at t some.0 xs some.1 m parts some.2) is

  pub first_there : (s : Step) → slice_get xs m.level ≡ Some s → (row : ℕ) × (slice_get kinds (256 * s.parent + m.word % 256) ≡ Some (row + 255))
  first_there s is = FlatLooks.kind_there t kinds coherent spread s.parent (m.word % 256) (first_child s is)

  pub first : (s : Step) (ys : List Step) (side : Side) → slice_get xs m.level ≡ Some s
      → slice_get kinds (256 * s.parent + m.word % 256) ≡ Some (side.row + 255) → side.edge ≡ m.word / 256 % 256
      → ys ≡ set xs m.level (record { child = m.word % 256; parent = s.parent }) → m.level < length xs → Down t xs m parts m.level ys side
  first s ys side is kind edge written inside =
      let read = FlatLooks.kind_read t kinds coherent spread s.parent (m.word % 256) side.row (first_child s is) kind in
      let below = Halfway.written xs ys m.level (record { child = m.word % 256; parent = s.parent }) written inside in
      record {
        row = read.1;
        chain = Halfway.start_fits t some.0 xs m.level (m.word % 256) ys s (side.row / 256)
            (chain_at t some.0 xs some.1 m parts some.2) is read.0 below;
        halfway = λ k e starts. rw edge
            (Halfway.start t k xs e m.level (m.word % 256) (m.word / 256 % 256) parts ys s (side.row / 256)
            coherent (chain_at t k xs e m parts starts) starts.edge_exists
            (met_at t k xs e m parts starts) is read.0 below);
      }

  -- ---- one level
  onward : (k e i n : ℕ) (ys : List Step) (side : Side) → i < m.level → n ≡ i + 1
      → StartsDown t (record { kind = k; digits = xs }) e m parts → Down t xs m parts n ys side
      → Onward.Onward t k xs e parts i ys (side.row / 256) side.edge
  onward k e i n ys side below more starts d =
      Onward.onward t k xs e m.level (m.word % 256) (m.word / 256 % 256) parts i n ys (side.row / 256)
      side.edge coherent (chain_at t k xs e m parts starts) (met_at t k xs e m parts starts) below more
      (d.halfway k e starts)

  -- the part that is looked up, by its number on the own side
  child_there : (i n : ℕ) (ys : List Step) (side : Side) (word : ℕ) → i < m.level → n ≡ i + 1 → Down t xs m parts n ys side
      → HasEntry starts words (256 * (side.row / 256) + side.edge) (get_or parts i 0) word → IsSome (child_kind_of t (side.row / 256) (word % 256))
  child_there i n ys side word below more d entry =
      let o = onward some.0 some.1 i n ys side below more some.2 d in
      let q = part_count t (side.row / 256) side.edge - 1 - get_or parts i 0 in
      let mirror : q + (get_or parts i 0 + 1) ≡ part_count t (side.row / 256) side.edge = omega (arith, o.inside) in
      o.child q (record { child = word % 256; edge = word / 256 }) mirror
      (FlatLooks.part_across_edge t starts words coherent begin (side.row / 256) side.edge
      (get_or parts i 0) word entry q mirror)

  pub there : (i n : ℕ) (ys : List Step) (side : Side) → i < m.level → n ≡ i + 1 → Down t xs m parts n ys side
      → (word : ℕ) × (row : ℕ) × HasEntry starts words (side.row + side.edge) (get_or parts i 0) word
      × (slice_get kinds (side.row + word % 256) ≡ Some (row + 255)) × (side.row + word % 256 < 2 ^ 16)
  there i n ys side below more d =
      let o = onward some.0 some.1 i n ys side below more some.2 d in
      let w = FlatLooks.part_across_there t starts words coherent begin (side.row / 256) side.edge (get_or parts i 0) o.inside in
      let child = child_there i n ys side w.0 below more d w.1 in
      let kind = FlatLooks.kind_there t kinds coherent spread (side.row / 256) (w.0 % 256) child in (
        w.0,
        kind.0,
        subst (λ r. HasEntry starts words (r + side.edge) (get_or parts i 0) w.0) (sym d.row) w.1,
        ap (λ r. slice_get kinds (r + w.0 % 256)) d.row ∙ kind.1,
        omega (arith, d.row, (child_bounds t (side.row / 256) (w.0 % 256) child).0, coherent.at_most_16_kinds),
      )

  pub down : (i n : ℕ) (ys zs : List Step) (side : Side) (digit : program.Step) (below : Side) → i < m.level
      → n ≡ i + 1 → i < length ys → Down t xs m parts n ys side
      → GoesDown starts words kinds side (get_or parts i 0) digit below → zs ≡ set ys i (step_of digit) → Down t xs m parts i zs below
  down i n ys zs side digit below lower more inside d g written =
      let entry : HasEntry starts words (256 * (side.row / 256) + side.edge) (get_or parts i 0) g.word = subst
      (λ r. HasEntry starts words (r + side.edge) (get_or parts i 0) g.word) d.row g.entry in
      let child = child_there i n ys side g.word lower more d entry in
      let kind : slice_get kinds (256 * (side.row / 256) + g.word % 256) ≡ Some (below.row + 255) = ap
      (λ r. slice_get kinds (r + g.word % 256)) (sym d.row) ∙ g.kind_is in
      let read = FlatLooks.kind_read t kinds coherent spread (side.row / 256) (g.word % 256) below.row child kind in
      let its_child : (side.row + g.word % 256) % 256 ≡ g.word % 256 = omega (arith, d.row) in
      let its_parent : (side.row + g.word % 256) / 256 ≡ side.row / 256 = omega (arith, d.row) in
      let is : step_of digit ≡ record { child = g.word % 256; parent = side.row / 256 } = ap step_of
      g.digit_is ∙ (λ j. record { child = its_child j; parent = its_parent j }) in
      let under = Halfway.written ys zs i (record { child = g.word % 256; parent = side.row / 256 }) (written ∙ ap (set ys i) is) inside in
      let q = part_count t (side.row / 256) side.edge - 1 - get_or parts i 0 in
      let mirror : q + (get_or parts i 0 + 1) ≡ part_count t (side.row / 256) side.edge = omega
      (arith, (onward some.0 some.1 i n ys side lower more some.2 d).inside) in
      let part = FlatLooks.part_across_edge t starts words coherent begin (side.row / 256) side.edge (get_or parts i 0) g.word entry q mirror in
      record {
        row = read.1;
        chain = rw (under, ← more) (read.0, d.chain);
        halfway = λ k e starts. rw g.edge_is
            ((onward k e i n ys side lower more starts d).more q
            (record { child = g.word % 256; edge = g.word / 256 }) (below.row / 256) zs mirror part read.0
            under);
      }

  -- ---- at the fine end
  pub touches : (i : ℕ) (ys : List Step) (side : Side) → i ≡ 0 → Down t xs m parts i ys side → (k e : ℕ)
      → StartsDown t (record { kind = k; digits = xs }) e m parts
      → Touches t (record { kind = k; digits = xs }) e (record { kind = side.row / 256; digits = ys }) side.edge
  touches i ys side none d k e starts =
      Touches-of (at_address k xs) (at_address (side.row / 256) ys)
      (Onward.landed t k xs e parts i ys (side.row / 256) side.edge none (d.halfway k e starts))

  pub fits : (i : ℕ) (ys : List Step) (side : Side) → i ≡ 0 → Down t xs m parts i ys side
      → Fits (child_kinds t) (record { kind = side.row / 256; digits = ys })
  fits i ys side none d = fits_of t (side.row / 256) ys coherent (rw none at d.chain)

  pub edge : (i : ℕ) (ys : List Step) (side : Side) → Down t xs m parts i ys side → IsSome (type_of t (side.row / 256) side.edge)
  edge i ys side d = Onward.half_edge t some.0 xs some.1 parts i ys (side.row / 256) side.edge (d.halfway some.0 some.1 some.2)
