-- One tile more of a path that is put into arrays.
use Rattle.std.proofs.Common.{◌≡◌, ℕ, ◌+◌, ◌<◌, List, length, get_or, drop, slice_set, Result, Ok, Err, IsOk, IfOk, IfErr, inl, inr, refl, sym, subst, arith}
use Rattle.std.proofs.lemmas.Bool.{cases_lt}
use Rattle.std.proofs.lemmas.List.{get_or-set_same, get_or-set_other, drop_more}
use Rattle.theory_addresses.specs.Address.{Address}
use Rattle.theory_walks.specs.Frames.{FrameValue}
use Rattle.theory_walks.specs.Paths.{Crosses, Leads}
use Rattle.rule_model.specs.Tiling.{Tiling}
use Rattle.tile_place.specs.Crossed.{IsOnlyAcross, LiesOnBoundary}
use Rattle.tile_place.proofs.Plane.{part_along}
use Rattle.transducer_core.specs.declared.outside.Outside.{Outside}
use Rattle.c_values.specs.declared.plain_address.PlainAddress.{PlainAddress}
use Rattle.c_values.specs.declared.plain_tile.PlainTile.{PlainTile}
use Rattle.c_values.specs.Addresses.{address_in}
use Rattle.c_values.specs.Tiles.{refused_as}
use Rattle.tiling_c.specs.Arrays.{no_address, plain_tile_at, plain_address_at}
use Rattle.tiling_c.specs.Walk.{ShowsStanding, IsReached}

-- what was put there before stays
pub address_before : (addrs : List PlainAddress) (i j : ℕ) (addr : PlainAddress) → j < i
    → plain_address_at (slice_set addrs i addr) j ≡ plain_address_at addrs j
address_before addrs i j addr below = get_or-set_other addrs i j addr no_address (λ e. absurd (omega (arith, below, e)))

pub tile_before : (tiles : List PlainTile) (i j : ℕ) (tile : PlainTile) → j < i → plain_tile_at (slice_set tiles i tile) j ≡ plain_tile_at tiles j
tile_before tiles i j tile below = get_or-set_other tiles i j tile (refused_as 0) (λ e. absurd (omega (arith, below, e)))

-- and what is put is there
pub address_there : (addrs : List PlainAddress) (i : ℕ) (addr : PlainAddress) → i < length addrs → plain_address_at (slice_set addrs i addr) i ≡ addr
address_there addrs i addr below = get_or-set_same addrs i addr no_address below

pub tile_there : (tiles : List PlainTile) (i : ℕ) (tile : PlainTile) → i < length tiles → plain_tile_at (slice_set tiles i tile) i ≡ tile
tile_there tiles i tile below = get_or-set_same tiles i tile (refused_as 0) below

module _ (t : Tiling) (f : FrameValue) (path : List ℕ) (tiles : List PlainTile) (addrs : List PlainAddress)
    (i : ℕ) (tile : PlainTile) (addr : PlainAddress)
    (in_tiles : i + 1 < length tiles) (in_addrs : i + 1 < length addrs) where
  abbrev tiles' : List PlainTile
  tiles' = slice_set tiles (i + 1) tile

  abbrev addrs' : List PlainAddress
  addrs' = slice_set addrs (i + 1) addr

  -- a tile before is still walked to
  kept : (j : ℕ) → j < i → IsReached t f path tiles addrs j → IsReached t f path tiles' addrs' j
  kept j below h =
      let here : plain_address_at addrs' j ≡ plain_address_at addrs j = address_before addrs (i + 1) j addr (omega (arith, below)) in
      let next : plain_address_at addrs' (j + 1)
      ≡ plain_address_at addrs (j + 1) = address_before addrs (i + 1) (j + 1) addr (omega (arith, below)) in
      let shown : plain_tile_at tiles' (j + 1) ≡ plain_tile_at tiles (j + 1) = tile_before tiles (i + 1) (j + 1) tile (omega (arith, below)) in
      record {
        back = h.back;
        across = subst (λ a. IsOnlyAcross t (address_in a) (get_or path j 0) (address_in (plain_address_at addrs' (j + 1))) h.back) (sym here)
            (subst (λ a. IsOnlyAcross t (address_in (plain_address_at addrs j)) (get_or path j 0) (address_in a) h.back) (sym next) h.across);
        stands = subst (λ a. ShowsStanding t f h.back (plain_tile_at tiles' (j + 1)) a) (sym next)
            (subst (λ x. ShowsStanding t f h.back x (plain_address_at addrs (j + 1))) (sym shown) h.stands);
      }

  -- and the tile that is put is walked to
  put : (back : ℕ) → IsOnlyAcross t (address_in (plain_address_at addrs i)) (get_or path i 0) (address_in addr) back
      → ShowsStanding t f back tile addr
      → IsReached t f path tiles' addrs' i
  put back across stands =
      let here : plain_address_at addrs' i ≡ plain_address_at addrs i = address_before addrs (i + 1) i addr (omega arith) in
      let next : plain_address_at addrs' (i + 1) ≡ addr = address_there addrs (i + 1) addr in_addrs in
      let shown : plain_tile_at tiles' (i + 1) ≡ tile = tile_there tiles (i + 1) tile in_tiles in
      record {
        back = back;
        across = subst (λ a. IsOnlyAcross t (address_in a) (get_or path i 0) (address_in (plain_address_at addrs' (i + 1))) back) (sym here)
            (subst (λ a. IsOnlyAcross t (address_in (plain_address_at addrs i)) (get_or path i 0) (address_in a) back) (sym next) across);
        stands = subst (λ a. ShowsStanding t f back (plain_tile_at tiles' (i + 1)) a) (sym next)
            (subst (λ x. ShowsStanding t f back x addr) (sym shown) stands);
      }

  pub one_walked : ((j : ℕ) → j < i → IsReached t f path tiles addrs j) → (back : ℕ)
      → IsOnlyAcross t (address_in (plain_address_at addrs i)) (get_or path i 0) (address_in addr) back → ShowsStanding t f back tile addr
      → (j : ℕ) → j < i + 1 → IsReached t f path tiles' addrs' j
  one_walked before back across stands j below = elim (cases_lt j i) [
    | inl h ↦ kept j h (before j h)
    | inr h ↦ let same : j ≡ i = omega (arith, h, below) in subst (IsReached t f path tiles' addrs') (sym same) (put back across stands)
  ]

-- an edge that is crossed is inside, so a step across it is answered
pub step_is_ok : (t : Tiling) (a x : Address) (e f : ℕ) (r : Result ℕ Outside)
    → IfErr r (λ o. LiesOnBoundary t a e o.edge o.part) → Crosses t a e x f → IsOk r
step_is_ok t a x e f (Ok back) on h = refl
step_is_ok t a x e f (Err o) on h = absurd (h.inside (record { own = o.edge; along = part_along t a e o.edge o.part on }))

pub of_ok : (r : Result ℕ Outside) (back : ℕ) (Q : ℕ → Type 0) → r ≡ Ok back → IfOk r Q → Q back
of_ok r back Q e h = subst (λ s. IfOk s Q) e h

-- a path that can be walked on from a tile begins with the edge at its place
pub ahead_at : (t : Tiling) (a b : Address) (path : List ℕ) (i : ℕ) → i < length path → Leads t a (drop i path) b
    → (x : Address) × (f : ℕ) × Crosses t a (get_or path i 0) x f × Leads t x (drop (i + 1) path) b
ahead_at t a b path i h leads = subst (λ p. Leads t a p b) (drop_more path i 0 h) leads
