-- The edges of tiles that are across from each other can be turned onto each other, and the tile across lies where such a turn puts it.
use Rattle.std.proofs.Common.{◌≡◌, ℕ, ◌+◌, ◌-◌, ◌<◌, ◌%◌, [], ◌∷◌, length, pos, negsuc, refl, sym, ap, ◌∙◌, arith}
use Rattle.std.specs.declared.cmp.Ordering.{Ordering}
use Rattle.std.specs.declared.cmp.Ordering.TheVariants.{Less, Equal, Greater}
use Rattle.std.proofs.Math.Nat.{mod-lt}
use Rattle.theory_ring.proofs.Signs.{less_neg, zero_factor}
use Rattle.theory_ring.specs.Ring.{Ops, difference, power}
use Rattle.theory_ring.proofs.Normaliser.{var, con, neg, ring, ring_from, ◌⊕◌, ◌⊖◌, ◌⊗◌}
use Rattle.theory_substitution.specs.Points.{Points, PointLaws}
use Rattle.theory_substitution.specs.Motion.{moved}
use Rattle.theory_substitution.specs.Rule.{Rule}
use Rattle.theory_substitution.specs.RuleParts.{edge_count, next, vertex}
use Rattle.theory_edge_to_edge.specs.EdgeTypes.{edge_vector}
use Rattle.theory_substitution.specs.Supertile.{Placed}
use Rattle.theory_substitution.proofs.Motions.{power-add, power-mod}
use Rattle.theory_substitution.proofs.Lengths.{height, norm-is, norm-mul}
use Rattle.theory_substitution.specs.Plane.{twice_squared_length}
use Rattle.theory_addresses.specs.Address.{Address, top_kind, depth, Fits}
use Rattle.theory_edge_to_edge.specs.Contacts.{tables_of}
use Rattle.theory_addresses.specs.Tables.{child_kinds}
use Rattle.theory_addresses.proofs.Chains.{chain_of}
use Rattle.theory_dissection.specs.TileEdges.{edge_of, tile_at}
use Rattle.theory_dissection.proofs.TraceAlong.{ends_apart}
use Rattle.theory_dissection.proofs.RuleAddresses.{top_exists}
use Rattle.theory_dissection.proofs.Members.{member}
use Rattle.theory_dissection.specs.Across.{RunsBack, IsTileAcross}
use Rattle.theory_dissection.specs.Glue.{TurnsOnto}
use Rattle.theory_dissection.proofs.GlueMotions.{glue_motion}
use Rattle.theory_dissection.proofs.Setting.{Setting}
use Rattle.theory_dissection.proofs.EquallyFar.{only_origin}

module _ (P : Points) (W : PointLaws P) where
  abbrev K : Ops
  K = P.ring

  abbrev V : Ops
  V = P.real.ops

  abbrev norm : K.carrier → V.carrier
  norm = twice_squared_length P

  x-zero : P.x (K.int (pos 0)) ≡ V.int (pos 0)
  x-zero =
      ring_from V W.of_real (P.x (K.int (pos 0)) ∷ []) (var 0) (con (pos 0)) ((con (negsuc 0), var 0, var 0 ⊕ var 0) ∷ [])
      (ap P.x (ring K W.of_ring [] (con (pos 0)) (con (pos 0) ⊕ con (pos 0)) refl) ∙ W.x-add (K.int (pos 0)) (K.int (pos 0)), tt) refl

  y-zero : P.y (K.int (pos 0)) ≡ V.int (pos 0)
  y-zero =
      ring_from V W.of_real (P.y (K.int (pos 0)) ∷ []) (var 0) (con (pos 0)) ((con (negsuc 0), var 0, var 0 ⊕ var 0) ∷ [])
      (ap P.y (ring K W.of_ring [] (con (pos 0)) (con (pos 0) ⊕ con (pos 0)) refl) ∙ W.y-add (K.int (pos 0)) (K.int (pos 0)), tt) refl

  -- only 0 has length 0
  norm-zero : (z : K.carrier) → norm z ≡ V.int (pos 0) → z ≡ K.int (pos 0)
  norm-zero z e =
      let flat = only_origin P.real W.of_real W.of_order (height P W) (P.x z) (P.y z) W.cosine_below
      (sym (norm-is P W z) ∙ ap (V.mul (V.int (pos 2))) e ∙ ring V W.of_real [] (con (pos 2) ⊗ con (pos 0)) (con (pos 0)) refl) in
      W.separate z (K.int (pos 0)) (flat.0 ∙ sym x-zero) (flat.1 ∙ sym y-zero)

  zero-norm : norm (K.int (pos 0)) ≡ V.int (pos 0)
  zero-norm = ap P.x (ring K W.of_ring (P.conj (K.int (pos 0)) ∷ []) (con (pos 0) ⊗ var 0) (con (pos 0)) refl) ∙ x-zero

  -- the ring has no divisors of 0
  pub no_divisor : (a d : K.carrier) → (norm d ≡ V.int (pos 0) → ⊥) → K.mul a d ≡ K.int (pos 0) → a ≡ K.int (pos 0)
  no_divisor a d some e =
      norm-zero a (no_factor (norm a) (norm d) some
      (sym (norm-mul P W a d) ∙ ap (λ z. V.mul (V.int (pos 2)) (norm z)) e
      ∙ ap (V.mul (V.int (pos 2))) zero-norm ∙ ring V W.of_real [] (con (pos 2) ⊗ con (pos 0))
      (con (pos 0)) refl))
    where
      no_factor : (x y : V.carrier) → (y ≡ V.int (pos 0) → ⊥) → V.mul x y ≡ V.int (pos 0) → x ≡ V.int (pos 0)
      no_factor x y f g = at_sign (P.real.sign y) refl
        where
          turned : V.mul y x ≡ V.int (pos 0)
          turned = W.of_real.mul_comm y x ∙ g

          at_sign : (o : Ordering) → P.real.sign y ≡ o → x ≡ V.int (pos 0)
          at_sign Greater h = zero_factor P.real W.of_real W.of_order y x h turned
          at_sign Equal h = absurd (f (W.of_order.equal_zero y h))
          at_sign Less h =
              zero_factor P.real W.of_real W.of_order (V.neg y) x (less_neg P.real W.of_real W.of_order y h)
              (ring V W.of_real (y ∷ (x ∷ [])) (neg (var 0) ⊗ var 1) (neg (var 0 ⊗ var 1)) refl
              ∙ ap V.neg turned ∙ ring V W.of_real [] (neg (con (pos 0))) (con (pos 0)) refl)

  -- ---- the turn back
  back : ℕ → ℕ
  back t = P.order - t % P.order

  turn-back : (t : ℕ) → 0 < P.order → K.mul (power K P.zeta (back t)) (power K P.zeta t) ≡ K.int (pos 1)
  unfolding back
  turn-back t some =
      let small = mod-lt t some in
      ap (K.mul (power K P.zeta (P.order - t % P.order))) (sym (power-mod K W.of_ring P.zeta P.order W.round t))
      ∙ sym (power-add K W.of_ring P.zeta (P.order - t % P.order) (t % P.order))
      ∙ ap (power K P.zeta) (omega arith) ∙ W.round

  module _ (r : Rule K.carrier) (a b : Placed K.carrier) (e f : ℕ) (runs : RunsBack (edge_of P r a e) (edge_of P r b f)) where
    abbrev k : ℕ
    k = a.address.kind

    abbrev l : ℕ
    l = b.address.kind

    abbrev M : K.carrier
    M = power K P.zeta a.motion.turn

    abbrev M' : K.carrier
    M' = power K P.zeta b.motion.turn

    -- the vectors of the two edges, as the motions turn them
    vectors : K.mul M' (edge_vector P r l f) ≡ K.neg (K.mul M (edge_vector P r k e))
    vectors =
        ring_from K W.of_ring (M ∷ (M' ∷ (a.motion.shift
        ∷ (b.motion.shift ∷ (vertex P r k e ∷ (vertex P r k (next r k e)
        ∷ (vertex P r l f ∷ (vertex P r l (next r l f) ∷ []))))))))
        (var 1 ⊗ (var 7 ⊖ var 6)) (neg (var 0 ⊗ (var 5 ⊖ var 4)))
        ((con (negsuc 0), var 1 ⊗ var 6 ⊕ var 3, var 0 ⊗ var 5 ⊕ var 2) ∷ ((con (pos 1), var 1 ⊗ var 7 ⊕ var 3, var 0 ⊗ var 4 ⊕ var 2) ∷ []))
        (runs.from_end, (runs.to_start, tt)) refl

    -- some turn, below the order, takes the one onto the other
    pub some_turn : 0 < P.order → (t : ℕ) × (t < P.order) × TurnsOnto P r k e l f t
    some_turn some =
        let t = (back a.motion.turn + b.motion.turn) % P.order in (
          t,
          mod-lt (back a.motion.turn + b.motion.turn) some,
          ap (λ u. K.mul u (edge_vector P r l f)) (power-mod K W.of_ring P.zeta P.order W.round
              (back a.motion.turn + b.motion.turn) ∙ power-add K W.of_ring P.zeta (back a.motion.turn)
              b.motion.turn)
              ∙ ring_from K W.of_ring (power K P.zeta (back a.motion.turn)
              ∷ (M ∷ (M' ∷ (edge_vector P r l f ∷ (edge_vector P r k e ∷ []))))) ((var 0 ⊗ var 2) ⊗ var 3)
              (neg (var 4))
              ((var 0, var 2 ⊗ var 3, neg (var 1 ⊗ var 4)) ∷ ((neg (var 4), var 0 ⊗ var 1, con (pos 1)) ∷ []))
              (vectors, (turn-back a.motion.turn some, tt)) refl,
        )

    -- and each such turn puts the tile across where it lies
    pub glued : (t : ℕ) → TurnsOnto P r k e l f t → (norm (edge_vector P r l f) ≡ V.int (pos 0) → ⊥)
        → (z : K.carrier) → moved P a.motion (moved P (glue_motion P r k e l f t) z) ≡ moved P b.motion z
    glued t turns some z =
        ring_from K W.of_ring (M ∷ (M' ∷ (power K P.zeta t
        ∷ (a.motion.shift ∷ (b.motion.shift ∷ (vertex P r k (next r k e)
        ∷ (vertex P r l f ∷ (z ∷ []))))))))
        (var 0 ⊗ (var 2 ⊗ var 7 ⊕ (var 5 ⊖ var 2 ⊗ var 6)) ⊕ var 3) (var 1 ⊗ var 7 ⊕ var 4)
        ((con (negsuc 0), var 1 ⊗ var 6 ⊕ var 4, var 0 ⊗ var 5 ⊕ var 3) ∷ ((var 7 ⊖ var 6, var 0 ⊗ var 2 ⊖ var 1, con (pos 0)) ∷ []))
        (runs.from_end, (same_turn, tt)) refl
      where
        same_turn : difference K (K.mul M (power K P.zeta t)) M' ≡ K.int (pos 0)
        same_turn =
            no_divisor (difference K (K.mul M (power K P.zeta t)) M') (edge_vector P r l f) some
            (ring_from K W.of_ring (M ∷ (M' ∷ (power K P.zeta t
            ∷ (edge_vector P r l f ∷ (edge_vector P r k e ∷ []))))) ((var 0 ⊗ var 2 ⊖ var 1) ⊗ var 3)
            (con (pos 0))
            ((var 0, var 2 ⊗ var 3, neg (var 4)) ∷ ((con (negsuc 0), var 1 ⊗ var 3, neg (var 0 ⊗ var 4)) ∷ [])) (turns, (vectors, tt)) refl)

-- two turns that take one edge onto another are one power of ζ
pub glued-turn : (P : Points) (W : PointLaws P) (r : Rule P.ring.carrier) (k e l f s t : ℕ) → TurnsOnto P r k e l f s → TurnsOnto P r k e l f t
    → (twice_squared_length P (edge_vector P r l f) ≡ P.real.ops.int (pos 0) → ⊥) → power P.ring P.zeta s ≡ power P.ring P.zeta t
glued-turn P W r k e l f s t x y some =
    let gone = no_divisor P W (difference P.ring (power P.ring P.zeta s) (power P.ring P.zeta t)) (edge_vector P r l f) some
    (ring_from P.ring W.of_ring (power P.ring P.zeta s
    ∷ (power P.ring P.zeta t ∷ (edge_vector P r l f ∷ (edge_vector P r k e ∷ []))))
    ((var 0 ⊖ var 1) ⊗ var 2) (con (pos 0))
    ((con (pos 1), var 0 ⊗ var 2, neg (var 3)) ∷ ((con (negsuc 0), var 1 ⊗ var 2, neg (var 3)) ∷ [])) (x, (y, tt)) refl) in
    ring_from P.ring W.of_ring (power P.ring P.zeta s ∷ (power P.ring P.zeta t ∷ [])) (var 0) (var 1)
    ((con (pos 1), var 0 ⊖ var 1, con (pos 0)) ∷ []) (gone, tt) refl

-- of an accepted rule: each edge has a length, and there is a turn below the order
module _ (T : Setting) where
  open T use {points as P, laws as W, accepted.{rule as r, numbered as N, edge_to_edge as D}}

  pub some_order : 0 < P.order
  some_order = let below = N.turn_below 0 0 N.some_kind (N.some_child 0 N.some_kind) in omega arith

  pub edge_has_length : (k e : ℕ) → k < length r.kinds → e < edge_count r k
      → twice_squared_length P (edge_vector P r k e) ≡ P.real.ops.int (pos 0) → ⊥
  edge_has_length k e hk he flat =
      let gone = norm-zero P W (edge_vector P r k e) flat in
      ends_apart T k e hk he
      (ring_from P.ring W.of_ring (vertex P r k e ∷ (vertex P r k (next r k e) ∷ [])) (var 0) (var 1)
      ((con (negsuc 0), var 1 ⊖ var 0, con (pos 0)) ∷ []) (gone, tt) refl)

  -- the tile across an edge lies where a turn of its edge onto this one, with the shift, and then the motion
  -- of this one's tile put it; and there is such a turn
  pub across-glued : (a : Address) (e : ℕ) (b : Placed P.ring.carrier) (f : ℕ)
      → Fits (child_kinds (tables_of P r)) a → IsTileAcross P r (tile_at P r a) e b f
      → ((t : ℕ) × (t < P.order) × TurnsOnto P r a.kind e b.address.kind f t)
      × ((t : ℕ) → TurnsOnto P r a.kind e b.address.kind f t → (z : P.ring.carrier)
      → moved P (tile_at P r a).motion (moved P (glue_motion P r a.kind e b.address.kind f t) z) ≡ moved P
      b.motion z)
  across-glued a e b f fits across =
      let chain = chain_of (tables_of P r) a fits in
      let m = member T (top_kind a) (depth a) (top_exists T a.kind a.digits chain) b across.beside in (
        some_turn P W r (tile_at P r a) b e f across.runs_back some_order,
        (λ t turns z. glued P W r (tile_at P r a) b e f across.runs_back t turns
            (edge_has_length b.address.kind f m.tile.kind_exists across.edge_exists) z),
      )
