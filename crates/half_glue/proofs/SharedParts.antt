-- Whole tiles of a frame that share a part have one first half, and so the same numbers.
use Rattle.std.proofs.Common.{◌≡◌, inl, inr, ℕ, ℤ, pos, Option, None, Some, [], ◌∷◌, map, sym, ap, ◌∙◌, subst, arith}
use Rattle.theory_addresses.specs.Address.{Address}
use Rattle.theory_addresses.specs.Search.{IsAmong}
use Rattle.theory_ring.specs.Surd.{Pair}
use Rattle.theory_substitution.specs.Points.{Points}
use Rattle.theory_substitution.specs.Supertile.{Placed}
use Rattle.cyclo_points.specs.Motion.{motion_in}
use Rattle.cyclo_points.specs.Order.{NumberOf, points_of}
use Rattle.cyclo_points.specs.Point.{coefficient, point_in, IsOf}
use Rattle.cyclo_points.specs.Quad.{Quad}
use Rattle.cyclo_points.specs.declared.order.Order.{Order}
use Rattle.cyclo_points.specs.declared.order.Order.TheVariants.{Four, Six, Eight, Ten}
use Rattle.cyclo_points.specs.declared.point.Point.{Point}
use Rattle.theory_frames.specs.Frame.{frame_tiles}
use Rattle.rule_model.specs.Glue.{IsGlueEdge, IsOnlyGlueEdge}
use Rattle.rule_model.specs.Tiling.{Tiling}
use Rattle.tile_place.specs.Crossed.{placed_tile}
use Rattle.tile_place.specs.Searched.{placed_in}
use Rattle.tile_place.specs.declared.placed_tile.PlacedTile.{PlacedTile}
use Rattle.tile_shape.specs.Views.{address_of}
use Rattle.theory_windows.specs.Distinct.{AreDistinct}
use Rattle.theory_walks.specs.Frames.{FrameValue, whole}
use Rattle.theory_walks.specs.Paths.{Crosses}
use Rattle.lazy_walk.specs.Standing.{Stands}
use Rattle.half_glue.specs.InOrder.{order_numbers}
use Rattle.half_glue.specs.Outline.{parts_by}
use Rattle.half_glue.specs.WholeTiles.{HasNoGlueEdge, AreHalves, IsWholeBy}

-- ---- the coefficients of a point
pub record HaveSameCoefficients (p q : Point) : Type 0 where
  pub at_0 : coefficient p 0 ≡ coefficient q 0
  pub at_1 : coefficient p 1 ≡ coefficient q 1
  pub at_2 : coefficient p 2 ≡ coefficient q 2
  pub at_3 : coefficient p 3 ≡ coefficient q 3

-- in orders four and six the last two are 0
of_pair : (p q : Point) → (coefficient p 2 ≡ pos 0) × (coefficient p 3 ≡ pos 0) → (coefficient q 2 ≡ pos 0)
    × (coefficient q 3 ≡ pos 0) → coefficient p 0 ≡ coefficient q 0 → coefficient p 1 ≡ coefficient q 1
    → HaveSameCoefficients p q
of_pair p q u v a b = record { at_0 = a; at_1 = b; at_2 = u.0 ∙ sym v.0; at_3 = u.1 ∙ sym v.1 }

same-coefficients : (o : Order) (p q : Point) → IsOf o p → IsOf o q → point_in o p ≡ point_in o q → HaveSameCoefficients p q
same-coefficients Four p q u v e = of_pair p q u v (ap (λ (z : Pair ℤ). z.a) e) (ap (λ (z : Pair ℤ). z.b) e)
same-coefficients Six p q u v e = of_pair p q u v (ap (λ (z : Pair ℤ). z.a) e) (ap (λ (z : Pair ℤ). z.b) e)
same-coefficients Eight p q u v e = record {
  at_0 = ap (λ (z : Quad ℤ). z.a0) e;
  at_1 = ap (λ (z : Quad ℤ). z.a1) e;
  at_2 = ap (λ (z : Quad ℤ). z.a2) e;
  at_3 = ap (λ (z : Quad ℤ). z.a3) e;
}
same-coefficients Ten p q u v e = record {
  at_0 = ap (λ (z : Quad ℤ). z.a0) e;
  at_1 = ap (λ (z : Quad ℤ). z.a1) e;
  at_2 = ap (λ (z : Quad ℤ). z.a2) e;
  at_3 = ap (λ (z : Quad ℤ). z.a3) e;
}

module _ (t : Tiling) (f : FrameValue) where
  abbrev placed : PlacedTile → Placed (NumberOf t.order)
  placed x = placed_in t.order x

  abbrev P : Points
  P = points_of t.order

  -- ---- one tile
  -- a tile of the frame is known by its address
  by-address : (a b : PlacedTile) → Stands t f a → Stands t f b → address_of a.addr ≡ address_of b.addr → placed a ≡ placed b
  by-address a b sa sb e = λ i. record { address = e i; motion = motion i }
    where
      motion : motion_in t.order a.motion ≡ motion_in t.order b.motion
      motion =
          sb.in_frame.alone (motion_in t.order a.motion)
          (subst (λ y. IsAmong (record { address = y; motion = motion_in t.order a.motion }) (frame_tiles P t.rule (whole f))) e sa.in_frame.among)

  same-kind : (a b : PlacedTile) → Stands t f a → Stands t f b → address_of a.addr ≡ address_of b.addr → a.kind ≡ b.kind
  same-kind a b sa sb e = sa.its_kind ∙ ap (λ (y : Address). y.kind) e ∙ sym sb.its_kind

  same-address : (a b : PlacedTile) → placed a ≡ placed b → address_of a.addr ≡ address_of b.addr
  same-address a b e = ap (λ (y : Placed (NumberOf t.order)). y.address) e

  -- and by its numbers
  pub same-numbers : (a b : PlacedTile) → Stands t f a → Stands t f b → placed a ≡ placed b
      → order_numbers a.motion a.kind ≡ order_numbers b.motion b.kind
  same-numbers a b sa sb e =
      let c = same-coefficients t.order a.motion.shift b.motion.shift sa.in_order sb.in_order
      (ap (λ (y : Placed (NumberOf t.order)). y.motion.shift) e) in
      let turn = ap (λ (y : Placed (NumberOf t.order)). y.motion.turn) e in
      let kind = same-kind a b sa sb (same-address a b e) in
      λ i. c.at_0 i ∷ c.at_1 i ∷ c.at_2 i ∷ c.at_3 i ∷ pos (turn i) ∷ pos (kind i) ∷ []

  -- ---- two halves
  -- across the glue edge of a tile lies one tile
  one-across : (a b c d : PlacedTile) (e e' g g' : ℕ) → a.kind ≡ b.kind
      → address_of a.addr ≡ address_of b.addr → IsOnlyGlueEdge t.rule a.kind e → IsGlueEdge t.rule b.kind e'
      → Crosses t (address_of a.addr) e (address_of c.addr) g
      → Crosses t (address_of b.addr) e' (address_of d.addr) g' → address_of d.addr ≡ address_of c.addr
  one-across a b c d e e' g g' kind same only its x y = ap (λ (z : Placed (NumberOf t.order)). z.address)
      (x.across.only (placed_tile t (address_of d.addr)) g' over.across.across).0
    where
      edges : e' ≡ e
      edges = only.only e' (subst (λ n. IsGlueEdge t.rule n e') (sym kind) its)

      over : Crosses t (address_of a.addr) e (address_of d.addr) g'
      over = subst (λ z. Crosses t z e (address_of d.addr) g') (sym same)
          (subst (λ n. Crosses t (address_of b.addr) n (address_of d.addr) g') edges y)

  -- no first half is another one's second half
  never-both : (a b c d : PlacedTile) → Stands t f a → Stands t f b → Stands t f c → Stands t f d
      → AreHalves t a c → AreHalves t b d → placed a ≡ placed d → ⊥
  never-both a b c d sa sb sc sd h k e =
      let address = same-address a d e in
      let own = same-kind a d sa sd address in
      let other = same-kind b c sb sc (one-across a d c b h.edge k.its_edge h.its_edge k.edge own address
      h.glue_edge k.its_glue_edge.glue_edge h.across k.back) in
      omega (arith, own, other, h.lesser_first, k.lesser_first)

  -- the other half of a second half is its first half
  first-known : (a b c d : PlacedTile) → Stands t f a → Stands t f b → Stands t f c → Stands t f d
      → AreHalves t a c → AreHalves t b d → placed c ≡ placed d → placed a ≡ placed b
  first-known a b c d sa sb sc sd h k e =
      let address = same-address c d e in
      by-address a b sa sb (sym (one-across c d a b h.its_edge k.its_edge h.edge k.edge
      (same-kind c d sc sd address) address h.its_glue_edge k.its_glue_edge.glue_edge h.back k.back))

  -- a tile without a glue edge is no half
  no-half : (a b : PlacedTile) (e : ℕ) → Stands t f a → Stands t f b → HasNoGlueEdge t a.kind
      → IsOnlyGlueEdge t.rule b.kind e → placed a ≡ placed b → ⊥
  no-half a b e sa sb none only same = none e (subst (λ n. IsGlueEdge t.rule n e) (sym (same-kind a b sa sb (same-address a b same))) only.glue_edge)

  -- ---- whole tiles
  -- two that share a part have one first half
  pub one-first : (a b : PlacedTile) (s u : Option PlacedTile) → IsWholeBy t f a s → IsWholeBy t f b u
      → (y : Placed (NumberOf t.order)) → IsAmong y (map placed (parts_by a s)) → IsAmong y (map placed (parts_by b u)) → placed a ≡ placed b
  one-first a b None None v w y (inl p) (inl q) = sym p ∙ q
  one-first a b None None v w y (inl p) (inr q) = absurd q
  one-first a b None None v w y (inr p) q = absurd p
  one-first a b None (Some d) v w y (inl p) (inl q) = sym p ∙ q
  one-first a b None (Some d) v w y (inl p) (inr (inl q)) = absurd (no-half a d w.2.its_edge v.0 w.1 v.1 w.2.its_glue_edge (sym p ∙ q))
  one-first a b None (Some d) v w y (inl p) (inr (inr q)) = absurd q
  one-first a b None (Some d) v w y (inr p) q = absurd p
  one-first a b (Some c) None v w y (inl p) (inl q) = sym p ∙ q
  one-first a b (Some c) None v w y (inr (inl p)) (inl q) = absurd (no-half b c v.2.its_edge w.0 v.1 w.1 v.2.its_glue_edge (sym q ∙ p))
  one-first a b (Some c) None v w y (inr (inr p)) q = absurd p
  one-first a b (Some c) None v w y p (inr q) = absurd q
  one-first a b (Some c) (Some d) v w y (inl p) (inl q) = sym p ∙ q
  one-first a b (Some c) (Some d) v w y (inl p) (inr (inl q)) = absurd (never-both a b c d v.0 w.0 v.1 w.1 v.2 w.2 (sym p ∙ q))
  one-first a b (Some c) (Some d) v w y (inr (inl p)) (inl q) = absurd (never-both b a d c w.0 v.0 w.1 v.1 w.2 v.2 (sym q ∙ p))
  one-first a b (Some c) (Some d) v w y (inr (inl p)) (inr (inl q)) = first-known a b c d v.0 w.0 v.1 w.1 v.2 w.2 (sym p ∙ q)
  one-first a b (Some c) (Some d) v w y (inr (inr p)) q = absurd p
  one-first a b (Some c) (Some d) v w y p (inr (inr q)) = absurd q

  -- the parts of one are two
  pub own-distinct : (a : PlacedTile) (s : Option PlacedTile) → IsWholeBy t f a s → AreDistinct (map placed (parts_by a s))
  own-distinct a None v = ((λ i. absurd i), tt)
  own-distinct a (Some c) v = (at_case, ((λ i. absurd i), tt))
    where
      at_case : IsAmong (placed a) (placed c ∷ []) → ⊥
      at_case (inl e) = let kind = same-kind a c v.0 v.1 (same-address a c e) in omega (arith, kind, v.2.lesser_first)
      at_case (inr i) = i

  pub first-stands : (a : PlacedTile) (s : Option PlacedTile) → IsWholeBy t f a s → Stands t f a
  first-stands a None v = v.0
  first-stands a (Some c) v = v.0
