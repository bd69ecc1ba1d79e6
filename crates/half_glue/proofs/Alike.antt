-- A whole tile of a frame is known by the numbers of its first half.
use Rattle.std.proofs.Common.{◌≡◌, inl, inr, ℤ, pos, List, Option, None, Some, get_or, sym, ap, ◌∙◌, subst}
use Rattle.theory_substitution.specs.Points.{Points}
use Rattle.theory_substitution.specs.Supertile.{Placed}
use Rattle.cyclo_points.specs.Quad.{Quad}
use Rattle.cyclo_points.specs.Order.{NumberOf, points_of}
use Rattle.cyclo_points.specs.Point.{point_in}
use Rattle.cyclo_points.specs.Motion.{motion_in}
use Rattle.theory_frames.specs.Frame.{StandsInFrame}
use Rattle.cyclo_points.proofs.SamePoints.{point_in-exact}
use Rattle.rule_model.specs.declared.rule.Rule.{Rule}
use Rattle.rule_model.specs.Glue.{IsGlueEdge}
use Rattle.rule_model.specs.Tiling.{Tiling, tiling_of}
use Rattle.tile_place.specs.Crossed.{placed_tile}
use Rattle.tile_place.specs.Searched.{placed_in}
use Rattle.tile_place.specs.declared.placed_tile.PlacedTile.{PlacedTile}
use Rattle.tile_place.proofs.Plane.{its_rule, fits_tables}
use Rattle.tile_shape.specs.Views.{address_of}
use Rattle.theory_walks.specs.Frames.{FrameValue, whole, IsFrameOf}
use Rattle.theory_walks.specs.Paths.{Crosses}
use Rattle.lazy_walk.specs.Standing.{Stands}
use Rattle.theory_walks.proofs.Walks.{whole-fits}
use Rattle.theory_windows.proofs.Members.{same_whole}
use Rattle.half_glue.specs.declared.whole_tile.WholeTile.{WholeTile}
use Rattle.half_glue.specs.Checked.{HasGlueLaws}
use Rattle.half_glue.specs.Given.{lifted_tile}
use Rattle.half_glue.specs.InOrder.{order_numbers, first_numbers}
use Rattle.half_glue.specs.WholeTiles.{AreHalves, IsWholeBy, IsWholeTile, IsOneOf, IsPartOf}
use Rattle.half_glue.proofs.Growing.{settled}

abbrev pub quad_at : List ℤ → Quad ℤ
quad_at ns = record { a0 = get_or ns 0 (pos 0); a1 = get_or ns 1 (pos 0); a2 = get_or ns 2 (pos 0); a3 = get_or ns 3 (pos 0) }

module _ (m : Rule) (L : HasGlueLaws m) (f : FrameValue) (is : IsFrameOf (tiling_of m) f) where
  abbrev t : Tiling
  t = tiling_of m

  abbrev P : Points
  P = points_of m.order

  -- ---- one tile
  module _ (a b : PlacedTile) (sa : Stands t f a) (sb : Stands t f b) (same : order_numbers a.motion a.kind ≡ order_numbers b.motion b.kind) where
    pub kinds : a.kind ≡ b.kind
    kinds = same_whole a.kind b.kind (ap (λ (ns : List ℤ). get_or ns 5 (pos 0)) same)

    turns : a.motion.turn ≡ b.motion.turn
    turns = same_whole a.motion.turn b.motion.turn (ap (λ (ns : List ℤ). get_or ns 4 (pos 0)) same)

    shifts : point_in m.order a.motion.shift ≡ point_in m.order b.motion.shift
    shifts = point_in-exact m.order a.motion.shift b.motion.shift (ap quad_at same)

    motions : motion_in m.order a.motion ≡ motion_in m.order b.motion
    motions = λ i. record { turn = turns i; shift = shifts i }

    pub known : placed_in m.order a ≡ placed_in m.order b
    known =
        L.known (its_rule m (settled m L)) (whole f)
        (fits_tables m (settled m L) (whole f) (whole-fits t L.still_fits f is)) (placed_in m.order a)
        (placed_in m.order b)
        sa.in_frame.among sb.in_frame.among (sym sa.its_kind ∙ kinds ∙ sb.its_kind) motions

  -- ---- the other half
  other-known : (a b c d : PlacedTile) → a.kind ≡ b.kind → placed_in m.order a ≡ placed_in m.order b
      → AreHalves t a c → AreHalves t b d → Stands t f c → Stands t f d
      → placed_in m.order c ≡ placed_in m.order d
  other-known a b c d kind same h k sc sd = λ i. record { address = addresses i; motion = motion i }
    where
      edges : k.edge ≡ h.edge
      edges = h.glue_edge.only k.edge (subst (λ n. IsGlueEdge t.rule n k.edge) (sym kind) k.glue_edge.glue_edge)

      over : Crosses t (address_of a.addr) h.edge (address_of d.addr) k.its_edge
      over = subst (λ (y : Placed (NumberOf m.order)). Crosses t y.address h.edge (address_of d.addr)
          k.its_edge) (sym same) (subst (λ e. Crosses t (address_of b.addr) e (address_of d.addr) k.its_edge)
          edges k.across)

      addresses : address_of c.addr ≡ address_of d.addr
      addresses = sym (ap (λ (y : Placed (NumberOf m.order)). y.address)
          (h.across.across.only (placed_tile t (address_of d.addr)) k.its_edge over.across.across).0)

      motion : motion_in m.order c.motion ≡ motion_in m.order d.motion
      motion = sd.in_frame.alone (motion_in m.order c.motion)
          (subst (λ y. StandsInFrame P t.rule (whole f) y (motion_in m.order c.motion)) addresses
          sc.in_frame).among

  -- ---- whole tiles
  parts-alike : (a b : PlacedTile) (s u : Option PlacedTile) → IsWholeBy t f a s → IsWholeBy t f b u
      → order_numbers a.motion a.kind ≡ order_numbers b.motion b.kind → (y : Placed (NumberOf m.order))
      → IsOneOf t y b u → IsOneOf t y a s
  parts-alike a b None None v w same y p = known a b v.0 w.0 same ∙ p
  parts-alike a b None (Some d) v w same y p = absurd
      (v.1 w.2.edge (subst (λ n. IsGlueEdge t.rule n w.2.edge) (sym (kinds a b v.0 w.0 same))
      w.2.glue_edge.glue_edge))
  parts-alike a b (Some c) None v w same y p = absurd
      (w.1 v.2.edge (subst (λ n. IsGlueEdge t.rule n v.2.edge) (kinds a b v.0 w.0 same)
      v.2.glue_edge.glue_edge))
  parts-alike a b (Some c) (Some d) v w same y (inl e) = inl (known a b v.0 w.0 same ∙ e)
  parts-alike a b (Some c) (Some d) v w same y (inr e) = inr
      (other-known a b c d (kinds a b v.0 w.0 same) (known a b v.0 w.0 same) v.2 w.2 v.1 w.1 ∙ e)

  -- what is a part of one whole tile is a part of another of the same first half
  pub alike : (v w : WholeTile) → IsWholeTile t f v → IsWholeTile t f w → first_numbers v ≡ first_numbers w
      → (x : PlacedTile) → IsPartOf t f w x → IsPartOf t f v x
  alike v w hv hw same x p = parts-alike v.first w.first v.second w.second hv hw same (lifted_tile t f x) p
