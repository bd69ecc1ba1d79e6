-- The glue edges of two halves in their places run back along each other, so their outline counts as both.
use Rattle.std.proofs.Common.{◌≡◌, ℕ, suc, ◌<◌, ◌≤◌, ◌+ℤ◌, ℤ, pos, List, length, get_or, cond, nat_lt, map, Option, None, Some, Bool, true, false, refl, sym, ap, ap₂, ◌∙◌, subst, arith}
use Rattle.std.proofs.lemmas.Bool.{ltb-true}
use Rattle.std.proofs.lemmas.Int.{ints}
use Rattle.std.proofs.lemmas.List.{get_or-map, length-map}
use Rattle.std.proofs.lemmas.Simd.{map-map}
use Rattle.theory_plane.specs.Crossing.{count}
use Rattle.theory_plane.specs.Plane.{TestPoint, PlanePoint}
use Rattle.theory_substitution.specs.Motion.{moved}
use Rattle.theory_substitution.specs.Placement.{placement}
use Rattle.theory_substitution.specs.Plane.{plane_point}
use Rattle.theory_substitution.specs.Points.{Points}
use Rattle.theory_substitution.specs.RuleParts.{vertices_of, edge_count, next, vertex}
use Rattle.theory_substitution.proofs.Motions.{moved-followed}
use Rattle.cyclo_points.specs.Motion.{motion_in}
use Rattle.cyclo_points.specs.Order.{NumberOf, points_of}
use Rattle.theory_dissection.specs.Sums.{sum_over}
use Rattle.theory_frames.specs.Back.{back}
use Rattle.theory_frames.specs.Frame.{motion_beside}
use Rattle.theory_frames.proofs.Carried.{some_turn}
use Rattle.theory_frames.proofs.Frames.{StandsInFrame-whole}
use Rattle.rule_model.specs.declared.rule.Rule.{Rule}
use Rattle.rule_model.specs.Glue.{IsOnlyGlueEdge}
use Rattle.rule_model.specs.Tiling.{Tiling, MotionOf, tiling_of, children}
use Rattle.tile_place.specs.declared.placed_tile.PlacedTile.{PlacedTile}
use Rattle.tile_shape.specs.Views.{address_of}
use Rattle.theory_windows.specs.Gluing.{Rotation, Gluing}
use Rattle.theory_walks.specs.Frames.{FrameValue, whole}
use Rattle.lazy_walk.specs.Standing.{Stands}
use Rattle.theory_walks.proofs.Walked.{tile_of-whole}
use Rattle.half_glue.specs.Checked.{HasGlueLaws}
use Rattle.half_glue.specs.Outline.{glued, vertices_in_place, outline_by, parts_by, polygon_of_part, WholesCountLaw}
use Rattle.half_glue.specs.WholeTiles.{AreHalves, IsWholeBy}
use Rattle.half_glue.proofs.Across.{kind-there}
use Rattle.half_glue.proofs.BegunBehind.{behind}
use Rattle.half_glue.proofs.FirstGlueEdge.{glue-edge-is}
use Rattle.half_glue.proofs.GluedPolygon.{glued-counts}

-- the next vertex is one
next-below : (n e : ℕ) → e < n → cond (nat_lt (suc e) n) (suc e) 0 < n
next-below n e l = at_test (nat_lt (suc e) n) refl
  where
    at_test : (b : Bool) → nat_lt (suc e) n ≡ b → cond b (suc e) 0 < n
    at_test true h = ltb-true (suc e) n h
    at_test false h = omega (arith, l)

last : (x : ℤ) → x ≡ x +ℤ pos 0
last x = omega (arith, ints)

module _ (m : Rule) (L : HasGlueLaws m) (f : FrameValue) where
  abbrev t : Tiling
  t = tiling_of m

  abbrev P : Points
  P = points_of m.order

  -- a tile's motion in the frame
  motion-is : (x : PlacedTile) → Stands t f x → motion_in m.order x.motion ≡ motion_beside P t.rule f.digits (address_of x.addr).digits
  motion-is x s =
      let a = address_of x.addr in
      sym (s.in_frame.alone (motion_beside P t.rule f.digits a.digits)
      (StandsInFrame-whole P L.points (some_turn m.order) t.rule (whole f) a (tile_of-whole (children t) (whole f) a s.of_frame s.at_depth)).among)

  -- a tile of the supertile is moved to the frame
  abbrev to_frame : MotionOf t
  to_frame = back P (placement P t.rule f.digits)

  abbrev place : PlacedTile → NumberOf m.order → NumberOf m.order
  place x z = moved P (motion_in m.order x.motion) z

  -- vertex number i of a tile in its supertile
  abbrev corner : PlacedTile → ℕ → NumberOf m.order
  corner x i = moved P (placement P t.rule (address_of x.addr).digits) (vertex P t.rule x.addr.kind i)

  module _ (x : PlacedTile) (s : Stands t f x) where
    place-is : (z : NumberOf m.order) → place x z ≡ moved P to_frame (moved P (placement P t.rule (address_of x.addr).digits) z)
    place-is z = ap (λ (g : MotionOf t). moved P g z) (motion-is x s)
        ∙ moved-followed P L.points (placement P t.rule (address_of x.addr).digits) to_frame z

    kind-exists : x.kind < length t.rule.kinds
    kind-exists = subst (λ k. k < length t.rule.kinds) (sym s.its_kind) (kind-there m L (address_of x.addr) s.of_frame.fits)

    pub as-many : length (vertices_in_place t x) ≡ edge_count t.rule x.addr.kind
    as-many = length-map (vertices_of t.rule x.kind) (place x) ∙ L.usable.numbered.vertex_each x.kind kind-exists ∙ ap (edge_count t.rule) s.its_kind

    pub some-vertices : 2 ≤ length (vertices_in_place t x)
    some-vertices = omega (
      arith,
      length-map (vertices_of t.rule x.kind) (place x),
      L.usable.numbered.vertex_each x.kind kind-exists,
      L.usable.numbered.at_least_3_edges x.kind
          kind-exists,
    )

    pub vertex-at : (o : NumberOf m.order) (i : ℕ) → i < edge_count t.rule x.addr.kind
        → get_or (vertices_in_place t x) i o ≡ moved P to_frame (corner x i)
    vertex-at o i l =
        get_or-map (place x) (vertices_of t.rule x.kind) i (P.ring.int (pos 0)) o
        (omega (arith, l, as-many, length-map (vertices_of t.rule x.kind) (place x)))
        ∙ ap (λ k. place x (vertex P t.rule k i)) s.its_kind ∙ place-is (vertex P t.rule x.addr.kind i)

    -- the end of edge number e
    pub end-at : (o : NumberOf m.order) (e : ℕ) → e < edge_count t.rule x.addr.kind
        → get_or (vertices_in_place t x) (behind (vertices_in_place t x) e) o ≡ moved P to_frame
        (corner x (next t.rule x.addr.kind e))
    end-at o e l =
        ap (λ n. get_or (vertices_in_place t x) (cond (nat_lt (suc e) n) (suc e) 0) o) as-many
        ∙ vertex-at o (next t.rule x.addr.kind e) (next-below (edge_count t.rule x.addr.kind) e l)

    -- the polygon of a part, by its vertices in place
    pub part-is : map (plane_point P) (vertices_in_place t x) ≡ polygon_of_part t x
    part-is = map-map (plane_point P) (place x) (vertices_of t.rule x.kind)
        ∙ ap (λ k. map (λ z. plane_point P (place x z)) (vertices_of t.rule k)) s.its_kind

    pub edge-below : (e : ℕ) → IsOnlyGlueEdge t.rule x.kind e → e < edge_count t.rule x.addr.kind
    edge-below e h = subst (λ k. e < edge_count t.rule k) s.its_kind h.glue_edge.exists

  -- two halves
  module _ (R : Rotation P.real) (G : Gluing P.real) (p : TestPoint P.real.ops.carrier) where
    abbrev count_at : List (PlanePoint P.real.ops.carrier) → ℤ
    count_at vs = count P.real vs p

    pub halves-count : (a b : PlacedTile) → Stands t f a → Stands t f b → AreHalves t a b
        → count_at (map (plane_point P) (outline_by t a (Some b))) ≡ count_at (polygon_of_part t a) +ℤ (count_at (polygon_of_part t b) +ℤ pos 0)
    halves-count a b sa sb h =
        let o = P.ring.int (pos 0) in
        let xs = vertices_in_place t a in
        let ys = vertices_in_place t b in
        let e_below = edge-below a sa h.edge h.glue_edge in
        let f_below = edge-below b sb h.its_edge h.its_glue_edge in
        let runs = h.across.across.across.runs_back in
        ap₂ (λ e g. count_at (map (plane_point P) (glued e xs g ys)))
        (glue-edge-is t.rule a.kind h.edge h.glue_edge)
        (glue-edge-is t.rule b.kind h.its_edge h.its_glue_edge)
        ∙ glued-counts P.real R G (plane_point P) o xs ys h.edge h.its_edge
        (subst (λ n. h.edge < n) (sym (as-many a sa)) e_below)
        (subst (λ n. h.its_edge < n) (sym (as-many b sb)) f_below)
        (some-vertices a sa) (some-vertices b sb)
        (vertex-at b sb o h.its_edge f_below ∙ ap (moved P to_frame) runs.from_end ∙ sym (end-at a sa o h.edge e_below))
        (end-at b sb o h.its_edge f_below ∙ ap (moved P to_frame) runs.to_start ∙ sym (vertex-at a sa o h.edge e_below)) p
        ∙ ap₂ (λ n k. n +ℤ k) (ap count_at (part-is a sa)) (ap count_at (part-is b sb) ∙ last (count_at (polygon_of_part t b)))

    whole-counts : (a : PlacedTile) (s : Option PlacedTile) → IsWholeBy t f a s
        → count_at (map (plane_point P) (outline_by t a s)) ≡ sum_over (λ x. count_at (polygon_of_part t x))
        (parts_by a s)
    whole-counts a None h = ap count_at (part-is a h.0) ∙ last (count_at (polygon_of_part t a))
    whole-counts a (Some b) h = halves-count a b h.0 h.1 h.2

pub counts : (m : Rule) → HasGlueLaws m → Rotation (points_of m.order).real → Gluing (points_of m.order).real → WholesCountLaw (tiling_of m)
counts m L R G f w is whole p = whole-counts m L f R G p w.first w.second whole
