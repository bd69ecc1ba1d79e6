-- Tiles given, lifted, and the tiles across their glue edges.
use Rattle.std.proofs.Common.{◌≡◌, ℕ, ◌<◌, ◌^◌, Bool, true, false, [], ◌++◌, length, drop, refl, sym, ap, ◌∙◌, subst, arith, append-nil}
use Rattle.std.proofs.Math.Seq.{drop-length}
use Rattle.theory_addresses.specs.Address.{Address, depth}
use Rattle.theory_substitution.specs.Points.{Points}
use Rattle.cyclo_points.specs.declared.point.Point.{Point}
use Rattle.cyclo_points.specs.Order.{points_of, is_refused}
use Rattle.cyclo_points.specs.Point.{point_in, IsWithin}
use Rattle.cyclo_points.specs.Motion.{motion_in}
use Rattle.cyclo_points.proofs.Refusal.{some_beyond, some_beyond-decides, some_beyond-refused}
use Rattle.theory_frames.specs.Frame.{StandsInFrame, lifted_in}
use Rattle.theory_frames.proofs.Frames.{IsWhole, lifted-whole}
use Rattle.rule_model.specs.declared.rule.Rule.{Rule}
use Rattle.rule_model.specs.Glue.{IsGlueEdge, IsOnlyGlueEdge}
use Rattle.rule_model.specs.Tiling.{Tiling, MotionOf, tiling_of, children}
use Rattle.rule_model.proofs.Glue.{one_glue_edge}
use Rattle.tile_place.specs.Crossed.{edges_of, IsOnlyAcross}
use Rattle.tile_place.specs.declared.placed_tile.PlacedTile.{PlacedTile}
use Rattle.tile_place.proofs.EachOrder.{order-fits}
use Rattle.tile_shape.specs.Views.{address_of}
use Rattle.theory_walks.specs.Ancestors.{full}
use Rattle.theory_walks.specs.Boundary.{IsBoundaryEdge}
use Rattle.theory_walks.specs.Frames.{FrameValue, whole, at_depth, IsFrameOf, GrowsTo}
use Rattle.theory_walks.specs.Paths.{Crosses}
use Rattle.lazy_walk.specs.Standing.{Stands}
use Rattle.theory_walks.proofs.Walked.{tile_of-whole}
use Rattle.theory_walks.proofs.Walks.{whole-fits, later}
use Rattle.half_glue.specs.Checked.{HasGlueLaws}
use Rattle.half_glue.specs.Found.{AreGlued}
use Rattle.half_glue.specs.Given.{IsGiven}
use Rattle.half_glue.specs.Keys.{HasTileKey}
use Rattle.half_glue.specs.Limits.{CanBeJoined}
use Rattle.half_glue.proofs.Across.{glue-edge-there, kind-there, crosses, crosses-back, other-side}
use Rattle.half_glue.proofs.Growing.{crosses-on, stands-on, lifted-on}

-- digits that reach to the frame's end have none behind
pub lifted-self : (f a : Address) → depth a ≡ depth f → a ≡ lifted_in f a
lifted-self f a e = λ i. record { kind = a.kind; digits = sym same i }
  where
    none : drop (depth a) f.digits ≡ []
    none = ap (λ n. drop n f.digits) e ∙ drop-length f.digits

    same : a.digits ++ drop (depth a) f.digits ≡ a.digits
    same = ap (λ ds. a.digits ++ ds) none ∙ append-nil a.digits

-- a tile in its place at the frame's depth may be given
pub stands-given : (t : Tiling) (f : FrameValue) (x : PlacedTile) → Stands t f x → IsWithin (2 ^ 24) x.motion.shift → IsGiven t f x
stands-given t f x stands within = record {
  its_kind = stands.its_kind;
  of_frame = stands.of_frame;
  in_frame = subst (λ a. StandsInFrame (points_of t.order) t.rule (whole f) a (motion_in t.order x.motion))
      (lifted-self (whole f) (address_of x.addr) stands.at_depth) stands.in_frame;
  turn_below = stands.turn_below;
  in_order = stands.in_order;
  within = within;
}

-- a point whose coefficients are within the limit isn't beyond it
not-beyond : (p : Point) → IsWithin (2 ^ 24) p → some_beyond p ≡ false
not-beyond p within = by_case (some_beyond p) (λ e. (some_beyond-decides p).0 e within)
  where
    by_case : (b : Bool) → (b ≡ true → ⊥) → b ≡ false
    by_case true h = absurd (h refl)
    by_case false h = refl

module _ (m : Rule) (L : HasGlueLaws m) where
  abbrev t : Tiling
  t = tiling_of m

  abbrev P : Points
  P = points_of m.order

  -- an edge along which a kind is glued is its only one
  only-edge : (k e : ℕ) → k < length t.rule.kinds → IsGlueEdge t.rule k e → IsOnlyGlueEdge t.rule k e
  only-edge k e there g = record { glue_edge = g; only = λ d h. one_glue_edge t.rule L.accepted.edge_to_edge.glue_right k there e d g h }

  module _ (f : FrameValue) (is : IsFrameOf t f) (x : PlacedTile) (given : IsGiven t f x) where
    abbrev a : Address
    a = lifted_in (whole f) (address_of x.addr)

    pub given-whole : IsWhole (children t) (whole f) a
    given-whole = lifted-whole (children t) (whole f) (address_of x.addr) (whole-fits t L.still_fits f is) given.of_frame

    pub glue-edge-of : (e : ℕ) → IsGlueEdge t.rule x.kind e → e < edges_of t a.kind
    glue-edge-of e g = glue-edge-there m L a.kind e (subst (λ k. IsGlueEdge t.rule k e) given.its_kind g)

    pub its-kind-there : x.kind < length t.rule.kinds
    its-kind-there = subst (λ k. k < length t.rule.kinds) (sym given.its_kind) (kind-there m L a given-whole.fits)

    -- its numbers are small enough for a key
    pub given-key : HasTileKey x
    given-key = record {
      within = given.within;
      turn_fits = let l = given.turn_below in let k = order-fits m.order in omega (arith, l, k);
      kind_fits = let l = its-kind-there in let k = L.usable.numbered.at_most_16_kinds in omega (arith, l, k);
    }

    abbrev deep : FrameValue
    deep = at_depth t 64 f

    pub to_deep : GrowsTo t f deep
    to_deep = later t f 64 is is.at_most_64 (omega arith)

    deep-lifted : lifted_in (full t f) a ≡ lifted_in (full t f) (address_of x.addr)
    deep-lifted = lifted-on m L f deep is to_deep (address_of x.addr) given.of_frame.no_deeper

    -- the tile across at this depth is the one across at depth 64
    deep-crosses : (e back : ℕ) (b : Address) → Crosses t a e b back
        → Crosses t (lifted_in (full t f) (address_of x.addr)) e (lifted_in (full t f) b) back
    deep-crosses e back b over = subst (λ y. Crosses t y e (lifted_in (full t f) b) back) deep-lifted
        (crosses-on m L f deep is to_deep a b e back given-whole over)

    -- where it can be joined, the tile across isn't refused
    pub unrefused-across : CanBeJoined t (full t f) x → (e : ℕ) → IsGlueEdge t.rule x.kind e
        → (other : PlacedTile) (back : ℕ) → Crosses t a e (address_of other.addr) back → Stands t f other
        → is_refused m.order (point_in m.order other.motion.shift) ≡ false
    unrefused-across can e g other back over stands =
        can.unrefused e back (lifted_in (full t f) (address_of other.addr)) (motion_in m.order other.motion) g
        (deep-crosses e back (address_of other.addr) over)
        (stands-on m L f deep is to_deep (address_of other.addr)
        (tile_of-whole (children t) (whole f) (address_of other.addr) stands.of_frame stands.at_depth)
        (motion_in m.order other.motion) stands.in_frame)

    -- ---- with another tile of the frame
    module _ (y : PlacedTile) (its : IsGiven t f y) where
      abbrev b : Address
      b = lifted_in (whole f) (address_of y.addr)

      its-whole : IsWhole (children t) (whole f) b
      its-whole = lifted-whole (children t) (whole f) (address_of y.addr) (whole-fits t L.still_fits f is) its.of_frame

      -- that lies across its glue edge
      pub glued-of : (e back : ℕ) → IsGlueEdge t.rule x.kind e → IsOnlyAcross t a e b back → AreGlued t f x y
      glued-of e back glue over =
          let g : IsGlueEdge t.rule a.kind e = subst (λ k. IsGlueEdge t.rule k e) given.its_kind glue in
          let edge = glue-edge-there m L a.kind e g in
          let side = other-side m L a b e back given-whole.fits its-whole.fits edge over g in
          let there = subst (λ k. k < length t.rule.kinds) (sym its.its_kind) (kind-there m L b its-whole.fits) in
          record {
            edge = e;
            its_edge = back;
            glue_edge = only-edge x.kind e its-kind-there glue;
            its_glue_edge = only-edge y.kind back there (subst (λ k. IsGlueEdge t.rule k back) (sym its.its_kind) side.glue_edge);
            across = crosses m L a b e back given-whole.fits its-whole.fits edge over;
            back = crosses-back m L a b e back given-whole.fits its-whole.fits edge over;
            other_kind = λ s. side.other_kind (sym its.its_kind ∙ s ∙ given.its_kind);
          }

      -- then it can be joined
      pub glued-joined : AreGlued t f x y → CanBeJoined t (full t f) x
      glued-joined h =
          let far = deep-crosses h.edge h.its_edge b h.across in
          let there = stands-on m L f deep is to_deep b its-whole (motion_in m.order y.motion) its.in_frame in
          record {
            inside = λ d g. subst (λ i. ¬ IsBoundaryEdge t (lifted_in (full t f) (address_of x.addr)) i) (sym (h.glue_edge.only d g)) far.inside;
            unrefused = λ d back' c n g over' stands'.
                let over'' = subst (λ i. Crosses t (lifted_in (full t f) (address_of x.addr)) i c back') (h.glue_edge.only d g) over' in
                let same : c ≡ lifted_in (full t f) b = ap (λ z. z.address) (far.across.only _ back' over''.across.across).0 in
                let motion : n ≡ motion_in m.order y.motion = there.alone n (subst (λ z. StandsInFrame P t.rule (full t f) z n) same stands').among in
                ap (λ (k : MotionOf t). is_refused m.order k.shift) motion
                ∙ sym (some_beyond-refused m.order y.motion.shift its.in_order)
                ∙ not-beyond y.motion.shift its.within;
          }
