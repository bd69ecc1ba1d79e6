-- What a crossing in a frame answers: a tile of the frame, or an edge on the boundary at each depth.
use Rattle.std.proofs.Common.{◌≡◌, ℕ, ◌+◌, ◌<◌, ◌≤◌, inl, inr, Some, length, sym, ap, ◌∙◌, subst, arith}
use Rattle.std.proofs.lemmas.Bool.{cases_lt}
use Rattle.theory_addresses.specs.Across.{IsAcross}
use Rattle.theory_addresses.specs.Address.{Address, depth, top_kind, kind_at, Fits}
use Rattle.theory_frames.specs.Frame.{IsTileOf, lifted_in}
use Rattle.theory_frames.proofs.Frames.{IsWhole, lifted-whole, kind_at-top}
use Rattle.rule_model.specs.declared.rule.Rule.{Rule}
use Rattle.rule_model.specs.Tiling.{tiling_of, contacts, children}
use Rattle.tile_place.specs.Crossed.{edges_of, LiesOnBoundary}
use Rattle.tile_place.proofs.Plane.{BoundariesLaw, IsSettled, on_some_part, boundary_lies}
use Rattle.theory_walks.specs.Boundary.{IsBoundaryEdge}
use Rattle.theory_walks.specs.Frames.{FrameValue, whole, at_depth, IsFrameOf, GrowsTo, lifted_at}
use Rattle.theory_walks.proofs.Walks.{StillFits, whole-fits, later, at_depth-depth}
use Rattle.theory_walks.proofs.Lifting.{IsTraced, IsTileOf-later, lifted-later, traced-below, touching-top}

module _ (m : Rule) (fits : StillFits (children (tiling_of m))) (f : FrameValue) (a : Address)
    (is : IsFrameOf (tiling_of m) f) (of : IsTileOf (children (tiling_of m)) (whole f) a) where
  -- the tile lifted to a frame that has grown names a tile of its supertile
  pub lifted-is_whole : (g : FrameValue) → GrowsTo (tiling_of m) f g → IsWhole (children (tiling_of m)) (whole g) (lifted_in (whole g) a)
  lifted-is_whole g h =
      lifted-whole (children (tiling_of m)) (whole g) a (whole-fits (tiling_of m) fits g h.is_frame) (IsTileOf-later (tiling_of m) f g a h is of)

  -- a tile across one of its edges is of that frame, at its depth
  pub across-of_frame : (g : FrameValue) (b : Address) (e back : ℕ) → GrowsTo (tiling_of m) f g
      → IsAcross (contacts (tiling_of m)) (lifted_in (whole g) a) e b back
      → Fits (children (tiling_of m)) b → IsTileOf (children (tiling_of m)) (whole g) b × (depth b ≡ length g.digits)
  across-of_frame g b e back h x fit = (
    record {
      fits = fit;
      no_deeper = omega (arith, same_depth);
      same_kind = kind_at-top b.kind b.digits ∙ ap (λ k. Some k) same_top
          ∙ sym (kind_at-top g.base.kind g.digits) ∙ ap (kind_at (whole g)) (sym same_depth);
    },
    same_depth,
  )
    where
      own : IsWhole (children (tiling_of m)) (whole g) (lifted_in (whole g) a)
      own = lifted-is_whole g h

      same_depth : depth b ≡ length g.digits
      same_depth = x.same_depth ∙ own.same_depth

      same_top : top_kind b ≡ top_kind (whole g)
      same_top = sym (touching-top (contacts (tiling_of m)) (lifted_in (whole g) a) b e back x.only.touched) ∙ own.same_top

  -- where one of its edges is on the boundary, it lies on some part
  pub boundary-part : IsSettled m → (e : ℕ) → e < edges_of (tiling_of m) a.kind → (g : FrameValue)
      → GrowsTo (tiling_of m) f g → IsBoundaryEdge (tiling_of m) (lifted_in (whole g) a) e
      → (own : ℕ) × (part : ℕ) × LiesOnBoundary (tiling_of m) (lifted_in (whole g) a) e own part
  boundary-part settled e edge g h on =
      let at = on_some_part m settled (lifted_in (whole g) a) e (lifted-is_whole g h).fits edge on.own on.along in
      (on.own, at.0, at.1)

  module _ (settled : IsSettled m) (law : BoundariesLaw m.order) (e : ℕ) (edge : e < edges_of (tiling_of m) a.kind) where
    -- an edge that is on the boundary at depth 64 lies on it by the tables in each frame before
    pub traced-before : (g : FrameValue) → GrowsTo (tiling_of m) f g
        → IsBoundaryEdge (tiling_of m) (lifted_at (tiling_of m) f a 64) e
        → IsTraced (contacts (tiling_of m)) (lifted_in (whole g) a) e
    traced-before g h on =
        let full : GrowsTo (tiling_of m) f (at_depth (tiling_of m) 64 f) = later (tiling_of m) f 64 is is.at_most_64 (omega arith) in
        let at = boundary-part settled e edge (at_depth (tiling_of m) 64 f) full on in
        let lies = boundary_lies m settled (lifted_at (tiling_of m) f a 64) e
        (lifted-is_whole (at_depth (tiling_of m) 64 f) full).fits edge law at.0 at.1 at.2 in
        subst (λ x. IsTraced (contacts (tiling_of m)) x e) (sym (lifted-later (tiling_of m) f g a h))
        (traced-below (tiling_of m) f a e (length g.digits) 64 (omega (arith, is.holds_base, h.no_shallower))
        (omega (arith, of.no_deeper, h.no_shallower)) h.is_frame.at_most_64 (at.0, at.1, lies))

  -- an edge on the boundary in the frame as it is now, and at each depth before
  pub before-and_now : (g k : FrameValue) (e : ℕ) → GrowsTo (tiling_of m) f g → k ≡ at_depth (tiling_of m) (length g.digits + 1) g
      → IsBoundaryEdge (tiling_of m) (lifted_in (whole g) a) e
      → ((n : ℕ) → length f.digits ≤ n → n < length g.digits → IsBoundaryEdge (tiling_of m) (lifted_at (tiling_of m) f a n) e)
      → (n : ℕ) → length f.digits ≤ n → n < length k.digits → IsBoundaryEdge (tiling_of m) (lifted_at (tiling_of m) f a n) e
  before-and_now g k e h next here before n l below = elim (cases_lt n (length g.digits)) [
    | inl j ↦ before n l j
    | inr j ↦ let last : length g.digits ≡ n = omega (arith, longer, below, j) in
        subst (λ i. IsBoundaryEdge (tiling_of m) (lifted_at (tiling_of m) f a i) e) last
        (subst (λ x. IsBoundaryEdge (tiling_of m) x e) (lifted-later (tiling_of m) f g a h) here)
  ]
    where
      longer : length k.digits ≡ length g.digits + 1
      longer = ap (λ (x : FrameValue). length x.digits) next
          ∙ at_depth-depth (tiling_of m) g (length g.digits + 1) (omega (arith, h.is_frame.holds_base))
