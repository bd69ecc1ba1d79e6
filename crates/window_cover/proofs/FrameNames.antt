-- Crossings of edges of a frame's tiles, by the names that the tiles have at depth 64.
use Rattle.std.proofs.Common.{◌≡◌, ℕ, ◌<◌, ◌≤◌, ◌++◌, [], length, drop, sym, ap, ◌∙◌, subst, arith, append-nil}
use Rattle.std.proofs.Math.Seq.{drop-length}
use Rattle.theory_addresses.specs.Address.{Address, depth, top_kind}
use Rattle.cyclo_points.specs.Order.{NumberOf, points_of}
use Rattle.theory_dissection.specs.Accepted.{AcceptedRule}
use Rattle.theory_dissection.specs.Across.{IsTileAcross}
use Rattle.theory_dissection.specs.OnBoundary.{IsOnBoundary}
use Rattle.theory_dissection.specs.TileEdges.{tile_at}
use Rattle.theory_frames.specs.Back.{back}
use Rattle.theory_frames.specs.Frame.{at_level, IsTileOf, lifted_in}
use Rattle.theory_frames.specs.Outline.{supertile_holds}
use Rattle.theory_walks.specs.Ancestors.{full}
use Rattle.theory_walks.specs.Boundary.{IsBoundaryEdge}
use Rattle.theory_walks.specs.Containing.{frame_motion}
use Rattle.theory_walks.specs.Frames.{FrameValue, whole, at_depth, IsFrameOf, GrowsTo, lifted_at}
use Rattle.theory_walks.proofs.Ancestors.{level-at}
use Rattle.theory_walks.proofs.Crossings.{boundary-part}
use Rattle.theory_walks.proofs.InFull.{names, deep, level-grown, by_level}
use Rattle.theory_walks.proofs.Walks.{StillFits, GrowsTo-self, later}
use Rattle.rule_model.specs.declared.rule.Rule.{Rule}
use Rattle.rule_model.specs.Tiling.{Tiling, tiling_of, children}
use Rattle.theory_substitution.specs.Placement.{placement}
use Rattle.theory_substitution.specs.Points.{Points}
use Rattle.theory_substitution.specs.RuleParts.{edge_count}
use Rattle.tile_place.specs.Crossed.{IsOnlyAcross}
use Rattle.tile_place.proofs.Plane.{IsSettled, its_rule}
use Rattle.theory_windows.specs.FramePatch.{frame_holds}
use Rattle.theory_windows.specs.FrameSearch.{IsGrownCrossing}

-- digits that reach to the frame's end have none behind
pub lifted-self : (f a : Address) → depth a ≡ depth f → lifted_in f a ≡ a
lifted-self f a e = λ i. record { kind = a.kind; digits = same i }
  where
    none : drop (depth a) f.digits ≡ []
    none = ap (λ n. drop n f.digits) e ∙ drop-length f.digits

    same : a.digits ++ drop (depth a) f.digits ≡ a.digits
    same = ap (λ ds. a.digits ++ ds) none ∙ append-nil a.digits

-- a level of the frame at depth 64 holds a point exactly where the frame of that depth does
pub level-holds : (t : Tiling) (f : FrameValue) (n : ℕ) (g : FrameValue) (p : NumberOf t.order)
    → at_level (full t f) n ≡ whole g → length g.digits ≡ n
    → frame_holds (points_of t.order) t.rule (full t f) n p ≡ supertile_holds (points_of t.order) t.rule
    (top_kind (whole g)) (length g.digits) (frame_motion t g) p
level-holds t f n g p e d =
    ap (λ (a : Address). supertile_holds (points_of t.order) t.rule (top_kind a) n
    (back (points_of t.order) (placement (points_of t.order) t.rule a.digits)) p) e
    ∙ ap (λ k. supertile_holds (points_of t.order) t.rule (top_kind (whole g)) k (frame_motion t g) p) (sym d)

module _ (m : Rule) (settled : IsSettled m) (fits : StillFits (children (tiling_of m))) (f : FrameValue)
    (is : IsFrameOf (tiling_of m) f) (g : FrameValue) (h : GrowsTo (tiling_of m) f g) where
  abbrev t : Tiling
  t = tiling_of m

  abbrev P : Points
  P = points_of m.order

  abbrev T : AcceptedRule P
  T = its_rule m settled

  abbrev F : Address
  F = full t f

  pub grown : (a b : Address) (e back : ℕ) → IsTileOf (children t) (whole f) a → e < edge_count T.rule a.kind
      → IsOnlyAcross t (lifted_in (whole g) a) e b back
      → ((n : ℕ) → length f.digits ≤ n → n < length g.digits → IsBoundaryEdge t (lifted_at t f a n) e)
      → IsGrownCrossing P T F (length f.digits) (length g.digits) a e b back
  grown a b e back of edge x least = record {
    frame = names m settled fits f is;
    not_below = h.no_shallower;
    within = omega (arith, h.is_frame.at_most_64, deep m settled fits f is);
    tile = by_level m settled fits f is f (GrowsTo-self t f is) a of;
    edge_exists = edge;
    across = subst (λ y. IsTileAcross P T.rule (tile_at P T.rule (lifted_in y a)) e (tile_at P T.rule b) back)
        (sym (level-grown m settled fits f is g h)) x.across;
    least = λ k l j.
        let on = boundary-part m fits f a is of settled e edge (at_depth t k f)
        (later t f k is l (omega (arith, j, h.is_frame.at_most_64))) (least k l j) in (
          on.0,
          on.1,
          subst (λ y. IsOnBoundary P T.rule (tile_at P T.rule (lifted_in y a)) e on.0 on.1)
              (sym (level-at t f is k l (omega (arith, j, h.is_frame.at_most_64)))) on.2,
        );
  }
