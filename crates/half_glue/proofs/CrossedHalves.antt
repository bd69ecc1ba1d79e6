-- The other half of a tile, found by a crossing.
use Rattle.std.proofs.Common.{◌≡◌, ℕ, ◌<◌, ◌≤◌, true, false, List, [], ◌∷◌, length, Result, Ok, Err, refl, sym, ◌∙◌, subst}
use Rattle.std.specs.Result.{IsErrAnd}
use Rattle.cyclo_points.specs.Order.{points_of, is_refused}
use Rattle.cyclo_points.specs.Point.{point_in}
use Rattle.cyclo_points.specs.Motion.{motion_in}
use Rattle.theory_frames.specs.Frame.{StandsInFrame, lifted_in}
use Rattle.theory_frames.proofs.Frames.{IsWhole}
use Rattle.rule_model.specs.declared.rule.Rule.{Rule}
use Rattle.rule_model.specs.Glue.{IsGlueEdge}
use Rattle.rule_model.specs.Tiling.{Tiling, tiling_of, children}
use Rattle.tile_place.specs.Glued.{GluingLaw}
use Rattle.tile_place.specs.declared.placed_tile.PlacedTile.{PlacedTile}
use Rattle.tile_shape.specs.Views.{address_of}
use Rattle.theory_walks.specs.Boundary.{IsBoundaryEdge}
use Rattle.theory_walks.specs.Frames.{FrameValue, whole, GrowsTo, lifted_at}
use Rattle.theory_walks.proofs.Outcomes.{if_err-is}
use Rattle.theory_walks.proofs.Standing.{stands-across}
use Rattle.theory_walks.proofs.Walked.{tile_of-whole}
use Rattle.lazy_walk.specs.declared.depth_limit.DepthLimit.{DepthLimit}
use Rattle.lazy_walk.specs.Crossed.{IsCrossedTo, IsLimitAt}
use Rattle.lazy_walk.specs.Standing.{Stands}
use Rattle.half_glue.specs.declared.glue_fault.GlueFault.{GlueFault}
use Rattle.half_glue.specs.declared.glue_fault.GlueFault.TheVariants as fault
use Rattle.half_glue.specs.declared.half.Found.{Found}
use Rattle.half_glue.specs.declared.half.Found.TheVariants.{Crossed}
use Rattle.half_glue.specs.Causes.{HasGlueCause}
use Rattle.half_glue.specs.Checked.{HasGlueLaws}
use Rattle.half_glue.specs.Depth.{IsTooShallow}
use Rattle.half_glue.specs.Ends.{FindsHalf}
use Rattle.half_glue.specs.Given.{IsGiven, IsToJoin}
use Rattle.half_glue.proofs.Halves.{given-whole, glue-edge-of}
use Rattle.half_glue.proofs.Settling.{the-one, alone-shallow, given-on, settled-inside, settled-joined, crossed-glued, not-refused, refused-shift}

module _ (m : Rule) (L : HasGlueLaws m) (W : GluingLaw (tiling_of m)) (f : FrameValue) (x : PlacedTile) (e : ℕ)
    (join : IsToJoin (tiling_of m) f x e) (g : FrameValue) (up : GrowsTo (tiling_of m) f g) where
  abbrev t : Tiling
  t = tiling_of m

  -- its edge is on the boundary below the new depth
  abbrev IsShallow : Type 0
  IsShallow = (n : ℕ) → length f.digits ≤ n → n < length g.digits → IsBoundaryEdge t (lifted_at t f (address_of x.addr) n) e

  shallow : IsShallow → (n : ℕ) → length f.digits ≤ n → n < length g.digits → IsTooShallow t f (x ∷ []) n
  shallow on n l h = alone-shallow t f x e n join.glue_edge.glue_edge (address_of x.addr) refl (on n l h)

  module _ (y : PlacedTile) (back : ℕ) (h : IsCrossedTo t f g (address_of x.addr) x.motion e y back) where
    own : IsGiven t g x
    own = given-on m L f join.frame x join.given g up

    pub stands : Stands t g y
    stands =
        let a = lifted_in (whole g) (address_of x.addr) in
        let b = address_of y.addr in
        let whole_a : IsWhole (children t) (whole g) a = given-whole m L g up.is_frame x own in
        let whole_b : IsWhole (children t) (whole g) b = tile_of-whole (children t) (whole g) b h.of_frame h.at_depth in
        let edge = glue-edge-of m L g up.is_frame x own e join.glue_edge.glue_edge in
        let beyond = (W a b e back whole_a.fits edge h.only_tile_across).2 h.glue h.glues in
        record {
          its_kind = h.its_kind;
          of_frame = h.of_frame;
          at_depth = h.at_depth;
          in_frame = subst (StandsInFrame (points_of m.order) t.rule (whole g) b) (sym h.motion_is)
              (stands-across t L.points (whole g) a b (motion_in m.order x.motion) h.glue whole_a whole_b own.in_frame beyond);
          turn_below = h.turn_below;
          in_order = h.in_order;
        }

    pub found-crossed : is_refused m.order (point_in m.order y.motion.shift) ≡ false → (tiles : List PlacedTile)
        → FindsHalf t f g tiles x (Ok (Crossed y))
    found-crossed fine tiles =
        let c = crossed-glued m L f join.frame x join.given g up e join.glue_edge.glue_edge y stands back h.only_tile_across fine in
        record {
          ends = record { frame = up; least = shallow h.least; answered = λ can. refl; cause = tt };
          joined = record {
            found = c;
            inside = settled-inside m L f join.frame x join.given g up y c.0 c.1;
            can_be_joined = settled-joined m L f join.frame x join.given g up y c.0 c.1;
          };
        }

    pub found-refused : is_refused m.order (point_in m.order y.motion.shift) ≡ true → (tiles : List PlacedTile)
        → FindsHalf t f g tiles x (Err (fault.CoordLimit y.motion.shift))
    found-refused beyond tiles = record {
      ends = record {
        frame = up;
        least = shallow h.least;
        answered = λ can. absurd (cc (sym (not-refused m L f join.frame x join.given g up e join.glue_edge.glue_edge y stands back
            h.only_tile_across can) ∙ beyond));
        cause = refused-shift m L f join.frame x join.given g up e join.glue_edge.glue_edge y stands back h.only_tile_across beyond;
      };
      joined = tt;
    }

  -- the edge is on the boundary at depth 64
  module _ (least : IsShallow) (limit : DepthLimit) (at : IsLimitAt t f g (address_of x.addr) e limit)
      (on : IsBoundaryEdge t (lifted_at t f (address_of x.addr) 64) e) where
    limited : HasGlueCause t f g (x ∷ []) (fault.DepthLimit limit.addr limit.edge)
    limited = record {
      tile = x;
      is_given = the-one x;
      its_address = at.tile;
      glue_edge = subst (λ d. IsGlueEdge t.rule x.kind d) (sym at.edge) join.glue_edge.glue_edge;
      on_boundary = subst (λ d. IsBoundaryEdge t (lifted_at t f (address_of x.addr) 64) d) (sym at.edge) on;
    }

    pub found-limited : (r : Result Found GlueFault) → IsErrAnd r (λ d. d ≡ fault.DepthLimit limit.addr limit.edge)
        → (tiles : List PlacedTile) → FindsHalf t f g tiles x r
    found-limited (Ok y) is tiles = absurd is
    found-limited (Err d) is tiles = record {
      ends = record {
        frame = up;
        least = shallow least;
        answered = λ can. absurd (can.inside e join.glue_edge.glue_edge on);
        cause = if_err-is {T = Found} (HasGlueCause t f g (x ∷ [])) (Err d) (fault.DepthLimit limit.addr limit.edge) is limited;
      };
      joined = tt;
    }
